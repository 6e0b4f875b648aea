-- The bodies of blocks.
use Rattle.std.proofs.Common.{◌≡◌, ◌∙◌, ℕ, zero, suc, true, false, List, [], ◌∷◌, refl, sym, length, replicate}
use Rattle.std.specs.Prelude.{IsTrue, nat_lt, None}
use Rattle.std.specs.List.{list_all}
use Rattle.std.proofs.lemmas.Bool.{eq-eqb, false≢true}
use Rattle.pm_design.specs.declared.body.Ex.{Ex}
use Rattle.pm_design.specs.declared.body.St.TheVariants as st
use Rattle.pm_design.specs.Settings.{Progress, progress_of}
use Rattle.pm_design.specs.Typing.{Sight, is_sound, typing}
use Rattle.pm_design.specs.Widths.{is_width}
use Rattle.pm_design.proofs.Soundness.{sound_set}
use Rattle.pm_design.proofs.Progressing.{progress_set}
use Rattle.pm_syn.specs.declared.expression.Expr.{Expr}
use Rattle.pm_syn.specs.declared.statement.Node.{Node}
use Rattle.pm_values.specs.declared.reference.Reference.{Reference}
use Rattle.pm_typing.specs.declared.fault.TypeFault.TheVariants.{NotAllowedHere}
use Rattle.pm_typing.specs.declared.frame.Bound.TheVariants as bound
use Rattle.pm_typing.specs.declared.frame.Stored.{Stored}
use Rattle.pm_typing.specs.Counted.{◌>>◌, pure, node}
use Rattle.pm_typing.specs.Expressions.{meaning, operand}
use Rattle.pm_typing.specs.Operands.{fitted}
use Rattle.pm_typing.specs.References.{type_of}
use Rattle.pm_typing.specs.Sites.{Scope}
use Rattle.pm_types.specs.declared.bodies.TypedBody.TheVariants as typed
use Rattle.pm_types.specs.Bodies.{block_body, first_frame, lambda_body, lambda_done, lambda_to, lone_site}
use Rattle.pm_types.specs.Statements.{lines}
use Rattle.pm_types.specs.Targets.{is_edge, may_write}
use Rattle.pm_type_laws.specs.Good.{is_reference}
use Rattle.pm_type_laws.specs.Views.{Each, View}
use Rattle.pm_type_laws.proofs.Things.{IsOperand}
use Rattle.pm_type_laws.proofs.Yields.{Where, Yields, a_node, bind, done, failed, test}
use Rattle.pm_type_laws.proofs.Values.{both}
use Rattle.pm_type_laws.proofs.Valued.{Fits, fitted_is, typed_parts}
use Rattle.pm_type_laws.proofs.Expressions.{expression_is, operand_is}
use Rattle.pm_body_laws.specs.Premises.{Allows, IsSoundBody}
use Rattle.pm_body_laws.proofs.Frames.{AreBound, Begins, IsFrame, Leads, append_nil, is_stored}
use Rattle.pm_body_laws.proofs.Stating.{lines_are}

module _ (s : Sight) (scope : Scope) (allows : Allows s scope) where
  none_bound : (p : Progress) (n : ℕ) → AreBound s scope p (replicate n bound.Unassigned)
  none_bound p zero = tt
  none_bound p (suc n) = (tt, none_bound p n)

  none_stored : (n : ℕ) → Each (Where (λ (t : Stored). IsTrue (is_stored s scope t))) (replicate n None)
  none_stored zero = tt
  none_stored (suc n) = (tt, none_stored n)

  -- nothing is assigned yet
  pub first_frame_is : (p : Progress) (n : ℕ) → IsTrue p.fine → IsFrame s scope p (first_frame n)
  unfolding first_frame
  first_frame_is p n fine = record { bounds = none_bound p n; stored = none_stored n; sound = refl; fine = fine; wide = refl }

  nothing : Progress
  nothing = record { fine = true; assigned = λ t. nat_lt t 0 }

  -- the lines of a block
  pub block_is : (b : ℕ) (ns : List Node) → Yields (IsSoundBody s) (block_body scope b ns)
  unfolding block_body nothing
  block_is b ns =
      bind (Leads s scope (first_frame (length scope.own))) (IsSoundBody s) (lines scope ns (first_frame (length scope.own)))
      (λ f. pure (typed.Block b f.out f.temps)) (lines_are s scope allows ns (first_frame (length scope.own)))
      (λ f leads. done (IsSoundBody s) (typed.Block b f.out f.temps)
      (λ same.
      let begins : Begins f.temps s.temps = ([], append_nil f.temps ∙ sym same) in
      let last = leads.frame nothing begins (first_frame_is nothing (length scope.own) refl) in
      (last.sound, last.fine, last.wide)))

  -- the body of a lambda
  pub lambda_is : (b line : ℕ) (to : Reference) (e : Expr) → IsTrue (is_reference scope to) → is_edge scope.sort ≡ false → Yields (IsSoundBody s) (lambda_body scope b line to e)
  unfolding lambda_body lambda_to nothing
  lambda_is b line to e is edge =
      bind (IsOperand v scope) (IsSoundBody s) (operand (meaning e) (lone_site scope line)) (λ x. lambda_to scope b line to x)
      (operand_is v (meaning e) (expression_is v e) (lone_site scope line) (allows.sees (λ t. nat_lt t 0), tt))
      (λ x good. test (IsSoundBody s) (may_write scope.sort to) _ _
      (λ may. bind (Fits v scope (type_of to)) (IsSoundBody s) (fitted line (type_of to) x) (λ e. node >> pure (lambda_done b to e))
      (fitted_is v scope line (type_of to) x good)
      (λ e typed. a_node (IsSoundBody s) (lambda_done b to e) (λ same. set_is e typed may)))
      (failed (IsSoundBody s) (NotAllowedHere line)))
    where
      v : View
      v = record { sight = s; assigned = λ t. nat_lt t 0 }

      set_is : (e : Ex) → Fits v scope (type_of to) e → IsTrue (may_write scope.sort to)
          → IsTrue (list_all (is_sound s) (st.Set to.part e ∷ [])) × IsTrue (progress_of 0 (st.Set to.part e ∷ [])).fine × IsTrue (list_all is_width [])
      set_is e typed may =
          let says = typed_parts v scope e (type_of to) typed in
          let writes : IsTrue (s.writes to.part) = allows.writes to is may (λ is_edge. absurd (false≢true (sym edge ∙ is_edge))) in
          let sound : IsTrue (is_sound s (st.Set to.part e)) =
          rw (sound_set s to.part e) (both (s.writes to.part) _ writes (both (typing s e).fine _ says.fine (eq-eqb _ _ says.wide))) in
          (both (is_sound s (st.Set to.part e)) true sound refl, rw (progress_set to.part e nothing) says.reads, refl)
