-- Statements and lines.
use Rattle.std.proofs.Common.{◌≡◌, ◌∙◌, ◌==◌, ◌&&◌, ◌++◌, ℕ, ℤ, Bool, true, false, List, [], ◌∷◌, refl, sym, subst, map, eqb-true}
use Rattle.std.specs.Prelude.{IsTrue, if◌then◌else◌, Option, Some, None, Ok, Err}
use Rattle.std.specs.List.{list_all}
use Rattle.std.proofs.lemmas.Bool.{and_parts}
use Rattle.pm_design.specs.declared.body.Ex.{Ex}
use Rattle.pm_design.specs.declared.body.St.{St}
use Rattle.pm_design.specs.declared.body.St.TheVariants as st
use Rattle.pm_design.specs.Settings.{Progress, behind_either, behind_reading, reads_assigned}
use Rattle.pm_design.specs.Typing.{Sight, is_sound, typing}
use Rattle.pm_design.proofs.Soundness.{sound_if}
use Rattle.pm_design.proofs.Progressing.{progress_if}
use Rattle.pm_syn.specs.declared.expression.Arg.{Arg}
use Rattle.pm_syn.specs.declared.expression.Expr.{Expr, Expr-F, out-Expr}
use Rattle.pm_syn.specs.declared.statement.AssignOp.{AssignOp}
use Rattle.pm_syn.specs.declared.statement.AssignOp.TheVariants as assign
use Rattle.pm_syn.specs.declared.statement.Node.{Node, Node-F, fold-roll-Node, roll-Node}
use Rattle.pm_syn.specs.declared.statement.Node.TheFolds.{ind-Node, map-Node}
use Rattle.pm_syn.specs.declared.statement.Stmt.{Stmt, Stmt-F, out-Stmt}
use Rattle.pm_values.specs.Integers.{equal, is_zero}
use Rattle.pm_values.specs.Tables.{get}
use Rattle.pm_elab.specs.Values.{bits_of}
use Rattle.pm_typing.specs.declared.fault.TypeFault.TheVariants.{MaybeUnbound, NotAllowedHere}
use Rattle.pm_typing.specs.declared.frame.Bound.{Bound}
use Rattle.pm_typing.specs.declared.frame.Bound.TheVariants as bound
use Rattle.pm_typing.specs.declared.frame.Frame.{Frame}
use Rattle.pm_typing.specs.declared.operand.Operand.{Operand}
use Rattle.pm_typing.specs.declared.operand.Operand.TheVariants as operands
use Rattle.pm_typing.specs.declared.tally.Tally.{Tally}
use Rattle.pm_typing.specs.Counted.{Checked, Counted, ◌>>◌, pure, node, nodes}
use Rattle.pm_typing.specs.Expressions.{Meaning, meaning, operand}
use Rattle.pm_typing.specs.Operands.{condition, same_type}
use Rattle.pm_typing.specs.Sites.{Scope}
use Rattle.pm_typing.specs.Things.{Right}
use Rattle.pm_types.specs.Assignments.{Move, alone, alone_right, assigned, here, place_set, plain_at, plain_set, with_bound}
use Rattle.pm_types.specs.Statements.{Line, apart, block, branch, branched, does, does_at, forked, instead, instead_at, instead_of, line, line_of, lines, meet, meet_from, met, range, rejoined, rejoined_frame, repeat, repeat_at, repeat_if, simple, simple_at, turn, turns, within}
use Rattle.pm_type_laws.specs.Views.{Each, IsBound}
use Rattle.pm_type_laws.proofs.Things.{IsOperand}
use Rattle.pm_type_laws.proofs.Yields.{On, Yields, bind, done, failed, some_nodes, test}
use Rattle.pm_type_laws.proofs.Values.{both}
use Rattle.pm_type_laws.proofs.Valued.{Fits, condition_fits, typed_parts}
use Rattle.pm_type_laws.proofs.Expressions.{IsRight, expression_is, operand_is}
use Rattle.pm_body_laws.specs.Premises.{Allows}
use Rattle.pm_body_laws.proofs.Frames.{AreBound, Begins, IsFrame, IsMove, Leads, Ready, behind, behind_more, begins_itself, begins_on, bound_put, later, leads_on, site_is, stays, then_move, view_at, weaken}
use Rattle.pm_body_laws.proofs.Assigning.{IsGood, alone_right_is, right_at, set_is, set_number_is, temporary_is}

-- nothing is known of a result
anything : {A : Type 0} (c : Counted A) → Yields (λ (a : A). Unit {0}) c
anything {A} c m = by (c m)
  where
    by : (r : Checked (A × Tally)) → On (λ (r : A × Tally). Unit {0}) r
    by (Ok r) = tt
    by (Err e) = tt

pub good_meaning : (s : Sight) (e : Expr) → IsGood s (meaning e)
good_meaning s e assigned = expression_is (record { sight = s; assigned = assigned }) e

module _ (s : Sight) (scope : Scope) (allows : Allows s scope) where
  -- ---- assignments

  assigned_plain : (line : ℕ) (to : Expr-F Expr Arg) (target e : Meaning) → IsGood s target → IsGood s e
      → IsMove s scope (λ f. plain_at scope line to target e f)
  assigned_plain line (Expr-F.Name name) target e good is f = by (get scope.own name)
    where
      by : (k : Option ℕ) → Yields (Leads s scope f) (place_set scope line k e f)
      by (Some k) = temporary_is s scope allows line k e f is
      by None = failed (Leads s scope f) (MaybeUnbound line)
  assigned_plain line _ target e good is f = set_number_is s scope allows line target e f good is

  assigned_is : (line : ℕ) (o : AssignOp) (to e : Expr) → IsMove s scope (λ f. assigned scope line o to e f)
  unfolding assigned plain_set
  assigned_is line assign.Plain to e f = assigned_plain line (out-Expr to) (meaning to) (meaning e) (good_meaning s to) (good_meaning s e) f
  assigned_is line assign.Now to e f = set_is s scope allows line assign.Now (meaning to) (meaning e) f (good_meaning s to) (good_meaning s e)
  assigned_is line assign.Next to e f = set_is s scope allows line assign.Next (meaning to) (meaning e) f (good_meaning s to) (good_meaning s e)
  assigned_is line assign.Join to e f = failed (Leads s scope f) (NotAllowedHere line)

  alone_is : (line : ℕ) (e : Expr) → IsMove s scope (λ f. alone scope line e f)
  unfolding alone
  alone_is line e f =
      bind (λ (r : Right). (i : Ready s scope f) → IsRight (view_at s scope f i) (here scope line f) r) (Leads s scope f) ((meaning e).right (here scope line f))
      (λ r. alone_right scope line r f) (right_at s scope allows line f (meaning e) (good_meaning s e)) (λ r is. alone_right_is s scope allows line r f is)

  simple_is : (line : ℕ) (st : Stmt) → IsMove s scope (λ f. simple scope line st f)
  unfolding simple
  simple_is line st f = by (out-Stmt st)
    where
      by : (x : Stmt-F Stmt) → Yields (Leads s scope f) (simple_at scope line x f)
      by Stmt-F.Pass = stays s scope f
      by Stmt-F.Doc = stays s scope f
      by (Stmt-F.Assign o to e) = assigned_is line o to e f
      by (Stmt-F.Do e) = alone_is line e f
      by _ = failed (Leads s scope f) (NotAllowedHere line)

  within_is : (line : ℕ) (after : Option Stmt) (below : Move) → IsMove s scope below → IsMove s scope (λ f. within scope line after below f)
  unfolding within
  within_is line (Some st) below is f = simple_is line st f
  within_is line None below is f = is f

  -- ---- `if`

  abbrev at : Progress → Bound → Type 0
  at p = IsBound (record { sight = s; assigned = p.assigned }) scope

  met_is : (p q : Progress) (a b : Bound) → at p a → at q b → at (behind_either p q) (met a b)
  met_is p q (bound.Int m) (bound.Int n) first second = by (equal m n)
    where
      by : (c : Bool) → at (behind_either p q) (if c then bound.Int m else bound.Unassigned)
      by true = tt
      by false = tt
  met_is p q (bound.Temp t ty) (bound.Temp u other) first second = by (t == u && same_type ty other) refl
    where
      by : (c : Bool) → (t == u && same_type ty other) ≡ c → at (behind_either p q) (if c then bound.Temp t ty else bound.Unassigned)
      by true is =
          let same : t ≡ u = eqb-true t u (and_parts (t == u) (same_type ty other) is).0 in
          let one = and_parts (p.assigned t) _ first in
          let two = and_parts (q.assigned u) _ second in
          both (p.assigned t && q.assigned t) _ (both (p.assigned t) _ one.0 (subst (λ (n : ℕ). IsTrue (q.assigned n)) (sym same) two.0)) one.1
      by false is = tt
  met_is p q (bound.Int m) (bound.Temp u other) first second = tt
  met_is p q (bound.Int m) bound.Unassigned first second = tt
  met_is p q (bound.Temp t ty) (bound.Int n) first second = tt
  met_is p q (bound.Temp t ty) bound.Unassigned first second = tt
  met_is p q bound.Unassigned (bound.Int n) first second = tt
  met_is p q bound.Unassigned (bound.Temp u other) first second = tt
  met_is p q bound.Unassigned bound.Unassigned first second = tt

  bound_behind : (p : Progress) (bs : List Bound) (b : Bound) → AreBound s scope p bs → at p b → AreBound s scope p (bs ++ b ∷ [])
  bound_behind p [] b are is = (is, tt)
  bound_behind p (x ∷ bs) b are is = (are.0, bound_behind p bs b are.1 is)

  meet_are : (p q : Progress) (known xs ys : List Bound) → AreBound s scope (behind_either p q) known → AreBound s scope p xs → AreBound s scope q ys
      → AreBound s scope (behind_either p q) (meet_from known xs ys)
  unfolding meet_from
  meet_are p q known [] ys are first second = are
  meet_are p q known (x ∷ xs) [] are first second = are
  meet_are p q known (x ∷ xs) (y ∷ ys) are first second =
      meet_are p q (known ++ met x y ∷ []) xs ys (bound_behind (behind_either p q) known (met x y) are (met_is p q x y first.0 second.0)) first.1 second.1

  all_true : (xs : List St) → IsTrue (list_all (is_sound s) xs) → IsTrue (list_all (λ b. b) (map (is_sound s) xs))
  all_true [] all = refl
  all_true (x ∷ xs) all =
      let parts = and_parts (is_sound s x) (list_all (is_sound s) xs) all in
      both (is_sound s x) _ parts.0 (all_true xs parts.1)

  all_behind : (body : List St) (st : St) → IsTrue (list_all (is_sound s) body) → IsTrue (is_sound s st) → IsTrue (list_all (is_sound s) (body ++ st ∷ []))
  all_behind [] st all is = both (is_sound s st) true is refl
  all_behind (x ∷ body) st all is =
      let parts = and_parts (is_sound s x) (list_all (is_sound s) body) all in
      both (is_sound s x) _ parts.0 (all_behind body st parts.1 is)

  -- a branch from a frame: what it led to, and the statements that it made by themselves
  abbrev bare : Frame → Frame
  bare f = record f { out = [] }

  -- both branches, and the frame behind them
  fork_leads : (f : Frame) (c : Ex) (g h : Frame) → ((i : Ready s scope f) → Fits (view_at s scope f i) scope (bits_of 1) c)
      → Leads s scope (bare f) g → Leads s scope (bare (record g { bounds = f.bounds })) h
      → Leads s scope f (rejoined_frame c g.out g.bounds h.out (record h { out = f.out }))
  fork_leads f c g h tested this other = record {
    temps = begins_on f.temps g.temps h.temps this.temps other.temps;
    frame = λ p begins frame.
        let within_g : Begins g.temps s.temps = begins_on g.temps h.temps s.temps other.temps begins in
        let i : Ready s scope f = record { progress = p; temps = begins_on f.temps g.temps s.temps this.temps within_g; frame = frame } in
        let q : Progress = behind_reading c (behind p f.out) in
        let says = typed_parts (view_at s scope f i) scope c (bits_of 1) (tested i) in
        let begun : IsFrame s scope q (bare f) = record {
          bounds = frame.bounds;
          stored = frame.stored;
          sound = refl;
          fine = both (behind p f.out).fine (reads_assigned (behind p f.out).assigned c) frame.fine says.reads;
          wide = frame.wide;
        } in
        let one = this.frame q within_g begun in
        let again : IsFrame s scope q (bare (record g { bounds = f.bounds })) = record {
          bounds = frame.bounds;
          stored = one.stored;
          sound = refl;
          fine = begun.fine;
          wide = one.wide;
        } in
        let two = other.frame q begins again in
        let st : St = st.If c g.out h.out in
        let same : behind p (f.out ++ st ∷ []) ≡ behind_either (behind q g.out) (behind q h.out) =
        behind_more p f.out st ∙ progress_if c g.out h.out (behind p f.out) in
        record {
          bounds = subst (λ (r : Progress). AreBound s scope r (meet g.bounds h.bounds)) (sym same)
              (meet_are (behind q g.out) (behind q h.out) [] g.bounds h.bounds tt one.bounds two.bounds);
          stored = two.stored;
          sound = all_behind f.out st frame.sound
              (rw (sound_if s c g.out h.out) (both (typing s c).fine _ says.fine
              (both (list_all (λ b. b) (map (is_sound s) g.out)) _ (all_true g.out one.sound) (all_true h.out two.sound))));
          fine = subst (λ (r : Progress). IsTrue r.fine) (sym same) (both (behind q g.out).fine _ one.fine two.fine);
          wide = two.wide;
        };
  }

  -- a frame and the statements of a branch
  record Branched (f : Frame) (x : Frame × List St) : Type 0 where
    last : Frame
    leads : Leads s scope (bare f) last
    frame : x.0 ≡ record last { out = f.out }
    made : x.1 ≡ last.out

  apart_is : (move : Move) → IsMove s scope move → (f : Frame) → Yields (Branched f) (apart move f)
  unfolding apart
  apart_is move is f =
      bind (Leads s scope (bare f)) (Branched f) (move (bare f)) (λ g. pure (record g { out = f.out }, g.out)) (is (bare f))
      (λ g leads. done (Branched f) (record g { out = f.out }, g.out) (record { last = g; leads = leads; frame = refl; made = refl }))

  rejoined_is : (f : Frame) (c : Ex) (g : Frame) (other : Move) → ((i : Ready s scope f) → Fits (view_at s scope f i) scope (bits_of 1) c)
      → Leads s scope (bare f) g → IsMove s scope other
      → Yields (Leads s scope f) (rejoined c g.out g.bounds other (record g { out = f.out; bounds = f.bounds }))
  unfolding rejoined
  rejoined_is f c g other tested this is =
      bind (Branched (record g { out = f.out; bounds = f.bounds })) (Leads s scope f) (apart other (record g { out = f.out; bounds = f.bounds }))
      (λ y. pure (rejoined_frame c g.out g.bounds y.1 y.0)) (apart_is other is (record g { out = f.out; bounds = f.bounds }))
      (λ y branched. done (Leads s scope f) (rejoined_frame c g.out g.bounds y.1 y.0)
      (subst (λ (h : Frame). Leads s scope f (rejoined_frame c g.out g.bounds y.1 h)) (sym branched.frame)
      (subst (λ (ys : List St). Leads s scope f (rejoined_frame c g.out g.bounds ys (record branched.last { out = f.out }))) (sym branched.made)
      (fork_leads f c g branched.last tested this branched.leads))))

  forked_is : (f : Frame) (c : Ex) (this other : Move) → ((i : Ready s scope f) → Fits (view_at s scope f i) scope (bits_of 1) c)
      → IsMove s scope this → IsMove s scope other → Yields (Leads s scope f) (forked c this other f)
  unfolding forked
  forked_is f c this other tested first second =
      bind (Branched f) (Leads s scope f) (apart this f) (λ x. rejoined c x.1 x.0.bounds other (record x.0 { bounds = f.bounds })) (apart_is this first f)
      (λ x branched.
      subst (λ (h : Frame). Yields (Leads s scope f) (rejoined c x.1 h.bounds other (record h { bounds = f.bounds }))) (sym branched.frame)
      (subst (λ (xs : List St). Yields (Leads s scope f) (rejoined c xs branched.last.bounds other (record branched.last { out = f.out; bounds = f.bounds }))) (sym branched.made)
      (rejoined_is f c branched.last other tested branched.leads second)))

  branched_is : (line : ℕ) (x : Operand) (this other : Move) (f : Frame) → ((i : Ready s scope f) → IsOperand (view_at s scope f i) scope x)
      → IsMove s scope this → IsMove s scope other → Yields (Leads s scope f) (branched line x this other f)
  unfolding branched node
  branched_is line (operands.Int n) this other f is first second =
      test (Leads s scope f) (is_zero n) (other f) (this f) (λ _. second f) (first f)
  branched_is line (operands.Bits e ty) this other f is first second =
      bind (λ (c : Ex). (i : Ready s scope f) → Fits (view_at s scope f i) scope (bits_of 1) c) (Leads s scope f) (condition line e ty)
      (λ c. nodes 1 >> forked c this other f)
      (later (λ (i : Ready s scope f). Fits (view_at s scope f i) scope (bits_of 1)) (condition line e ty)
      (λ i. condition_fits (view_at s scope f i) scope line e ty (is i)))
      (λ c tested. some_nodes (Leads s scope f) 1 (forked c this other f) (forked_is f c this other tested first second))

  branch_is : (line : ℕ) (c : Meaning) (this other : Move) → IsGood s c → IsMove s scope this → IsMove s scope other
      → IsMove s scope (λ f. branch scope line c this other f)
  unfolding branch
  branch_is line c this other good first second f =
      bind (λ (x : Operand). (i : Ready s scope f) → IsOperand (view_at s scope f i) scope x) (Leads s scope f) (operand c (here scope line f))
      (λ x. branched line x this other f)
      (later (λ (i : Ready s scope f). IsOperand (view_at s scope f i) scope) (operand c (here scope line f))
      (λ i. operand_is (view_at s scope f i) c (good (behind i.progress f.out).assigned) (here scope line f) (site_is s scope allows line f i)))
      (λ x is. branched_is line x this other f is first second)

  -- ---- `for`

  bound_leads : (k : ℕ) (n : ℤ) (f : Frame) → Leads s scope f (with_bound k (bound.Int n) f)
  unfolding with_bound
  bound_leads k n f = record {
    temps = begins_itself f.temps;
    frame = λ p begins is. record {
      bounds = bound_put s scope (behind p f.out) f.bounds k (bound.Int n) is.bounds tt;
      stored = is.stored;
      sound = is.sound;
      fine = is.fine;
      wide = is.wide;
    };
  }

  turn_is : (k : ℕ) (body : Move) (n : ℤ) → IsMove s scope body → IsMove s scope (λ f. turn k body n f)
  unfolding turn node
  turn_is k body n is f =
      some_nodes (Leads s scope f) 1 (body (with_bound k (bound.Int n) f))
      (weaken (Leads s scope (with_bound k (bound.Int n) f)) (Leads s scope f) (body (with_bound k (bound.Int n) f))
      (λ g leads. leads_on s scope f (with_bound k (bound.Int n) f) g (bound_leads k n f) leads) (is (with_bound k (bound.Int n) f)))

  turns_are : (k : ℕ) (body : Move) (ns : List ℤ) → IsMove s scope body → IsMove s scope (λ f. turns k body ns f)
  unfolding turns
  turns_are k body [] is f = stays s scope f
  turns_are k body (n ∷ ns) is f = then_move s scope f (turn k body n f) (λ g. turns k body ns g) (turn_is k body n is f) (turns_are k body ns is)

  repeat_is : (line : ℕ) (name : List ℕ) (es : List Meaning) (body : Move) → IsMove s scope body → IsMove s scope (λ f. repeat scope line name es body f)
  unfolding repeat repeat_at
  repeat_is line name es body is f = by (get scope.own name)
    where
      by : (k : Option ℕ) → Yields (Leads s scope f) (repeat_if scope line k es body f)
      by (Some k) =
          bind (λ (ns : List ℤ). Unit {0}) (Leads s scope f) (range scope line es f) (λ ns. turns k body ns f) (anything (range scope line es f))
          (λ ns _. turns_are k body ns is f)
      by None = failed (Leads s scope f) (MaybeUnbound line)

  -- ---- lines

  -- a line that leads on, whatever leads on behind it
  record IsLine (l : Line) : Type 0 where
    does : (other : Move) → IsMove s scope other → IsMove s scope (l.does other)
    instead : (other : Move) → IsMove s scope other → IsMove s scope (l.instead other)

  instead_of_is : (ls : List Line) → Each IsLine ls → IsMove s scope (λ f. instead_of ls f)
  unfolding instead_of
  instead_of_is [] each f = stays s scope f
  instead_of_is (l ∷ ls) each f = each.0.instead (λ g. instead_of ls g) (instead_of_is ls each.1) f

  block_is : (ls : List Line) → Each IsLine ls → IsMove s scope (λ f. block ls f)
  unfolding block
  block_is [] each f = stays s scope f
  block_is (l ∷ ls) each f =
      then_move s scope f (l.does (instead_of ls) f) (λ g. block ls g) (each.0.does (instead_of ls) (instead_of_is ls each.1) f) (block_is ls each.1)

  does_is : (line : ℕ) (st : Stmt) (below : Move) → IsMove s scope below → (other : Move) → IsMove s scope other → IsMove s scope (does scope line st below other)
  unfolding does
  does_is line st below under other is f = by (out-Stmt st)
    where
      by : (x : Stmt-F Stmt) → Yields (Leads s scope f) (does_at scope line x st below other f)
      by (Stmt-F.If c after) = branch_is line (meaning c) (within scope line after below) other (good_meaning s c) (within_is line after below under) is f
      by (Stmt-F.Elif c after) = stays s scope f
      by (Stmt-F.Else after) = stays s scope f
      by (Stmt-F.For name es after) = repeat_is line name (map meaning es) (within scope line after below) (within_is line after below under) f
      by _ = simple_is line st f

  instead_is : (line : ℕ) (st : Stmt) (below : Move) → IsMove s scope below → (other : Move) → IsMove s scope other → IsMove s scope (instead scope line st below other)
  unfolding instead
  instead_is line st below under other is f = by (out-Stmt st)
    where
      by : (x : Stmt-F Stmt) → Yields (Leads s scope f) (instead_at scope line x below other f)
      by (Stmt-F.Elif c after) = branch_is line (meaning c) (within scope line after below) other (good_meaning s c) (within_is line after below under) is f
      by (Stmt-F.Else after) = within_is line after below under f
      by _ = stays s scope f

  IsKept : Node → Type 0
  IsKept n = IsLine (line scope n)

  are_lines : (ns : List ((n : Node) × IsKept n)) → Each IsLine (map (line scope) (map (λ n. n.0) ns))
  unfolding IsKept
  are_lines [] = tt
  are_lines (n ∷ ns) = (n.1, are_lines ns)

  line_layer : (y : Node-F ((n : Node) × IsKept n)) → IsLine (line_of scope (map-Node Node Line (line scope) (map-Node ((n : Node) × IsKept n) Node (λ n. n.0) y)))
  line_layer y = record {
    does = does_is y.line y.stmt (block (map (line scope) (map (λ n. n.0) y.body))) (block_is (map (line scope) (map (λ n. n.0) y.body)) (are_lines y.body));
    instead = instead_is y.line y.stmt (block (map (line scope) (map (λ n. n.0) y.body))) (block_is (map (line scope) (map (λ n. n.0) y.body)) (are_lines y.body));
  }

  line_whole : (x : Node-F Node) (y : Node-F ((n : Node) × IsKept n)) → map-Node ((n : Node) × IsKept n) Node (λ n. n.0) y ≡ x → IsKept (roll-Node x)
  unfolding IsKept line
  line_whole x y is =
      let step : Node-F Node → Type 0 = λ z. IsLine (line_of scope (map-Node Node Line (line scope) z)) in
      subst IsLine (sym (fold-roll-Node Line (line_of scope) x)) (subst step is (line_layer y))

  line_is : (n : Node) → IsLine (line scope n)
  unfolding IsKept
  line_is n = ind-Node IsKept line_whole n

  each_line : (ns : List Node) → Each IsLine (map (line scope) ns)
  each_line [] = tt
  each_line (n ∷ ns) = (line_is n, each_line ns)

  -- lines lead on
  pub lines_are : (ns : List Node) → IsMove s scope (λ f. lines scope ns f)
  lines_are ns f = block_is (map (line scope) ns) (each_line ns) f
