-- An assignment that suits its block and its target, and one that doesn't.
use Rattle.std.proofs.Common.{◌≡◌, ℕ, Bool, true, false, Err, ◌∙◌, refl, sym, ap, subst}
use Rattle.std.proofs.lemmas.Bool.{cond-true, cond-false}
use Rattle.pm_design.specs.declared.body.Ex.{Ex}
use Rattle.pm_syn.specs.declared.statement.AssignOp.{AssignOp}
use Rattle.pm_typing.specs.declared.fault.TypeFault.TheVariants.{NotAllowedHere, NoMemory}
use Rattle.pm_typing.specs.declared.frame.Frame.{Frame}
use Rattle.pm_typing.specs.declared.tally.Tally.{Tally}
use Rattle.pm_typing.specs.Counted.{Checked, Moves, fail}
use Rattle.pm_typing.specs.Sites.{Scope}
use Rattle.pm_types.specs.declared.targets.Target.{Target}
use Rattle.pm_types.specs.Assignments.{set_fitted}
use Rattle.pm_types.specs.Effects.{put}
use Rattle.pm_types.specs.Targets.{suits, set_statement}

pub set_refused : (line : ℕ) (o : AssignOp) (s : Scope) (t : Target) (e : Ex) (f : Frame) (m : Tally) (b : Bool)
    → b ≡ suits o s.sort t → b ≡ false → set_fitted line o s t e f m ≡ Err (NotAllowedHere line)
unfolding set_fitted
set_refused line o s t e f m b is off = ap (λ p. p m) (cond-false (suits o s.sort t) (put (set_statement t e) f) (fail (NotAllowedHere line)) (sym is ∙ off))

pub set_taken : (line : ℕ) (o : AssignOp) (s : Scope) (t : Target) (e : Ex) (f : Frame) (m : Tally) (b : Bool)
    → b ≡ suits o s.sort t → b ≡ true → set_fitted line o s t e f m ≡ put (set_statement t e) f m
unfolding set_fitted
set_taken line o s t e f m b is on = ap (λ p. p m) (cond-true (suits o s.sort t) (put (set_statement t e) f) (fail (NotAllowedHere line)) (sym is ∙ on))

pub out_of_memory : {F : Type 0} (outcome : Checked (F × Tally)) (r : Checked (Unit {0})) (f : F) (m : Tally) → r ≡ Err NoMemory → Moves outcome r f m
out_of_memory outcome r f m is = subst (λ r. Moves outcome r f m) (sym is) (λ known. absurd (known refl))
