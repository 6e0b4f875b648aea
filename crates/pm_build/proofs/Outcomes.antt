-- What a function ensures, from an equation of its outcome.
use Rattle.std.proofs.Common.{◌≡◌, ◌≢◌, ◌∙◌, sym, subst, ap}
use Rattle.std.specs.Prelude.{Ok, Err, IsErrAnd}
use Rattle.pm_values.specs.declared.fault.BuildFault.{BuildFault}
use Rattle.pm_values.specs.declared.fault.BuildFault.TheVariants.{NoMemory}
use Rattle.pm_elab.specs.declared.elaboration.Elaboration.{Elaboration}
use Rattle.pm_elab.specs.Elab.{Checked, and_then, Gives, Elabs}

-- an outcome that is another one
pub elabs_as : {A : Type 0} (o p : Checked (A × Elaboration)) (r : Checked A) (n : Elaboration) → o ≡ p → Elabs p r n → Elabs o r n
elabs_as {A} o p r n e x = subst (λ (q : Checked (A × Elaboration)). Elabs q r n) (sym e) x

-- a fault that is passed on
pub elabs_err : {A : Type 0} (o : Checked (A × Elaboration)) (r : Checked A) (n : Elaboration) (e : BuildFault)
    → IsErrAnd r (λ x. x ≡ e) → (e ≢ NoMemory → o ≡ Err e) → Elabs o r n
elabs_err o (Err x) n e is fails = subst (λ (y : BuildFault). y ≢ NoMemory → o ≡ Err y) (sym is) fails
elabs_err o (Ok a) n e is fails = absurd is

-- a call that makes nothing
pub elabs_gives : {A : Type 0} (o r : Checked A) (n : Elaboration) → Gives o r → Elabs (and_then o (λ a. Ok (a, n))) r n
elabs_gives o (Ok a) n is = ap (λ (q : Checked _). and_then q (λ a. Ok (a, n))) is
elabs_gives o (Err e) n is = λ known. ap (λ (q : Checked _). and_then q (λ a. Ok (a, n))) (is known)

abbrev result_or : {A : Type 0} → A → Checked A → A
result_or d (Ok a) = a
result_or d (Err e) = d

-- results of one outcome are the same
pub same_result : {A : Type 0} (a b : A) → ◌≡◌ {A = Checked A} (Ok a) (Ok b) → a ≡ b
same_result {A} a b is = ap (λ (r : Checked A). result_or a r) is
