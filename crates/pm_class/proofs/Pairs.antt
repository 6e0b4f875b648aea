-- Two lists of arguments, of which one ends first.
use Rattle.std.proofs.Common.{◌≡◌, ◌∙◌, ◌<◌, ◌≤◌, ℕ, zero, suc, List, [], ◌∷◌, drop, length, sym, ap, refl, false, arith}
use Rattle.std.proofs.lemmas.List.{drop_all}
use Rattle.pm_values.specs.declared.value.Value.{Value}
use Rattle.pm_elab.specs.Equality.{same_arguments}

more_arguments : (a : List Value) (i : ℕ) → i < length a → false ≡ same_arguments (drop i a) []
unfolding same_arguments
more_arguments [] i within = absurd (omega (arith, within))
more_arguments (v ∷ vs) zero within = refl
more_arguments (v ∷ vs) (suc i) within = more_arguments vs i (omega (arith, within))

-- arguments that are left have none to equal
pub more_arguments_left : (a b : List Value) (i : ℕ) → i < length a → length b ≤ i
    → false ≡ same_arguments (drop i a) (drop i b)
more_arguments_left a b i within past = more_arguments a i within ∙ ap (same_arguments (drop i a)) (sym (drop_all i b past))
