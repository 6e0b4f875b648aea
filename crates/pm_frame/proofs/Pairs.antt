-- Two lists, of which one ends first.
use Rattle.std.proofs.Common.{◌≡◌, ◌∙◌, ◌<◌, ◌≤◌, ℕ, zero, suc, List, [], ◌∷◌, drop, length, sym, ap, refl, false, arith}
use Rattle.std.proofs.lemmas.List.{drop_all}
use Rattle.pm_values.specs.declared.reference.ValueType.{ValueType}
use Rattle.pm_elab.specs.Connections.{same_types}

more_types : (a : List ValueType) (i : ℕ) → i < length a → false ≡ same_types (drop i a) []
unfolding same_types
more_types [] i within = absurd (omega (arith, within))
more_types (t ∷ ts) zero within = refl
more_types (t ∷ ts) (suc i) within = more_types ts i (omega (arith, within))

-- types that are left have none to be the same as
pub more_types_left : (a b : List ValueType) (i : ℕ) → i < length a → length b ≤ i
    → false ≡ same_types (drop i a) (drop i b)
more_types_left a b i within past = more_types a i within ∙ ap (same_types (drop i a)) (sym (drop_all i b past))
