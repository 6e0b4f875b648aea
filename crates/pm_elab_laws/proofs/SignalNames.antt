-- The names of a kind's signals differ.
use Rattle.std.proofs.Common.{◌≡◌, ◌||◌, ℕ, Bool, true, false, not, List, [], ◌∷◌, ◌++◌, refl, map}
use Rattle.std.specs.Prelude.{bytes_eq}
use Rattle.std.specs.List.{list_all}
use Rattle.std.proofs.lemmas.Bool.{and_parts}
use Rattle.pm_design.specs.declared.design.Child.{Child}
use Rattle.pm_design.specs.declared.signal.Signal.{Signal}
use Rattle.pm_design.specs.Lookups.{kind_of}
use Rattle.pm_design.specs.Names.{leads_to, are_apart, all_apart, all_differ}
use Rattle.pm_elab_laws.specs.Soundness.{SignalsDiffer}
use Rattle.pm_elab_laws.proofs.EqualValues.{both}
use Rattle.pm_elab_laws.proofs.Given.{designs_sound}
use Rattle.pm_elab_laws.proofs.Tests.{never}

neither : (a b : Bool) → not (a || b) ≡ true → not a ≡ true
neither false b is = refl
neither true b is = never is

others_differ : (n : List ℕ) (xs ys : List (List ℕ)) → list_all (are_apart n) (xs ++ ys) ≡ true
    → list_all (λ other. not (bytes_eq n other)) xs ≡ true
others_differ n [] ys all = refl
others_differ n (x ∷ xs) ys all =
    let parts = and_parts (are_apart n x) (list_all (are_apart n) (xs ++ ys)) all in
    both (not (bytes_eq n x)) (list_all (λ other. not (bytes_eq n other)) xs) (neither (bytes_eq n x) (leads_to n x
    || leads_to x n) parts.0) (others_differ n xs ys parts.1)

apart_differ : (xs ys : List (List ℕ)) → all_apart (xs ++ ys) ≡ true → all_differ xs ≡ true
apart_differ [] ys all = refl
apart_differ (x ∷ xs) ys all =
    let parts = and_parts (list_all (are_apart x) (xs ++ ys)) (all_apart (xs ++ ys)) all in
    both (list_all (λ other. not (bytes_eq x other)) xs) (all_differ xs) (others_differ x xs ys parts.0)
    (apart_differ xs ys parts.1)

-- names that are apart differ
pub signals_differ : SignalsDiffer
signals_differ nodes name params given names good is k less =
    let kind = kind_of given.design k in
    apart_differ (map (λ (s : Signal). s.name) kind.signals) (map (λ (c : Child). c.name) kind.children)
    ((designs_sound nodes name params given names good is).kinds k less).named.members_apart
