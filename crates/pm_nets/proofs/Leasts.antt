-- The least line, and the first kind that has one.
use Rattle.std.proofs.Common.{◌≡◌, ◌∙◌, ◌⊎◌, ◌+◌, ◌<◌, ◌≤◌, ◌++◌, ℕ, List, [], ◌∷◌, length, take, get_or, min}
use Rattle.std.proofs.Common.{sym, ap, subst, arith, inl, inr, Option, None, Some, Contains}
use Rattle.std.specs.Prelude.{IsTrue}
use Rattle.std.proofs.lemmas.Bool.{cases_lt}
use Rattle.std.proofs.lemmas.List.{take_more, take_all, get_or_default}
use Rattle.std.proofs.lemmas.List.Elements.{Contains-push, Contains-append_left, Contains-push_cases}
use Rattle.pm_design.specs.declared.design.Design.{Design}
use Rattle.pm_design.specs.Lookups.{kind_of}
use Rattle.pm_nets.specs.declared.check.Check.{Check}
use Rattle.pm_nets.specs.Faults.{IsLeastIn, IsLeastOf, has_instance, lesser_of, lines_of}

least_push : (xs : List ℕ) (x : ℕ) (least : Option ℕ) → IsLeastIn xs least →
    IsLeastOf (xs ++ x ∷ []) (lesser_of least x)
least_push xs x None none = record {
  listed = Contains-push xs x;
  least = λ y has. go y (Contains-push_cases xs x y has);
}
  where
    go : (y : ℕ) → Contains xs y ⊎ (x ≡ y) → x ≤ y
    go y (inl old) = let l : old.0 < length xs = old.1 in let e : length xs ≡ 0 = ap length none in
        absurd (omega arith)
    go y (inr e) = omega arith
least_push xs x (Some other) least = record {
  listed = listed (cases_lt other x);
  least = λ y has. go y (Contains-push_cases xs x y has);
}
  where
    listed : (other < x) ⊎ (x ≤ other) → Contains (xs ++ x ∷ []) (min other x)
    listed (inl l) = let e : other ≡ min other x = omega arith in
        subst (λ (m : ℕ). Contains (xs ++ x ∷ []) m) e (Contains-append_left xs (x ∷ []) other least.listed)
    listed (inr l) = let e : x ≡ min other x = omega arith in
        subst (λ (m : ℕ). Contains (xs ++ x ∷ []) m) e (Contains-push xs x)

    go : (y : ℕ) → Contains xs y ⊎ (x ≡ y) → min other x ≤ y
    go y (inl old) = let l : other ≤ y = least.least y old in omega arith
    go y (inr e) = omega arith

pub least_more : (xs : List ℕ) (i x : ℕ) (least : Option ℕ) → i < length xs → x ≡ get_or xs i x →
    IsLeastIn (take i xs) least →
    IsLeastIn (take (i + 1) xs) (Some (lesser_of least x))
least_more xs i x least lt is so_far =
    subst (λ (l : List ℕ). IsLeastOf l (lesser_of least x))
    (sym (take_more xs i x lt ∙ ap (λ (y : ℕ). take i xs ++ y ∷ []) (sym is)))
    (least_push (take i xs) x least so_far)

pub least_pushed : (xs : List ℕ) (i : ℕ) (least : Option ℕ) → i < length xs → IsLeastIn (take i xs) least →
    IsLeastOf (take (i + 1) xs) (lesser_of least (get_or xs i 0))
least_pushed xs i least lt so_far = least_more xs i (get_or xs i 0) least lt
    (get_or_default xs i 0 (get_or xs i 0) lt) so_far

pub least_all : (xs : List ℕ) (i : ℕ) (least : Option ℕ) → length xs ≤ i → IsLeastIn (take i xs) least →
    IsLeastIn xs least
least_all xs i least le so_far = subst (λ (l : List ℕ). IsLeastIn l least) (take_all i xs le) so_far

pub ruleset leasts = (least_all)

-- one kind more without a line, or without an instance
pub none_more : (design : Design) (check : Check) (k : ℕ) → ((j : ℕ) → j < k → IsTrue (has_instance design j) →
    lines_of design check (kind_of design j) ≡ []) →
    (IsTrue (has_instance design k) → lines_of design check (kind_of design k) ≡ []) →
    (j : ℕ) → j < k + 1 → IsTrue (has_instance design j) → lines_of design check (kind_of design j) ≡ []
none_more design check k before here j lt used = go (cases_lt j k)
  where
    go : (j < k) ⊎ (k ≤ j) → lines_of design check (kind_of design j) ≡ []
    go (inl less) = before j less used
    go (inr more) =
        let e : k ≡ j = omega arith in
        subst (λ (n : ℕ). IsTrue (has_instance design n) → lines_of design check (kind_of design n) ≡ []) e here used
