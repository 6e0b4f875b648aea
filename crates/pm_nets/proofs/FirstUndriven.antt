-- The least net without a driver.
use Rattle.std.specs.Prelude.{IfSome, unwrap_or}
use Rattle.std.proofs.Common.{◌≡◌, ◌∙◌, ◌⊎◌, ◌+◌, ◌<◌, ◌≤◌, ℕ, List, length, get_or, Contains, Bool, true}
use Rattle.std.proofs.Common.{false, Option, None, Some, min, refl, sym, ap, subst, arith, inl, inr}
use Rattle.std.proofs.lemmas.Bool.{cases_eq, cases_lt, false_from_ne_true}
use Rattle.std.proofs.lemmas.Option.{none-some}
use Rattle.disjoint_sets.specs.Connected.{Connected, Itself, Forward, Backward, AreBelow}
use Rattle.disjoint_sets.specs.Partitions.{IsPartition}
use Rattle.disjoint_sets.proofs.Chains.{connected_sym, connected_trans}
use Rattle.pm_design.specs.declared.plan.Plan.{Plan}
use Rattle.pm_nets.specs.Drivers.{AreDriven, FindsUndriven, IsFirstBelow, IsLow, IsUndriven}
use Rattle.pm_nets.specs.Drivers.{drivers_of}
use Rattle.pm_nets.specs.Faults.{lesser_of}
use Rattle.pm_nets.specs.Links.{links_of}
use Rattle.pm_nets.proofs.Marking.{true_false}

some_same : (a b : ℕ) → Some a ≡ Some b → a ≡ b
some_same a b e = ap (λ (o : Option ℕ). unwrap_or o a) e

-- nothing is below 0
pub none_first : (leasts : List ℕ) (driven : List Bool) → IsFirstBelow leasts driven 0 None
none_first leasts driven = record {
  some = λ l e. absurd (none-some l e);
  each = λ x lt. absurd (omega arith);
}

-- one number more whose set has a mark or is its own least
pub same_first : (leasts : List ℕ) (driven : List Bool) (bound r : ℕ) (found : Option ℕ)
    → IsFirstBelow leasts driven bound found →
    r ≡ get_or leasts bound 0 → (r ≡ bound) ⊎ (get_or driven r false ≡ true)
    → IsFirstBelow leasts driven (bound + 1) found
same_first leasts driven bound r found first root fine = record {
  some = λ l e. let old = first.some l e in let lt : old.0 < bound = old.1 in
      (old.0, (omega arith), old.2, old.3, old.4);
  each = λ x lt ne none. each x (cases_lt x bound) lt ne none;
}
  where
    each : (x : ℕ) → (x < bound) ⊎ (bound ≤ x) → x < bound + 1 → (get_or leasts x 0 ≡ x → ⊥) →
        get_or driven (get_or leasts x 0) false ≡ false → IsLow found (get_or leasts x 0)
    each x (inl less) lt ne none = first.each x less ne none
    each x (inr more) lt ne none = absurd (no fine)
      where
        e : bound ≡ x
        e = omega arith

        same : r ≡ get_or leasts x 0
        same = root ∙ ap (λ (k : ℕ). get_or leasts k 0) e

        no : (r ≡ bound) ⊎ (get_or driven r false ≡ true) → ⊥
        no (inl own) = ne (sym same ∙ (own ∙ e))
        no (inr marked) = true_false (sym marked ∙ (ap (λ (k : ℕ). get_or driven k false) same ∙ none))

-- one number more whose set has another least number, and no mark
pub other_first : (leasts : List ℕ) (driven : List Bool) (bound r : ℕ) (found : Option ℕ)
    → IsFirstBelow leasts driven bound found →
    r ≡ get_or leasts bound 0 → (r ≡ bound → ⊥) → get_or driven r false ≡ false →
    IsFirstBelow leasts driven (bound + 1) (Some (lesser_of found r))
other_first leasts driven bound r None first root other none = record {
  some = λ l e. let is : l ≡ r = sym (some_same r l e) in (
    bound,
    at_end,
    sym root ∙ sym is,
    (λ same. other (sym is ∙ same)),
    ap (λ (k : ℕ). get_or driven k false) is
        ∙ none,
  );
  each = λ x lt ne free. each x (cases_lt x bound) lt ne free;
}
  where
    at_end : bound < bound + 1
    at_end = omega arith

    each : (x : ℕ) → (x < bound) ⊎ (bound ≤ x) → x < bound + 1 → (get_or leasts x 0 ≡ x → ⊥) →
        get_or driven (get_or leasts x 0) false ≡ false → IsLow (Some r) (get_or leasts x 0)
    each x (inl less) lt ne free = let low = first.each x less ne free in absurd (none-some low.0 low.1)
    each x (inr more) lt ne free =
        let e : bound ≡ x = omega arith in
        let same : r ≡ get_or leasts x 0 = root ∙ ap (λ (k : ℕ). get_or leasts k 0) e in
        (r, refl, omega arith)
other_first leasts driven bound r (Some o) first root other none = record {
  some = λ l e. some l (some_same (min o r) l e) (cases_lt o r);
  each = λ x lt ne free. each x (cases_lt x bound) lt ne free;
}
  where
    some : (l : ℕ) → min o r ≡ l → (o < r) ⊎ (r ≤ o) →
        (x : ℕ) × (x < bound + 1) × (get_or leasts x 0 ≡ l) × (l ≡ x → ⊥) × (get_or driven l false ≡ false)
    some l is (inl less) =
        let e : o ≡ l = omega arith in
        let old = first.some l (ap Some e) in
        let lt : old.0 < bound = old.1 in
        let next : old.0 < bound + 1 = omega arith in
        (old.0, next, old.2, old.3, old.4)
    some l is (inr more) =
        let e : l ≡ r = omega arith in
        let next : bound < bound + 1 = omega arith in
        (bound, next, sym root ∙ sym e, (λ same. other (sym e ∙ same)), ap (λ (k : ℕ). get_or driven k false) e ∙ none)

    each : (x : ℕ) → (x < bound) ⊎ (bound ≤ x) → x < bound + 1 → (get_or leasts x 0 ≡ x → ⊥) →
        get_or driven (get_or leasts x 0) false ≡ false → IsLow (Some (min o r)) (get_or leasts x 0)
    each x (inl less) lt ne free =
        let low = first.each x less ne free in
        let known : o ≡ low.0 = some_same o low.0 low.1 in
        let le : low.0 ≤ get_or leasts x 0 = low.2 in
        let least : min o r ≤ get_or leasts x 0 = omega arith in
        (min o r, refl, least)
    each x (inr more) lt ne free =
        let e : bound ≡ x = omega arith in
        let same : r ≡ get_or leasts x 0 = root ∙ ap (λ (k : ℕ). get_or leasts k 0) e in
        let least : min o r ≤ get_or leasts x 0 = omega arith in
        (min o r, refl, least)

-- two different numbers that are connected are among those that are counted
connected_below : (n : ℕ) (links : List (ℕ × ℕ)) → AreBelow n links → (a b : ℕ) → Connected links a b → (a ≡ b → ⊥)
    → a < n
connected_below n links below _ _ (Itself a) ne = absurd (ne refl)
connected_below n links below _ _ (Forward a b c has rest) ne = (below a b has).0
connected_below n links below _ _ (Backward a b c has rest) ne = (below b a has).1

-- the least number of a set is its own least
least_itself : (n : ℕ) (links : List (ℕ × ℕ)) (leasts : List ℕ) → IsPartition n links leasts → (x : ℕ) → x < n →
    get_or leasts (get_or leasts x 0) 0 ≡ get_or leasts x 0
least_itself n links leasts are x lt = sym (are.one x (get_or leasts x 0) (are.member x lt))

-- the number that is found is the least of a net without a driver
pub found_undriven : (plan : Plan) (n : ℕ) (leasts : List ℕ) (driven : List Bool) (found : Option ℕ) →
    IsPartition n (links_of plan) leasts → AreDriven leasts (drivers_of plan) driven
    → IsFirstBelow leasts driven (length leasts) found →
    FindsUndriven plan found
found_undriven plan n leasts driven found are marks first = go found first
  where
    root : ℕ → ℕ
    root x = get_or leasts x 0

    within : (x : ℕ) → x < length leasts → x < n
    within x lt = subst (λ (k : ℕ). x < k) are.size lt

    -- the set of an undriven net has no mark
    unmarked : (y : ℕ) → y < n → IsUndriven plan y → get_or driven (root y) false ≡ false
    unmarked y lt is =
        false_from_ne_true (get_or driven (root y) false)
        (λ marked. contrary (marks.meant (root y) within_marks marked))
      where
        within_marks : root y < length driven
        within_marks =
            let size : length driven ≡ length leasts = marks.size in
            let count : length leasts ≡ n = are.size in
            let low : root y ≤ y = are.least y in
            omega arith

        contrary : (d : ℕ) × Contains (drivers_of plan) d × (root d ≡ root y) → ⊥
        contrary h =
            let known : h.0 < n = within h.0 (marks.below h.0 h.1) in
            is.none h.0 h.1 (connected_trans (links_of plan) y (root y) h.0 (are.member y lt)
            (subst (λ (k : ℕ). Connected (links_of plan) k h.0) h.2
            (connected_sym (links_of plan) h.0 (root h.0) (are.member h.0 known))))

    -- so something is known that is at most each undriven number
    low : (found : Option ℕ) → IsFirstBelow leasts driven (length leasts) found → (y : ℕ) → IsUndriven plan y
        → IsLow found (root y)
    low found first y is = pick (cases_eq (root y) y)
      where
        lt : y < n
        lt = connected_below n (links_of plan) are.below y is.other is.joined is.differ

        other_lt : is.other < n
        other_lt =
            connected_below n (links_of plan) are.below is.other y (connected_sym (links_of plan) y is.other is.joined)
            (λ e. is.differ (sym e))

        counted : (x : ℕ) → x < n → x < length leasts
        counted x l = subst (λ (k : ℕ). x < k) (sym are.size) l

        one : root y ≡ root is.other
        one = are.one y is.other is.joined

        pick : (root y ≡ y) ⊎ (root y ≡ y → ⊥) → IsLow found (root y)
        pick (inr ne) = first.each y (counted y lt) ne (unmarked y lt is)
        pick (inl own) = subst (λ (k : ℕ). IsLow found k) (sym one)
            (first.each is.other (counted is.other other_lt) (λ e. is.differ (sym own ∙ (one ∙ e)))
            (ap (λ (k : ℕ). get_or driven k false) (sym one) ∙ unmarked y lt is))

    go : (found : Option ℕ) → IsFirstBelow leasts driven (length leasts) found → FindsUndriven plan found
    go None first = λ y is. let l = low None first y is in none-some l.0 l.1
    go (Some b) first = record {
      undriven = record {
        other = at.0;
        differ = at.3;
        joined = connected_sym (links_of plan) at.0 b (subst (λ (k : ℕ). Connected (links_of plan) at.0 k) at.2
            (are.member at.0 (within at.0 at.1)));
        none = λ d has joined. true_false (sym (marks.marked d has) ∙ (ap (λ (k : ℕ). get_or driven k false)
            (sym (are.one b d joined) ∙ itself) ∙ at.4));
      };
      least = λ y is.
          let l = low (Some b) first y is in
          let e : b ≡ l.0 = some_same b l.0 l.1 in
          let le : l.0 ≤ root y = l.2 in
          let down : root y ≤ y = are.least y in
          omega arith;
    }
      where
        at : (x : ℕ) × (x < length leasts) × (get_or leasts x 0 ≡ b) × (b ≡ x → ⊥) × (get_or driven b false ≡ false)
        at = first.some b refl

        itself : get_or leasts b 0 ≡ b
        itself = ap (λ (k : ℕ). get_or leasts k 0) (sym at.2)
            ∙ (least_itself n (links_of plan) leasts are at.0 (within at.0 at.1) ∙ at.2)

-- what is found is a flat bit
pub found_below : (plan : Plan) (n : ℕ) (leasts : List ℕ) (found : Option ℕ) → IsPartition n (links_of plan) leasts →
    FindsUndriven plan found → IfSome found (λ x. x < n)
found_below plan n leasts None are finds = tt
found_below plan n leasts (Some x) are finds =
    connected_below n (links_of plan) are.below x finds.undriven.other finds.undriven.joined finds.undriven.differ

pub ruleset firsts = (none_first, other_first)
