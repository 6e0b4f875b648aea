-- The numbers of children.
use Rattle.std.proofs.Common.{◌≡◌, ◌∙◌, ◌+◌, ◌<◌, ◌≤◌, ◌++◌, ℕ, zero, suc, List, [], ◌∷◌, length, drop, get_or}
use Rattle.std.proofs.Common.{map, sym, ap, subst, arith, Bool, ltb-true}
use Rattle.std.specs.Prelude.{IsTrue}
use Rattle.std.specs.List.{list_all}
use Rattle.std.proofs.lemmas.Bool.{and_parts}
use Rattle.std.proofs.lemmas.List.{append_assoc, append-nil, drop_more, drop_all}
use Rattle.pm_design.specs.declared.design.Child.{Child}
use Rattle.pm_design.specs.declared.design.Design.{Design}
use Rattle.pm_design.specs.Elaborated.{is_before}
use Rattle.pm_design.specs.Instances.{numbers_from}
use Rattle.pm_design.specs.Lookups.{kind_of}
use Rattle.pm_design.specs.Widths.{total}
use Rattle.pm_instances.proofs.Sums.{total_more}

-- an element that passes
pub item_passes : {X : Type 0} (test : X → Bool) (xs : List X) (i : ℕ) (x : X) → IsTrue (list_all test xs) →
    i < length xs →
    x ≡ get_or xs i x → IsTrue (test x)
item_passes test [] i x all lt is = absurd (omega arith)
item_passes test (y ∷ ys) zero x all lt is = subst (λ (z : _). IsTrue (test z)) (sym is)
    (and_parts (test y) (list_all test ys) all).0
item_passes test (y ∷ ys) (suc i) x all lt is = item_passes test ys i x (and_parts (test y) (list_all test ys) all).1
    (omega arith) is

-- a child's kind is one of the design's
pub child_kind : (cs : List Child) (n i : ℕ) (c : Child) → IsTrue (list_all (is_before n) cs) → i < length cs →
    c ≡ get_or cs i c → c.kind < n
child_kind cs n i c all lt is = ltb-true c.kind n (item_passes (is_before n) cs i c all lt is)

-- the number of one child more
pub one_more_number : (design : Design) (cs : List Child) (i n step : ℕ) (numbers whole : List ℕ) (c : Child) →
    i < length cs → c ≡ get_or cs i c → step ≡ (kind_of design c.kind).instances →
    numbers ++ numbers_from design n (drop i cs) ≡ whole →
    (numbers ++ n ∷ []) ++ numbers_from design (n + step) (drop (i + 1) cs) ≡ whole
one_more_number design cs i n step numbers whole c lt is size so_far =
    append_assoc numbers (n ∷ []) (numbers_from design (n + step) (drop (i + 1) cs))
    ∙ (ap (λ (k : ℕ). numbers ++ n ∷ numbers_from design (n + k) (drop (i + 1) cs)) size
    ∙ (ap (λ (x : Child). numbers ++ n ∷ numbers_from design (n + (kind_of design x.kind).instances)
    (drop (i + 1) cs)) is
    ∙ (ap (λ (xs : List Child). numbers ++ numbers_from design n xs) (sym (drop_more cs i c lt)) ∙ so_far)))

-- no child is left
pub all_numbers : (design : Design) (cs : List Child) (i n : ℕ) (numbers whole : List ℕ) → length cs ≤ i →
    numbers ++ numbers_from design n (drop i cs) ≡ whole → numbers ≡ whole
all_numbers design cs i n numbers whole le so_far =
    sym (append-nil numbers) ∙ (ap (λ (xs : List Child). numbers ++
    numbers_from design n xs) (sym (drop_all i cs le)) ∙ so_far)

-- the number of the child after one
pub next_number : (design : Design) (cs : List Child) (i n first step : ℕ) (c : Child) →
    i < length cs → c ≡ get_or cs i c → step ≡ (kind_of design c.kind).instances →
    n + total (map (λ x. (kind_of design x.kind).instances) (drop i cs)) ≡ first + total
    (map (λ x. (kind_of design x.kind).instances) cs) →
    n + step + total (map (λ x. (kind_of design x.kind).instances) (drop (i + 1) cs)) ≡ first + total
    (map (λ x. (kind_of design x.kind).instances) cs)
next_number design cs i n first step c lt is size so_far =
    let f : Child → ℕ = λ x. (kind_of design x.kind).instances in
    let e : total (map f (drop i cs)) ≡ f c + total (map f (drop (i + 1) cs)) = total_more f cs i c lt is in
    let s : step ≡ f c = size in
    omega arith

pub ruleset child_numbering = (child_kind, one_more_number, all_numbers, next_number)
