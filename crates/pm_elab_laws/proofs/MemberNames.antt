-- Names of members: which stand below a name, and which are apart.
use Rattle.std.proofs.Common.{◌≡◌, ◌⊎◌, ◌∙◌, ◌+◌, ◌<◌, ◌≤◌, ◌^◌, ◌/◌, ◌%◌, ◌==◌, ◌||◌, ℕ, zero, suc, Bool, true, false}
use Rattle.std.proofs.Common.{not, List, [], ◌∷◌, ◌++◌, refl, sym, subst, ap, arith, inl, inr}
use Rattle.std.specs.Prelude.{nat_lt, nat_eq, bytes_eq, codes, decimal, if◌then◌else◌}
use Rattle.std.specs.Fmt.{digits_onto, digits, digit_glyph}
use Rattle.std.specs.List.{list_all, starts_with}
use Rattle.std.proofs.lemmas.Bool.{and_parts}
use Rattle.std.proofs.lemmas.Fmt.{decimal_injective}
use Rattle.std.proofs.lemmas.List.{append-nil, append_assoc, append_cancel_left}
use Rattle.std.proofs.lemmas.Slice.Eq.{bytes_eq-Decides}
use Rattle.pm_design.specs.Names.{IsMemberName, leads_to, are_apart, all_apart, avoids}
use Rattle.pm_syn.specs.Bytes.{begins_name, continues_name}
use Rattle.pm_syn.specs.Names.{is_keyword, is_spelled_as_name, is_proper_name}
use Rattle.pm_elab.specs.Placing.{element_name, member_name}
use Rattle.pm_elab.specs.Statements.{lambda_name}
use Rattle.pm_elab_laws.proofs.EqualValues.{both}
use Rattle.pm_elab_laws.proofs.Keeping.{Each}
use Rattle.pm_elab_laws.proofs.Tests.{never}

-- what may follow a name below which something stands: a dot or a bracket, or nothing
abbrev pub IsTail : List ℕ → Type 0
IsTail [] = Unit {0}
IsTail (c ∷ t) = (c ≡ 46) ⊎ (c ≡ 91)

-- the first name is the second one, or the second stands below it
pub record Covers (x b : List ℕ) : Type 0 where
  pub tail : List ℕ
  pub same : b ≡ x ++ tail
  pub ends : IsTail tail

-- neither covers the other
pub record Apart (x y : List ℕ) : Type 0 where
  pub not_over : Covers x y → ⊥
  pub not_under : Covers y x → ⊥

pub apart_turned : (x y : List ℕ) → Apart x y → Apart y x
apart_turned x y is = record { not_over = is.not_under; not_under = is.not_over }

abbrev first_of : List ℕ → ℕ
first_of [] = 0
first_of (c ∷ cs) = c

abbrev rest_of : List ℕ → List ℕ
rest_of [] = []
rest_of (c ∷ cs) = cs

unlike : {A : Type 0} (c : ℕ) (cs : List ℕ) → c ∷ cs ≡ [] → A
unlike c cs is = absurd (subst (λ (l : List ℕ). elim l as (λ _. Type 0) [ [] ↦ ⊥ | x ∷ xs ↦ Unit {0} ]) is tt)

tail_kept : (s t : List ℕ) → s ≡ t → IsTail s → IsTail t
tail_kept s t is tail = subst IsTail is tail

longer : (s t : List ℕ) → IsTail s → IsTail t → IsTail (s ++ t)
longer [] t first second = second
longer (c ∷ s) t first second = first

pub covers_self : (x : List ℕ) → Covers x x
covers_self x = record { tail = []; same = sym (append-nil x); ends = tt }

pub covers_below : (x a b : List ℕ) → Covers x a → Covers a b → Covers x b
covers_below x a b first second = record {
  tail = first.tail ++ second.tail;
  same = second.same ∙ (ap (λ (l : List ℕ). l ++ second.tail) first.same ∙ append_assoc x first.tail second.tail);
  ends = longer first.tail second.tail first.ends second.ends;
}

-- two names that cover one name
compared : (x y s t : List ℕ) → x ++ s ≡ y ++ t → IsTail s → IsTail t → Covers x y ⊎ Covers y x
compared [] [] s t same first second = inl (record { tail = []; same = refl; ends = tt })
compared [] (d ∷ y) s t same first second = inl (record {
  tail = d ∷ y;
  same = refl;
  ends = tail_kept s
      (d ∷ (y ++ t)) same first;
})
compared (c ∷ x) [] s t same first second = inr (record {
  tail = c ∷ x;
  same = refl;
  ends = tail_kept t
      (c ∷ (x ++ s)) (sym same) second;
})
compared (c ∷ x) (d ∷ y) s t same first second = by (compared x y s t (ap rest_of same) first second)
  where
    head : c ≡ d
    head = ap first_of same

    by : Covers x y ⊎ Covers y x → Covers (c ∷ x) (d ∷ y) ⊎ Covers (d ∷ y) (c ∷ x)
    by (inl is) = inl (record {
      tail = is.tail;
      same = ap (λ (l : List ℕ). d ∷ l) is.same ∙ ap (λ (e : ℕ). e ∷
          (x ++ is.tail)) (sym head);
      ends = is.ends;
    })
    by (inr is) = inr (record {
      tail = is.tail;
      same = ap (λ (l : List ℕ). c ∷ l) is.same ∙ ap (λ (e : ℕ). e ∷
          (y ++ is.tail)) head;
      ends = is.ends;
    })

pub comparable : (x y b : List ℕ) → Covers x b → Covers y b → Covers x y ⊎ Covers y x
comparable x y b first second = compared x y first.tail second.tail (sym first.same ∙ second.same) first.ends
    second.ends

-- what stands below one of two names that are apart is apart from the other
pub apart_below : (x y a : List ℕ) → Apart x y → Covers x a → Apart a y
apart_below x y a is below = record {
  not_over = λ over. is.not_over (covers_below x a y below over);
  not_under = λ under. by (comparable x y a below under);
}
  where
    by : Covers x y ⊎ Covers y x → ⊥
    by (inl over) = is.not_over over
    by (inr under) = is.not_under under

-- ---- the words of designs

starts : (p s : List ℕ) → starts_with nat_eq s p ≡ true → (r : List ℕ) × (s ≡ p ++ r)
starts [] s is = (s, refl)
starts (c ∷ p) [] is = never is
starts (c ∷ p) (d ∷ s) is =
    let parts = and_parts (nat_eq c d) (starts_with nat_eq s p) is in
    let same : c ≡ d = grind (arith, parts.0) in
    let rest = starts p s parts.1 in
    (rest.0, ap (λ (l : List ℕ). d ∷ l) rest.1 ∙ ap (λ (e : ℕ). e ∷ (p ++ rest.0)) (sym same))

leads_covers : (x y : List ℕ) → leads_to x y ≡ true → Covers x y
leads_covers x y is = by (starts_with nat_eq y (x ++ codes ".")) refl is
  where
    by : (b : Bool) → starts_with nat_eq y (x ++ codes ".") ≡ b
        → (b || starts_with nat_eq y (x ++ codes "[")) ≡ true → Covers x y
    by true dot is = let found = starts (x ++ codes ".") y dot in record {
      tail = 46 ∷ found.0;
      same = found.1 ∙
          append_assoc x (codes ".") found.0;
      ends = inl refl;
    }
    by false dot is = let found = starts (x ++ codes "[") y is in record {
      tail = 91 ∷ found.0;
      same = found.1 ∙
          append_assoc x (codes "[") found.0;
      ends = inr refl;
    }

equal_covers : (x y : List ℕ) → bytes_eq x y ≡ true → Covers x y
equal_covers x y is = subst (Covers x) ((bytes_eq-Decides x y).0 is) (covers_self x)

none_of : (b : Bool) → (b ≡ true → ⊥) → b ≡ false
none_of true no_way = absurd (no_way refl)
none_of false no_way = refl

pub are_apart_so : (x y : List ℕ) → Apart x y → are_apart x y ≡ true
are_apart_so x y is =
    let first = none_of (bytes_eq x y) (λ same. is.not_over (equal_covers x y same)) in
    let second = none_of (leads_to x y) (λ leads. is.not_over (leads_covers x y leads)) in
    let third = none_of (leads_to y x) (λ leads. is.not_under (leads_covers y x leads)) in
    ap (λ (b : Bool). not (b || (leads_to x y || leads_to y x))) first ∙ (ap (λ (b : Bool). not (b || leads_to y x))
    second ∙ ap not third)

pub avoids_so : (x y : List ℕ) → (Covers x y → ⊥) → avoids x y ≡ true
avoids_so x y is =
    let first = none_of (bytes_eq x y) (λ same. is (equal_covers x y same)) in
    let second = none_of (leads_to x y) (λ leads. is (leads_covers x y leads)) in
    ap (λ (b : Bool). not (b || leads_to x y)) first ∙ ap not second

-- each two are apart
abbrev pub AllApart : List (List ℕ) → Type 0
AllApart [] = Unit {0}
AllApart (n ∷ ns) = Each (Apart n) ns × AllApart ns

all_apart_from : (n : List ℕ) (ns : List (List ℕ)) → Each (Apart n) ns → list_all (are_apart n) ns ≡ true
all_apart_from n [] each = refl
all_apart_from n (m ∷ ns) each = both (are_apart n m) (list_all (are_apart n) ns) (are_apart_so n m each.0)
    (all_apart_from n ns each.1)

pub all_apart_so : (ns : List (List ℕ)) → AllApart ns → all_apart ns ≡ true
all_apart_so [] all = refl
all_apart_so (n ∷ ns) all = both (list_all (are_apart n) ns) (all_apart ns) (all_apart_from n ns all.0)
    (all_apart_so ns all.1)

-- one more, anywhere among the others
pub each_put : (P : List ℕ → Type 0) (xs ys : List (List ℕ)) (n : List ℕ) → Each P (xs ++ ys) → P n
    → Each P (xs ++ n ∷ ys)
each_put P [] ys n each is = (is, each)
each_put P (x ∷ xs) ys n each is = (each.0, each_put P xs ys n each.1 is)

pub apart_put : (xs ys : List (List ℕ)) (n : List ℕ) → AllApart (xs ++ ys) → Each (Apart n) (xs ++ ys)
    → AllApart (xs ++ n ∷ ys)
apart_put [] ys n all each = (each, all)
apart_put (x ∷ xs) ys n all each = (
  each_put (Apart x) xs ys n all.0 (apart_turned n x each.0),
  apart_put xs ys n
      all.1 each.1,
)

-- ---- proper names

abbrev Unmarked : ℕ → Type 0
Unmarked c = (c ≡ 46 → ⊥) × (c ≡ 91 → ⊥)

continues_unmarked : (c : ℕ) → continues_name c ≡ true → Unmarked c
continues_unmarked c is = (
  λ dot. never (subst (λ (d : ℕ). continues_name d ≡ true) dot is),
  λ bracket. never
      (subst (λ (d : ℕ). continues_name d ≡ true) bracket is),
)

begins_unmarked : (c : ℕ) → begins_name c ≡ true → Unmarked c
begins_unmarked c is = (
  λ dot. never (subst (λ (d : ℕ). begins_name d ≡ true) dot is),
  λ bracket. never
      (subst (λ (d : ℕ). begins_name d ≡ true) bracket is),
)

all_unmarked : (cs : List ℕ) → list_all continues_name cs ≡ true → Each Unmarked cs
all_unmarked [] all = tt
all_unmarked (c ∷ cs) all = let parts = and_parts (continues_name c) (list_all continues_name cs) all in
    (continues_unmarked c parts.0, all_unmarked cs parts.1)

proper_unmarked : (name : List ℕ) → is_proper_name name ≡ true → Each Unmarked name
proper_unmarked [] is = never is
proper_unmarked (c ∷ cs) is =
    let spelled = and_parts (is_spelled_as_name (c ∷ cs)) (not (is_keyword (c ∷ cs))) is in
    let parts = and_parts (begins_name c) (list_all continues_name cs) spelled.0 in
    (begins_unmarked c parts.0, all_unmarked cs parts.1)

no_tail : (x t : List ℕ) → Each Unmarked (x ++ t) → IsTail t → t ≡ []
no_tail [] [] each tail = refl
no_tail [] (c ∷ t) each (inl dot) = absurd (each.0.0 dot)
no_tail [] (c ∷ t) each (inr bracket) = absurd (each.0.1 bracket)
no_tail (c ∷ x) t each tail = no_tail x t each.1 tail

-- nothing but itself covers a proper name
pub proper_covered : (x y : List ℕ) → is_proper_name y ≡ true → Covers x y → y ≡ x
proper_covered x y is covers =
    let none = no_tail x covers.tail (subst (Each Unmarked) covers.same (proper_unmarked y is)) covers.ends in
    covers.same ∙ (ap (λ (t : List ℕ). x ++ t) none ∙ append-nil x)

pub proper_apart : (x y : List ℕ) → is_proper_name x ≡ true → is_proper_name y ≡ true → (x ≡ y → ⊥) → Apart x y
proper_apart x y first second differ = record {
  not_over = λ over. differ (sym (proper_covered x y second over));
  not_under = λ under. differ (proper_covered y x first under);
}

-- ---- elements and members

under_same : (p x y : List ℕ) → Covers (p ++ x) (p ++ y) → Covers x y
under_same p x y covers = record {
  tail = covers.tail;
  same = append_cancel_left p y (x ++ covers.tail) (covers.same ∙ append_assoc p x covers.tail);
  ends = covers.ends;
}

apart_after : (p x y : List ℕ) → Apart x y → Apart (p ++ x) (p ++ y)
apart_after p x y is = record {
  not_over = λ over. is.not_over (under_same p x y over);
  not_under = λ under. is.not_under (under_same p y x under);
}

abbrev IsDigit : ℕ → Type 0
IsDigit c = (48 ≤ c) × (c ≤ 57)

glyph_digit : (d : ℕ) → d < 10 → IsDigit (digit_glyph false d)
glyph_digit d less = by (nat_lt d 10) refl
  where
    by : (b : Bool) → nat_lt d 10 ≡ b → IsDigit (if b then 48 + d else (if false then 55 + d else 87 + d))
    by true is = (omega arith, omega (arith, less))
    by false is = never (sym is ∙ grind (arith, less))

onto_digits : (k n : ℕ) (acc : List ℕ) → Each IsDigit acc → Each IsDigit (digits_onto k 10 false n acc)
onto_digits zero n acc each = each
onto_digits (suc k) n acc each =
    let less : n % 10 < 10 = omega arith in
    let more : Each IsDigit (digit_glyph false (n % 10) ∷ acc) = (glyph_digit (n % 10) less, each) in
    by (n / 10 == 0) more (onto_digits k (n / 10) (digit_glyph false (n % 10) ∷ acc) more)
  where
    by : (b : Bool) → Each IsDigit (digit_glyph false (n % 10) ∷ acc)
        → Each IsDigit (digits_onto k 10 false (n / 10) (digit_glyph false (n % 10) ∷ acc))
        → Each IsDigit (if b then digit_glyph false (n % 10) ∷ acc else digits_onto k 10 false (n / 10) (digit_glyph
        false (n % 10) ∷ acc))
    by true first second = first
    by false first second = second

decimal_digits : (n : ℕ) → Each IsDigit (decimal n)
unfolding digits
decimal_digits n = onto_digits 64 n [] tt

-- digits end where the bracket closes
digits_end : (xs ys t : List ℕ) → Each IsDigit xs → Each IsDigit ys → xs ++ 93 ∷ [] ≡ ys ++ 93 ∷ t → xs ≡ ys
digits_end [] [] t first second same = refl
digits_end [] (d ∷ ys) t first second same = let here : 93 ≡ d = ap first_of same in absurd
    (omega (arith, here, second.0.1))
digits_end (c ∷ xs) [] t first second same = let here : c ≡ 93 = ap first_of same in absurd
    (omega (arith, here, first.0.1))
digits_end (c ∷ xs) (d ∷ ys) t first second same =
    ap (λ (l : List ℕ). c ∷ l) (digits_end xs ys t first.1 second.1 (ap rest_of same)) ∙ ap (λ (e : ℕ). e ∷ ys)
    (ap first_of same)

bracketed : (i j : ℕ) → i < 2 ^ 64 → j < 2 ^ 64
    → Covers (codes "[" ++ (decimal i ++ codes "]")) (codes "[" ++ (decimal j ++ codes "]")) → i ≡ j
bracketed i j first second covers =
    let inner = ap rest_of covers.same ∙ append_assoc (decimal i) (codes "]") covers.tail in
    decimal_injective i j first second (sym (digits_end (decimal j) (decimal i) covers.tail (decimal_digits j)
    (decimal_digits i) inner))

pub elements_apart : (at : List ℕ) (i j : ℕ) → i < 2 ^ 64 → j < 2 ^ 64 → (i ≡ j → ⊥)
    → Apart (element_name at i) (element_name at j)
unfolding element_name
elements_apart at i j first second differ = apart_after at _ _ (record {
  not_over = λ over. differ (bracketed i j first second over);
  not_under = λ under. differ (sym (bracketed j i second first under));
})

pub members_apart : (at m n : List ℕ) → is_proper_name m ≡ true → is_proper_name n ≡ true → (m ≡ n → ⊥)
    → Apart (member_name at m) (member_name at n)
unfolding member_name
members_apart at m n first second differ = apart_after at _ _ (apart_after (codes ".") m n (proper_apart m n first
    second differ))

pub element_covered : (at : List ℕ) (i : ℕ) → Covers at (element_name at i)
unfolding element_name
element_covered at i = record { tail = codes "[" ++ (decimal i ++ codes "]"); same = refl; ends = inr refl }

pub member_covered : (at m : List ℕ) → Covers at (member_name at m)
unfolding member_name
member_covered at m = record { tail = codes "." ++ m; same = refl; ends = inl refl }

pub element_named : (at : List ℕ) (i : ℕ) → IsMemberName at → IsMemberName (element_name at i)
unfolding element_name
element_named at i is =
    subst IsMemberName (append_assoc (at ++ codes "[") (decimal i) (codes "]") ∙ append_assoc at
    (codes "[") (decimal i ++ codes "]")) (IsMemberName.element at i is)

pub member_named_so : (at m : List ℕ) → is_proper_name m ≡ true → IsMemberName at → IsMemberName (member_name at m)
unfolding member_name
member_named_so at m proper is = subst IsMemberName (append_assoc at (codes ".") m) (IsMemberName.member at m is proper)

-- ---- lambdas

continues_digit : (c : ℕ) → IsDigit c → continues_name c ≡ true
continues_digit c is = grind (arith, is.0, is.1)

all_continue : (cs : List ℕ) → Each IsDigit cs → list_all continues_name cs ≡ true
all_continue [] each = refl
all_continue (c ∷ cs) each = both (continues_name c) (list_all continues_name cs) (continues_digit c each.0)
    (all_continue cs each.1)

pub lambda_proper : (k : ℕ) → is_proper_name (lambda_name k) ≡ true
unfolding lambda_name is_keyword
lambda_proper k = both (is_spelled_as_name (codes "lambda_" ++ decimal k)) true (all_continue (decimal k)
    (decimal_digits k)) refl
