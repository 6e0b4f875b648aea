-- The least line that passes a test.
use std.Path.{fun_ext}
use Rattle.std.proofs.Common.{◌≡◌, ◌∙◌, ◌⊎◌, ◌+◌, ◌<◌, ◌≤◌, ◌&&◌, ◌||◌, ℕ, List, length, take, get_or, min, eqb, refl, sym, subst, arith, inl, inr, Bool, true, false, Option, None, Some, eq-eqb, eqb-true}
use Rattle.std.proofs.lemmas.Bool.{cases_lt}
use Rattle.std.proofs.lemmas.List.{take_all}
use Rattle.std.proofs.lemmas.List.Folds.{list_any_more}
use Rattle.pm_design.specs.declared.connection.Rule.{Rule}
use Rattle.pm_design.specs.declared.design.Kind.{Kind}
use Rattle.pm_edges.specs.Wrong.{IsLeast, is_wrong_at, is_wrong_rule, sooner_of}

without : (a b : Bool) → (a || (b && false)) ≡ a
without true b = refl
without false true = refl
without false false = refl

one_of : (a b : Bool) → (a || (b && true)) ≡ true → (a ≡ true) ⊎ (b ≡ true)
one_of true b h = inl refl
one_of false true h = inr refl
one_of false false h = absurd (cc)

by_first : (a b : Bool) → a ≡ true → (a || (b && true)) ≡ true
by_first true b h = refl
by_first false b h = absurd (cc)

by_second : (a b : Bool) → b ≡ true → (a || (b && true)) ≡ true
by_second true b h = refl
by_second false true h = refl
by_second false false h = absurd (cc)

-- one line more, if it counts
least_with : (old new : ℕ → Bool) (counts : Bool) (line : ℕ) (least : Option ℕ)
    → ((l : ℕ) → new l ≡ (old l || (eqb line l && counts))) → IsLeast old least
    → IsLeast new (sooner_of counts line least)
least_with old new false line least more so_far =
    subst (λ (f : ℕ → Bool). IsLeast f least) (fun_ext (λ l. sym (more l ∙ without (old l) (eqb line l)))) so_far
least_with old new true line None more so_far = record {
  passes = more line ∙ by_second (old line) (eqb line line) (eq-eqb line line refl);
  least = λ l h. go l (one_of (old l) (eqb line l) (sym (more l) ∙ h));
}
  where
    go : (l : ℕ) → (old l ≡ true) ⊎ (eqb line l ≡ true) → line ≤ l
    go l (inl h) = let n : old l ≡ false = so_far l in absurd (cc)
    go l (inr h) = let e : line ≡ l = eqb-true line l h in omega arith
least_with old new true line (Some other) more so_far = record {
  passes = passes (cases_lt other line);
  least = λ l h. go l (one_of (old l) (eqb line l) (sym (more l) ∙ h));
}
  where
    passes : (other < line) ⊎ (line ≤ other) → new (min other line) ≡ true
    passes (inl lt) = let e : other ≡ min other line = omega arith in
        subst (λ (m : ℕ). new m ≡ true) e (more other ∙ by_first (old other) (eqb line other) so_far.passes)
    passes (inr le) = let e : line ≡ min other line = omega arith in
        subst (λ (m : ℕ). new m ≡ true) e (more line ∙ by_second (old line) (eqb line line) (eq-eqb line line refl))

    go : (l : ℕ) → (old l ≡ true) ⊎ (eqb line l ≡ true) → min other line ≤ l
    go l (inl h) = let le : other ≤ l = so_far.least l h in omega arith
    go l (inr h) = let e : line ≡ l = eqb-true line l h in omega arith

pub least_more : (kind : Kind) (rules : List Rule) (i : ℕ) (least : Option ℕ) (d : Rule) → i < length rules
    → IsLeast (is_wrong_at kind (take i rules)) least
    → IsLeast (is_wrong_at kind (take (i + 1) rules))
    (sooner_of (is_wrong_rule kind (get_or rules i d)) (get_or rules i d).line least)
least_more kind rules i least d lt so_far =
    least_with (is_wrong_at kind (take i rules)) (is_wrong_at kind (take (i + 1) rules))
    (is_wrong_rule kind (get_or rules i d)) (get_or rules i d).line least
    (λ l. list_any_more (λ (r : Rule). eqb r.line l && is_wrong_rule kind r) rules i d lt) so_far

pub least_all : (kind : Kind) (rules : List Rule) (i : ℕ) (least : Option ℕ) → length rules ≤ i
    → IsLeast (is_wrong_at kind (take i rules)) least → IsLeast (is_wrong_at kind rules) least
least_all kind rules i least le so_far =
    subst (λ (l : List Rule). IsLeast (is_wrong_at kind l) least) (take_all i rules le) so_far

pub ruleset leasts = (least_all)
