-- Levels by their ranks, and what passes from a level to the next.
use Rattle.std.proofs.Common.{◌≡◌, ◌≤◌, ◌<◌, ◌+◌, ◌-◌, ◌∙◌, ℕ, suc, zero, true, if◌then◌else◌, ◌==◌, refl, sym, ap, subst, arith}
use Rattle.std.proofs.lemmas.Bool.{false≢true}
use Rattle.pm_grammar.specs.Levels.{groups_left, rank, tighter}
use Rattle.pm_grammar.specs.declared.level.Level.{Level}
use Rattle.pm_grammar.specs.declared.level.Level.TheVariants as level

-- the level of a rank
abbrev pub level_at : ℕ → Level
level_at n =
    if n == 0 then level.Conditional
    else if n == 1 then level.Disjunction
    else if n == 2 then level.Conjunction
    else if n == 3 then level.Negation
    else if n == 4 then level.Comparison
    else if n == 5 then level.BitOr
    else if n == 6 then level.BitXor
    else if n == 7 then level.BitAnd
    else if n == 8 then level.Shift
    else if n == 9 then level.Sum
    else if n == 10 then level.Product
    else if n == 11 then level.Unary
    else if n == 12 then level.Power
    else if n == 13 then level.Postfix
    else level.Atom

pub level_at-rank : (l : Level) → level_at (rank l) ≡ l
level_at-rank level.Conditional = refl
level_at-rank level.Disjunction = refl
level_at-rank level.Conjunction = refl
level_at-rank level.Negation = refl
level_at-rank level.Comparison = refl
level_at-rank level.BitOr = refl
level_at-rank level.BitXor = refl
level_at-rank level.BitAnd = refl
level_at-rank level.Shift = refl
level_at-rank level.Sum = refl
level_at-rank level.Product = refl
level_at-rank level.Unary = refl
level_at-rank level.Power = refl
level_at-rank level.Postfix = refl
level_at-rank level.Atom = refl

pub same_level : (l m : Level) → rank l ≡ rank m → l ≡ m
same_level l m same = sym (level_at-rank l) ∙ ap level_at same ∙ level_at-rank m

pub rank_within : (l : Level) → rank l ≤ 14
rank_within level.Conditional = omega arith
rank_within level.Disjunction = omega arith
rank_within level.Conjunction = omega arith
rank_within level.Negation = omega arith
rank_within level.Comparison = omega arith
rank_within level.BitOr = omega arith
rank_within level.BitXor = omega arith
rank_within level.BitAnd = omega arith
rank_within level.Shift = omega arith
rank_within level.Sum = omega arith
rank_within level.Product = omega arith
rank_within level.Unary = omega arith
rank_within level.Power = omega arith
rank_within level.Postfix = omega arith
rank_within level.Atom = omega arith

pub rank-tighter : (l : Level) → rank l < 14 → rank (tighter l) ≡ rank l + 1
rank-tighter level.Conditional below = refl
rank-tighter level.Disjunction below = refl
rank-tighter level.Conjunction below = refl
rank-tighter level.Negation below = refl
rank-tighter level.Comparison below = refl
rank-tighter level.BitOr below = refl
rank-tighter level.BitXor below = refl
rank-tighter level.BitAnd below = refl
rank-tighter level.Shift below = refl
rank-tighter level.Sum below = refl
rank-tighter level.Product below = refl
rank-tighter level.Unary below = refl
rank-tighter level.Power below = refl
rank-tighter level.Postfix below = refl
rank-tighter level.Atom below = absurd (omega arith)

-- the tighter level isn't looser
pub tighter_within : (l : Level) → rank l ≤ rank (tighter l)
tighter_within level.Conditional = omega arith
tighter_within level.Disjunction = omega arith
tighter_within level.Conjunction = omega arith
tighter_within level.Negation = omega arith
tighter_within level.Comparison = omega arith
tighter_within level.BitOr = omega arith
tighter_within level.BitXor = omega arith
tighter_within level.BitAnd = omega arith
tighter_within level.Shift = omega arith
tighter_within level.Sum = omega arith
tighter_within level.Product = omega arith
tighter_within level.Unary = omega arith
tighter_within level.Power = omega arith
tighter_within level.Postfix = omega arith
tighter_within level.Atom = omega arith

-- operators that group to the left have looser levels than signs
pub groups_below : (l : Level) → groups_left l ≡ true → rank l < 11
groups_below level.Conditional groups = absurd (false≢true groups)
groups_below level.Disjunction groups = omega arith
groups_below level.Conjunction groups = omega arith
groups_below level.Negation groups = absurd (false≢true groups)
groups_below level.Comparison groups = absurd (false≢true groups)
groups_below level.BitOr groups = omega arith
groups_below level.BitXor groups = omega arith
groups_below level.BitAnd groups = omega arith
groups_below level.Shift groups = omega arith
groups_below level.Sum groups = omega arith
groups_below level.Product groups = omega arith
groups_below level.Unary groups = absurd (false≢true groups)
groups_below level.Power groups = absurd (false≢true groups)
groups_below level.Postfix groups = absurd (false≢true groups)
groups_below level.Atom groups = absurd (false≢true groups)

-- what passes from each level to the tighter one passes to all tighter ones
tightened_by : (P : Level → Type 0) → ((l : Level) → P l → P (tighter l)) → (n : ℕ) (l m : Level) → rank m ≡ rank l + n → P l → P m
tightened_by P each zero l m apart held = subst P (same_level l m (omega arith)) held
tightened_by P each (suc n) l m apart held =
    let below = rank-tighter l (omega (arith, rank_within m)) in
    tightened_by P each n (tighter l) m (omega arith) (each l held)

pub tightened : (P : Level → Type 0) → ((l : Level) → P l → P (tighter l)) → (l m : Level) → rank l ≤ rank m → P l → P m
tightened P each l m within held = tightened_by P each (rank m - rank l) l m (omega arith) held

-- what passes to each level from the tighter one passes from all tighter ones
loosened_by : (P : Level → Type 0) → ((l : Level) → P (tighter l) → P l) → (n : ℕ) (l m : Level) → rank m ≡ rank l + n → P m → P l
loosened_by P each zero l m apart held = subst P (same_level m l (omega arith)) held
loosened_by P each (suc n) l m apart held =
    let below = rank-tighter l (omega (arith, rank_within m)) in
    each l (loosened_by P each n (tighter l) m (omega arith) held)

pub loosened : (P : Level → Type 0) → ((l : Level) → P (tighter l) → P l) → (l m : Level) → rank l ≤ rank m → P m → P l
loosened P each l m within held = loosened_by P each (rank m - rank l) l m (omega arith) held
