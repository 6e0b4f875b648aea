-- That the depth of a whole is tested by testing its parts.
use Rattle.std.proofs.Common.{◌≡◌, ◌⊎◌, ◌≤◌, ◌+◌, ◌-◌, ◌∙◌, ◌∷◌, [], ℕ, List, Option, map, suc, Bool, true, false, nat_le, max, zero, arith, ap, inl, inr, refl, rules, sym}
use Rattle.std.proofs.Math.Nat.{le-max_left, le-max_right, max-le}
use Rattle.std.specs.Prelude.{option_map}
use Rattle.std.proofs.lemmas.Bool.{both_ways, cases_Bool, le-leb, leb-false, leb-true, lt-leb}
use Rattle.pm_syn.specs.declared.expression.Expr.{Expr}
use Rattle.pm_syn.specs.declared.expression.Expr.TheViews as expr
use Rattle.pm_syn.specs.declared.expression.Expr.TheFolds
use Rattle.pm_syn.specs.declared.statement.Par.{Par}
use Rattle.pm_syn.specs.declared.statement.Stmt.{Stmt}
use Rattle.pm_syn.specs.declared.statement.Stmt as leaf
use Rattle.pm_syn.specs.declared.statement.Stmt.TheFolds as TheFolds'
use Rattle.pm_syn.specs.declared.statement.Stmt.TheViews as stmt
use Rattle.pm_grammar.specs.Depths.{depth_of, depth_of_body, depth_of_option, depth_of_parameter, depth_of_statement, greatest}

-- tests of the same answer
same_test : (a m b n : ℕ) → (a ≤ m → b ≤ n) → (b ≤ n → a ≤ m) → nat_le a m ≡ nat_le b n
same_test a m b n to from = elim (cases_Bool (nat_le a m)) [
  | inl is ↦ is ∙ sym (le-leb b n (to (leb-true a m is)))
  | inr never ↦ elim (cases_Bool (nat_le b n)) [
    | inl is ↦ absurd (both_ways (nat_le a m) never (le-leb a m (from (leb-true b n is))))
    | inr other ↦ never ∙ sym other
  ]
]

-- if the first part is within the limit, the second decides
pub both_then : (a b m : ℕ) (first second : Bool) → first ≡ nat_le a m → first ≡ true → second ≡ nat_le b m → second ≡ nat_le (max a b) m
both_then a b m first second one is two =
    let within = leb-true a m (sym one ∙ is) in
    two ∙ same_test b m (max a b) m (λ h. max-le within h) (λ h. (let part = le-max_right a b in omega (arith, part, h)))

-- if the first part isn't, both aren't
pub both_else : (a b m : ℕ) (first : Bool) → first ≡ nat_le a m → first ≡ false → first ≡ nat_le (max a b) m
both_else a b m first one is =
    let beyond = leb-false a m (sym one ∙ is) in
    let part = le-max_left a b in
    is ∙ sym (lt-leb (max a b) m (omega (arith, part, beyond)))

-- a whole is one deeper than its parts
pub deeper : (d limit : ℕ) (test : Bool) → (limit ≡ 0 → ⊥) → test ≡ nat_le d (limit - 1) → test ≡ nat_le (1 + d) limit
deeper d zero test some is = absurd (some refl)
deeper d (suc m) test some is = is ∙ same_test d (suc m - 1) (1 + d) (suc m) (λ h. omega (arith, h)) (λ h. omega (arith, h))

-- the greatest of three, in two ways
no_deeper : (a b c : ℕ) → greatest (a ∷ b ∷ c ∷ []) ≤ max (max a b) c
no_deeper a b c =
    let left = le-max_left a b in
    let right = le-max_right a b in
    let both = le-max_left (max a b) c in
    max-le (omega (arith, left, both)) (max-le (omega (arith, right, both)) (max-le (le-max_right (max a b) c) (omega arith)))

as_deep : (a b c : ℕ) → max (max a b) c ≤ greatest (a ∷ b ∷ c ∷ [])
as_deep a b c =
    let first = le-max_left a (max b (max c 0)) in
    let others = le-max_right a (max b (max c 0)) in
    let second = le-max_left b (max c 0) in
    let last = le-max_right b (max c 0) in
    let third = le-max_left c 0 in
    max-le (max-le first (omega (arith, second, others))) (omega (arith, third, last, others))

-- the depth of an expression with three parts is tested so
pub three_within : (tree a b c : Expr) (limit : ℕ) (test : Bool) → (tree ≡ expr.Cond a b c) ⊎ (tree ≡ expr.Slice a b c) → test ≡ nat_le (1 + max (max (depth_of a) (depth_of b)) (depth_of c)) limit
    → test ≡ nat_le (depth_of tree) limit
three_within tree a b c limit test is same =
    let less = no_deeper (depth_of a) (depth_of b) (depth_of c) in
    let more = as_deep (depth_of a) (depth_of b) (depth_of c) in
    let whole : 1 + greatest (depth_of a ∷ depth_of b ∷ depth_of c ∷ []) ≡ depth_of tree = elim is [ inl one ↦ search (TheFolds.the_lemmas, one) | inr one ↦ search (TheFolds.the_lemmas, one) ] in
    same ∙ same_test _ limit (1 + greatest (depth_of a ∷ depth_of b ∷ depth_of c ∷ [])) limit (λ h. omega (arith, h, less)) (λ h. omega (arith, h, more)) ∙ ap (λ (n : ℕ). nat_le n limit) whole

-- ---- statements

pub note_within : (s : Stmt) (target note : Expr) (value : Option Expr) (limit : ℕ) (test : Bool) → s ≡ leaf.Note target note value
    → test ≡ nat_le (max (max (depth_of target) (depth_of note)) (depth_of_option value)) limit → test ≡ nat_le (depth_of_statement s) limit
note_within s target note value limit test is same =
    let less = no_deeper (depth_of target) (depth_of note) (depth_of_option value) in
    let more = as_deep (depth_of target) (depth_of note) (depth_of_option value) in
    let whole : greatest (depth_of target ∷ depth_of note ∷ depth_of_option value ∷ []) ≡ depth_of_statement s = search (TheFolds'.the_lemmas, is) in
    same ∙ same_test _ limit (greatest (depth_of target ∷ depth_of note ∷ depth_of_option value ∷ [])) limit (λ h. omega (arith, h, less)) (λ h. omega (arith, h, more)) ∙ ap (λ (n : ℕ). nat_le n limit) whole

pub definition_within : (s : Stmt) (name : List ℕ) (has_self : Bool) (parameters : List Par) (note : Option Expr) (body : Option Stmt) (limit : ℕ) (test : Bool) → s ≡ stmt.Def name has_self parameters note body
    → test ≡ nat_le (max (max (greatest (map depth_of_parameter parameters)) (depth_of_option note)) (depth_of_body (option_map depth_of_statement body))) limit → test ≡ nat_le (depth_of_statement s) limit
definition_within s name has_self parameters note body limit test is same =
    let first = greatest (map depth_of_parameter parameters) in
    let second = depth_of_option note in
    let third = depth_of_body (option_map depth_of_statement body) in
    let made : max third (max second first) ≡ depth_of_statement (stmt.Def name has_self parameters note body) = search (rules, TheFolds'.the_lemmas) in
    let whole : max third (max second first) ≡ depth_of_statement s = made ∙ sym (ap depth_of_statement is) in
    let left = le-max_left first second in
    let right = le-max_right first second in
    let both = le-max_left (max first second) third in
    let last = le-max_right (max first second) third in
    let front = le-max_left third (max second first) in
    let others = le-max_right third (max second first) in
    let middle = le-max_left second first in
    let end = le-max_right second first in
    let less : max third (max second first) ≤ max (max first second) third = max-le last (max-le (omega (arith, right, both)) (omega (arith, left, both))) in
    let more : max (max first second) third ≤ max third (max second first) = max-le (max-le (omega (arith, end, others)) (omega (arith, middle, others))) front in
    same ∙ same_test _ limit (max third (max second first)) limit (λ h. omega (arith, h, less)) (λ h. omega (arith, h, more)) ∙ ap (λ (n : ℕ). nat_le n limit) whole
