-- The scopes of instances in tables.
use Rattle.std.proofs.Common.{◌≡◌, ◌∙◌, ◌+◌, ◌<◌, ◌≤◌, ◌^◌, ℕ, zero, suc, List, [], ◌∷◌, ◌++◌, length, take, drop, nat_lt, arith, ap, ap₂, refl, subst, sym, ltb-true, add-one, drop-cons}
use Rattle.std.specs.Prelude.{IsTrue, slice_index_or}
use Rattle.std.specs.List.{list_all}
use Rattle.std.proofs.lemmas.Bool.{and_parts, and_from}
use Rattle.std.proofs.lemmas.List.{append_assoc, take_all, take_more}
use Rattle.pm_design.specs.declared.design.Design.{Design}
use Rattle.pm_design.specs.declared.design.Kind.{Kind}
use Rattle.pm_design.specs.declared.plan.FlatPart.{FlatPart}
use Rattle.pm_design.specs.declared.plan.Instance.{Instance}
use Rattle.pm_design.specs.declared.plan.Plan.{Plan}
use Rattle.pm_design.specs.declared.signal.Signal.{Signal}
use Rattle.pm_design.specs.Instances.{first_bits_from, first_bits_of}
use Rattle.pm_design.specs.Layout.{instance_of, layout_of, no_instance, scope_of, signals_from, signals_of}
use Rattle.pm_design.specs.Lookups.{kind_of, no_kind}
use Rattle.pm_block.specs.Tables.{ends_below, scopes_from, scopes_of}

scope_from : (plan : Plan) (first : ℕ) (xs : List Instance) (i : ℕ) → i < length xs → slice_index_or (scopes_from plan first xs) i [] ≡ scope_of plan (first + i)
scope_from plan first [] i lt = absurd (omega arith)
scope_from plan first (x ∷ xs) zero lt = ap (scope_of plan) (omega arith)
scope_from plan first (x ∷ xs) (suc i) lt =
    let here : first + 1 + i ≡ first + suc i = omega arith in
    scope_from plan (first + 1) xs i (omega arith) ∙ ap (scope_of plan) here

-- the scope of an instance is its own
pub scope_in_tables : (plan : Plan) (i : ℕ) → i < length plan.instances → slice_index_or (scopes_of plan) i [] ≡ scope_of plan i
scope_in_tables plan i lt =
    let here : 0 + i ≡ i = omega arith in
    scope_from plan 0 plan.instances i lt ∙ ap (scope_of plan) here

scopes_count : (plan : Plan) (first : ℕ) (xs : List Instance) → length (scopes_from plan first xs) ≡ length xs
scopes_count plan first [] = refl
scopes_count plan first (x ∷ xs) = ap (λ (n : ℕ). suc n) (scopes_count plan (first + 1) xs)

-- as many scopes as instances
pub as_many_scopes : (plan : Plan) → length (scopes_of plan) ≡ length plan.instances
as_many_scopes plan = scopes_count plan 0 plan.instances

-- one more first bit
pub one_more_bit : (bits : List ℕ) (bit first : ℕ) (ss rest all : List Signal) (s : Signal) → ss ≡ s ∷ rest → bits ++ first_bits_from bit ss ≡ first_bits_from first all → (bits ++ bit ∷ []) ++ first_bits_from (bit + s.width) rest ≡ first_bits_from first all
one_more_bit bits bit first ss rest all s split so_far =
    append_assoc bits (bit ∷ []) (first_bits_from (bit + s.width) rest) ∙ (ap (λ (xs : List Signal). bits ++ first_bits_from bit xs) (sym split) ∙ so_far)

-- the signals behind one more
pub ends_behind : (bit : ℕ) (ss rest : List Signal) (s : Signal) → ss ≡ s ∷ rest → IsTrue (list_all ends_below (signals_from bit ss)) → (bit + s.width < 2 ^ 32) × IsTrue (list_all ends_below (signals_from (bit + s.width) rest))
ends_behind bit ss rest s split all =
    let parts = and_parts (nat_lt (bit + s.width) (2 ^ 32)) (list_all ends_below (signals_from (bit + s.width) rest)) (subst (λ (xs : List Signal). IsTrue (list_all ends_below (signals_from bit xs))) split all) in
    (ltb-true _ _ parts.0, parts.1)

-- an element and what is behind it
pub split_at : {X : Type 0} (xs : List X) (i : ℕ) (x : X) → i < length xs → x ≡ slice_index_or xs i x → drop i xs ≡ x ∷ drop (i + 1) xs
split_at xs i x lt is = rw (add-one, drop-cons xs i x) (ap (λ y. y ∷ drop (suc i) xs) (sym is))

ends_of_both : (xs ys : List FlatPart) → IsTrue (list_all ends_below (xs ++ ys)) → IsTrue (list_all ends_below xs) × IsTrue (list_all ends_below ys)
ends_of_both [] ys all = (refl, all)
ends_of_both (x ∷ xs) ys all =
    let parts = and_parts (ends_below x) (list_all ends_below (xs ++ ys)) all in
    let rest = ends_of_both xs ys parts.1 in
    (and_from (ends_below x) (list_all ends_below xs) parts.0 rest.0, rest.1)

ends_in : (design : Design) (is : List Instance) (i : ℕ) (d : Instance) → i < length is → IsTrue (list_all ends_below (signals_of design is)) → IsTrue (list_all ends_below (signals_from (slice_index_or is i d).first_bit (kind_of design (slice_index_or is i d).kind).signals))
ends_in design [] i d lt all = absurd (omega arith)
ends_in design (y ∷ is) zero d lt all = (ends_of_both (signals_from y.first_bit (kind_of design y.kind).signals) (signals_of design is) all).0
ends_in design (y ∷ is) (suc i) d lt all = ends_in design is i d (omega arith) (ends_of_both (signals_from y.first_bit (kind_of design y.kind).signals) (signals_of design is) all).1

-- the signals of an instance end as those of all do
pub ends_at : (plan : Plan) (i : ℕ) → i < length plan.instances → IsTrue (list_all ends_below (layout_of plan).signals) → IsTrue (list_all ends_below (signals_from (instance_of plan i).first_bit (kind_of plan.design (instance_of plan i).kind).signals))
ends_at plan i lt all = ends_in plan.design plan.instances i (no_instance plan) lt all

-- past the end
pub past : {X : Type 0} (xs : List X) (i : ℕ) (d : X) → length xs ≤ i → slice_index_or xs i d ≡ d
past [] i d le = refl
past (x ∷ xs) zero d le = absurd (omega arith)
past (x ∷ xs) (suc i) d le = past xs i d (omega arith)

-- no kind, no signals
pub bits_without_kind : (design : Design) (x : Instance) → length design.kinds ≤ x.kind → first_bits_of design x ≡ []
bits_without_kind design x le = ap (λ (k : Kind). first_bits_from x.first_bit k.signals) (past design.kinds x.kind no_kind le)

-- no instance, no signals
pub bits_without_instance : (plan : Plan) (i : ℕ) → length plan.instances ≤ i → first_bits_of plan.design (instance_of plan i) ≡ []
bits_without_instance plan i le =
    ap (first_bits_of plan.design) (past plan.instances i (no_instance plan) le) ∙ bits_without_kind plan.design (no_instance plan) (omega arith)

-- the scope of one more instance
pub one_more_scope : (plan : Plan) (scopes : List (List (List ℕ))) (i : ℕ) → scopes ≡ take i (scopes_of plan) → i < length plan.instances → scopes ++ scope_of plan i ∷ [] ≡ take (i + 1) (scopes_of plan)
one_more_scope plan scopes i so_far lt =
    let there : i < length (scopes_of plan) = rw (as_many_scopes plan) lt in
    let next : take (i + 1) (scopes_of plan) ≡ take i (scopes_of plan) ++ slice_index_or (scopes_of plan) i [] ∷ [] = take_more (scopes_of plan) i [] there in
    ap₂ (λ xs x. xs ++ x ∷ []) so_far (sym (scope_in_tables plan i lt)) ∙ sym next

-- the scopes of all instances
pub all_scopes : (plan : Plan) (scopes : List (List (List ℕ))) (i : ℕ) → scopes ≡ take i (scopes_of plan) → length plan.instances ≤ i → scopes ≡ scopes_of plan
all_scopes plan scopes i so_far le =
    let there : length (scopes_of plan) ≤ i = rw (as_many_scopes plan) le in
    so_far ∙ take_all i (scopes_of plan) there
