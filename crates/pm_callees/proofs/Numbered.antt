-- Chains of connections are chains of numbers.
use Rattle.std.proofs.Common.{◌≡◌, ◌∙◌, ◌<◌, ℕ, List, length, map, get_or, refl, sym, ap, subst, Contains}
use Rattle.std.proofs.lemmas.List.{get_or-map, get_or_default, length-map}
use Rattle.disjoint_sets.specs.Connected.{Connected}
use Rattle.disjoint_sets.specs.Connected.Connected.{Itself as Stay, Forward as Go, Backward as Back}
use Rattle.disjoint_sets.specs.Partitions.{IsPartition}
use Rattle.disjoint_sets.proofs.Chains.{connected_sym, connected_trans}
use Rattle.pm_design.specs.declared.plan.Plan.{Plan}
use Rattle.pm_design.specs.Calls.{End, Link}
use Rattle.pm_callees.specs.Chains.{Chained, link}
use Rattle.pm_callees.specs.Chains.Chained.{Itself, Forward, Backward}
use Rattle.pm_callees.specs.Ends.{IsThere}
use Rattle.pm_callees.specs.Numbers.{number_of, numbered}
use Rattle.pm_callees.proofs.EndNumbers.{ends_apart}

contains_map : {X Y : Type 0} (f : X → Y) (xs : List X) (x : X) → Contains xs x → Contains (map f xs) (f x)
contains_map f xs x has = (
  has.0,
  subst (λ (n : ℕ). has.0 < n) (sym (length-map xs f)) has.1,
  get_or-map f xs has.0 x (f x) has.1 ∙ ap f has.2,
)

contains_source : {X Y : Type 0} (f : X → Y) (xs : List X) (d : X) (y : Y) → Contains (map f xs) y →
    (x : X) × Contains xs x × (f x ≡ y)
contains_source f xs d y has =
    let lt : has.0 < length xs = subst (λ (n : ℕ). has.0 < n) (length-map xs f) has.1 in (
      get_or xs has.0 d,
      (has.0, lt, get_or_default xs has.0 (get_or xs has.0 d) d lt),
      sym (get_or-map f xs has.0 d y lt) ∙ has.2,
    )

pub chain_numbers : (plan : Plan) (links : List Link) (a b : End) → Chained links a b →
    Connected (map (numbered plan) links) (number_of plan a) (number_of plan b)
chain_numbers plan links _ _ (Itself a) = Stay (number_of plan a)
chain_numbers plan links _ _ (Forward a b c has rest) =
    Go (number_of plan a) (number_of plan b) (number_of plan c) (contains_map (numbered plan) links (link a b) has)
    (chain_numbers plan links b c rest)
chain_numbers plan links _ _ (Backward a b c has rest) =
    Back (number_of plan a) (number_of plan b) (number_of plan c) (contains_map (numbered plan) links (link b a) has)
    (chain_numbers plan links b c rest)

-- an end that a number leads to
record Leads (plan : Plan) (links : List Link) (a : End) (y : ℕ) : Type 0 where
  pub end : End
  pub there : IsThere plan end
  pub number : number_of plan end ≡ y
  pub chain : Chained links a end

numbers_chain : (plan : Plan) (links : List Link) →
    ((l : Link) → Contains links l → IsThere plan l.a × IsThere plan l.b) → (x y : ℕ) →
    Connected (map (numbered plan) links) x y → (a : End) → IsThere plan a → number_of plan a ≡ x →
    Leads plan links a y
numbers_chain plan links each _ _ (Stay x) a there at =
    record { end = a; there = there; number = at; chain = Itself a }
numbers_chain plan links each _ _ (Go x y z has rest) a there at =
    let source = contains_source (numbered plan) links (link a a) (x, y) has in
    let ends = each source.0 source.1 in
    let same : source.0.a ≡ a =
    ends_apart plan source.0.a a ends.0 there (ap (λ (p : ℕ × ℕ). p.0) source.2 ∙ sym at) in
    let found = numbers_chain plan links each y z rest source.0.b ends.1 (ap (λ (p : ℕ × ℕ). p.1) source.2) in
    record {
      end = found.end;
      there = found.there;
      number = found.number;
      chain = Forward a source.0.b found.end
          (subst (λ (e : End). Contains links (link e source.0.b)) same source.1) found.chain;
    }
numbers_chain plan links each _ _ (Back x y z has rest) a there at =
    let source = contains_source (numbered plan) links (link a a) (y, x) has in
    let ends = each source.0 source.1 in
    let same : source.0.b ≡ a =
    ends_apart plan source.0.b a ends.1 there (ap (λ (p : ℕ × ℕ). p.1) source.2 ∙ sym at) in
    let found = numbers_chain plan links each y z rest source.0.a ends.0 (ap (λ (p : ℕ × ℕ). p.0) source.2) in
    record {
      end = found.end;
      there = found.there;
      number = found.number;
      chain = Backward a source.0.a found.end
          (subst (λ (e : End). Contains links (link source.0.a e)) same source.1) found.chain;
    }

-- ends of one set are chained
pub set_chained : (plan : Plan) (links : List Link) (count : ℕ) (leasts : List ℕ) →
    ((l : Link) → Contains links l → IsThere plan l.a × IsThere plan l.b) →
    IsPartition count (map (numbered plan) links) leasts → (a b : End) → IsThere plan a → IsThere plan b →
    number_of plan a < count → number_of plan b < count →
    get_or leasts (number_of plan b) 0 ≡ get_or leasts (number_of plan a) 0 → Chained links a b
set_chained plan links count leasts each are a b at bt la lb same =
    let up : Connected (map (numbered plan) links) (number_of plan a) (get_or leasts (number_of plan a) 0) =
    are.member (number_of plan a) la in
    let down : Connected (map (numbered plan) links) (get_or leasts (number_of plan b) 0) (number_of plan b) =
    connected_sym (map (numbered plan) links) (number_of plan b) (get_or leasts (number_of plan b) 0)
    (are.member (number_of plan b) lb) in
    let whole : Connected (map (numbered plan) links) (number_of plan a) (number_of plan b) =
    connected_trans (map (numbered plan) links) (number_of plan a) (get_or leasts (number_of plan a) 0)
    (number_of plan b) up
    (subst (λ (n : ℕ). Connected (map (numbered plan) links) n (number_of plan b)) same down) in
    let found = numbers_chain plan links each (number_of plan a) (number_of plan b) whole a at refl in
    subst (λ (e : End). Chained links a e) (ends_apart plan found.end b found.there bt found.number) found.chain

-- chained ends are of one set
pub chained_set : (plan : Plan) (links : List Link) (count : ℕ) (leasts : List ℕ) →
    IsPartition count (map (numbered plan) links) leasts → (a b : End) → Chained links a b →
    get_or leasts (number_of plan b) 0 ≡ get_or leasts (number_of plan a) 0
chained_set plan links count leasts are a b chain =
    sym (are.one (number_of plan a) (number_of plan b) (chain_numbers plan links a b chain))
