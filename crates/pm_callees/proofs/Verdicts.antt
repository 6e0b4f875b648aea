-- The caller ports, once the methods of each set are counted.
use Rattle.std.proofs.Common.{◌≡◌, ◌<◌, ◌≤◌, ℕ, List, length, map, get_or, true, refl, sym, subst, inl, arith, Contains}
use Rattle.pm_design.specs.declared.design.Design.{Design}
use Rattle.pm_design.specs.declared.plan.Plan.{Plan}
use Rattle.pm_design.specs.Calls.{End, Link, links_of}
use Rattle.pm_design.specs.Elaborated.{IsElaborated}
use Rattle.pm_design.specs.Instances.{instances_of}
use Rattle.pm_instances.specs.Laid.{laid_out}
use Rattle.disjoint_sets.specs.Partitions.{IsPartition}
use Rattle.pm_callees.specs.declared.search.Port.{Port}
use Rattle.pm_callees.specs.declared.site.Site.{Site}
use Rattle.pm_callees.specs.declared.tally.Methods.{Methods}
use Rattle.pm_callees.specs.declared.tally.Methods.TheVariants as methods
use Rattle.pm_callees.specs.Callees.{HasCallee, IsFirstWithTwo, IsFirstWithout}
use Rattle.pm_callees.specs.Chains.{LeadsTo}
use Rattle.pm_callees.specs.Ends.{IsPort}
use Rattle.pm_callees.specs.Numbers.{IsSite, end_at, first_of, number_of, numbered}
use Rattle.pm_callees.specs.Search.{IsFirstPort, methods_at}
use Rattle.pm_callees.specs.Sets.{IsSingle}
use Rattle.pm_callees.specs.Tally.{AreCounted, Counted, IsSeen}
use Rattle.pm_callees.proofs.Counting.{counted_same}
use Rattle.pm_callees.proofs.EndNumbers.{end_counted}
use Rattle.pm_callees.proofs.LinkLists.{AreThere, links_there}
use Rattle.pm_callees.proofs.Numbered.{chained_set, set_chained}

-- what is known of a design's sets of methods and caller ports
pub record AreTold (design : Design) (leasts : List ℕ) (tally : List Methods) : Type 0 where
  pub elaborated : IsElaborated design
  pub sets : IsPartition (first_of (laid_out design) (length (instances_of design)))
      (map (numbered (laid_out design)) (links_of (laid_out design))) leasts
  pub counted : AreCounted (laid_out design) leasts (length (instances_of design)) 0 tally

pub are_told : (design : Design) (site : Site) (leasts same : List ℕ) (counts tally : List Methods) →
    IsElaborated design → IsSite design site →
    IsPartition site.count (map (numbered (laid_out design)) (links_of (laid_out design))) leasts →
    AreCounted (laid_out design) leasts (length site.instances) 0 counts → same ≡ leasts → tally ≡ counts →
    AreTold design same tally
are_told design site leasts same counts tally elaborated is are counted sets_same tally_same =
    subst (λ (l : List ℕ). AreTold design l tally) (sym sets_same)
    (subst (λ (t : List Methods). AreTold design leasts t) (sym tally_same) (record {
      elaborated = elaborated;
      sets = subst (λ (n : ℕ). IsPartition n (map (numbered (laid_out design)) (links_of (laid_out design))) leasts)
          is.count are;
      counted = subst (λ (l : List _). AreCounted (laid_out design) leasts (length l) 0 counts) is.instances counted;
    }))

-- the methods of a port's set are those that it leads to
pub port_counted : (design : Design) (leasts : List ℕ) (tally : List Methods) → AreTold design leasts tally →
    (p : End) → IsPort (laid_out design) p →
    Counted (LeadsTo (laid_out design) p) (methods_at (laid_out design) leasts tally p)
port_counted design leasts tally told p port =
    counted_same (IsSeen plan leasts (length (instances_of design)) 0 root) (LeadsTo plan p) to from
    (methods_at plan leasts tally p) (told.counted.each root within)
  where
    plan : Plan
    plan = laid_out design

    root : ℕ
    root = get_or leasts (number_of plan p) 0

    count : ℕ
    count = first_of plan (length (instances_of design))

    links : List Link
    links = links_of plan

    each : (l : Link) → Contains links l → AreThere plan l
    each = links_there design told.elaborated

    within : root < length tally
    within =
        let own : number_of plan p < count = end_counted plan p port.1 in
        let low : root ≤ number_of plan p = told.sets.least (number_of plan p) in
        let size : length tally ≡ length leasts = told.counted.size in
        let all : length leasts ≡ count = told.sets.size in
        omega arith

    to : (m : End) → IsSeen plan leasts (length (instances_of design)) 0 root m → LeadsTo plan p m
    to m seen = (
      seen.0,
      set_chained plan links count leasts each told.sets p m port.1 seen.0.1 (end_counted plan p port.1)
          (end_counted plan m seen.0.1) seen.2,
    )

    from : (m : End) → LeadsTo plan p m → IsSeen plan leasts (length (instances_of design)) 0 root m
    from m leads = (leads.0, inl leads.0.1.0, chained_set plan links count leasts told.sets p m leads.1)

callee_by : (plan : Plan) (p : End) (c : Methods) → Counted (LeadsTo plan p) c → (c ≡ methods.Absent → ⊥) →
    HasCallee plan p
callee_by plan p methods.Absent counted ne = absurd (ne refl)
callee_by plan p methods.Single counted ne = (counted.one, counted.within)
callee_by plan p methods.Several counted ne = (counted.one, counted.one_in)

single_by : (plan : Plan) (p : End) (c : Methods) → Counted (LeadsTo plan p) c → (c ≡ methods.Absent → ⊥) →
    (c ≡ methods.Several → ⊥) → IsSingle (LeadsTo plan p)
single_by plan p methods.Absent counted ne few = absurd (ne refl)
single_by plan p methods.Single counted ne few = counted
single_by plan p methods.Several counted ne few = absurd (few refl)

-- the first port that leads to no method
pub first_without : (design : Design) (leasts : List ℕ) (tally : List Methods) → AreTold design leasts tally →
    (port : Port) → IsFirstPort (laid_out design) leasts tally methods.Absent port.instance port.number →
    IsFirstWithout (laid_out design) (end_at port.instance true port.number)
first_without design leasts tally told port found =
    let plan = laid_out design in
    let p = end_at port.instance true port.number in
    record {
      port = found.port;
      none = subst (λ (c : Methods). Counted (LeadsTo plan p) c) found.counted
          (port_counted design leasts tally told p found.port);
      first = λ q is before. callee_by plan q (methods_at plan leasts tally q)
          (port_counted design leasts tally told q is) (found.first q is before);
    }

-- the first port that leads to two methods
pub first_with_two : (design : Design) (leasts : List ℕ) (tally : List Methods) → AreTold design leasts tally →
    (port : Port) → ((q : End) → IsPort (laid_out design) q →
    methods_at (laid_out design) leasts tally q ≡ methods.Absent → ⊥) →
    IsFirstPort (laid_out design) leasts tally methods.Several port.instance port.number →
    IsFirstWithTwo (laid_out design) (end_at port.instance true port.number)
first_with_two design leasts tally told port none found =
    let plan = laid_out design in
    let p = end_at port.instance true port.number in
    record {
      port = found.port;
      two = subst (λ (c : Methods). Counted (LeadsTo plan p) c) found.counted
          (port_counted design leasts tally told p found.port);
      first = λ q is before. single_by plan q (methods_at plan leasts tally q)
          (port_counted design leasts tally told q is) (none q is) (found.first q is before);
      each = λ q is. callee_by plan q (methods_at plan leasts tally q)
          (port_counted design leasts tally told q is) (none q is);
    }

-- each port leads to one method
pub all_single : (design : Design) (leasts : List ℕ) (tally : List Methods) → AreTold design leasts tally →
    ((q : End) → IsPort (laid_out design) q → methods_at (laid_out design) leasts tally q ≡ methods.Absent → ⊥) →
    ((q : End) → IsPort (laid_out design) q → methods_at (laid_out design) leasts tally q ≡ methods.Several → ⊥) →
    (p : End) → IsPort (laid_out design) p → IsSingle (LeadsTo (laid_out design) p)
all_single design leasts tally told none few p is =
    single_by (laid_out design) p (methods_at (laid_out design) leasts tally p)
    (port_counted design leasts tally told p is) (none p is) (few p is)

-- no port is found, whatever the sets and the tally are called
pub none_moved : (plan : Plan) (leasts other : List ℕ) (tally more : List Methods) (wanted : Methods) →
    other ≡ leasts → more ≡ tally →
    ((q : End) → IsPort plan q → methods_at plan leasts tally q ≡ wanted → ⊥) → (q : End) → IsPort plan q →
    methods_at plan other more q ≡ wanted → ⊥
none_moved plan leasts other tally more wanted sets_same tally_same none q port at =
    none q port
    (subst (λ (l : List ℕ). methods_at plan l tally q ≡ wanted) sets_same
    (subst (λ (t : List Methods). methods_at plan other t q ≡ wanted) tally_same at))
