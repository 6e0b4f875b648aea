-- Each net of two or more flat bits of a legal design has a driver.
use Rattle.std.proofs.Common.{◌≡◌, ◌∙◌, ◌+◌, ◌/◌, ◌<◌, ◌⊎◌, ◌++◌, ℕ, List, [], ◌∷◌, length, map, flat_map, get_or}
use Rattle.std.proofs.Common.{Contains, refl, sym, ap, subst, inl, inr, arith}
use Rattle.std.specs.List.{range_with_len}
use Rattle.std.proofs.lemmas.Bool.{cases_eq}
use Rattle.std.proofs.lemmas.List.{append_assoc, append-nil}
use Rattle.std.proofs.lemmas.List.Elements.{Contains-append_cases, Contains-append_left, Contains-append_right}
use Rattle.disjoint_sets.specs.Connected.{Connected}
use Rattle.disjoint_sets.specs.Partitions.{IsPartition}
use Rattle.disjoint_sets.specs.Unions.{united}
use Rattle.disjoint_sets.proofs.Chains.{connected_sym, connected_trans, single_classes, united_classes}
use Rattle.pm_design.specs.declared.body.Block.{Block}
use Rattle.pm_design.specs.declared.connection.Part.{Part}
use Rattle.pm_design.specs.declared.connection.Tie.{Tie}
use Rattle.pm_design.specs.declared.design.Design.{Design}
use Rattle.pm_design.specs.declared.plan.Plan.{Plan}
use Rattle.pm_design.specs.Runnable.{kind_at}
use Rattle.pm_instances.specs.Laid.{laid_out}
use Rattle.pm_nets.specs.declared.giver.Gift.{Gift}
use Rattle.pm_nets.specs.declared.giver.Giver.{Giver}
use Rattle.pm_nets.specs.declared.giver.Source.TheVariants as source
use Rattle.pm_nets.specs.Drivers.{driven_parts, drivers_in, drivers_of, inputs_from, part_bits, written_by}
use Rattle.pm_nets.specs.Ends.{end_of}
use Rattle.pm_nets.specs.Givers.{block_gifts, gift_givers, given_by, tie_gifts}
use Rattle.pm_nets.specs.Legal.{HasOneDriver, IsLegal, driving, driving_gifts, driving_in, input_givers}
use Rattle.pm_nets.specs.Links.{AreOneNet, links_of}
use Rattle.pm_nets.specs.Sites.{first_of}
use Rattle.pm_nets.specs.Written.{written_in}
use Rattle.pm_nets.proofs.DoubleBits.{half_end}
use Rattle.pm_nets.proofs.Legality.{blocks_have, gift_drives, one_driver_each, ties_have}
use Rattle.pm_nets.proofs.Members.{from_flat, from_map, from_range, in_cons, in_flat, in_head, in_map, in_none, in_tail}

-- a bound on the numbers of links
bound : List (ℕ × ℕ) → ℕ
bound [] = 0
bound (l ∷ ls) = l.0 + l.1 + 1 + bound ls

below_bound : (ls : List (ℕ × ℕ)) (p : ℕ × ℕ) → Contains ls p → (p.0 < bound ls) × (p.1 < bound ls)
unfolding bound
below_bound [] p has = absurd (in_none p has)
below_bound (l ∷ ls) p has = go (in_cons l ls p has) (below_bound ls p)
  where
    go : (l ≡ p) ⊎ Contains ls p → (Contains ls p → (p.0 < bound ls) × (p.1 < bound ls)) →
        (p.0 < l.0 + l.1 + 1 + bound ls) × (p.1 < l.0 + l.1 + 1 + bound ls)
    go (inl e) rest =
        let first : l.0 ≡ p.0 = ap (λ (q : ℕ × ℕ). q.0) e in
        let second : l.1 ≡ p.1 = ap (λ (q : ℕ × ℕ). q.1) e in
        (omega arith, omega arith)
    go (inr there) rest =
        let low = rest there in
        let first : p.0 < bound ls = low.0 in
        let second : p.1 < bound ls = low.1 in
        (omega arith, omega arith)

-- links have a partition
partition_from : (n : ℕ) (made links : List (ℕ × ℕ)) (leasts : List ℕ) → IsPartition n made leasts →
    ((p : ℕ × ℕ) → Contains links p → (p.0 < n) × (p.1 < n)) → (l : List ℕ) × IsPartition n (made ++ links) l
partition_from n made [] leasts are below =
    (leasts, subst (λ (ls : List (ℕ × ℕ)). IsPartition n ls leasts) (sym (append-nil made)) are)
partition_from n made (l ∷ ls) leasts are below =
    let ends = below l (in_head l ls) in
    let more = partition_from n (made ++ l ∷ []) ls (united leasts l.0 l.1)
    (united_classes n made leasts l.0 l.1 are ends.0 ends.1) (λ p has. below p (in_tail l ls p has)) in
    (more.0, subst (λ (x : List (ℕ × ℕ)). IsPartition n x more.0) (append_assoc made (l ∷ []) ls) more.1)

-- a chain leads from one number to another, or none does
cases_connected : (links : List (ℕ × ℕ)) (x y : ℕ) → Connected links x y ⊎ (Connected links x y → ⊥)
cases_connected links x y = go (cases_eq (get_or parts.0 x 0) (get_or parts.0 y 0))
  where
    n : ℕ
    n = bound links + x + y + 1

    parts : (l : List ℕ) × IsPartition (bound links + x + y + 1) links l
    parts = partition_from (bound links + x + y + 1) [] links (range_with_len 0 (bound links + x + y + 1))
        (single_classes (bound links + x + y + 1)) (λ p has. let low = below_bound links p has in
        let first : p.0 < bound links = low.0 in
        let second : p.1 < bound links = low.1 in
        (omega arith, omega arith))

    go : (get_or parts.0 x 0 ≡ get_or parts.0 y 0) ⊎ (get_or parts.0 x 0 ≡ get_or parts.0 y 0 → ⊥) →
        Connected links x y ⊎ (Connected links x y → ⊥)
    go (inl e) = inl (connected_trans links x (get_or parts.0 x 0) y (parts.1.member x (omega arith))
        (subst (λ (z : ℕ). Connected links z y) (sym e)
        (connected_sym links y (get_or parts.0 y 0) (parts.1.member y (omega arith)))))
    go (inr ne) = inr (λ chain. ne (parts.1.one x y chain))

-- one of the givers drives a net, or none does
cases_driven : (links : List (ℕ × ℕ)) (x : ℕ) (gs : List Giver) →
    ((g : Giver) × Contains gs g × Connected links x (g.end / 2)) ⊎
    ((g : Giver) → Contains gs g → Connected links x (g.end / 2) → ⊥)
cases_driven links x [] = inr (λ g has chain. in_none g has)
cases_driven links x (g ∷ gs) = go (cases_connected links x (g.end / 2)) (cases_driven links x gs)
  where
    go : Connected links x (g.end / 2) ⊎ (Connected links x (g.end / 2) → ⊥) →
        ((h : Giver) × Contains gs h × Connected links x (h.end / 2)) ⊎
        ((h : Giver) → Contains gs h → Connected links x (h.end / 2) → ⊥) →
        ((h : Giver) × Contains (g ∷ gs) h × Connected links x (h.end / 2)) ⊎
        ((h : Giver) → Contains (g ∷ gs) h → Connected links x (h.end / 2) → ⊥)
    go (inl chain) rest = inl (g, in_head g gs, chain)
    go (inr none) (inl found) = inl (found.0, in_tail g gs found.0 found.1, found.2)
    go (inr none) (inr others) = inr (λ h has chain. each h chain (in_cons g gs h has))
      where
        each : (h : Giver) → Connected links x (h.end / 2) → (g ≡ h) ⊎ Contains gs h → ⊥
        each h chain (inl e) = none (subst (λ (k : Giver). Connected links x (k.end / 2)) (sym e) chain)
        each h chain (inr there) = others h there chain

-- a driver that gives to a flat bit
abbrev GivesTo : Plan → ℕ → Type 0
GivesTo plan d = (g : Giver) × Contains (driving plan) g × (g.end / 2 ≡ d)

-- each driven flat bit has a driver that gives to it
driver_of : (plan : Plan) (d : ℕ) → Contains (drivers_of plan) d → GivesTo plan d
driver_of plan d has =
    go (Contains-append_cases (flat_map (part_bits plan 0) (inputs_from 0 (kind_at plan 0).signals))
    (flat_map (drivers_in plan) (range_with_len 0 (length plan.instances))) d has)
  where
    go : Contains (flat_map (part_bits plan 0) (inputs_from 0 (kind_at plan 0).signals)) d ⊎
        Contains (flat_map (drivers_in plan) (range_with_len 0 (length plan.instances))) d → GivesTo plan d
    go (inl top) =
        let found = from_flat (part_bits plan 0) (inputs_from 0 (kind_at plan 0).signals) d top in
        let bit = from_map (λ (t : ℕ). first_of plan 0 found.0 + t) (range_with_len 0 found.0.width) d found.2 in
        let gift : Gift = record { source = source.Port; part = found.0 } in
        let g : Giver = record { source = source.Port; end = end_of plan 0 found.0 bit.0 } in (
          g,
          Contains-append_left (input_givers plan)
              (flat_map (driving_in plan) (range_with_len 0 (length plan.instances))) g
              (in_flat (gift_givers plan 0) (given_by source.Port (inputs_from 0 (kind_at plan 0).signals)) gift g
              (in_map (λ (p : Part). record { source = source.Port; part = p })
              (inputs_from 0 (kind_at plan 0).signals) found.0 found.1)
              (in_map (λ (u : ℕ). record { source = source.Port; end = end_of plan 0 found.0 u })
              (range_with_len 0 found.0.width) bit.0 bit.1)),
          half_end found.0.owner (first_of plan 0 found.0 + bit.0) ∙ bit.2,
        )
    go (inr inner) =
        let at = from_flat (drivers_in plan) (range_with_len 0 (length plan.instances)) d inner in
        let found = from_flat (part_bits plan at.0) (driven_parts (kind_at plan at.0)) d at.2 in
        let bit = from_map (λ (t : ℕ). first_of plan at.0 found.0 + t) (range_with_len 0 found.0.width) d found.2 in
        let gift = gift_of at.0 found.0 (Contains-append_cases (map (λ t. t.part) (kind_at plan at.0).ties)
        (written_by (kind_at plan at.0).blocks) found.0 found.1) in
        given at.0 (from_range (length plan.instances) at.0 at.1) found.0 gift.0 gift.1 gift.2 bit.0
        (from_range found.0.width bit.0 bit.1) bit.2
      where
        gift_of : (i : ℕ) (p : Part) → Contains (map (λ t. t.part) (kind_at plan i).ties) p ⊎
            Contains (written_by (kind_at plan i).blocks) p →
            (gift : Gift) × Contains (driving_gifts (kind_at plan i)) gift × (gift.part ≡ p)
        gift_of i p (inl tied) =
            let tie = from_map (λ (t : Tie). t.part) (kind_at plan i).ties p tied in (
              record { source = source.Tie tie.1.0; part = tie.0.part },
              Contains-append_left (tie_gifts 0 (kind_at plan i).ties) (block_gifts 0 (kind_at plan i).blocks) _
                  (ties_have 0 tie.1.0 tie.1.0 (kind_at plan i).ties tie.0 tie.1.1 tie.1.2 (omega arith)),
              tie.2,
            )
        gift_of i p (inr written) =
            let block = from_flat (λ (b : Block). written_in b.body) (kind_at plan i).blocks p written in (
              record { source = source.Block block.1.0; part = p },
              Contains-append_right (tie_gifts 0 (kind_at plan i).ties) (block_gifts 0 (kind_at plan i).blocks) _
                  (blocks_have 0 block.1.0 block.1.0 (kind_at plan i).blocks block.0 p block.1.1 block.1.2 block.2
                  (omega arith)),
              refl,
            )

        given : (i : ℕ) → i < length plan.instances → (p : Part) (gift : Gift) →
            Contains (driving_gifts (kind_at plan i)) gift → gift.part ≡ p → (t : ℕ) → t < p.width →
            first_of plan i p + t ≡ d → GivesTo plan d
        given i lt p gift listed is t less at = (
          record { source = gift.source; end = end_of plan i gift.part t },
          gift_drives plan i gift t lt listed (subst (λ (q : Part). t < q.width) (sym is) less),
          half_end gift.part.owner (first_of plan i gift.part + t) ∙
              (ap (λ (q : Part). first_of plan i q + t) is ∙ at),
        )

pub net_has_driver : (design : Design) (x y : ℕ) → IsLegal design → (x ≡ y → ⊥) →
    AreOneNet (laid_out design) x y → HasOneDriver (laid_out design) x
net_has_driver design x y legal differ joined =
    go (cases_driven (links_of (laid_out design)) x (driving (laid_out design)))
  where
    go : ((g : Giver) × Contains (driving (laid_out design)) g × Connected (links_of (laid_out design)) x (g.end / 2)) ⊎
        ((g : Giver) → Contains (driving (laid_out design)) g → Connected (links_of (laid_out design)) x (g.end / 2) → ⊥)
        → HasOneDriver (laid_out design) x
    go (inl found) = record {
      driver = found.0;
      drives = (found.1, found.2);
      only = λ other drives. one_driver_each design other found.0 x legal drives (found.1, found.2);
    }
    go (inr none) = absurd (legal.driven x (record {
      other = y;
      differ = differ;
      joined = joined;
      none = λ d has chain.
          let g = driver_of (laid_out design) d has in
          none g.0 g.1 (subst (λ (z : ℕ). Connected (links_of (laid_out design)) x z) (sym g.2) chain);
    }))
