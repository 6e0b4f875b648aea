-- The laws of legal designs: a net has at most one driver, and what is driven names no net twice.
use Rattle.std.proofs.Common.{◌≡◌, ◌∙◌, ◌+◌, ◌/◌, ◌<◌, ℕ, zero, suc, List, [], ◌∷◌, length, flat_map}
use Rattle.std.proofs.Common.{get_or, Contains, sym, ap, subst, arith}
use Rattle.std.specs.List.{range_with_len}
use Rattle.std.proofs.lemmas.List.Elements.{Contains-append_left, Contains-append_right}
use Rattle.disjoint_sets.proofs.Chains.{connected_sym, connected_trans}
use Rattle.pm_design.specs.declared.body.Block.{Block}
use Rattle.pm_design.specs.declared.connection.Part.{Part}
use Rattle.pm_design.specs.declared.connection.Tie.{Tie}
use Rattle.pm_design.specs.declared.design.Design.{Design}
use Rattle.pm_design.specs.declared.plan.Plan.{Plan}
use Rattle.pm_design.specs.Instances.{instances_of}
use Rattle.pm_design.specs.Runnable.{kind_at}
use Rattle.pm_design.specs.Sound.{IsSound}
use Rattle.pm_instances.specs.Laid.{laid_out}
use Rattle.pm_nets.specs.declared.giver.Gift.{Gift}
use Rattle.pm_nets.specs.declared.giver.Giver.{Giver}
use Rattle.pm_nets.specs.declared.giver.Source.TheVariants as source
use Rattle.pm_nets.specs.Answers.{IsAccepted}
use Rattle.pm_nets.specs.Ends.{end_of}
use Rattle.pm_nets.specs.Givers.{block_gifts, gift_givers, given_by, tie_gifts}
use Rattle.pm_nets.specs.Legal.{Drives, IsLegal, NamesNetsOnce, NamesPorts, driving, driving_gifts, driving_in}
use Rattle.pm_nets.specs.Legal.{input_givers}
use Rattle.pm_nets.specs.Links.{AreOneNet, links_of}
use Rattle.pm_nets.specs.Sites.{first_of}
use Rattle.pm_nets.specs.Written.{written_in}
use Rattle.pm_nets.proofs.DoubleBits.{half_end}
use Rattle.pm_nets.proofs.Members.{in_flat, in_head, in_map, in_range, in_tail}
use Rattle.pm_nets.proofs.Seeing.{net_driver}

pub accepted_legal : (design : Design) → IsSound design → NamesPorts design → IsAccepted design → IsLegal design
accepted_legal design sound ports accepted = record {
  sound = sound;
  ports = ports;
  single = accepted.0.0.0.1;
  driven = accepted.0.0.1;
}

pub one_driver_each : (design : Design) (a b : Giver) (x : ℕ) → IsLegal design → Drives (laid_out design) a x →
    Drives (laid_out design) b x → a ≡ b
one_driver_each design a b x legal first second =
    net_driver design legal.sound legal.ports legal.single a b first.0 second.0
    (connected_trans (links_of (laid_out design)) (a.end / 2) x (b.end / 2)
    (connected_sym (links_of (laid_out design)) x (a.end / 2) first.1) second.1)

-- a tie's gift, and a block's, are among those of their kind
pub ties_have : (n k m : ℕ) (ts : List Tie) (tie : Tie) → k < length ts → get_or ts k tie ≡ tie → m ≡ n + k →
    Contains (tie_gifts n ts) (record { source = source.Tie m; part = tie.part })
ties_have n k m [] tie lt at is = absurd (omega arith)
ties_have n zero m (t ∷ ts) tie lt at is =
    let first : n ≡ m = omega arith in
    subst (λ (x : Tie). Contains (tie_gifts n (t ∷ ts)) (record { source = source.Tie m; part = x.part })) at
    (subst (λ (j : ℕ). Contains (tie_gifts n (t ∷ ts)) (record { source = source.Tie j; part = t.part })) first
    (in_head _ (tie_gifts (n + 1) ts)))
ties_have n (suc k) m (t ∷ ts) tie lt at is =
    in_tail _ (tie_gifts (n + 1) ts) _ (ties_have (n + 1) k m ts tie (omega arith) at (omega arith))

pub blocks_have : (n k m : ℕ) (bs : List Block) (block : Block) (part : Part) → k < length bs →
    get_or bs k block ≡ block → Contains (written_in block.body) part → m ≡ n + k →
    Contains (block_gifts n bs) (record { source = source.Block m; part = part })
blocks_have n k m [] block part lt at has is = absurd (omega arith)
blocks_have n zero m (b ∷ bs) block part lt at has is =
    let first : n ≡ m = omega arith in
    Contains-append_left (given_by (source.Block n) (written_in b.body)) (block_gifts (n + 1) bs) _
    (subst (λ (j : ℕ). Contains (given_by (source.Block n) (written_in b.body))
    (record { source = source.Block j; part = part })) first
    (in_map (λ (p : Part). record { source = source.Block n; part = p }) (written_in b.body) part
    (subst (λ (x : Block). Contains (written_in x.body) part) (sym at) has)))
blocks_have n (suc k) m (b ∷ bs) block part lt at has is =
    Contains-append_right (given_by (source.Block n) (written_in b.body)) (block_gifts (n + 1) bs) _
    (blocks_have (n + 1) k m bs block part (omega arith) at has (omega arith))

-- what is given drives
pub gift_drives : (plan : Plan) (i : ℕ) (gift : Gift) (t : ℕ) → i < length plan.instances →
    Contains (driving_gifts (kind_at plan i)) gift → t < gift.part.width →
    Contains (driving plan) (record { source = gift.source; end = end_of plan i gift.part t })
gift_drives plan i gift t lt has less =
    Contains-append_right (input_givers plan) (flat_map (driving_in plan) (range_with_len 0 (length plan.instances))) _
    (in_flat (driving_in plan) (range_with_len 0 (length plan.instances)) i _
    (in_range (length plan.instances) i lt)
    (in_flat (gift_givers plan i) (driving_gifts (kind_at plan i)) gift _ has
    (in_map (λ (u : ℕ). record { source = gift.source; end = end_of plan i gift.part u })
    (range_with_len 0 gift.part.width) t (in_range gift.part.width t less))))

-- so it names no net twice
gift_once : (design : Design) (i : ℕ) (gift : Gift) → IsLegal design → i < length (instances_of design) →
    Contains (driving_gifts (kind_at (laid_out design) i)) gift → NamesNetsOnce (laid_out design) i gift.part
gift_once design i gift legal lt has t u first second chain =
    let own = half_end gift.part.owner (first_of (laid_out design) i gift.part + t) in
    let other = half_end gift.part.owner (first_of (laid_out design) i gift.part + u) in
    let same = net_driver design legal.sound legal.ports legal.single
    (record { source = gift.source; end = end_of (laid_out design) i gift.part t })
    (record { source = gift.source; end = end_of (laid_out design) i gift.part u })
    (gift_drives (laid_out design) i gift t lt has first) (gift_drives (laid_out design) i gift u lt has second)
    (subst (λ (x : ℕ). AreOneNet (laid_out design) x (end_of (laid_out design) i gift.part u / 2)) (sym own)
    (subst (λ (x : ℕ). AreOneNet (laid_out design) (first_of (laid_out design) i gift.part + t) x) (sym other) chain)) in
    one (first_of (laid_out design) i gift.part) t u
    (sym own ∙ (ap (λ (g : Giver). g.end / 2) same ∙ other))
  where
    one : (first t u : ℕ) → first + t ≡ first + u → t ≡ u
    one first t u e = omega arith

pub tie_once : (design : Design) (i : ℕ) (tie : Tie) → IsLegal design → i < length (instances_of design) →
    Contains (kind_at (laid_out design) i).ties tie → NamesNetsOnce (laid_out design) i tie.part
tie_once design i tie legal lt has =
    gift_once design i (record { source = source.Tie has.0; part = tie.part }) legal lt
    (Contains-append_left (tie_gifts 0 (kind_at (laid_out design) i).ties)
    (block_gifts 0 (kind_at (laid_out design) i).blocks) _
    (ties_have 0 has.0 has.0 (kind_at (laid_out design) i).ties tie has.1 has.2 (omega arith)))

pub write_once : (design : Design) (i : ℕ) (block : Block) (part : Part) → IsLegal design →
    i < length (instances_of design) → Contains (kind_at (laid_out design) i).blocks block →
    Contains (written_in block.body) part → NamesNetsOnce (laid_out design) i part
write_once design i block part legal lt has written =
    gift_once design i (record { source = source.Block has.0; part = part }) legal lt
    (Contains-append_right (tie_gifts 0 (kind_at (laid_out design) i).ties)
    (block_gifts 0 (kind_at (laid_out design) i).blocks) _
    (blocks_have 0 has.0 has.0 (kind_at (laid_out design) i).blocks block part has.1 has.2 written (omega arith)))
