-- The least flat bit of a net of a component to which two give.
use Rattle.std.proofs.Common.{◌≡◌, ◌⊎◌, ◌+◌, ◌*◌, ◌/◌, ◌<◌, ◌≤◌, ℕ, zero, suc, List, [], length}
use Rattle.std.proofs.Common.{get_or, flat_map}
use Rattle.std.proofs.Common.{Option, None, Some, refl, sym, ap, subst, arith, inl, inr}
use Rattle.std.specs.Prelude.{IsTrue}
use Rattle.std.specs.List.{list_all, range_with_len}
use Rattle.std.proofs.lemmas.Bool.{cases_lt}
use Rattle.std.proofs.lemmas.List.{get_or_default}
use Rattle.disjoint_sets.specs.Partitions.{IsPartition}
use Rattle.pm_design.specs.declared.design.Design.{Design}
use Rattle.pm_design.specs.declared.design.Kind.{Kind}
use Rattle.pm_design.specs.declared.plan.Instance.{Instance}
use Rattle.pm_design.specs.declared.plan.Plan.{Plan}
use Rattle.pm_design.specs.Elaborated.{IsElaboratedKind, is_before}
use Rattle.pm_design.specs.Instances.{instances_of}
use Rattle.pm_design.specs.Layout.{instance_of}
use Rattle.pm_design.specs.Lookups.{kind_of, no_kind}
use Rattle.pm_design.specs.Runnable.{kind_at}
use Rattle.pm_design.specs.Sound.{IsSound, is_sound_block}
use Rattle.pm_instances.specs.Laid.{laid_out}
use Rattle.pm_instances.proofs.EachKind.{before_more, ordered}
use Rattle.pm_instances.proofs.Numbers.{item_passes}
use Rattle.pm_instances.proofs.Placed.{is_laid}
use Rattle.pm_nets.specs.declared.giver.Giver.{Giver}
use Rattle.pm_nets.specs.declared.site.Site.{Site}
use Rattle.pm_nets.specs.Ends.{end_at, ends_joined}
use Rattle.pm_nets.specs.Givers.{AreGiven, FindsDouble, Gives, HasTwo, IsLeastTwo, givers_in, givers_of}
use Rattle.pm_nets.specs.Sites.{IsSite}
use Rattle.pm_nets.proofs.FirstGivers.{least_two, no_two}

-- half of an end is its flat bit
pub half_end : (owner bit : ℕ) → end_at owner bit / 2 ≡ bit
half_end zero bit = omega arith
half_end (suc c) bit = omega arith

pub whole_end : (e : ℕ) → (owner : ℕ) × (end_at owner (e / 2) ≡ e)
whole_end e = go (cases_lt (2 * (e / 2)) e)
  where
    go : (2 * (e / 2) < e) ⊎ (e ≤ 2 * (e / 2)) → (owner : ℕ) × (end_at owner (e / 2) ≡ e)
    go (inl odd) = let is : 2 * (e / 2) + 1 ≡ e = omega arith in (1, is)
    go (inr even) = let is : 2 * (e / 2) ≡ e = omega arith in (0, is)

pub found_double : (plan : Plan) (n : ℕ) (leasts : List ℕ) (first : List (Option Giver)) (e : ℕ) →
    IsPartition n (ends_joined plan) leasts → AreGiven leasts (givers_of plan) first (Some e)
    → FindsDouble plan (Some (e / 2))
found_double plan n leasts first e are given = record {
  double = (owner.0, subst (λ (x : ℕ). HasTwo (ends_joined plan) (givers_of plan) x) (sym owner.1) two.two);
  least = λ y double.
      let low : e ≤ end_at double.0 y = two.least (end_at double.0 y) double.1 in
      let half : end_at double.0 y / 2 ≡ y = half_end double.0 y in
      omega arith;
}
  where
    owner : (o : ℕ) × (end_at o (e / 2) ≡ e)
    owner = whole_end e

    two : IsLeastTwo (ends_joined plan) (givers_of plan) e
    two = least_two n (ends_joined plan) leasts (givers_of plan) first (Some e) e are given
        (λ g has. subst (λ (k : ℕ). g.end < k) are.size (given.below g has)) refl

pub none_double : (plan : Plan) (n : ℕ) (leasts : List ℕ) (first : List (Option Giver)) →
    IsPartition n (ends_joined plan) leasts → AreGiven leasts (givers_of plan) first None → FindsDouble plan None
none_double plan n leasts first are given y double =
    no_two n (ends_joined plan) leasts (givers_of plan) first None are given refl (end_at double.0 y) double.1

pub double_below : (plan : Plan) (n : ℕ) (leasts : List ℕ) (first : List (Option Giver)) (e : ℕ) →
    IsPartition (2 * n) (ends_joined plan) leasts → AreGiven leasts (givers_of plan) first (Some e) → e / 2 < n
double_below plan n leasts first e are given =
    let two = given.two e refl in
    let at : get_or leasts two.first.end 0 ≡ e = two.first_at in
    let low : get_or leasts two.first.end 0 ≤ two.first.end = are.least two.first.end in
    let known : two.first.end < length leasts = given.below two.first two.one in
    let size : length leasts ≡ 2 * n = are.size in
    omega arith

pub all_given : (design : Design) (site : Site) → IsSite design site
    → (leasts : List ℕ) (start now : List (Option Giver))
    (found : Option ℕ) → AreGiven leasts [] start None →
    Gives leasts start now None found
    (flat_map (givers_in (laid_out design)) (range_with_len 0 (length site.instances))) →
    AreGiven leasts (givers_of (laid_out design)) now found
all_given design site is leasts start now found none gives =
    subst (λ (k : ℕ). AreGiven leasts (flat_map (givers_in (laid_out design)) (range_with_len 0 k)) now found)
    (ap length is.instances) (gives.given [] none)

-- what is known of an instance's kind
pub record IsPlacedKind (design : Design) (kind : Kind) : Type 0 where
  pub elaborated : (index : ℕ) × IsElaboratedKind design index kind
  pub known : IsTrue (list_all (is_before (length design.kinds)) kind.children)
  pub blocks : IsTrue (list_all (is_sound_block design kind) kind.blocks)

pub placed_kind : (design : Design) (site : Site) → IsSound design → IsSite design site → (i : ℕ) (kind : Kind) →
    i < length site.instances → kind ≡ kind_at (laid_out design) i → IsPlacedKind design kind
placed_kind design site sound is i kind lt at = subst (λ (k : Kind). IsPlacedKind design k) (sym at) (record {
  elaborated = (number, sound.elaborated.kinds number known);
  known = before_more (kind_of design number).children number (length design.kinds) few
      (ordered design sound.elaborated number known);
  blocks =
      item_passes (λ k. list_all (is_sound_block design k) k.blocks) design.kinds number (kind_of design number)
      sound.blocks known (get_or_default design.kinds number no_kind (kind_of design number) known);
})
  where
    number : ℕ
    number = (instance_of (laid_out design) i).kind

    there : i < length (instances_of design)
    there = subst (λ (l : List Instance). i < length l) is.instances lt

    known : number < length design.kinds
    known = (is_laid design sound.elaborated).kinds i there

    few : number ≤ length design.kinds
    few = let lt : number < length design.kinds = known in omega arith
