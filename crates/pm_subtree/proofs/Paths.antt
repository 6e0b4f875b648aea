-- Instances by their paths.
use Rattle.std.proofs.Common.{◌≡◌, ◌≢◌, ◌∙◌, ◌<◌, ◌++◌, ℕ, List, length, sym, ap, subst, codes}
use Rattle.std.proofs.Common.{Option, None, Some}
use Rattle.pm_design.specs.declared.design.Design.{Design}
use Rattle.pm_design.specs.declared.plan.Instance.{Instance}
use Rattle.pm_design.specs.declared.design.Kind.{Kind}
use Rattle.pm_design.specs.Elaborated.{IsElaborated, IsElaboratedKind}
use Rattle.pm_design.specs.Lookups.{kind_of}
use Rattle.pm_design.specs.Sound.{IsSound}
use Rattle.pm_subtree.specs.Subtree.{IsAt, IsKindAt, IsSubtree, HasInstance, HasItsInstances, with_top}
use Rattle.pm_subtree.specs.Ways.{Leads, LeadsTo}
use Rattle.pm_subtree.specs.Ways.Leads.{Here, Down}
use Rattle.pm_subtree.proofs.Elements.{tail_same}
use Rattle.pm_subtree.proofs.Ways.{WayTo, way_to, AtEnd, at_end, end_known, ways_join}
use Rattle.pm_subtree.proofs.Apart.{way_back, one_end, is_below}

-- the way from the top to an instance
way_from_top : (design : Design) → IsElaborated design → (path : List ℕ) (i : Instance) → IsAt design path i →
    WayTo design (codes "s") design.top i
way_from_top design elaborated path i at =
    way_to (length design.kinds) design elaborated None (codes "s") (record { instance = 0; bit = 0; state = 0 })
    design.top i elaborated.top elaborated.top at.among

pub way_of : (design : Design) → IsElaborated design → (rest : List ℕ) (i : Instance) →
    IsAt design (codes "s" ++ rest) i → Leads design design.top rest i.kind
way_of design elaborated rest i at =
    let way : WayTo design (codes "s") design.top i = way_from_top design elaborated (codes "s" ++ rest) i at in
    subst (λ (r : List ℕ). Leads design design.top r i.kind)
    (tail_same 115 115 way.rest rest (sym way.is ∙ at.named)) way.leads

way_of_kind : (design : Design) → IsElaborated design → (rest : List ℕ) (k : ℕ) → HasInstance design (codes "s" ++ rest) k →
    Leads design design.top rest k
way_of_kind design elaborated rest k has =
    subst (λ (end : ℕ). Leads design design.top rest end) has.of_kind
    (way_of design elaborated rest has.instance has.at)

pub instance_at_way : (design : Design) → IsElaborated design → (rest : List ℕ) (k : ℕ) →
    Leads design design.top rest k → HasInstance design (codes "s" ++ rest) k
instance_at_way design elaborated rest k leads =
    let end : AtEnd _ (codes "s" ++ rest) k =
    at_end (length design.kinds) design elaborated None (codes "s") (record { instance = 0; bit = 0; state = 0 })
    design.top rest k elaborated.top elaborated.top leads in
    record { instance = end.instance; at = record { among = end.among; named = end.named }; of_kind = end.kind }

-- what a search from the top finds
pub kind_is : (design : Design) → IsElaborated design → (path rest : List ℕ) (found : Option ℕ) →
    path ≡ codes "s" ++ rest → LeadsTo design design.top rest found → IsKindAt design path found
kind_is design elaborated path rest None is leads = λ i at.
    leads i.kind (way_of design elaborated rest i (subst (λ (p : List ℕ). IsAt design p i) is at))
kind_is design elaborated path rest (Some k) is leads =
    let has : HasInstance design (codes "s" ++ rest) k = instance_at_way design elaborated rest k leads in (
      (has.instance, subst (λ (p : List ℕ). IsAt design p has.instance) (sym is) has.at),
      λ i at. one_end design elaborated design.top rest i.kind k elaborated.top
          (way_of design elaborated rest i (subst (λ (p : List ℕ). IsAt design p i) is at)) leads,
    )

-- paths begin at the top
pub no_kind_at : (design : Design) → IsElaborated design → (path : List ℕ) → ((rest : List ℕ) → path ≢ codes "s" ++ rest) →
    IsKindAt design path None
no_kind_at design elaborated path other i at =
    let way : WayTo design (codes "s") design.top i = way_from_top design elaborated path i at in
    other way.rest (sym at.named ∙ way.is)

pub subtree_is : (design subtree : Design) (path : List ℕ) (k : ℕ) → IsKindAt design path (Some k) →
    subtree ≡ with_top design k → IsSubtree design path (Some subtree)
subtree_is design subtree path k has is = (has.0, λ i at. is ∙ ap (with_top design) (sym (has.1 i at)))

-- ways don't depend on the top
pub with_other_top : (design : Design) (t k : ℕ) (rest : List ℕ) (end : ℕ) → Leads design k rest end →
    Leads (with_top design t) k rest end
with_other_top design t _ _ _ (Here k rest is) = Here k rest is
with_other_top design t _ _ _ (Down k rest below c end among is leads) =
    Down k rest below c end among is (with_other_top design t c.kind below end leads)

pub with_own_top : (design : Design) (t k : ℕ) (rest : List ℕ) (end : ℕ) → Leads (with_top design t) k rest end →
    Leads design k rest end
with_own_top design t _ _ _ (Here k rest is) = Here k rest is
with_own_top design t _ _ _ (Down k rest below c end among is leads) =
    Down k rest below c end among is (with_own_top design t c.kind below end leads)

kind_elaborated : (design : Design) (t k : ℕ) (kind : Kind) → IsElaboratedKind design k kind →
    IsElaboratedKind (with_top design t) k kind
kind_elaborated design t k kind elaborated = record {
  named = elaborated.named;
  sized = record {
    signals = elaborated.sized.signals;
    states = elaborated.sized.states;
    blocks = elaborated.sized.blocks;
    instances = elaborated.sized.instances;
    few_instances = elaborated.sized.few_instances;
  };
  reset = elaborated.reset;
  signals = elaborated.signals;
  states = elaborated.states;
  children = elaborated.children;
  methods = elaborated.methods;
  callers = elaborated.callers;
  joins = elaborated.joins;
  ties = elaborated.ties;
  binds = elaborated.binds;
  blocks = elaborated.blocks;
  rules = elaborated.rules;
}

pub elaborated_below : (design : Design) → IsElaborated design → (t : ℕ) → t < length design.kinds →
    IsElaborated (with_top design t)
elaborated_below design elaborated t known = record {
  top = known;
  shapes = elaborated.shapes;
  kinds = λ k lt. kind_elaborated design t k (kind_of design k) (elaborated.kinds k lt);
}

-- the instances of the design below an instance
its_instances : (design : Design) → IsElaborated design → (path start : List ℕ) (t : ℕ) → path ≡ codes "s" ++ start →
    Leads design design.top start t → HasItsInstances design path (with_top design t)
its_instances design elaborated path start t is leads = record {
  within = λ rest k has.
      subst (λ (p : List ℕ). HasInstance design (p ++ rest) k) (sym is)
      (instance_at_way design elaborated (start ++ rest) k
      (ways_join design design.top start rest t k leads
      (with_own_top design t t rest k (way_of_kind (with_top design t) below rest k has))));
  below = λ rest k at has.
      let long : Leads design design.top (start ++ rest) k =
      way_of_kind design elaborated (start ++ rest) k
      (subst (λ (p : List ℕ). HasInstance design (p ++ rest) k) is has) in
      instance_at_way (with_top design t) below rest k
      (with_other_top design t t rest k
      (way_back design elaborated design.top start t rest k elaborated.top at leads long));
  rooted = λ p k has.
      let way : WayTo (with_top design t) (codes "s") t has.instance =
      way_from_top (with_top design t) below p has.instance has.at in
      (way.rest, is_below (with_top design t) t way.rest has.instance.kind way.leads, sym has.at.named ∙ way.is);
}
  where
    below : IsElaborated (with_top design t)
    below = elaborated_below design elaborated t (end_known design elaborated design.top start t elaborated.top leads)

pub subtree_instances : (design : Design) (path : List ℕ) (subtree : Design) → IsElaborated design →
    IsSubtree design path (Some subtree) → HasItsInstances design path subtree
subtree_instances design path subtree elaborated has =
    let i : Instance = has.0.0 in
    let at : IsAt design path i = has.0.1 in
    let way : WayTo design (codes "s") design.top i = way_from_top design elaborated path i at in
    subst (HasItsInstances design path) (sym (has.1 i at))
    (its_instances design elaborated path way.rest i.kind (sym at.named ∙ way.is) way.leads)

sound_below : (design : Design) → IsSound design → (t : ℕ) → t < length design.kinds → IsSound (with_top design t)
sound_below design sound t known = record {
  elaborated = elaborated_below design sound.elaborated t known;
  blocks = sound.blocks;
  methods = sound.methods;
}

pub subtree_sound : (design : Design) (path : List ℕ) (subtree : Design) → IsSound design →
    IsSubtree design path (Some subtree) → IsSound subtree
subtree_sound design path subtree sound has =
    let i : Instance = has.0.0 in
    let at : IsAt design path i = has.0.1 in
    let way : WayTo design (codes "s") design.top i = way_from_top design sound.elaborated path i at in
    subst IsSound (sym (has.1 i at))
    (sound_below design sound i.kind
    (end_known design sound.elaborated design.top way.rest i.kind sound.elaborated.top way.leads))
