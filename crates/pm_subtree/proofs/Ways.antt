-- Instances and the ways to them.
use Rattle.std.proofs.Common.{◌≡◌, ◌∙◌, ◌⊎◌, ◌<◌, ◌++◌, ℕ, zero, suc, List, [], ◌∷◌, length}
use Rattle.std.proofs.Common.{refl, sym, ap, subst, arith, inl, inr, Option, Some, codes}
use Rattle.std.specs.Prelude.{Contains}
use Rattle.std.proofs.lemmas.List.{append_assoc, append-nil}
use Rattle.std.proofs.lemmas.List.Elements.{Contains-append_left, Contains-append_right, Contains-append_cases}
use Rattle.pm_design.specs.declared.design.Child.{Child}
use Rattle.pm_design.specs.declared.design.Design.{Design}
use Rattle.pm_design.specs.declared.plan.Instance.{Instance}
use Rattle.pm_design.specs.Elaborated.{IsElaborated}
use Rattle.pm_design.specs.Instances.{Place, behind, behind_one, instances_at, of_children}
use Rattle.pm_design.specs.Lookups.{kind_of}
use Rattle.pm_instances.specs.Adding.{instance_here}
use Rattle.pm_instances.proofs.EachKind.{ordered}
use Rattle.pm_instances.proofs.Levels.{child_at}
use Rattle.pm_instances.proofs.Numbers.{child_kind}
use Rattle.pm_subtree.specs.Ways.{Leads}
use Rattle.pm_subtree.specs.Ways.Leads.{Here, Down}
use Rattle.pm_subtree.proofs.Elements.{contains_first, contains_later, contains_cases, contains_none}

-- a child's kind is before its parent's
pub child_before : (design : Design) → IsElaborated design → (k : ℕ) (c : Child) → k < length design.kinds →
    Contains (kind_of design k).children c → c.kind < k
child_before design elaborated k c known (i, lt, is) =
    child_kind (kind_of design k).children k i c (ordered design elaborated k known) lt (sym is)

-- an instance is one of a child's
record Found (f : Place → Child → List Instance) (cs : List Child) (i : Instance) : Type 0 where
  pub child : Child
  pub place : Place
  pub among : Contains cs child
  pub within : Contains (f place child) i

in_children : (design : Design) (f : Place → Child → List Instance) (at : Place) (cs : List Child) (i : Instance) →
    Contains (of_children design f at cs) i → Found f cs i
in_children design f at [] i has = absurd (contains_none i has)
in_children design f at (c ∷ cs) i has =
    go (in_children design f (behind design (f at c) at) cs i)
    (Contains-append_cases (f at c) (of_children design f (behind design (f at c) at) cs) i has)
  where
    go : (Contains (of_children design f (behind design (f at c) at) cs) i → Found f cs i) →
        Contains (f at c) i ⊎ Contains (of_children design f (behind design (f at c) at) cs) i → Found f (c ∷ cs) i
    go rest (inl here) = record { child = c; place = at; among = contains_first c cs; within = here }
    go rest (inr there) =
        let found : Found f cs i = rest there in
        record {
          child = found.child;
          place = found.place;
          among = contains_later c cs found.child found.among;
          within = found.within;
        }

-- a child's instances are among those of all children
record Takes (design : Design) (f : Place → Child → List Instance) (at : Place) (cs : List Child) (c : Child) : Type 0 where
  pub place : Place
  pub all : (i : Instance) → Contains (f place c) i → Contains (of_children design f at cs) i

of_child : (design : Design) (f : Place → Child → List Instance) (at : Place) (cs : List Child) (c : Child) →
    Contains cs c → Takes design f at cs c
of_child design f at [] c has = absurd (contains_none c has)
of_child design f at (d ∷ cs) c has =
    go (of_child design f (behind design (f at d) at) cs c) (contains_cases d cs c has)
  where
    rest : List Instance
    rest = of_children design f (behind design (f at d) at) cs

    go : (Contains cs c → Takes design f (behind design (f at d) at) cs c) →
        (d ≡ c) ⊎ Contains cs c → Takes design f at (d ∷ cs) c
    go later (inl e) = record {
      place = at;
      all = λ i within. Contains-append_left (f at d) rest i
          (subst (λ (x : Child). Contains (f at x) i) (sym e) within);
    }
    go later (inr there) =
        let takes : Takes design f (behind design (f at d) at) cs c = later there in
        record {
          place = takes.place;
          all = λ i within. Contains-append_right (f at d) rest i (takes.all i within);
        }

-- the way to an instance
pub record WayTo (design : Design) (path : List ℕ) (k : ℕ) (i : Instance) : Type 0 where
  pub rest : List ℕ
  pub is : i.path ≡ path ++ rest
  pub leads : Leads design k rest i.kind

pub way_to : (n : ℕ) (design : Design) → IsElaborated design →
    (parent : Option ℕ) (path : List ℕ) (at : Place) (k : ℕ) (i : Instance) → k < n → k < length design.kinds →
    Contains (instances_at n design parent path at k) i → WayTo design path k i
way_to zero design elaborated parent path at k i l known has = absurd (omega arith)
way_to (suc n) design elaborated parent path at k i l known has =
    go (λ c here less within. way_to n design elaborated (Some at.instance) (path ++ codes "." ++ c.name) here c.kind i
    (omega arith) (omega arith) within)
    (contains_cases (instance_here design parent path at k) rest i has)
  where
    rest : List Instance
    rest = of_children design (child_at n design at.instance path) (behind_one (kind_of design k) at)
        (kind_of design k).children

    go : ((c : Child) (here : Place) → c.kind < k → Contains (child_at n design at.instance path here c) i →
        WayTo design (path ++ codes "." ++ c.name) c.kind i) →
        (instance_here design parent path at k ≡ i) ⊎ Contains rest i → WayTo design path k i
    go deeper (inl here) = record {
      rest = [];
      is = sym (ap (λ (x : Instance). x.path) here) ∙ sym (append-nil path);
      leads = subst (λ (end : ℕ). Leads design k [] end) (ap (λ (x : Instance). x.kind) here) (Here k [] refl);
    }
    go deeper (inr there) =
        let found = in_children design (child_at n design at.instance path) (behind_one (kind_of design k) at)
        (kind_of design k).children i there in
        let less : found.child.kind < k = child_before design elaborated k found.child known found.among in
        let way : WayTo design (path ++ codes "." ++ found.child.name) found.child.kind i =
        deeper found.child found.place less found.within in
        record {
          rest = codes "." ++ found.child.name ++ way.rest;
          is = way.is ∙ (append_assoc (path ++ codes ".") found.child.name way.rest ∙
              append_assoc path (codes ".") (found.child.name ++ way.rest));
          leads = Down k (codes "." ++ found.child.name ++ way.rest) way.rest found.child i.kind found.among refl way.leads;
        }

-- an instance at the end of a way
pub record AtEnd (is : List Instance) (path : List ℕ) (end : ℕ) : Type 0 where
  pub instance : Instance
  pub among : Contains is instance
  pub named : instance.path ≡ path
  pub kind : instance.kind ≡ end

pub at_end : (n : ℕ) (design : Design) → IsElaborated design →
    (parent : Option ℕ) (path : List ℕ) (at : Place) (k : ℕ) (rest : List ℕ) (end : ℕ) → k < n →
    k < length design.kinds →
    Leads design k rest end → AtEnd (instances_at n design parent path at k) (path ++ rest) end
at_end zero design elaborated parent path at k rest end l known leads = absurd (omega arith)
at_end (suc n) design elaborated parent path at _ _ _ l known (Here k rest is) = record {
  instance = instance_here design parent path at k;
  among = contains_first (instance_here design parent path at k) (of_children design (child_at n design at.instance path)
      (behind_one (kind_of design k) at) (kind_of design k).children);
  named = sym (append-nil path) ∙ ap (λ (r : List ℕ). path ++ r) (sym is);
  kind = refl;
}
at_end (suc n) design elaborated parent path at _ _ _ l known (Down k rest below c end among is leads) =
    let less : c.kind < k = child_before design elaborated k c known among in
    let takes = of_child design (child_at n design at.instance path) (behind_one (kind_of design k) at)
    (kind_of design k).children c among in
    let deeper : AtEnd (child_at n design at.instance path takes.place c) ((path ++ codes "." ++ c.name) ++ below) end =
    at_end n design elaborated (Some at.instance) (path ++ codes "." ++ c.name) takes.place c.kind below end
    (omega arith) (omega arith) leads in
    record {
      instance = deeper.instance;
      among = contains_later (instance_here design parent path at k)
          (of_children design (child_at n design at.instance path) (behind_one (kind_of design k) at)
          (kind_of design k).children) deeper.instance (takes.all deeper.instance deeper.among);
      named = deeper.named ∙ (append_assoc (path ++ codes ".") c.name below ∙ append_assoc path (codes ".") (c.name ++ below) ∙
          ap (λ (r : List ℕ). path ++ r) (sym is));
      kind = deeper.kind;
    }

-- the end of a way is a kind of the design
pub end_known : (design : Design) → IsElaborated design → (k : ℕ) (rest : List ℕ) (end : ℕ) →
    k < length design.kinds → Leads design k rest end → end < length design.kinds
end_known design elaborated _ _ _ known (Here k rest is) = known
end_known design elaborated _ _ _ known (Down k rest below c end among is leads) =
    let less : c.kind < k = child_before design elaborated k c known among in
    end_known design elaborated c.kind below end (omega arith) leads

-- one way after another
pub ways_join : (design : Design) (k : ℕ) (p q : List ℕ) (m end : ℕ) → Leads design k p m → Leads design m q end →
    Leads design k (p ++ q) end
ways_join design _ _ q _ end (Here k p is) more =
    subst (λ (r : List ℕ). Leads design k (r ++ q) end) (sym is) more
ways_join design _ _ q _ end (Down k p below c m among is leads) more =
    Down k (p ++ q) (below ++ q) c end among
    (ap (λ (r : List ℕ). r ++ q) is ∙ append_assoc (codes "." ++ c.name) below q)
    (ways_join design c.kind below q m end leads more)
