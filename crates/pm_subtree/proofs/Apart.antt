-- Names that are apart.
use Rattle.std.proofs.Common.{◌≡◌, ◌∙◌, ◌⊎◌, ◌<◌, ◌++◌, ◌&&◌, ◌||◌, ℕ, List, [], ◌∷◌, length, map, Bool, true, false, not}
use Rattle.std.proofs.Common.{refl, sym, ap, subst, arith, inl, inr, codes}
use Rattle.std.specs.Prelude.{IsTrue, Contains, bytes_eq, nat_eq}
use Rattle.std.specs.List.{list_all, starts_with}
use Rattle.std.proofs.lemmas.Bool.{and_parts}
use Rattle.std.proofs.lemmas.List.{append_assoc, append-nil}
use Rattle.pm_design.specs.declared.design.Child.{Child}
use Rattle.pm_design.specs.declared.design.Design.{Design}
use Rattle.pm_design.specs.Elaborated.{IsElaborated}
use Rattle.pm_design.specs.Lookups.{kind_of}
use Rattle.pm_design.specs.Names.{all_apart, are_apart, leads_to}
use Rattle.pm_subtree.specs.Subtree.{IsBelow}
use Rattle.pm_subtree.specs.Ways.{Leads}
use Rattle.pm_subtree.specs.Ways.Leads.{Here, Down}
use Rattle.pm_subtree.proofs.Elements.{contains_cases, contains_none, head_same, tail_same, cons_nil, begins_same}
use Rattle.pm_subtree.proofs.Ways.{child_before}

-- a longer text goes on behind a shorter one
record GoesOn (short long rest other : List ℕ) : Type 0 where
  pub next : ℕ
  pub more : List ℕ
  pub long_is : long ≡ short ++ next ∷ more
  pub rest_is : rest ≡ next ∷ more ++ other

halves : (m n a b : List ℕ) → m ++ a ≡ n ++ b → (m ≡ n) ⊎ (GoesOn m n a b ⊎ GoesOn n m b a)
halves [] [] a b e = inl refl
halves [] (y ∷ n) a b e = inr (inl (record { next = y; more = n; long_is = refl; rest_is = e }))
halves (x ∷ m) [] a b e = inr (inr (record { next = x; more = m; long_is = refl; rest_is = sym e }))
halves (x ∷ m) (y ∷ n) a b e = go (halves m n a b (tail_same x y (m ++ a) (n ++ b) e))
  where
    same : x ≡ y
    same = head_same x y (m ++ a) (n ++ b) e

    go : (m ≡ n) ⊎ (GoesOn m n a b ⊎ GoesOn n m b a) →
        (x ∷ m ≡ y ∷ n) ⊎ (GoesOn (x ∷ m) (y ∷ n) a b ⊎ GoesOn (y ∷ n) (x ∷ m) b a)
    go (inl is) = inl (ap (λ (l : List ℕ). x ∷ l) is ∙ ap (λ (z : ℕ). z ∷ n) same)
    go (inr (inl on)) = inr (inl (record {
      next = on.next;
      more = on.more;
      long_is = ap (λ (l : List ℕ). y ∷ l) on.long_is ∙ ap (λ (z : ℕ). z ∷ m ++ on.next ∷ on.more) (sym same);
      rest_is = on.rest_is;
    }))
    go (inr (inr on)) = inr (inr (record {
      next = on.next;
      more = on.more;
      long_is = ap (λ (l : List ℕ). x ∷ l) on.long_is ∙ ap (λ (z : ℕ). z ∷ n ++ on.next ∷ on.more) same;
      rest_is = on.rest_is;
    }))

eq_itself : (n : ℕ) → nat_eq n n ≡ true
eq_itself n = grind arith

starts_here : (p r : List ℕ) → starts_with nat_eq (p ++ r) p ≡ true
starts_here [] [] = refl
starts_here [] (x ∷ r) = refl
starts_here (x ∷ p) r = ap (λ (b : Bool). b && starts_with nat_eq (p ++ r) p) (eq_itself x) ∙ starts_here p r

bytes_same : (xs : List ℕ) → bytes_eq xs xs ≡ true
bytes_same [] = refl
bytes_same (x ∷ xs) = ap (λ (b : Bool). b && bytes_eq xs xs) (eq_itself x) ∙ bytes_same xs

-- what goes on behind a name, where a dot follows
leads_on : (m n a b : List ℕ) → IsBelow a → GoesOn m n a b → leads_to m n ≡ true
leads_on m n a b (inl none) on = absurd (cons_nil on.next (on.more ++ b) (sym on.rest_is ∙ none))
leads_on m n a b (inr (more, is)) on =
    let dot : on.next ≡ 46 = head_same on.next 46 (on.more ++ b) more (sym on.rest_is ∙ is) in
    let long : n ≡ (m ++ codes ".") ++ on.more =
    on.long_is ∙ (ap (λ (z : ℕ). m ++ z ∷ on.more) dot ∙ sym (append_assoc m (codes ".") on.more)) in
    let starts : starts_with nat_eq n (m ++ codes ".") ≡ true =
    subst (λ (l : List ℕ). starts_with nat_eq l (m ++ codes ".") ≡ true) (sym long)
    (starts_here (m ++ codes ".") on.more) in
    ap (λ (b : Bool). b || starts_with nat_eq n (m ++ codes "[")) starts

or_right : (a b : Bool) → b ≡ true → (a || b) ≡ true
or_right true b is = refl
or_right false b is = is

not_both : (b : Bool) → b ≡ true → IsTrue (not b) → ⊥
not_both b is isnt = let both : (b ≡ true) × (not b ≡ true) = (is, isnt) in grind arith

-- paths through children whose names are apart
clash : (m n a b : List ℕ) → IsTrue (are_apart m n) → IsBelow a → IsBelow b → m ++ a ≡ n ++ b → ⊥
clash m n a b apart at bt e = not_both _ (go (halves m n a b e)) apart
  where
    go : (m ≡ n) ⊎ (GoesOn m n a b ⊎ GoesOn n m b a) →
        (bytes_eq m n || (leads_to m n || leads_to n m)) ≡ true
    go (inl is) =
        ap (λ (x : Bool). x || (leads_to m n || leads_to n m))
        (subst (λ (l : List ℕ). bytes_eq m l ≡ true) is (bytes_same m))
    go (inr (inl on)) =
        or_right (bytes_eq m n) (leads_to m n || leads_to n m)
        (ap (λ (x : Bool). x || leads_to n m) (leads_on m n a b at on))
    go (inr (inr on)) =
        or_right (bytes_eq m n) (leads_to m n || leads_to n m)
        (or_right (leads_to m n) (leads_to n m) (leads_on n m b a bt on))

apart_tail : (xs ys : List (List ℕ)) → IsTrue (all_apart (xs ++ ys)) → IsTrue (all_apart ys)
apart_tail [] ys all = all
apart_tail (x ∷ xs) ys all =
    apart_tail xs ys (and_parts (list_all (are_apart x) (xs ++ ys)) (all_apart (xs ++ ys)) all).1

apart_from : (name : List ℕ) (cs : List Child) (c : Child) → IsTrue (list_all (are_apart name) (map (λ c. c.name) cs)) →
    Contains cs c → IsTrue (are_apart name c.name)
apart_from name [] c all has = absurd (contains_none c has)
apart_from name (d ∷ cs) c all has =
    let both = and_parts (are_apart name d.name) (list_all (are_apart name) (map (λ c. c.name) cs)) all in
    go both.0 (apart_from name cs c both.1) (contains_cases d cs c has)
  where
    go : IsTrue (are_apart name d.name) → (Contains cs c → IsTrue (are_apart name c.name)) → (d ≡ c) ⊎ Contains cs c →
        IsTrue (are_apart name c.name)
    go first later (inl e) = subst (λ (x : Child). IsTrue (are_apart name x.name)) e first
    go first later (inr there) = later there

-- a path goes through one child
pub one_child : (cs : List Child) → IsTrue (all_apart (map (λ c. c.name) cs)) → (c d : Child) (a b : List ℕ) →
    Contains cs c → Contains cs d → IsBelow a → IsBelow b → c.name ++ a ≡ d.name ++ b → c ≡ d
one_child [] all c d a b l r at bt e = absurd (contains_none c l)
one_child (x ∷ cs) all c d a b l r at bt e =
    let both = and_parts (list_all (are_apart x.name) (map (λ c. c.name) cs)) (all_apart (map (λ c. c.name) cs)) all in
    go both.0 (λ one two. one_child cs both.1 c d a b one two at bt e) (contains_cases x cs c l) (contains_cases x cs d r)
  where
    go : IsTrue (list_all (are_apart x.name) (map (λ c. c.name) cs)) → (Contains cs c → Contains cs d → c ≡ d) →
        (x ≡ c) ⊎ Contains cs c → (x ≡ d) ⊎ Contains cs d → c ≡ d
    go first later (inl i) (inl j) = sym i ∙ j
    go first later (inl i) (inr there) =
        absurd (clash x.name d.name a b (apart_from x.name cs d first there) at bt
        (ap (λ (y : Child). y.name ++ a) i ∙ e))
    go first later (inr there) (inl j) =
        absurd (clash x.name c.name b a (apart_from x.name cs c first there) bt at
        (ap (λ (y : Child). y.name ++ b) j ∙ sym e))
    go first later (inr one) (inr two) = later one two

pub children_apart : (design : Design) → IsElaborated design → (k : ℕ) → k < length design.kinds →
    IsTrue (all_apart (map (λ c. c.name) (kind_of design k).children))
children_apart design elaborated k known =
    apart_tail (map (λ s. s.name) (kind_of design k).signals) (map (λ c. c.name) (kind_of design k).children)
    (elaborated.kinds k known).named.members_apart

-- where a way goes on: through a child
pub record Goes (design : Design) (k : ℕ) (rest : List ℕ) (end : ℕ) : Type 0 where
  pub child : Child
  pub below : List ℕ
  pub among : Contains (kind_of design k).children child
  pub is : rest ≡ codes "." ++ child.name ++ below
  pub leads : Leads design child.kind below end

pub way_cases : (design : Design) (k : ℕ) (rest : List ℕ) (end : ℕ) → Leads design k rest end →
    ((rest ≡ []) × (k ≡ end)) ⊎ Goes design k rest end
way_cases design _ _ _ (Here k rest is) = inl (is, refl)
way_cases design _ _ _ (Down k rest below c end among is leads) =
    inr (record { child = c; below = below; among = among; is = is; leads = leads })

pub is_below : (design : Design) (k : ℕ) (rest : List ℕ) (end : ℕ) → Leads design k rest end → IsBelow rest
is_below design _ _ _ (Here k rest is) = inl is
is_below design _ _ _ (Down k rest below c end among is leads) = inr (c.name ++ below, is)

both_below : (a b : List ℕ) → IsBelow a → IsBelow b → IsBelow (a ++ b)
both_below a b (inl none) bt = subst (λ (l : List ℕ). IsBelow (l ++ b)) (sym none) bt
both_below a b (inr (more, is)) bt = inr (more ++ b, ap (λ (l : List ℕ). l ++ b) is)

-- a longer way goes through the end of a shorter one
pub way_back : (design : Design) → IsElaborated design → (k : ℕ) (p : List ℕ) (m : ℕ) (rest : List ℕ) (end : ℕ) →
    k < length design.kinds → IsBelow rest → Leads design k p m → Leads design k (p ++ rest) end →
    Leads design m rest end
way_back design elaborated _ _ _ rest end known at (Here k p is) long =
    subst (λ (l : List ℕ). Leads design k (l ++ rest) end) is long
way_back design elaborated _ _ _ rest end known at (Down k p below c m among is leads) long =
    go (λ less here. way_back design elaborated c.kind below m rest end less at leads here)
    (way_cases design k (p ++ rest) end long)
  where
    long_is : p ++ rest ≡ codes "." ++ c.name ++ (below ++ rest)
    long_is = ap (λ (l : List ℕ). l ++ rest) is ∙ append_assoc (codes "." ++ c.name) below rest

    go : (c.kind < length design.kinds → Leads design c.kind (below ++ rest) end → Leads design m rest end) →
        ((p ++ rest ≡ []) × (k ≡ end)) ⊎ Goes design k (p ++ rest) end → Leads design m rest end
    go deeper (inl none) = absurd (cons_nil 46 (c.name ++ (below ++ rest)) (sym long_is ∙ none.0))
    go deeper (inr goes) =
        let tails : c.name ++ (below ++ rest) ≡ goes.child.name ++ goes.below =
        tail_same 46 46 (c.name ++ (below ++ rest)) (goes.child.name ++ goes.below) (sym long_is ∙ goes.is) in
        let one : c ≡ goes.child =
        one_child (kind_of design k).children (children_apart design elaborated k known) c goes.child (below ++ rest)
        goes.below among goes.among (both_below below rest (is_below design c.kind below m leads) at)
        (is_below design goes.child.kind goes.below end goes.leads) tails in
        let same : below ++ rest ≡ goes.below =
        begins_same c.name (below ++ rest) goes.below
        (tails ∙ ap (λ (x : Child). x.name ++ goes.below) (sym one)) in
        let here : Leads design c.kind goes.below end =
        subst (λ (x : Child). Leads design x.kind goes.below end) (sym one) goes.leads in
        let less : c.kind < k = child_before design elaborated k c known among in
        deeper (omega arith)
        (subst (λ (l : List ℕ). Leads design c.kind l end) (sym same) here)

at_once : (design : Design) (m : ℕ) (rest : List ℕ) (end : ℕ) → rest ≡ [] →
    ((rest ≡ []) × (m ≡ end)) ⊎ Goes design m rest end → m ≡ end
at_once design m rest end none (inl here) = here.1
at_once design m rest end none (inr goes) = absurd (cons_nil 46 (goes.child.name ++ goes.below) (sym goes.is ∙ none))

-- a path leads to one kind
pub one_end : (design : Design) → IsElaborated design → (k : ℕ) (p : List ℕ) (m end : ℕ) → k < length design.kinds →
    Leads design k p m → Leads design k p end → m ≡ end
one_end design elaborated k p m end known one two =
    at_once design m [] end refl (way_cases design m [] end (way_back design elaborated k p m [] end known (inl refl) one
    (subst (λ (l : List ℕ). Leads design k l end) (sym (append-nil p)) two)))
