-- Lists of ends, and which ends are joined.
use Rattle.std.proofs.Common.{◌≡◌, ◌∙◌, ◌<◌, ◌⊎◌, ◌++◌, ℕ, zero, suc, List, [], ◌∷◌, length, Contains}
use Rattle.std.proofs.Common.{Bool, true, false, refl, sym, ap, subst, inl, inr, arith, eq-eqb, eqb-true}
use Rattle.std.specs.Prelude.{◌==◌, if◌then◌else◌}
use Rattle.std.proofs.lemmas.Bool.{and_parts, and_from}
use Rattle.std.proofs.lemmas.List.Elements.{Contains-append_left, Contains-append_right, Contains-append_cases}
use Rattle.pm_design.specs.Calls.{End, Link, is_same_end, joined_to, one_further}
use Rattle.pm_callees.specs.Chains.{link}

pub in_none : {X : Type 0} (y : X) → Contains [] y → ⊥
in_none y h = let l : h.0 < 0 = h.1 in omega arith

pub in_head : {X : Type 0} (x : X) (xs : List X) → Contains (x ∷ xs) x
in_head x xs = (0, omega arith, refl)

pub in_tail : {X : Type 0} (x : X) (xs : List X) (y : X) → Contains xs y → Contains (x ∷ xs) y
in_tail x xs y h = let l : h.0 < length xs = h.1 in (suc h.0, omega arith, h.2)

pub in_cons : {X : Type 0} (x : X) (xs : List X) (y : X) → Contains (x ∷ xs) y → (x ≡ y) ⊎ Contains xs y
in_cons x xs y (zero, l, e) = inl e
in_cons x xs y (suc k, l, e) = inr (k, omega arith, e)

pub true_false : true ≡ false → ⊥
true_false e = subst (λ (b : Bool). elim b as (λ _. Type 0) [ true ↦ Unit {0} | false ↦ ⊥ ]) e tt

-- the test of ports
port_itself : (b : Bool) → (if b then b else if b then false else true) ≡ true
port_itself true = refl
port_itself false = refl

port_same : (a b : Bool) → (if a then b else if b then false else true) ≡ true → a ≡ b
port_same true true e = refl
port_same true false e = absurd (true_false (sym e))
port_same false true e = absurd (true_false (sym e))
port_same false false e = refl

same_itself : (e : End) → is_same_end e e ≡ true
same_itself e =
    and_from (e.instance == e.instance) _ (eq-eqb e.instance e.instance refl)
    (and_from (e.number == e.number) _ (eq-eqb e.number e.number refl) (port_itself e.port))

three : (a b : End) → a.instance ≡ b.instance → a.number ≡ b.number → a.port ≡ b.port → a ≡ b
three a b i n p =
    ap (λ (x : ℕ). record { instance = x; port = a.port; number = a.number }) i
    ∙ (ap (λ (x : ℕ). record { instance = b.instance; port = a.port; number = x }) n
    ∙ ap (λ (x : Bool). record { instance = b.instance; port = x; number = b.number }) p)

same_is : (a b : End) → is_same_end a b ≡ true → a ≡ b
same_is a b same =
    let first = and_parts (a.instance == b.instance) _ same in
    let rest = and_parts (a.number == b.number) _ first.1 in
    three a b (eqb-true a.instance b.instance first.0) (eqb-true a.number b.number rest.0)
    (port_same a.port b.port rest.1)

-- two ends are one, or differ
cases_end : (a b : End) → (a ≡ b) ⊎ (a ≡ b → ⊥)
cases_end a b = go (is_same_end a b) refl
  where
    go : (t : Bool) → is_same_end a b ≡ t → (a ≡ b) ⊎ (a ≡ b → ⊥)
    go true e = inl (same_is a b e)
    go false e = inr (λ is. true_false (sym (same_itself a) ∙ (ap (is_same_end a) is ∙ e)))

pub cases_in : (es : List End) (e : End) → Contains es e ⊎ (Contains es e → ⊥)
cases_in [] e = inr (in_none e)
cases_in (x ∷ xs) e = go (cases_end x e) (cases_in xs e)
  where
    go : (x ≡ e) ⊎ (x ≡ e → ⊥) → Contains xs e ⊎ (Contains xs e → ⊥) →
        Contains (x ∷ xs) e ⊎ (Contains (x ∷ xs) e → ⊥)
    go (inl is) rest = inl (subst (λ (y : End). Contains (x ∷ xs) y) is (in_head x xs))
    go (inr ne) (inl has) = inl (in_tail x xs e has)
    go (inr ne) (inr none) = inr (λ has. out (in_cons x xs e has))
      where
        out : (x ≡ e) ⊎ Contains xs e → ⊥
        out (inl is) = ne is
        out (inr has) = none has

-- what a test lets through
shown : (t : Bool) (e : End) → t ≡ true → Contains (if t then e ∷ [] else []) e
shown true e is = in_head e []
shown false e is = absurd (true_false (sym is))

hidden : (t : Bool) (e f : End) → Contains (if t then e ∷ [] else []) f → (t ≡ true) × (e ≡ f)
hidden true e f has = (refl, go (in_cons e [] f has))
  where
    go : (e ≡ f) ⊎ Contains [] f → e ≡ f
    go (inl is) = is
    go (inr never) = absurd (in_none f never)
hidden false e f has = absurd (in_none f has)

-- the ends that a connection joins to one
abbrev ahead : Link → End → List End
ahead l e = if is_same_end l.a e then l.b ∷ [] else []

abbrev behind : Link → End → List End
behind l e = if is_same_end l.b e then l.a ∷ [] else []

pub joined_ahead : (links : List Link) (l : Link) → Contains links l → Contains (joined_to links l.a) l.b
joined_ahead [] l has = absurd (in_none l has)
joined_ahead (k ∷ ks) l has = go (in_cons k ks l has) (joined_ahead ks l)
  where
    go : (k ≡ l) ⊎ Contains ks l → (Contains ks l → Contains (joined_to ks l.a) l.b) →
        Contains (ahead k l.a ++ behind k l.a ++ joined_to ks l.a) l.b
    go (inl is) rest =
        Contains-append_left (ahead k l.a ++ behind k l.a) (joined_to ks l.a) l.b
        (Contains-append_left (ahead k l.a) (behind k l.a) l.b
        (subst (λ (x : Link). Contains (ahead x l.a) l.b) (sym is)
        (shown (is_same_end l.a l.a) l.b (same_itself l.a))))
    go (inr there) rest = Contains-append_right (ahead k l.a ++ behind k l.a) (joined_to ks l.a) l.b (rest there)

pub joined_behind : (links : List Link) (l : Link) → Contains links l → Contains (joined_to links l.b) l.a
joined_behind [] l has = absurd (in_none l has)
joined_behind (k ∷ ks) l has = go (in_cons k ks l has) (joined_behind ks l)
  where
    go : (k ≡ l) ⊎ Contains ks l → (Contains ks l → Contains (joined_to ks l.b) l.a) →
        Contains (ahead k l.b ++ behind k l.b ++ joined_to ks l.b) l.a
    go (inl is) rest =
        Contains-append_left (ahead k l.b ++ behind k l.b) (joined_to ks l.b) l.a
        (Contains-append_right (ahead k l.b) (behind k l.b) l.a
        (subst (λ (x : Link). Contains (behind x l.b) l.a) (sym is)
        (shown (is_same_end l.b l.b) l.a (same_itself l.b))))
    go (inr there) rest = Contains-append_right (ahead k l.b ++ behind k l.b) (joined_to ks l.b) l.a (rest there)

pub from_joined : (links : List Link) (e f : End) → Contains (joined_to links e) f →
    Contains links (link e f) ⊎ Contains links (link f e)
from_joined [] e f has = absurd (in_none f has)
from_joined (k ∷ ks) e f has =
    go (Contains-append_cases (ahead k e ++ behind k e) (joined_to ks e) f has) (from_joined ks e f)
  where
    near : Contains (ahead k e) f ⊎ Contains (behind k e) f →
        Contains (k ∷ ks) (link e f) ⊎ Contains (k ∷ ks) (link f e)
    near (inl front) =
        let both = hidden (is_same_end k.a e) k.b f front in
        inl (subst (λ (x : Link). Contains (k ∷ ks) x)
        (ap (λ (x : End). link x k.b) (same_is k.a e both.0) ∙ ap (λ (x : End). link e x) both.1) (in_head k ks))
    near (inr back) =
        let both = hidden (is_same_end k.b e) k.a f back in
        inr (subst (λ (x : Link). Contains (k ∷ ks) x)
        (ap (λ (x : End). link k.a x) (same_is k.b e both.0) ∙ ap (λ (x : End). link x e) both.1) (in_head k ks))

    go : Contains (ahead k e ++ behind k e) f ⊎ Contains (joined_to ks e) f →
        (Contains (joined_to ks e) f → Contains ks (link e f) ⊎ Contains ks (link f e)) →
        Contains (k ∷ ks) (link e f) ⊎ Contains (k ∷ ks) (link f e)
    go (inl here) rest = near (Contains-append_cases (ahead k e) (behind k e) f here)
    go (inr there) rest = far (rest there)
      where
        far : Contains ks (link e f) ⊎ Contains ks (link f e) →
            Contains (k ∷ ks) (link e f) ⊎ Contains (k ∷ ks) (link f e)
        far (inl front) = inl (in_tail k ks (link e f) front)
        far (inr back) = inr (in_tail k ks (link f e) back)

pub further_has : (links : List Link) (es : List End) (e : End) → Contains es e → Contains (one_further links es) e
further_has links [] e has = absurd (in_none e has)
further_has links (x ∷ xs) e has = go (in_cons x xs e has) (further_has links xs e)
  where
    go : (x ≡ e) ⊎ Contains xs e → (Contains xs e → Contains (one_further links xs) e) →
        Contains (one_further links (x ∷ xs)) e
    go (inl is) rest =
        subst (λ (y : End). Contains (one_further links (x ∷ xs)) y) is
        (in_head x (joined_to links x ++ one_further links xs))
    go (inr there) rest =
        in_tail x (joined_to links x ++ one_further links xs) e
        (Contains-append_right (joined_to links x) (one_further links xs) e (rest there))

pub further_joined : (links : List Link) (es : List End) (e f : End) → Contains es e →
    Contains (joined_to links e) f → Contains (one_further links es) f
further_joined links [] e f has joined = absurd (in_none e has)
further_joined links (x ∷ xs) e f has joined =
    in_tail x (joined_to links x ++ one_further links xs) f
    (go (in_cons x xs e has) (λ there. further_joined links xs e f there joined))
  where
    go : (x ≡ e) ⊎ Contains xs e → (Contains xs e → Contains (one_further links xs) f) →
        Contains (joined_to links x ++ one_further links xs) f
    go (inl is) rest =
        Contains-append_left (joined_to links x) (one_further links xs) f
        (subst (λ (y : End). Contains (joined_to links y) f) (sym is) joined)
    go (inr there) rest = Contains-append_right (joined_to links x) (one_further links xs) f (rest there)

-- what is one step further is there already, or is joined to what is
pub from_further : (links : List Link) (es : List End) (f : End) → Contains (one_further links es) f →
    Contains es f ⊎ ((e : End) × Contains es e × Contains (joined_to links e) f)
from_further links [] f has = absurd (in_none f has)
from_further links (x ∷ xs) f has =
    go (in_cons x (joined_to links x ++ one_further links xs) f has) (from_further links xs f)
  where
    go : (x ≡ f) ⊎ Contains (joined_to links x ++ one_further links xs) f →
        (Contains (one_further links xs) f →
        Contains xs f ⊎ ((e : End) × Contains xs e × Contains (joined_to links e) f)) →
        Contains (x ∷ xs) f ⊎ ((e : End) × Contains (x ∷ xs) e × Contains (joined_to links e) f)
    go (inl is) rest = inl (subst (λ (y : End). Contains (x ∷ xs) y) is (in_head x xs))
    go (inr more) rest = next (Contains-append_cases (joined_to links x) (one_further links xs) f more)
      where
        far : Contains xs f ⊎ ((e : End) × Contains xs e × Contains (joined_to links e) f) →
            Contains (x ∷ xs) f ⊎ ((e : End) × Contains (x ∷ xs) e × Contains (joined_to links e) f)
        far (inl there) = inl (in_tail x xs f there)
        far (inr joined) = inr (joined.0, in_tail x xs joined.0 joined.1, joined.2)

        next : Contains (joined_to links x) f ⊎ Contains (one_further links xs) f →
            Contains (x ∷ xs) f ⊎ ((e : End) × Contains (x ∷ xs) e × Contains (joined_to links e) f)
        next (inl joined) = inr (x, in_head x xs, joined)
        next (inr there) = far (rest there)
