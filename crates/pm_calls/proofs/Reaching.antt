-- All that chains of connections lead to is reached in as many rounds as there are connections.
use Rattle.std.proofs.Common.{◌≡◌, ◌∙◌, ◌≤◌, ◌⊎◌, ℕ, zero, suc, List, [], ◌∷◌, length, Contains}
use Rattle.std.proofs.Common.{Bool, true, false, Some, refl, sym, ap, subst, inl, inr, arith}
use Rattle.std.specs.Prelude.{if◌then◌else◌}
use Rattle.pm_design.specs.declared.connection.Callee.{Callee}
use Rattle.pm_design.specs.declared.design.Design.{Design}
use Rattle.pm_design.specs.declared.plan.Plan.{Plan}
use Rattle.pm_design.specs.Calls.{End, Link, end_of, first_method, joined_to, links_of, one_further, reached}
use Rattle.pm_design.specs.Elaborated.{IsElaborated}
use Rattle.pm_instances.specs.Laid.{laid_out}
use Rattle.pm_callees.specs.Chains.{Chained, LeadsTo, link}
use Rattle.pm_callees.specs.Chains.Chained.{Itself, Forward, Backward}
use Rattle.pm_callees.specs.Ends.{IsMethod, IsThere}
use Rattle.pm_callees.specs.Sets.{IsSingle}
use Rattle.pm_callees.proofs.LinkLists.{links_there}
use Rattle.pm_calls.specs.Targets.{callee_end}
use Rattle.pm_calls.proofs.Ends.{cases_in, from_further, from_joined, further_has, further_joined, in_cons, in_head}
use Rattle.pm_calls.proofs.Ends.{in_none, in_tail, joined_ahead, joined_behind, true_false}

-- the end that leads to one that is reached
abbrev Origin : List Link → List End → End → Type 0
Origin links es f = (e : End) × Contains es e × Chained links e f

step_origin : (links : List Link) (es : List End) (e f : End) → Contains (one_further links es) e → Chained links e f →
    Origin links es f
step_origin links es e f has chain = go (from_further links es e has)
  where
    along : (o : End) → Contains links (link o e) ⊎ Contains links (link e o) → Chained links o f
    along o (inl front) = Forward o e f front chain
    along o (inr back) = Backward o e f back chain

    go : Contains es e ⊎ ((o : End) × Contains es o × Contains (joined_to links o) e) → Origin links es f
    go (inl there) = (e, there, chain)
    go (inr joined) = (joined.0, joined.1, along joined.0 (from_joined links joined.0 e joined.2))

-- what is reached is led to
reached_origin : (n : ℕ) (links : List Link) (es : List End) (f : End) → Contains (reached n links es) f →
    Origin links es f
reached_origin zero links es f has = (f, has, Itself f)
reached_origin (suc n) links es f has =
    let later = reached_origin n links (one_further links es) f has in
    step_origin links es later.0 f later.1 later.2

reached_has : (n : ℕ) (links : List Link) (es : List End) (e : End) → Contains es e → Contains (reached n links es) e
reached_has zero links es e has = has
reached_has (suc n) links es e has = reached_has n links (one_further links es) e (further_has links es e has)

-- no connection leads out
abbrev IsClosed : List Link → List End → Type 0
IsClosed links es = (l : Link) → Contains links l → (Contains es l.a → Contains es l.b) × (Contains es l.b → Contains es l.a)

closed_chain : (links : List Link) (es : List End) → IsClosed links es → (a b : End) → Chained links a b →
    Contains es a → Contains es b
closed_chain links es closed _ _ (Itself a) has = has
closed_chain links es closed _ _ (Forward a b c edge rest) has =
    closed_chain links es closed b c rest ((closed (link a b) edge).0 has)
closed_chain links es closed _ _ (Backward a b c edge rest) has =
    closed_chain links es closed b c rest ((closed (link b a) edge).1 has)

closed_further : (links : List Link) (es : List End) → IsClosed links es → (f : End) →
    Contains (one_further links es) f → Contains es f
closed_further links es closed f has = go (from_further links es f has)
  where
    across : (e : End) → Contains es e → Contains links (link e f) ⊎ Contains links (link f e) → Contains es f
    across e there (inl front) = (closed (link e f) front).0 there
    across e there (inr back) = (closed (link f e) back).1 there

    go : Contains es f ⊎ ((e : End) × Contains es e × Contains (joined_to links e) f) → Contains es f
    go (inl there) = there
    go (inr joined) = across joined.0 joined.1 (from_joined links joined.0 f joined.2)

closed_reached : (n : ℕ) (links : List Link) (es : List End) → IsClosed links es → IsClosed links (reached n links es)
closed_reached zero links es closed = closed
closed_reached (suc n) links es closed =
    closed_reached n links (one_further links es) (λ l has. (
      (λ a. further_has links es l.b ((closed l has).0 (closed_further links es closed l.a a))),
      (λ b. further_has links es l.a ((closed l has).1 (closed_further links es closed l.b b))),
    ))

-- each connection is of two ends that are reached, or is among the rest
abbrev Covers : List Link → List End → List Link → Type 0
Covers links es rest = (l : Link) → Contains links l → (Contains es l.a × Contains es l.b) ⊎ Contains rest l

-- one of its ends is reached
abbrev Touches : List End → Link → Type 0
Touches es l = Contains es l.a ⊎ Contains es l.b

-- one of the rest that is touched, and the others
record Pick (es : List End) (rest : List Link) : Type 0 where
  picked : Link
  others : List Link
  touched : Touches es picked
  fewer : length rest ≡ suc (length others)
  each : (l : Link) → Contains rest l → (picked ≡ l) ⊎ Contains others l

cases_touched : (es : List End) (l : Link) → Touches es l ⊎ (Touches es l → ⊥)
cases_touched es l = go (cases_in es l.a) (cases_in es l.b)
  where
    go : Contains es l.a ⊎ (Contains es l.a → ⊥) → Contains es l.b ⊎ (Contains es l.b → ⊥) →
        Touches es l ⊎ (Touches es l → ⊥)
    go (inl a) b = inl (inl a)
    go (inr never) (inl b) = inl (inr b)
    go (inr never) (inr none) = inr out
      where
        out : Touches es l → ⊥
        out (inl a) = never a
        out (inr b) = none b

pick : (es : List End) (rest : List Link) → Pick es rest ⊎ ((l : Link) → Contains rest l → Touches es l → ⊥)
pick es [] = inr (λ l has touches. in_none l has)
pick es (k ∷ ks) = go (cases_touched es k) (pick es ks)
  where
    go : Touches es k ⊎ (Touches es k → ⊥) → Pick es ks ⊎ ((l : Link) → Contains ks l → Touches es l → ⊥) →
        Pick es (k ∷ ks) ⊎ ((l : Link) → Contains (k ∷ ks) l → Touches es l → ⊥)
    go (inl touched) rest = inl (record {
      picked = k;
      others = ks;
      touched = touched;
      fewer = refl;
      each = λ l has. in_cons k ks l has;
    })
    go (inr never) (inl found) = inl (record {
      picked = found.picked;
      others = k ∷ found.others;
      touched = found.touched;
      fewer = ap (λ (n : ℕ). suc n) found.fewer;
      each = λ l has. kept l (in_cons k ks l has);
    })
      where
        inner : (l : Link) → (found.picked ≡ l) ⊎ Contains found.others l →
            (found.picked ≡ l) ⊎ Contains (k ∷ found.others) l
        inner l (inl is) = inl is
        inner l (inr there) = inr (in_tail k found.others l there)

        kept : (l : Link) → (k ≡ l) ⊎ Contains ks l → (found.picked ≡ l) ⊎ Contains (k ∷ found.others) l
        kept l (inl is) = inr (subst (λ (x : Link). Contains (k ∷ found.others) x) is (in_head k found.others))
        kept l (inr there) = inner l (found.each l there)
    go (inr never) (inr none) = inr (λ l has touches. out l touches (in_cons k ks l has))
      where
        out : (l : Link) → Touches es l → (k ≡ l) ⊎ Contains ks l → ⊥
        out l touches (inl is) = never (subst (Touches es) (sym is) touches)
        out l touches (inr there) = none l there touches

-- both ends of a connection that is touched are reached one step further
both_further : (links : List Link) (es : List End) (l : Link) → Contains links l → Touches es l →
    Contains (one_further links es) l.a × Contains (one_further links es) l.b
both_further links es l has (inl a) =
    (further_has links es l.a a, further_joined links es l.a l.b a (joined_ahead links l has))
both_further links es l has (inr b) =
    (further_joined links es l.b l.a b (joined_behind links l has), further_has links es l.b b)

-- each round reaches both ends of a connection more, or nothing is left
all_reached : (n : ℕ) (links : List Link) (es : List End) (rest : List Link) → length rest ≤ n → Covers links es rest →
    IsClosed links (reached n links es)
all_reached zero links es [] few covers l has = within (covers l has)
  where
    within : (Contains es l.a × Contains es l.b) ⊎ Contains [] l →
        (Contains es l.a → Contains es l.b) × (Contains es l.b → Contains es l.a)
    within (inl both) = ((λ a. both.1), (λ b. both.0))
    within (inr never) = absurd (in_none l never)
all_reached zero links es (k ∷ ks) few covers l has = absurd (omega arith)
all_reached (suc n) links es rest few covers m listed =
    go (pick es rest) (all_reached n links (one_further links es)) m listed
  where
    still : (l : Link) → (Contains es l.a × Contains es l.b) ⊎ Contains rest l → (Touches es l → Contains rest l → ⊥) →
        (Contains es l.a → Contains es l.b) × (Contains es l.b → Contains es l.a)
    still l (inl both) none = ((λ a. both.1), (λ b. both.0))
    still l (inr there) none = ((λ a. absurd (none (inl a) there)), (λ b. absurd (none (inr b) there)))

    go : Pick es rest ⊎ ((l : Link) → Contains rest l → Touches es l → ⊥) →
        ((left : List Link) → length left ≤ n → Covers links (one_further links es) left →
        IsClosed links (reached n links (one_further links es))) → IsClosed links (reached (suc n) links es)
    go (inr none) next =
        closed_reached (suc n) links es (λ l has. still l (covers l has) (λ touches there. none l there touches))
    go (inl found) next =
        let fewer : length rest ≡ suc (length found.others) = found.fewer in
        next found.others (omega arith) (λ l has. covered l has (covers l has))
      where
        kept : (l : Link) → Contains links l → (found.picked ≡ l) ⊎ Contains found.others l →
            (Contains (one_further links es) l.a × Contains (one_further links es) l.b) ⊎ Contains found.others l
        kept l has (inl is) = inl (both_further links es l has (subst (Touches es) is found.touched))
        kept l has (inr there) = inr there

        covered : (l : Link) → Contains links l → (Contains es l.a × Contains es l.b) ⊎ Contains rest l →
            (Contains (one_further links es) l.a × Contains (one_further links es) l.b) ⊎ Contains found.others l
        covered l has (inl both) = inl (further_has links es l.a both.0, further_has links es l.b both.1)
        covered l has (inr there) = kept l has (found.each l there)

-- a list with a method has a first one
record HasFirst (es : List End) : Type 0 where
  found : End
  is : first_method es ≡ Some found
  listed : Contains es found
  method : found.port ≡ false

first_found : (es : List End) (m : End) → Contains es m → m.port ≡ false → HasFirst es
first_found [] m has method = absurd (in_none m has)
first_found (x ∷ xs) m has method = go x.port refl (in_cons x xs m has) (λ there. first_found xs m there method)
  where
    go : (b : Bool) → x.port ≡ b → (x ≡ m) ⊎ Contains xs m → (Contains xs m → HasFirst xs) → HasFirst (x ∷ xs)
    go false port there rest = record {
      found = x;
      is = ap (λ (b : Bool). if b then first_method xs else Some x) port;
      listed = in_head x xs;
      method = port;
    }
    go true port (inl is) rest = absurd (true_false (sym port ∙ (ap (λ (e : End). e.port) is ∙ method)))
    go true port (inr there) rest = let later = rest there in record {
      found = later.found;
      is = ap (λ (b : Bool). if b then first_method xs else Some x) port ∙ later.is;
      listed = in_tail x xs later.found later.listed;
      method = later.method;
    }

there_back : (design : Design) → IsElaborated design → (a b : End) → Chained (links_of (laid_out design)) a b →
    IsThere (laid_out design) b → IsThere (laid_out design) a
there_back design elaborated _ _ (Itself a) there = there
there_back design elaborated _ _ (Forward a b c edge rest) there = (links_there design elaborated (link a b) edge).0
there_back design elaborated _ _ (Backward a b c edge rest) there = (links_there design elaborated (link b a) edge).1

there_on : (design : Design) → IsElaborated design → (a b : End) → Chained (links_of (laid_out design)) a b →
    IsThere (laid_out design) a → IsThere (laid_out design) b
there_on design elaborated _ _ (Itself a) there = there
there_on design elaborated _ _ (Forward a b c edge rest) there =
    there_on design elaborated b c rest (links_there design elaborated (link a b) edge).1
there_on design elaborated _ _ (Backward a b c edge rest) there =
    there_on design elaborated b c rest (links_there design elaborated (link b a) edge).0

only_one : (e o : End) → Contains (e ∷ []) o → o ≡ e
only_one e o has = go (in_cons e [] o has)
  where
    go : (e ≡ o) ⊎ Contains [] o → o ≡ e
    go (inl is) = sym is
    go (inr never) = absurd (in_none o never)

-- a callee with one method leads to it
pub one_target : (design : Design) (i : ℕ) (m : Callee) → IsElaborated design →
    (one : IsSingle (LeadsTo (laid_out design) (end_of (laid_out design) i m))) →
    callee_end (laid_out design) i m ≡ Some one.one
one_target design i m elaborated one = first.is ∙ ap (λ (x : End). Some x) (one.only first.found (within, chain))
  where
    e : End
    e = end_of (laid_out design) i m

    links : List Link
    links = links_of (laid_out design)

    es : List End
    es = reached (length (links_of (laid_out design))) (links_of (laid_out design)) (end_of (laid_out design) i m ∷ [])

    closed : IsClosed links es
    closed = all_reached (length links) links (e ∷ []) links (omega arith) (λ l has. inr has)

    first : HasFirst (reached (length (links_of (laid_out design))) (links_of (laid_out design))
        (end_of (laid_out design) i m ∷ []))
    first = first_found es one.one
        (closed_chain links es closed e one.one one.within.1 (reached_has (length links) links (e ∷ []) e (in_head e [])))
        one.within.0.0

    chain : Chained (links_of (laid_out design)) (end_of (laid_out design) i m) first.found
    chain =
        let from = reached_origin (length links) links (e ∷ []) first.found first.listed in
        subst (λ (x : End). Chained links x first.found) (only_one e from.0 from.1) from.2

    within : IsMethod (laid_out design) first.found
    within = (
      first.method,
      there_on design elaborated e first.found chain
          (there_back design elaborated e one.one one.within.1 one.within.0.1),
    )

-- a callee that is a method leads to itself
first_stays : (n : ℕ) (links : List Link) (e : End) (es : List End) → e.port ≡ false →
    first_method (reached n links (e ∷ es)) ≡ Some e
first_stays zero links e es method = ap (λ (b : Bool). if b then first_method es else Some e) method
first_stays (suc n) links e es method = first_stays n links e _ method

pub own_target : (plan : Plan) (i : ℕ) (m : Callee) → (end_of plan i m).port ≡ false →
    callee_end plan i m ≡ Some (end_of plan i m)
own_target plan i m method = first_stays (length (links_of plan)) (links_of plan) (end_of plan i m) [] method
