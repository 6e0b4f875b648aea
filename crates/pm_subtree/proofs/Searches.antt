-- What a search finds.
use Rattle.std.proofs.Common.{◌≡◌, ◌≢◌, ◌∙◌, ◌⊎◌, ◌+◌, ◌<◌, ◌≤◌, ◌++◌, ℕ, List, [], ◌∷◌, length, take, get_or}
use Rattle.std.proofs.Common.{refl, sym, ap, subst, arith, inl, inr, codes, Option, None, Some, ◌==◌, true, false, eqb-true}
use Rattle.std.specs.Option.{is_some}
use Rattle.std.specs.Prelude.{Contains}
use Rattle.std.proofs.lemmas.List.{take_more, take_all}
use Rattle.std.proofs.lemmas.List.Elements.{Contains-push_cases}
use Rattle.pm_design.specs.declared.design.Child.{Child}
use Rattle.pm_design.specs.declared.design.Design.{Design}
use Rattle.pm_design.specs.Lookups.{kind_of}
use Rattle.pm_subtree.specs.Ways.{Leads, LeadsTo, LeadsByNone}
use Rattle.pm_subtree.specs.Ways.Leads.{Here, Down}
use Rattle.pm_subtree.proofs.Elements.{contains_none, begins_same, tail_same}
use Rattle.pm_subtree.proofs.Apart.{way_cases, Goes}

-- before any child
pub by_none : (design : Design) (rest : List ℕ) (cs : List Child) → LeadsByNone design (take 0 cs) rest
by_none design rest cs c below end among is leads = contains_none c among

-- one child more, through which the path doesn't lead
pub one_more : (design : Design) (rest : List ℕ) (cs : List Child) (i : ℕ) (d : Child) → i < length cs → d ≡ get_or cs i d →
    LeadsByNone design (take i cs) rest →
    ((below : List ℕ) (end : ℕ) → rest ≡ codes "." ++ d.name ++ below → Leads design d.kind below end → ⊥) →
    LeadsByNone design (take (i + 1) cs) rest
one_more design rest cs i d lt at none other c below end among is leads =
    go (Contains-push_cases (take i cs) d c (subst (λ (l : List Child). Contains l c) first among))
  where
    first : take (i + 1) cs ≡ take i cs ++ d ∷ []
    first = take_more cs i d lt ∙ ap (λ (x : Child). take i cs ++ x ∷ []) (sym at)

    go : Contains (take i cs) c ⊎ (d ≡ c) → ⊥
    go (inl before) = none c below end before is leads
    go (inr e) =
        other below end (is ∙ ap (λ (x : Child). codes "." ++ x.name ++ below) (sym e))
        (subst (λ (x : Child). Leads design x.kind below end) (sym e) leads)

-- the path doesn't begin with the child's name
pub not_named : (design : Design) (rest : List ℕ) (d : Child) (name : List ℕ) → name ≡ d.name →
    ((below : List ℕ) → rest ≢ codes "." ++ name ++ below) →
    (below : List ℕ) (end : ℕ) → rest ≡ codes "." ++ d.name ++ below → Leads design d.kind below end → ⊥
not_named design rest d name e other below end is leads = other below (is ∙ ap (λ (n : List ℕ). codes "." ++ n ++ below) (sym e))

-- nothing is below the child
pub not_below : (design : Design) (rest : List ℕ) (d : Child) (name here : List ℕ) → name ≡ d.name →
    rest ≡ codes "." ++ name ++ here →
    LeadsTo design d.kind here None →
    (below : List ℕ) (end : ℕ) → rest ≡ codes "." ++ d.name ++ below → Leads design d.kind below end → ⊥
not_below design rest d name here e at none below end is leads =
    let same : here ≡ below =
    begins_same d.name here below (tail_same 46 46 (d.name ++ here) (d.name ++ below)
    (ap (λ (n : List ℕ). codes "." ++ n ++ here) (sym e) ∙ (sym at ∙ is))) in
    none end (subst (λ (l : List ℕ). Leads design d.kind l end) (sym same) leads)

-- the path leads through the child
pub found_below : (design : Design) (k : ℕ) (rest : List ℕ) (cs : List Child) (i : ℕ) (d : Child) (name here : List ℕ) (end : ℕ) →
    cs ≡ (kind_of design k).children → i < length cs → d ≡ get_or cs i d → name ≡ d.name →
    rest ≡ codes "." ++ name ++ here → Leads design d.kind here end → Leads design k rest end
found_below design k rest cs i d name here end are lt at e is leads =
    Down k rest here d end (subst (λ (l : List Child). Contains l d) are (i, lt, sym at))
    (is ∙ ap (λ (n : List ℕ). codes "." ++ n ++ here) e) leads

-- the path leads through no child
pub nowhere : (design : Design) (k : ℕ) (rest : List ℕ) (cs : List Child) (i : ℕ) → cs ≡ (kind_of design k).children →
    length cs ≤ i → (rest ≡ [] → ⊥) → LeadsByNone design (take i cs) rest → LeadsTo design k rest None
nowhere design k rest cs i are all some none end leads = go (way_cases design k rest end leads)
  where
    every : take i cs ≡ (kind_of design k).children
    every = take_all i cs all ∙ are

    go : ((rest ≡ []) × (k ≡ end)) ⊎ Goes design k rest end → ⊥
    go (inl here) = some here.0
    go (inr goes) =
        none goes.child goes.below end (subst (λ (l : List Child). Contains l goes.child) (sym every) goes.among) goes.is
        goes.leads

pub empty_is : (xs : List ℕ) → (length xs == 0) ≡ true → xs ≡ []
empty_is [] e = refl
empty_is (x ∷ xs) e = let size : length (x ∷ xs) ≡ 0 = eqb-true (length (x ∷ xs)) 0 e in absurd (omega arith)

pub some_left : (xs : List ℕ) → (length xs == 0) ≡ false → xs ≡ [] → ⊥
some_left xs e none = let size : length xs ≡ 0 = ap length none in grind arith

-- the path ends here
pub ends_here : (design : Design) (k : ℕ) (rest : List ℕ) → (length rest == 0) ≡ true → Leads design k rest k
ends_here design k rest e = Here k rest (empty_is rest e)

-- a search below a child found something
pub found_is : (design : Design) (k : ℕ) (rest : List ℕ) (cs : List Child) (i : ℕ) (d : Child) (name here : List ℕ) (found : Option ℕ) →
    cs ≡ (kind_of design k).children → i < length cs → d ≡ get_or cs i d → name ≡ d.name →
    rest ≡ codes "." ++ name ++ here → LeadsTo design d.kind here found → is_some found ≡ true → LeadsTo design k rest found
found_is design k rest cs i d name here None are lt at e is leads some = absurd (grind arith)
found_is design k rest cs i d name here (Some end) are lt at e is leads some =
    found_below design k rest cs i d name here end are lt at e is leads

-- a search below a child found nothing
pub nothing_is : (design : Design) (rest : List ℕ) (d : Child) (name here : List ℕ) (found : Option ℕ) → name ≡ d.name →
    rest ≡ codes "." ++ name ++ here → LeadsTo design d.kind here found → is_some found ≡ false →
    (below : List ℕ) (end : ℕ) → rest ≡ codes "." ++ d.name ++ below → Leads design d.kind below end → ⊥
nothing_is design rest d name here None e at leads none below end is more =
    not_below design rest d name here e at leads below end is more
nothing_is design rest d name here (Some found) e at leads none below end is more = absurd (grind arith)
