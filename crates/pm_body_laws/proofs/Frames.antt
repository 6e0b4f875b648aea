-- What is made of a body so far, as typing must have it.
use Rattle.std.proofs.Common.{◌≡◌, ◌∙◌, ◌==◌, ◌&&◌, ◌<◌, ◌++◌, ℕ, zero, suc, Bool, true, List, [], ◌∷◌, refl, sym, ap, subst, map, length, arith}
use Rattle.std.specs.Prelude.{IsTrue, nat_lt, slice_index_or, slice_set, Ok, Err}
use Rattle.std.specs.List.{list_all}
use Rattle.std.proofs.lemmas.Bool.{and_parts}
use Rattle.pm_design.specs.declared.body.St.{St}
use Rattle.pm_design.specs.Settings.{Progress, in_turn, progress}
use Rattle.pm_design.specs.Typing.{Sight, is_sound}
use Rattle.pm_design.specs.Widths.{is_width}
use Rattle.pm_typing.specs.declared.frame.Bound.{Bound}
use Rattle.pm_typing.specs.declared.frame.Bound.TheVariants as bound
use Rattle.pm_typing.specs.declared.frame.Frame.{Frame}
use Rattle.pm_typing.specs.declared.frame.Stored.{Stored}
use Rattle.pm_typing.specs.declared.tally.Tally.{Tally}
use Rattle.pm_typing.specs.Counted.{Checked, Counted, ◌>>=◌, pure}
use Rattle.pm_typing.specs.Sites.{Scope}
use Rattle.pm_types.specs.Assignments.{Move, here}
use Rattle.pm_types.specs.Effects.{put, with_statement}
use Rattle.pm_type_laws.specs.Good.{is_type}
use Rattle.pm_type_laws.specs.Views.{Each, IsBound, IsSite, View}
use Rattle.pm_type_laws.proofs.Yields.{On, Where, Yields, bind, done, a_node}
use Rattle.pm_type_laws.proofs.Values.{both}
use Rattle.pm_body_laws.specs.Premises.{Allows}

-- ---- computations

-- a weaker property
pub weaken : {A : Type 0} (P Q : A → Type 0) (c : Counted A) → ((a : A) → P a → Q a) → Yields P c → Yields Q c
weaken {A} P Q c on is m = by (c m) (is m)
  where
    by : (r : Checked (A × Tally)) → On (λ (r : A × Tally). P r.0) r → On (λ (r : A × Tally). Q r.0) r
    by (Ok r) is = on r.0 is
    by (Err e) is = tt

-- what holds of each condition holds under it
pub later : {A I : Type 0} (P : I → A → Type 0) (c : Counted A) → ((i : I) → Yields (P i) c) → Yields (λ (a : A). (i : I) → P i a) c
later {A} {I} P c is m = by (c m) (λ i. is i m)
  where
    by : (r : Checked (A × Tally)) → ((i : I) → On (λ (r : A × Tally). P i r.0) r) → On (λ (r : A × Tally). (i : I) → P i r.0) r
    by (Ok r) is = is
    by (Err e) is = tt

-- two properties at once
pub both_yield : {A : Type 0} (P Q : A → Type 0) (c : Counted A) → Yields P c → Yields Q c → Yields (λ (a : A). P a × Q a) c
both_yield {A} P Q c first second m = by (c m) (first m) (second m)
  where
    by : (r : Checked (A × Tally)) → On (λ (r : A × Tally). P r.0) r → On (λ (r : A × Tally). Q r.0) r → On (λ (r : A × Tally). P r.0 × Q r.0) r
    by (Ok r) first second = (first, second)
    by (Err e) first second = tt

-- ---- more elements

-- a list begins with another
abbrev pub Begins : List ℕ → List ℕ → Type 0
Begins xs ys = (rest : List ℕ) × (xs ++ rest ≡ ys)

pub append_nil : (xs : List ℕ) → xs ++ [] ≡ xs
append_nil [] = refl
append_nil (x ∷ xs) = ap (λ (ys : List ℕ). x ∷ ys) (append_nil xs)

pub append_append : (xs ys zs : List ℕ) → (xs ++ ys) ++ zs ≡ xs ++ (ys ++ zs)
append_append [] ys zs = refl
append_append (x ∷ xs) ys zs = ap (λ (ws : List ℕ). x ∷ ws) (append_append xs ys zs)

pub begins_itself : (xs : List ℕ) → Begins xs xs
begins_itself xs = ([], append_nil xs)

pub begins_on : (xs ys zs : List ℕ) → Begins xs ys → Begins ys zs → Begins xs zs
begins_on xs ys zs first second =
    (first.0 ++ second.0, sym (append_append xs first.0 second.0) ∙ (ap (λ (ws : List ℕ). ws ++ second.0) first.1 ∙ second.1))

pub begins_more : (xs : List ℕ) (x : ℕ) → Begins xs (xs ++ x ∷ [])
begins_more xs x = (x ∷ [], refl)

next_at : (xs : List ℕ) (x : ℕ) (rest : List ℕ) → (length xs < length (xs ++ (x ∷ rest))) × (slice_index_or (xs ++ (x ∷ rest)) (length xs) 0 ≡ x)
next_at [] x rest = (omega arith, refl)
next_at (y ∷ xs) x rest = let more = next_at xs x rest in (omega (arith, more.0), more.1)

-- the next number of a list that begins so
pub next_of : (xs : List ℕ) (x : ℕ) (ys : List ℕ) → Begins (xs ++ x ∷ []) ys → (length xs < length ys) × (slice_index_or ys (length xs) 0 ≡ x)
next_of xs x ys is =
    subst (λ (zs : List ℕ). (length xs < length zs) × (slice_index_or zs (length xs) 0 ≡ x)) (sym (append_append xs (x ∷ []) is.0) ∙ is.1) (next_at xs x is.0)

-- ---- widths

-- one temporary more
pub wide_more : (ws : List ℕ) (w : ℕ) → IsTrue (list_all is_width ws) → IsTrue (is_width w) → IsTrue (list_all is_width (ws ++ w ∷ []))
wide_more [] w all is = both (is_width w) true is refl
wide_more (x ∷ ws) w all is =
    let parts = and_parts (is_width x) (list_all is_width ws) all in
    both (is_width x) _ parts.0 (wide_more ws w parts.1 is)

-- the first of them
pub wide_first : (ws more : List ℕ) → IsTrue (list_all is_width (ws ++ more)) → IsTrue (list_all is_width ws)
wide_first [] more all = refl
wide_first (x ∷ ws) more all =
    let parts = and_parts (is_width x) (list_all is_width (ws ++ more)) all in
    both (is_width x) _ parts.0 (wide_first ws more parts.1)

-- ---- frames

-- what is assigned behind the statements so far
abbrev pub behind : Progress → List St → Progress
behind p body = in_turn (map progress body) p

pub behind_more : (p : Progress) (body : List St) (st : St) → behind p (body ++ st ∷ []) ≡ progress st (behind p body)
behind_more p [] st = refl
behind_more p (x ∷ body) st = behind_more (progress x p) body st

-- the view of a body behind the statements so far
abbrev pub view_of : Sight → Progress → List St → View
view_of s p body = record { sight = s; assigned = (behind p body).assigned }

-- the temporary of a name
abbrev pub is_stored : Sight → Scope → Stored → Bool
is_stored s scope t =
    nat_lt t.number (length s.temps) && (slice_index_or s.temps t.number 0 == t.ty.width && is_type scope.design.design.shapes t.ty)

-- what names stand for, where this is assigned
abbrev pub AreBound : Sight → Scope → Progress → List Bound → Type 0
AreBound s scope p bounds = Each (IsBound (record { sight = s; assigned = p.assigned }) scope) bounds

-- a body so far, whose statements began where this was assigned
pub record IsFrame (s : Sight) (scope : Scope) (p : Progress) (f : Frame) : Type 0 where
  pub bounds : AreBound s scope (behind p f.out) f.bounds
  pub stored : Each (Where (λ (t : Stored). IsTrue (is_stored s scope t))) f.stored
  pub sound : IsTrue (list_all (is_sound s) f.out)
  pub fine : IsTrue (behind p f.out).fine
  pub wide : IsTrue (list_all is_width f.temps)

-- one body so far leads to another: it keeps its temporaries, and what a body must have
pub record Leads (s : Sight) (scope : Scope) (f g : Frame) : Type 0 where
  pub temps : Begins f.temps g.temps
  pub frame : (p : Progress) → Begins g.temps s.temps → IsFrame s scope p f → IsFrame s scope p g

-- where a body so far stands
pub record Ready (s : Sight) (scope : Scope) (f : Frame) : Type 0 where
  pub progress : Progress
  pub temps : Begins f.temps s.temps
  pub frame : IsFrame s scope progress f

-- the view there
abbrev pub view_at : (s : Sight) (scope : Scope) (f : Frame) → Ready s scope f → View
view_at s scope f r = view_of s r.progress f.out

-- what a statement does leads on
abbrev pub IsMove : Sight → Scope → Move → Type 0
IsMove s scope move = (f : Frame) → Yields (Leads s scope f) (move f)

module _ (s : Sight) (scope : Scope) where
  pub leads_itself : (f : Frame) → Leads s scope f f
  leads_itself f = record { temps = begins_itself f.temps; frame = λ p begins is. is }

  pub leads_on : (f g h : Frame) → Leads s scope f g → Leads s scope g h → Leads s scope f h
  leads_on f g h first second = record {
    temps = begins_on f.temps g.temps h.temps first.temps second.temps;
    frame = λ p begins is. second.frame p begins (first.frame p (begins_on g.temps h.temps s.temps second.temps begins) is);
  }

  -- one after the other
  pub then_move : (f : Frame) (c : Counted Frame) (d : Move) → Yields (Leads s scope f) c → IsMove s scope d → Yields (Leads s scope f) (c >>= d)
  then_move f c d is next =
      bind (Leads s scope f) (Leads s scope f) c d is (λ g first. weaken (Leads s scope g) (Leads s scope f) (d g) (λ h second. leads_on f g h first second) (next g))

  pub stays : IsMove s scope (λ f. pure f)
  stays f = done (Leads s scope f) f (leads_itself f)

  -- ---- statements

  -- a statement that is sound where this is assigned
  pub record IsDone (p : Progress) (st : St) : Type 0 where
    pub sound : IsTrue (is_sound s st)
    pub fine : IsTrue (progress st p).fine
    pub keeps : (t : ℕ) → IsTrue (p.assigned t) → IsTrue ((progress st p).assigned t)

  bound_on : (p q : Progress) (b : Bound) → ((t : ℕ) → IsTrue (p.assigned t) → IsTrue (q.assigned t))
      → IsBound (record { sight = s; assigned = p.assigned }) scope b → IsBound (record { sight = s; assigned = q.assigned }) scope b
  bound_on p q (bound.Temp t ty) keeps is =
      let parts = and_parts (p.assigned t) _ is in
      both (q.assigned t) _ (keeps t parts.0) parts.1
  bound_on p q bound.Unassigned keeps is = tt
  bound_on p q (bound.Int n) keeps is = tt

  -- what names stand for, where more is assigned
  pub bounds_on : (p q : Progress) (bs : List Bound) → ((t : ℕ) → IsTrue (p.assigned t) → IsTrue (q.assigned t))
      → AreBound s scope p bs → AreBound s scope q bs
  bounds_on p q [] keeps are = tt
  bounds_on p q (b ∷ bs) keeps are = (bound_on p q b keeps are.0, bounds_on p q bs keeps are.1)

  -- one name stands for something else
  pub bound_put : (p : Progress) (bs : List Bound) (k : ℕ) (b : Bound) → AreBound s scope p bs
      → IsBound (record { sight = s; assigned = p.assigned }) scope b → AreBound s scope p (slice_set bs k b)
  bound_put p [] k b are is = tt
  bound_put p (x ∷ bs) zero b are is = (is, are.1)
  bound_put p (x ∷ bs) (suc k) b are is = (are.0, bound_put p bs k b are.1 is)

  all_behind : (body : List St) (st : St) → IsTrue (list_all (is_sound s) body) → IsTrue (is_sound s st) → IsTrue (list_all (is_sound s) (body ++ st ∷ []))
  all_behind [] st all is = both (is_sound s st) true is refl
  all_behind (x ∷ body) st all is =
      let parts = and_parts (is_sound s x) (list_all (is_sound s) body) all in
      both (is_sound s x) _ parts.0 (all_behind body st parts.1 is)

  -- one statement more, where names stand for these
  pub frame_put : (p : Progress) (f : Frame) (st : St) (bs : List Bound) → IsFrame s scope p f → IsDone (behind p f.out) st
      → AreBound s scope (progress st (behind p f.out)) bs → IsFrame s scope p (record f { bounds = bs; out = f.out ++ st ∷ [] })
  frame_put p f st bs is done are =
      let same : behind p (f.out ++ st ∷ []) ≡ progress st (behind p f.out) = behind_more p f.out st in
      record {
        bounds = subst (λ (q : Progress). AreBound s scope q bs) (sym same) are;
        stored = is.stored;
        sound = all_behind f.out st is.sound done.sound;
        fine = subst (λ (q : Progress). IsTrue q.fine) (sym same) done.fine;
        wide = is.wide;
      }

  -- one statement more
  pub put_leads : (f : Frame) (st : St) → ((r : Ready s scope f) → IsDone (behind r.progress f.out) st) → Leads s scope f (with_statement st f)
  put_leads f st is = record {
    temps = begins_itself f.temps;
    frame = λ p begins frame.
        let done = is (record { progress = p; temps = begins; frame = frame }) in
        frame_put p f st f.bounds frame done (bounds_on (behind p f.out) (progress st (behind p f.out)) f.bounds done.keeps frame.bounds);
  }

  -- a statement that is put
  pub put_is : (f : Frame) (st : St) → ((r : Ready s scope f) → IsDone (behind r.progress f.out) st) → Yields (Leads s scope f) (put st f)
  unfolding put
  put_is f st is = a_node (Leads s scope f) (with_statement st f) (put_leads f st is)

  -- ---- where expressions stand

  -- a body so far is where its expressions stand
  pub site_is : Allows s scope → (line : ℕ) (f : Frame) (r : Ready s scope f) → IsSite (view_at s scope f r) (here scope line f)
  site_is allows line f r = (allows.sees (behind r.progress f.out).assigned, r.frame.bounds)
