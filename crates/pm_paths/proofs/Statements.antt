-- The run of each statement keeps to its paths.
use std.Path.{fun_ext}
use Rattle.std.proofs.Common.{◌≡◌, ◌∙◌, ◌⊎◌, ◌<◌, ◌==◌, ◌||◌, ℕ, zero, suc, List, [], ◌∷◌, ◌++◌, map, refl, sym, ap, ap₂, subst, Bool, true, false, inl, inr, ⊎_elim, length, nat_lt, arith, eqb-true, eq-eqb, ltb-true}
use Rattle.std.specs.Prelude.{flat_map, if◌then◌else◌, slice_index_or, Option}
use Rattle.std.proofs.lemmas.Bool.{both_ways, cases_Bool, or_cases, or_left, or_right}
use Rattle.pm_bits.specs.Word.{Word, bit_of}
use Rattle.pm_design.specs.declared.body.Ex.{Ex}
use Rattle.pm_design.specs.declared.body.St.{St, St-F, fold-St, fold-roll-St, roll-St}
use Rattle.pm_design.specs.declared.body.St.TheFolds.{ind-St, map-St}
use Rattle.pm_design.specs.declared.connection.Callee.{Callee}
use Rattle.pm_design.specs.declared.connection.Part.{Part}
use Rattle.pm_block.specs.Places.{Items, Valuation, put_at}
use Rattle.pm_block.specs.Run.{Returned, Scene, State, assigned, in_turn, picked_put, popped, popped_place, pushed, put_items, put_part, put_target, put_temp, returned, run, run_step, value_in, with_items, words_of}
use Rattle.pm_block.specs.Value.{Names, Temporaries, item_of, no_part, places_of, zero_word}
use Rattle.pm_touched.specs.Events.{Place, is_among}
use Rattle.pm_touched.specs.Events.Place.{Bit, Object}
use Rattle.pm_touched.specs.Expressions.{part_places, parts_places, reads, state_place}
use Rattle.pm_touched.specs.Touches.{Touch}
use Rattle.pm_touched.specs.Walks.{Sight, all_in_turn, reading, walk, walk_body, walk_step}
use Rattle.pm_paths.specs.Memories.{words_at}
use Rattle.pm_paths.proofs.Among.{among_left, among_right, element_among, part_from, part_has, part_has_none}
use Rattle.pm_paths.proofs.Frames.{AreAlike, IsChange, IsFrame, Places, Touches, at, early_in, fewer, frame_change, frame_if, frame_none, frame_turn, joined}
use Rattle.pm_paths.proofs.Values.{HangOn, object_same, same_bit, value_same}

-- the places of a list, as a test
abbrev pub among : List Place → Places
among places q = is_among q places

-- what calls leave, and their answers, hang on what the callee's paths read first
pub record IsCallFrame (call : List Word → State → Returned) (p : Touches) : Type 0 where
  pub keeps : (args : List Word) (s : State) (q : Place) → (p q).written ≡ false → at (call args s).state q ≡ at s q
  pub agrees : (args : List Word) (s t : State) → ((q : Place) → (p q).early ≡ true → at s q ≡ at t q)
      → (q : Place) → (at s q ≡ at t q) ⊎ ((p q).surely ≡ true) → at (call args s).state q ≡ at (call args t).state q
  pub answer : (args : List Word) (s t : State) → ((q : Place) → (p q).early ≡ true → at s q ≡ at t q)
      → (call args s).answer ≡ (call args t).answer
  pub reads : (q : Place) → (p q).early ≡ true → (p q).read ≡ true
  pub writes : (q : Place) → (p q).surely ≡ true → (p q).written ≡ true

-- a scene whose guards and calls hang on what is said of them
pub record Fits (scene : Scene) (guards : Callee → List Place) (calls : Callee → Touches) : Type 0 where
  pub ready : HangOn guards scene.ready
  pub call : (m : Callee) → IsCallFrame (scene.call m) (calls m)

-- ---- values in states

-- the value of an expression is the same in states that are alike where it reads
pub value_alike : (scene : Scene) (guards : Callee → List Place) (calls : Callee → Touches) (e : Ex) (s t : State)
    → Fits scene guards calls → AreAlike (among (reads guards scene.frame e)) s t → value_in scene s e ≡ value_in scene t e
value_alike scene guards calls e s t fits alike =
    ap (λ (temps : Temporaries). value_in scene (record s { temps = temps }) e) alike.temps
    ∙ value_same guards scene.ready scene.frame s.places s.items t.places t.items t.temps e fits.ready alike.places

-- ---- words that are put

put_other : (place : ℕ → ℕ) (n : ℕ) (w : Word) (v : Valuation) (q : ℕ) → ((i : ℕ) → i < n → ¬ (place i ≡ q))
    → put_at place n w v q ≡ v q
unfolding put_at
put_other place zero w v q apart = refl
put_other place (suc n) w v q apart =
    by (q == place n) refl (put_other place n w v q (λ i lt. apart i (omega (arith, lt))))
  where
    by : (b : Bool) → (q == place n) ≡ b → put_at place n w v q ≡ v q
        → (if b then bit_of w n else put_at place n w v q) ≡ v q
    by true is rest = absurd (apart n (omega arith) (sym (eqb-true q (place n) is)))
    by false is rest = rest

put_same : (place : ℕ → ℕ) (n : ℕ) (w : Word) (u v : Valuation) (q : ℕ)
    → (u q ≡ v q) ⊎ ((i : ℕ) × (i < n) × (place i ≡ q)) → put_at place n w u q ≡ put_at place n w v q
unfolding put_at
put_same place zero w u v q (inl e) = e
put_same place zero w u v q (inr found) = absurd (omega (arith, found.1))
put_same place (suc n) w u v q h = by (q == place n) refl h (put_same place n w u v q)
  where
    by : (b : Bool) → (q == place n) ≡ b → (u q ≡ v q) ⊎ ((i : ℕ) × (i < suc n) × (place i ≡ q))
        → ((u q ≡ v q) ⊎ ((i : ℕ) × (i < n) × (place i ≡ q)) → put_at place n w u q ≡ put_at place n w v q)
        → (if b then bit_of w n else put_at place n w u q) ≡ (if b then bit_of w n else put_at place n w v q)
    by true is h rest = refl
    by false is (inl e) rest = rest (inl e)
    by false is (inr found) rest = rest (inr (found.0, omega (arith, found.1, ne), found.2))
      where
        ne : ¬ (found.0 ≡ n)
        ne e = both_ways (q == place n) is (eq-eqb q (place n) (sym found.2 ∙ ap place e))

one_bit : ℕ → List Word
one_bit n = (record { width = 1; value = n }) ∷ []

-- a word put into a part, in a state
part_keeps : (names : Names) (p : Part) (w : Word) (s : State) (q : Place) → is_among q (part_places names p) ≡ false
    → at (assigned false (put_part names p w) s) q ≡ at s q
unfolding one_bit
part_keeps names p w s (Bit n) none =
    ap one_bit
    (put_other (places_of names p) p.width w s.places n (λ i lt e. both_ways (is_among (Bit n) (part_places names p)) none
    (subst (λ (m : ℕ). is_among (Bit m) (part_places names p) ≡ true) e (part_has names p i lt))))
part_keeps names p w s (Object k) none = refl

part_agrees : (names : Names) (p : Part) (w : Word) (s t : State) (q : Place)
    → (at s q ≡ at t q) ⊎ (is_among q (part_places names p) ≡ true)
    → at (assigned false (put_part names p w) s) q ≡ at (assigned false (put_part names p w) t) q
unfolding one_bit
part_agrees names p w s t (Bit n) h = ap one_bit (put_same (places_of names p) p.width w s.places t.places n (by h))
  where
    by : (at s (Bit n) ≡ at t (Bit n)) ⊎ (is_among (Bit n) (part_places names p) ≡ true)
        → (s.places n ≡ t.places n) ⊎ ((i : ℕ) × (i < p.width) × (places_of names p i ≡ n))
    by (inl e) = inl (same_bit s.places t.places s.items t.items n e)
    by (inr e) = inr (part_from names p n e)
part_agrees names p w s t (Object k) (inl e) = e
part_agrees names p w s t (Object k) (inr e) =
    absurd (both_ways (is_among (Object k) (part_places names p)) (part_has_none names p k) e)

-- ---- each form of statement

set_change : (scene : Scene) (guards : Callee → List Place) (calls : Callee → Touches) (p : Part) (e : Ex)
    → Fits scene guards calls
    → IsChange (λ s. assigned false (put_part scene.frame.names p (value_in scene s e)) s)
    (among (reads guards scene.frame e)) (among (part_places scene.frame.names p))
    (among (part_places scene.frame.names p))
set_change scene guards calls p e fits = record {
  keeps = λ s q none. part_keeps scene.frame.names p (value_in scene s e) s q none;
  agrees = λ s t alike q h.
      ap (λ (w : Word). at (assigned false (put_part scene.frame.names p w) s) q)
      (value_alike scene guards calls e s t fits alike)
      ∙ part_agrees scene.frame.names p (value_in scene t e) s t q h;
  temps = λ s t alike. alike.temps;
  writes = λ q h. h;
}

pick_change : (scene : Scene) (guards : Callee → List Place) (calls : Callee → Touches) (i : Ex) (ps : List Part) (e : Ex)
    → Fits scene guards calls
    → IsChange (λ s. picked_put false scene.frame.names ps (value_in scene s i).value (value_in scene s e) s)
    (λ q. is_among q (reads guards scene.frame i) || is_among q (reads guards scene.frame e))
    (among (parts_places scene.frame.names ps)) (λ q. false)
pick_change scene guards calls i ps e fits = record {
  keeps = λ s q none. keep s q none (value_in scene s i).value (value_in scene s e);
  agrees = λ s t alike q h.
      ap₂ (λ (j w : Word). at (picked_put false names ps j.value w s) q)
      (value_alike scene guards calls i s t fits (first s t alike))
      (value_alike scene guards calls e s t fits (second s t alike))
      ∙ agree s t q h (value_in scene t i).value (value_in scene t e);
  temps = λ s t alike.
      ap₂ (λ (j w : Word). (picked_put false names ps j.value w s).temps)
      (value_alike scene guards calls i s t fits (first s t alike))
      (value_alike scene guards calls e s t fits (second s t alike))
      ∙ same_temps s t alike.temps (value_in scene t i).value (value_in scene t e);
  writes = λ q h. absurd (cc);
}
  where
    names : Names
    names = scene.frame.names

    ri : Places
    ri = among (reads guards scene.frame i)

    re : Places
    re = among (reads guards scene.frame e)

    either : Places
    either q = ri q || re q

    first : (s t : State) → AreAlike either s t → AreAlike ri s t
    first s t alike = fewer either ri s t (λ q holds. or_left (ri q) (re q) holds) alike

    second : (s t : State) → AreAlike either s t → AreAlike re s t
    second s t alike = fewer either re s t (λ q holds. or_right (ri q) (re q) holds) alike

    not_any : (q : Place) (k : ℕ) → is_among q (parts_places names ps) ≡ false → k < length ps
        → is_among q (part_places names (slice_index_or ps k no_part)) ≡ false
    not_any q k none lt =
        ⊎_elim (λ (h : is_among q (part_places names (slice_index_or ps k no_part)) ≡ true).
        absurd (both_ways (is_among q (parts_places names ps)) none (element_among names ps k q lt h)))
        (λ (h : is_among q (part_places names (slice_index_or ps k no_part)) ≡ false). h)
        (cases_Bool (is_among q (part_places names (slice_index_or ps k no_part))))

    keep : (s : State) (q : Place) → is_among q (parts_places names ps) ≡ false → (k : ℕ) (w : Word)
        → at (picked_put false names ps k w s) q ≡ at s q
    keep s q none k w = by (nat_lt k (length ps)) refl
      where
        by : (b : Bool) → nat_lt k (length ps) ≡ b
            → at (if b then assigned false (put_part names (slice_index_or ps k no_part) w) s else s) q ≡ at s q
        by true is = part_keeps names (slice_index_or ps k no_part) w s q (not_any q k none (ltb-true _ _ is))
        by false is = refl

    agree : (s t : State) (q : Place) → (at s q ≡ at t q) ⊎ (false ≡ true) → (k : ℕ) (w : Word)
        → at (picked_put false names ps k w s) q ≡ at (picked_put false names ps k w t) q
    agree s t q (inl same) k w = by (nat_lt k (length ps))
      where
        by : (b : Bool)
            → at (if b then assigned false (put_part names (slice_index_or ps k no_part) w) s else s) q
            ≡ at (if b then assigned false (put_part names (slice_index_or ps k no_part) w) t else t) q
        by true = part_agrees names (slice_index_or ps k no_part) w s t q (inl same)
        by false = same
    agree s t q (inr none) k w = absurd (cc)

    same_temps : (s t : State) → s.temps ≡ t.temps → (k : ℕ) (w : Word)
        → (picked_put false names ps k w s).temps ≡ (picked_put false names ps k w t).temps
    same_temps s t same k w = by (nat_lt k (length ps))
      where
        by : (b : Bool)
            → (if b then assigned false (put_part names (slice_index_or ps k no_part) w) s else s).temps
            ≡ (if b then assigned false (put_part names (slice_index_or ps k no_part) w) t else t).temps
        by true = same
        by false = same

first_false : (b : Bool) → (b || false) ≡ false → b ≡ false
first_false true e = absurd (cc)
first_false false e = refl

first_true : (b : Bool) → (b || false) ≡ true → b ≡ true
first_true true e = refl
first_true false e = absurd (cc)

-- other items in one object
items_keep : (k : ℕ) (words : List Word) (items : Items) (v : Valuation) (q : Place) → is_among q (Object k ∷ []) ≡ false
    → words_at v (put_items k words items) q ≡ words_at v items q
items_keep k words items v (Bit n) e = refl
items_keep k words items v (Object j) e = ap (λ (b : Bool). if b then words else items j) (first_false (j == k) e)

items_agree : (k : ℕ) (words : List Word) (i j : Items) (v w : Valuation) (q : Place)
    → (words_at v i q ≡ words_at w j q) ⊎ (is_among q (Object k ∷ []) ≡ true)
    → words_at v (put_items k words i) q ≡ words_at w (put_items k words j) q
items_agree k words i j v w (Bit n) (inl e) = e
items_agree k words i j v w (Bit n) (inr e) = absurd (cc)
items_agree k words i j v w (Object o) h = by (o == k) refl h
  where
    by : (b : Bool) → (o == k) ≡ b → (i o ≡ j o) ⊎ (((o == k) || false) ≡ true)
        → (if b then words else i o) ≡ (if b then words else j o)
    by true is h = refl
    by false is (inl e) = e
    by false is (inr e) = absurd (both_ways (o == k) is (first_true (o == k) e))

-- a change of one state object
items_change : (scene : Scene) (k : ℕ) (r : Places) (words : State → List Word)
    → ((s t : State) → AreAlike r s t → words s ≡ words t)
    → (temps : State → Temporaries) → ((s t : State) → AreAlike r s t → temps s ≡ temps t)
    → IsChange (λ s. record s { items = put_items (scene.frame.object k) (words s) s.items; temps = temps s }) r
    (among (state_place scene.frame k ∷ [])) (among (state_place scene.frame k ∷ []))
items_change scene k r words hangs temps follow = record {
  keeps = λ s q e. items_keep (scene.frame.object k) (words s) s.items s.places q e;
  agrees = λ s t alike q h.
      ap (λ (ws : List Word). words_at s.places (put_items (scene.frame.object k) ws s.items) q) (hangs s t alike)
      ∙ items_agree (scene.frame.object k) (words t) s.items t.items s.places t.places q h;
  temps = λ s t alike. follow s t alike;
  writes = λ q h. h;
}

temp_frame : (scene : Scene) (guards : Callee → List Place) (calls : Callee → Touches) (k : ℕ) (e : Ex)
    → Fits scene guards calls
    → IsFrame (λ s. record s { temps = put_temp k (value_in scene s e) s.temps })
    (λ q. reading (is_among q (reads guards scene.frame e)))
temp_frame scene guards calls k e fits = record {
  keeps = λ s q h. refl;
  agrees = λ s t alike q. ⊎_elim (λ (same : at s q ≡ at t q). same) (λ (none : false ≡ true). absurd (cc));
  temps = λ s t alike.
      ap₂ (λ (w : Word) (temps : Temporaries). put_temp k w temps) (value_alike scene guards calls e s t fits alike)
      alike.temps;
  reads = λ q h. h;
  writes = λ q h. h;
}

-- the arguments of a call are the same in states that are alike where they read
args_alike : (scene : Scene) (guards : Callee → List Place) (calls : Callee → Touches) (es : List Ex) (s t : State)
    → Fits scene guards calls → AreAlike (among (flat_map (reads guards scene.frame) es)) s t
    → map (value_in scene s) es ≡ map (value_in scene t) es
args_alike scene guards calls [] s t fits alike = refl
args_alike scene guards calls (e ∷ es) s t fits alike =
    let r = reads guards scene.frame e in
    let rest = flat_map (reads guards scene.frame) es in
    ap₂ (λ (x : Word) (xs : List Word). x ∷ xs)
    (value_alike scene guards calls e s t fits
    (fewer (among (r ++ rest)) (among r) s t (λ q holds. among_left q r rest holds) alike))
    (args_alike scene guards calls es s t fits
    (fewer (among (r ++ rest)) (among rest) s t (λ q holds. among_right q r rest holds) alike))

call_frame : (scene : Scene) (guards : Callee → List Place) (calls : Callee → Touches) (m : Callee) (es : List Ex)
    (target : Option ℕ) → Fits scene guards calls
    → IsFrame (λ s. returned target s (scene.call m (map (value_in scene s) es) s))
    (joined (λ q. reading (is_among q (flat_map (reads guards scene.frame) es))) (calls m))
call_frame scene guards calls m es target fits = record {
  keeps = λ s q h. (fits.call m).keeps (map (value_in scene s) es) s q h;
  agrees = λ s t alike q h.
      ap (λ (args : List Word). at (scene.call m args s).state q) (same_args s t alike)
      ∙ (fits.call m).agrees (map (value_in scene t) es) s t (inside s t alike) q h;
  temps = λ s t alike.
      ap₂ (λ (args : List Word) (temps : Temporaries). put_target target (scene.call m args s).answer temps)
      (same_args s t alike) alike.temps
      ∙ ap (λ (w : Word). put_target target w t.temps)
      ((fits.call m).answer (map (value_in scene t) es) s t (inside s t alike));
  reads = λ q h. ⊎_elim (λ (e : r q ≡ true). or_left (r q) ((calls m q).read) e)
      (λ (e : (calls m q).early ≡ true). or_right (r q) ((calls m q).read) ((fits.call m).reads q e))
      (or_cases (r q) ((calls m q).early) h);
  writes = λ q h. (fits.call m).writes q h;
}
  where
    r : Places
    r = among (flat_map (reads guards scene.frame) es)

    whole : Places
    whole = early_in (joined (λ q. reading (r q)) (calls m))

    same_args : (s t : State) → AreAlike whole s t → map (value_in scene s) es ≡ map (value_in scene t) es
    same_args s t alike =
        args_alike scene guards calls es s t fits
        (fewer whole r s t (λ q holds. or_left (r q) ((calls m q).early) holds) alike)

    inside : (s t : State) → AreAlike whole s t → (q : Place) → (calls m q).early ≡ true → at s q ≡ at t q
    inside s t alike q holds = alike.places q (or_right (r q) ((calls m q).early) holds)

-- ---- statements and bodies

-- what the names of a scene's bodies mean to one place
abbrev pub sight_at : Scene → (Callee → List Place) → (Callee → Touches) → Place → Sight
sight_at scene guards calls q = record { frame = scene.frame; guards = guards; calls = λ m. calls m q }

-- what a statement does with each place
abbrev pub walks : Scene → (Callee → List Place) → (Callee → Touches) → St → Touches
walks scene guards calls st q = walk (sight_at scene guards calls q) q st

-- the run of a statement keeps to its paths
HasFrame : Scene → (Callee → List Place) → (Callee → Touches) → St → Type 0
HasFrame scene guards calls st = IsFrame (λ s. run false scene st s) (walks scene guards calls st)

each_in_turn : (scene : Scene) (guards : Callee → List Place) (calls : Callee → Touches)
    (xs : List ((s : St) × HasFrame scene guards calls s))
    → IsFrame (λ s. in_turn (map (run false scene) (map (λ x. x.0) xs)) s)
    (λ q. all_in_turn (map (walk (sight_at scene guards calls q) q) (map (λ x. x.0) xs)))
unfolding HasFrame
each_in_turn scene guards calls [] = frame_none
each_in_turn scene guards calls (x ∷ xs) =
    frame_turn (λ s. run false scene x.0 s) (λ s. in_turn (map (run false scene) (map (λ y. y.0) xs)) s)
    (walks scene guards calls x.0)
    (λ q. all_in_turn (map (walk (sight_at scene guards calls q) q) (map (λ y. y.0) xs))) x.1
    (each_in_turn scene guards calls xs)

-- a node of a statement, as its run and its walk see it
abbrev node_run : (scene : Scene) (guards : Callee → List Place) (calls : Callee → Touches)
    → St-F ((s : St) × HasFrame scene guards calls s) → State → State
node_run scene guards calls y s =
    run_step false scene (map-St St (State → State) (run false scene) (map-St ((s : St) × HasFrame scene guards calls s) St (λ x. x.0) y)) s

abbrev node_walk : (scene : Scene) (guards : Callee → List Place) (calls : Callee → Touches)
    → St-F ((s : St) × HasFrame scene guards calls s) → Touches
node_walk scene guards calls y q =
    walk_step (sight_at scene guards calls q) q (map-St St Touch (walk (sight_at scene guards calls q) q) (map-St ((s : St) × HasFrame scene guards calls s) St (λ x. x.0) y))

nested : (a b : Bool) → (a || b) ≡ true → (a || (b || false)) ≡ true
nested true b e = refl
nested false true e = refl
nested false false e = absurd (cc)

layer_frame : (scene : Scene) (guards : Callee → List Place) (calls : Callee → Touches) → Fits scene guards calls
    → (y : St-F ((s : St) × HasFrame scene guards calls s))
    → IsFrame (λ s. node_run scene guards calls y s) (λ q. node_walk scene guards calls y q)
unfolding HasFrame
layer_frame scene guards calls fits (St-F.Set p e) =
    let r = among (reads guards scene.frame e) in
    let may = among (part_places scene.frame.names p) in
    frame_change (λ s. assigned false (put_part scene.frame.names p (value_in scene s e)) s) r may may
    (set_change scene guards calls p e fits) (λ q. node_walk scene guards calls (St-F.Set p e) q) (λ q. refl) (λ q. refl)
    (λ q h. or_left (r q) false h) (λ q h. h)
layer_frame scene guards calls fits (St-F.SetPick i ps e) =
    let ri = among (reads guards scene.frame i) in
    let re = among (reads guards scene.frame e) in
    frame_change (λ s. picked_put false scene.frame.names ps (value_in scene s i).value (value_in scene s e) s)
    (λ q. ri q || re q) (among (parts_places scene.frame.names ps)) (λ q. false)
    (pick_change scene guards calls i ps e fits) (λ q. node_walk scene guards calls (St-F.SetPick i ps e) q)
    (λ q. refl) (λ q. refl) (λ q h. nested (ri q) (re q) h) (λ q h. h)
layer_frame scene guards calls fits (St-F.SetTemp t e) = temp_frame scene guards calls t e fits
layer_frame scene guards calls fits (St-F.SetNumber k e) =
    let r = among (reads guards scene.frame e) in
    let o = among (state_place scene.frame k ∷ []) in
    frame_change (λ s. with_items scene k (value_in scene s e ∷ []) s) r o o
    (items_change scene k r (λ s. value_in scene s e ∷ [])
    (λ s t alike. ap (λ (w : Word). w ∷ []) (value_alike scene guards calls e s t fits alike)) (λ s. s.temps)
    (λ s t alike. alike.temps)) (λ q. node_walk scene guards calls (St-F.SetNumber k e) q) (λ q. refl) (λ q. refl)
    (λ q h. or_left (r q) false h) (λ q h. h)
layer_frame scene guards calls fits (St-F.Push k end e) =
    let r = among (reads guards scene.frame e) in
    let o = among (state_place scene.frame k ∷ []) in
    let both : Places = λ q. r q || o q in
    frame_change (λ s. with_items scene k (pushed (scene.frame.holding k).maxlen end (value_in scene s e) (words_of scene s k)) s)
    both o o
    (items_change scene k both
    (λ s. pushed (scene.frame.holding k).maxlen end (value_in scene s e) (words_of scene s k))
    (λ s t alike. ap₂ (λ (w : Word) (ws : List Word). pushed (scene.frame.holding k).maxlen end w ws)
    (value_alike scene guards calls e s t fits (fewer both r s t (λ q holds. or_left (r q) (o q) holds) alike))
    (object_same (scene.frame.object k) s.places s.items t.places t.items
    (λ q holds. alike.places q (or_right (r q) (o q) holds)))) (λ s. s.temps) (λ s t alike. alike.temps))
    (λ q. node_walk scene guards calls (St-F.Push k end e) q) (λ q. refl) (λ q. refl) (λ q h. nested (r q) (o q) h)
    (λ q h. h)
layer_frame scene guards calls fits (St-F.Pop k end target) =
    let o = among (state_place scene.frame k ∷ []) in
    let same : (s t : State) → AreAlike o s t → words_of scene s k ≡ words_of scene t k = λ s t alike.
    object_same (scene.frame.object k) s.places s.items t.places t.items alike.places in
    frame_change (λ s. run_step false scene (St-F.Pop k end target) s) o o o
    (items_change scene k o (λ s. popped end (words_of scene s k))
    (λ s t alike. ap (popped end) (same s t alike))
    (λ s. put_target target (item_of scene.frame s.items k (popped_place end (words_of scene s k))) s.temps)
    (λ s t alike. ap₂ (λ (ws : List Word) (temps : Temporaries). put_target target (slice_index_or ws (popped_place end ws) (zero_word (scene.frame.holding k).width)) temps)
    (same s t alike) alike.temps)) (λ q. node_walk scene guards calls (St-F.Pop k end target) q) (λ q. refl) (λ q. refl)
    (λ q h. or_left (o q) false h) (λ q h. h)
layer_frame scene guards calls fits (St-F.Clear k) =
    let o = among (state_place scene.frame k ∷ []) in
    frame_change (λ s. with_items scene k [] s) (λ q. false) o o
    (items_change scene k (λ q. false) (λ s. []) (λ s t alike. refl) (λ s. s.temps) (λ s t alike. alike.temps))
    (λ q. node_walk scene guards calls (St-F.Clear k) q) (λ q. refl) (λ q. refl) (λ q h. absurd (cc)) (λ q h. absurd (cc))
layer_frame scene guards calls fits (St-F.Call m es target) = call_frame scene guards calls m es target fits
layer_frame scene guards calls fits (St-F.If c xs ys) =
    frame_if (λ s. (value_in scene s c).value == 0) (among (reads guards scene.frame c))
    (λ s. in_turn (map (run false scene) (map (λ x. x.0) xs)) s)
    (λ s. in_turn (map (run false scene) (map (λ y. y.0) ys)) s)
    (λ q. all_in_turn (map (walk (sight_at scene guards calls q) q) (map (λ x. x.0) xs)))
    (λ q. all_in_turn (map (walk (sight_at scene guards calls q) q) (map (λ y. y.0) ys)))
    (λ s t alike. ap (λ (w : Word). w.value == 0) (value_alike scene guards calls c s t fits alike))
    (each_in_turn scene guards calls xs) (each_in_turn scene guards calls ys)

-- the run of each statement keeps to its paths
pub has_frame : (scene : Scene) (guards : Callee → List Place) (calls : Callee → Touches) → Fits scene guards calls
    → (st : St) → IsFrame (λ s. run false scene st s) (walks scene guards calls st)
unfolding HasFrame run walk
has_frame scene guards calls fits =
    ind-St (HasFrame scene guards calls) (λ x y is.
    let step : St-F St → Type 0 = λ z. IsFrame (λ s. run_step false scene (map-St St (State → State) (run false scene) z) s) (λ q. walk_step (sight_at scene guards calls q) q (map-St St Touch (walk (sight_at scene guards calls q) q) z)) in
    let here = subst step is (layer_frame scene guards calls fits y) in
    rolled scene guards calls x here)
  where
    rolled : (scene : Scene) (guards : Callee → List Place) (calls : Callee → Touches) (x : St-F St)
        → IsFrame (λ s. run_step false scene (map-St St (State → State) (run false scene) x) s) (λ q. walk_step (sight_at scene guards calls q) q (map-St St Touch (walk (sight_at scene guards calls q) q) x))
        → IsFrame (λ s. fold-St (State → State) (run_step false scene) (roll-St x) s) (λ q. fold-St Touch (walk_step (sight_at scene guards calls q) q) (roll-St x))
    rolled scene guards calls x here =
        subst (λ (f : State → State). IsFrame f (λ q. fold-St Touch (walk_step (sight_at scene guards calls q) q) (roll-St x)))
        (sym (fold-roll-St (State → State) (run_step false scene) x))
        (subst (λ (p : Touches). IsFrame (λ s. run_step false scene (map-St St (State → State) (run false scene) x) s) p)
        (fun_ext (λ q. sym (fold-roll-St Touch (walk_step (sight_at scene guards calls q) q) x))) here)

-- the run of a body keeps to its paths
pub body_frame : (scene : Scene) (guards : Callee → List Place) (calls : Callee → Touches) → Fits scene guards calls
    → (body : List St)
    → IsFrame (λ s. in_turn (map (run false scene) body) s) (λ q. walk_body (sight_at scene guards calls q) q body)
body_frame scene guards calls fits [] = frame_none
body_frame scene guards calls fits (st ∷ body) =
    frame_turn (λ s. run false scene st s) (λ s. in_turn (map (run false scene) body) s) (walks scene guards calls st)
    (λ q. walk_body (sight_at scene guards calls q) q body) (has_frame scene guards calls fits st)
    (body_frame scene guards calls fits body)
