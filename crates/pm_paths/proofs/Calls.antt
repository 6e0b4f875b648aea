-- Guards and calls of a world keep to their paths.
use Rattle.std.proofs.Common.{◌≡◌, ◌∙◌, ◌⊎◌, ◌&&◌, ◌||◌, ℕ, zero, suc, List, map, refl, sym, ap, Bool, true, false, not, inl, inr, ⊎_elim}
use Rattle.std.specs.Prelude.{Option, None, Some}
use Rattle.std.proofs.lemmas.Bool.{or_cases, or_left, or_right}
use Rattle.pm_bits.specs.Word.{Word}
use Rattle.pm_design.specs.declared.body.Ex.{Ex}
use Rattle.pm_design.specs.declared.body.Method.{Method}
use Rattle.pm_design.specs.declared.connection.Callee.{Callee}
use Rattle.pm_block.specs.Run.{Scene, State, answer_in, call_to, entered, in_turn, run, run_body, scene_in}
use Rattle.pm_block.specs.Value.{World, guard_word, no_temps, ready_to, value}
use Rattle.pm_touched.specs.Events.{Place, is_among}
use Rattle.pm_touched.specs.Expressions.{guards_to, reads, reads_of}
use Rattle.pm_touched.specs.Walks.{call_touch, reading, untouched, walk_body}
use Rattle.pm_paths.proofs.Frames.{AreAlike, IsFrame, Places, Touches, at, early_in, fewer, joined}
use Rattle.pm_paths.proofs.Statements.{Fits, IsCallFrame, among, body_frame, sight_at, value_alike}
use Rattle.pm_paths.proofs.Values.{AreSame, HangOn, value_same}

-- what a guard says hangs on what it reads, with guards within guards
pub guards_hang : (levels : ℕ) (world : World) (i : ℕ) → HangOn (guards_to levels world i) (ready_to levels world i)
guards_hang zero world i m v vi w wj same = refl
guards_hang (suc levels) world i m v vi w wj same =
    by (world.leads i m).method.guard same (guards_hang levels world (world.leads i m).instance)
  where
    o : ℕ
    o = (world.leads i m).instance

    by : (guard : Option Ex)
        → AreSame (reads_of (guards_to levels world o) (world.frames o) guard) v vi w wj
        → HangOn (guards_to levels world o) (ready_to levels world o)
        → guard_word (value (ready_to levels world o v vi) (world.frames o) v vi no_temps) guard
        ≡ guard_word (value (ready_to levels world o w wj) (world.frames o) w wj no_temps) guard
    by None same hang = refl
    by (Some e) same hang =
        value_same (guards_to levels world o) (ready_to levels world o) (world.frames o) v vi w wj no_temps e hang same

-- what a method does with each place, put in the place of its call
abbrev method_touch : Scene → (Callee → List Place) → (Callee → Touches) → Method → Touches
method_touch scene guards calls method =
    joined (λ q. walk_body (sight_at scene guards calls q) q method.body)
    (λ q. reading (is_among q (reads_of guards scene.frame method.answer)))

-- a method that is put in the place of its call keeps to its paths
method_frame : (scene : Scene) (guards : Callee → List Place) (calls : Callee → Touches) (method : Method)
    → Fits scene guards calls
    → IsCallFrame (λ args s. record { state = run_body false scene method.body (entered method args s); answer = answer_in scene (run_body false scene method.body (entered method args s)) method.answer })
    (method_touch scene guards calls method)
method_frame scene guards calls method fits = record {
  keeps = λ args s q none. frame.keeps (entered method args s) q (first_false ((p q).written) none);
  agrees = λ args s t same q h. frame.agrees (entered method args s) (entered method args t) (start args s t same) q
      (sure args s t q h);
  answer = λ args s t same. answers method.answer args s t same refl;
  reads = λ q h. ⊎_elim (λ (e : (p q).early ≡ true). or_left ((p q).read) (r q) (frame.reads q e))
      (λ (e : (not (p q).surely && r q) ≡ true). or_right ((p q).read) (r q) (second ((p q).surely) (r q) e))
      (or_cases ((p q).early) (not (p q).surely && r q) h);
  writes = λ q h. or_left ((p q).written) false (frame.writes q (first_true ((p q).surely) h));
}
  where
    p : Touches
    p q = walk_body (sight_at scene guards calls q) q method.body

    r : Places
    r = among (reads_of guards scene.frame method.answer)

    frame : IsFrame (λ s. in_turn (map (run false scene) method.body) s) p
    frame = body_frame scene guards calls fits method.body

    first_false : (a : Bool) → (a || false) ≡ false → a ≡ false
    first_false true e = absurd (cc)
    first_false false e = refl

    first_true : (a : Bool) → (a || false) ≡ true → a ≡ true
    first_true true e = refl
    first_true false e = absurd (cc)

    second : (a b : Bool) → (not a && b) ≡ true → b ≡ true
    second true b e = absurd (cc)
    second false b e = e

    whole : Places
    whole = early_in (joined p (λ q. reading (r q)))

    start : (args : List Word) (s t : State) → ((q : Place) → whole q ≡ true → at s q ≡ at t q)
        → AreAlike (early_in p) (entered method args s) (entered method args t)
    start args s t same = record {
      places = λ q holds. same q (or_left ((p q).early) (not (p q).surely && r q) holds);
      temps = refl;
    }

    sure : (args : List Word) (s t : State) (q : Place) → (at s q ≡ at t q) ⊎ (((p q).surely || false) ≡ true)
        → (at (entered method args s) q ≡ at (entered method args t) q) ⊎ ((p q).surely ≡ true)
    sure args s t q (inl e) = inl e
    sure args s t q (inr e) = inr (first_true ((p q).surely) e)

    behind : (args : List Word) (s t : State) → ((q : Place) → whole q ≡ true → at s q ≡ at t q)
        → AreAlike r (run_body false scene method.body (entered method args s))
        (run_body false scene method.body (entered method args t))
    behind args s t same = record {
      places = λ q holds. by q holds ((p q).surely) refl;
      temps = frame.temps (entered method args s) (entered method args t) (start args s t same);
    }
      where
        by : (q : Place) → r q ≡ true → (b : Bool) → (p q).surely ≡ b
            → at (run_body false scene method.body (entered method args s)) q
            ≡ at (run_body false scene method.body (entered method args t)) q
        by q holds true is =
            frame.agrees (entered method args s) (entered method args t) (start args s t same) q (inr is)
        by q holds false is =
            frame.agrees (entered method args s) (entered method args t) (start args s t same) q
            (inl (same q (or_right ((p q).early) (not (p q).surely && r q) (ap (λ (b : Bool). not b && r q) is ∙ holds))))

    answers : (answer : Option Ex) (args : List Word) (s t : State)
        → ((q : Place) → whole q ≡ true → at s q ≡ at t q) → answer ≡ method.answer
        → answer_in scene (run_body false scene method.body (entered method args s)) answer
        ≡ answer_in scene (run_body false scene method.body (entered method args t)) answer
    answers None args s t same is = refl
    answers (Some e) args s t same is =
        value_alike scene guards calls e (run_body false scene method.body (entered method args s))
        (run_body false scene method.body (entered method args t)) fits
        (fewer r (among (reads guards scene.frame e)) _ _
        (λ q holds. ap (λ (o : Option Ex). is_among q (reads_of guards scene.frame o)) (sym is) ∙ holds)
        (behind args s t same))

none_called : IsCallFrame (λ args s. record { state = s; answer = record { width = 0; value = 0 } }) (λ q. untouched)
none_called = record {
  keeps = λ args s q e. refl;
  agrees = λ args s t same q. ⊎_elim (λ (e : at s q ≡ at t q). e) (λ (e : false ≡ true). absurd (cc));
  answer = λ args s t same. refl;
  reads = λ q h. h;
  writes = λ q h. h;
}

-- calls keep to their paths, with calls within calls
pub calls_fit : (levels : ℕ) (world : World) (i : ℕ) (m : Callee)
    → IsCallFrame (λ args s. call_to levels world i m args s) (λ q. call_touch levels world i q m)
calls_fit zero world i m = none_called
calls_fit (suc levels) world i m =
    let o = (world.leads i m).instance in
    let scene : Scene = record {
      frame = world.frames o;
      ready = ready_to world.levels world o;
      call = call_to levels world o;
    } in
    method_frame scene (guards_to world.levels world o) (λ c q. call_touch levels world o q c) (world.leads i m).method
    (record { ready = guards_hang world.levels world o; call = calls_fit levels world o })

-- the scene of an instance keeps to its paths
pub scene_fits : (world : World) (i : ℕ)
    → Fits (scene_in world i (world.frames i)) (guards_to world.levels world i) (λ m q. call_touch world.levels world i q m)
scene_fits world i = record {
  ready = guards_hang world.levels world i;
  call = calls_fit world.levels world i;
}
