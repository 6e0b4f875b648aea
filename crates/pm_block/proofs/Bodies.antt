-- One statement, and one more statement of a body.
use std.Path.{fun_ext}
use Rattle.std.proofs.Common.{◌≡◌, ◌∙◌, ◌+◌, ◌<◌, ◌==◌, ℕ, zero, suc, List, [], ◌∷◌, refl, sym, ap, subst, Bool, true, false, length, drop, set, arith, eq-eqb, eqb-true, add-one, drop-cons, ap₂, ltb-true}
use Rattle.std.specs.Prelude.{if◌then◌else◌, slice_index_or, IsTrue}
use Rattle.std.specs.List.{list_all}
use Rattle.std.proofs.lemmas.Bool.{and_parts, eqb-false}
use Rattle.std.proofs.lemmas.List.{get_or-set_same, get_or-set_other}
use Rattle.pm_bits.specs.Word.{Word}
use Rattle.pm_design.specs.declared.body.Ex.{Ex}
use Rattle.pm_design.specs.declared.body.St.{St}
use Rattle.pm_design.specs.declared.body.St.TheVariants as st
use Rattle.pm_design.specs.declared.connection.Part.{Part}
use Rattle.pm_design.specs.Layout.{Layout}
use Rattle.pm_design.specs.Typing.{Sight, is_sound, typing}
use Rattle.pm_design.proofs.Soundness.{sound_set_temp}
use Rattle.pm_block.specs.declared.site.Site.{Site}
use Rattle.pm_block.specs.Plans.{plain_sight, widths_of}
use Rattle.pm_block.specs.Run.{Scene, State, run, run_body, assigned, put_part, put_temp, picked_put, value_in, temps_of}
use Rattle.pm_block.specs.Sites.{scene_here, sight_here}
use Rattle.pm_block.specs.Value.{Temporaries, zero_word}
use Rattle.pm_block.proofs.Statements.{run_set, run_set_pick, run_set_temp, run_if}
use Rattle.pm_block.proofs.Temporaries.{length_of_widths}

-- behind the assignment of a part
pub after_set : (k : Bool) (n : Scene) (x : St) (p : Part) (e : Ex) → x ≡ st.Set p e → (s now : State) (w : Word) → w ≡ value_in n s e → now ≡ assigned k (put_part n.frame.names p w) s → now ≡ run k n x s
after_set k n x p e is s now w v h = h ∙ (ap (λ (u : Word). assigned k (put_part n.frame.names p u) s) v ∙ (sym (run_set k n p e s) ∙ ap (λ (y : St). run k n y s) (sym is)))

-- behind the assignment of the part that an index picks
pub after_pick : (k : Bool) (n : Scene) (x : St) (i : Ex) (ps : List Part) (e : Ex) → x ≡ st.SetPick i ps e → (s now : State) (j w : Word) → j ≡ value_in n s i → w ≡ value_in n s e → now ≡ picked_put k n.frame.names ps j.value w s → now ≡ run k n x s
after_pick k n x i ps e is s now j w u v h = h ∙ (ap (λ (y : Word). picked_put k n.frame.names ps y.value w s) u ∙ (ap (λ (y : Word). picked_put k n.frame.names ps (value_in n s i).value y s) v ∙ (sym (run_set_pick k n i ps e s) ∙ ap (λ (y : St). run k n y s) (sym is))))

temps_at : (ws : List Word) (t : ℕ) (w : Word) → t < length ws → (r : ℕ) → temps_of (set ws t w) r ≡ put_temp t w (temps_of ws) r
temps_at ws t w lt r = by (r == t) refl
  where
    by : (b : Bool) → (r == t) ≡ b → temps_of (set ws t w) r ≡ (if b then w else temps_of ws r)
    by true e = subst (λ (q : ℕ). temps_of (set ws t w) q ≡ w) (sym (eqb-true r t e)) (get_or-set_same ws t w (zero_word 0) lt)
    by false e = get_or-set_other ws t r w (zero_word 0) (eqb-false r t e)

-- behind the assignment of a temporary
pub after_temp : (k : Bool) (n : Scene) (x : St) (t : ℕ) (e : Ex) → x ≡ st.SetTemp t e → (s : State) (ws : List Word) → s.temps ≡ temps_of ws → t < length ws → (w : Word) → w ≡ value_in n s e → (record s { temps = temps_of (set ws t w) }) ≡ run k n x s
after_temp k n x t e is s ws same lt w v =
    let with : Temporaries → State = λ ts. record s { temps = ts } in
    let at : temps_of (set ws t w) ≡ put_temp t w (temps_of ws) = fun_ext (temps_at ws t w lt) in
    ap with at ∙ (ap (λ (ts : Temporaries). with (put_temp t w ts)) (sym same) ∙ (ap (λ (u : Word). with (put_temp t u s.temps)) v ∙ (sym (run_set_temp k n t e s) ∙ ap (λ (y : St). run k n y s) (sym is))))

-- a word of the same width leaves the widths
pub widths_at : (ws : List Word) (t : ℕ) (w : Word) → t < length ws → w.width ≡ slice_index_or (widths_of ws) t 0 → widths_of (set ws t w) ≡ widths_of ws
widths_at [] t w lt e = absurd (omega arith)
widths_at (x ∷ ws) zero w lt e = ap (λ (n : ℕ). n ∷ widths_of ws) e
widths_at (x ∷ ws) (suc t) w lt e = ap (λ (ns : List ℕ). x.width ∷ ns) (widths_at ws t w (omega arith) e)

-- behind a choice whose condition is 0
pub after_no : (k : Bool) (n : Scene) (x : St) (c : Ex) (xs ys : List St) → x ≡ st.If c xs ys → (s now : State) (w : Word) → w ≡ value_in n s c → w.value ≡ 0 → now ≡ run_body k n ys s → now ≡ run k n x s
after_no k n x c xs ys is s now w v zero_is h =
    h ∙ (ap (λ (b : Bool). if b then run_body k n ys s else run_body k n xs s) (sym (eq-eqb (value_in n s c).value 0 (ap (λ (u : Word). u.value) (sym v) ∙ zero_is))) ∙ (sym (run_if k n c xs ys s) ∙ ap (λ (y : St). run k n y s) (sym is)))

-- behind a choice whose condition isn't 0
pub after_yes : (k : Bool) (n : Scene) (x : St) (c : Ex) (xs ys : List St) → x ≡ st.If c xs ys → (s now : State) (w : Word) → w ≡ value_in n s c → (w.value == 0) ≡ false → now ≡ run_body k n xs s → now ≡ run k n x s
after_yes k n x c xs ys is s now w v off h =
    h ∙ (ap (λ (b : Bool). if b then run_body k n ys s else run_body k n xs s) (sym (ap (λ (u : Word). u.value == 0) (sym v) ∙ off)) ∙ (sym (run_if k n c xs ys s) ∙ ap (λ (y : St). run k n y s) (sym is)))

-- an element and what is behind it
pub drop_one : (xs : List St) (i : ℕ) (x : St) → i < length xs → x ≡ slice_index_or xs i x → drop i xs ≡ x ∷ drop (i + 1) xs
drop_one xs i x lt is = rw (add-one, drop-cons xs i x) (ap (λ (y : St). y ∷ drop (suc i) xs) (sym is))

-- the rest of a body leads from behind its first statement where the whole led
pub state_on : (k : Bool) (site : Site) (layout start : Layout) → layout ≡ start → (xs ys : List St) (x : St) → xs ≡ x ∷ ys → (s now end : State) → now ≡ run k (scene_here site layout) x s → run_body k (scene_here site start) xs s ≡ end → run_body k (scene_here site start) ys now ≡ end
state_on k site layout start same xs ys x split s now end one all =
    ap (λ (z : State). run_body k (scene_here site start) ys z) (one ∙ ap (λ (n : Layout). run k (scene_here site n) x s) same) ∙ (sym (ap (λ (zs : List St). run_body k (scene_here site start) zs s) split) ∙ all)

-- the first statement of a sound body is sound
pub sound_head : (w : Sight) (xs ys : List St) (x : St) → xs ≡ x ∷ ys → IsTrue (list_all (is_sound w) xs) → IsTrue (is_sound w x)
sound_head w xs ys x split h = (and_parts (is_sound w x) (list_all (is_sound w) ys) (subst (λ (zs : List St). list_all (is_sound w) zs ≡ true) split h)).0

-- the rest of a sound body is sound
pub sound_on : (w u : Sight) → u ≡ w → (xs ys : List St) (x : St) → xs ≡ x ∷ ys → IsTrue (list_all (is_sound w) xs) → IsTrue (list_all (is_sound u) ys)
sound_on w u same xs ys x split h = subst (λ (v : Sight). list_all (is_sound v) ys ≡ true) (sym same) (and_parts (is_sound w x) (list_all (is_sound w) ys) (subst (λ (zs : List St). list_all (is_sound w) zs ≡ true) split h)).1

-- the sight stays while layout and widths do
pub same_sight : (site : Site) (n m : Layout) (ts us : List Word) → n ≡ m → widths_of ts ≡ widths_of us → sight_here site n ts ≡ sight_here site m us
same_sight site n m ts us e f =
    let with : Layout → List ℕ → Sight = λ a b. plain_sight site.scope.now a b in
    ap₂ with e f

-- the temporary of a sound assignment is there, and of the value's width
pub temp_parts : (scope : List (List ℕ)) (layout : Layout) (ws : List Word) (x : St) (t : ℕ) (e : Ex) → x ≡ st.SetTemp t e → IsTrue (is_sound (plain_sight scope layout (widths_of ws)) x)
    → (t < length ws) × ((typing (plain_sight scope layout (widths_of ws)) e).width ≡ slice_index_or (widths_of ws) t 0)
temp_parts scope layout ws x t e is h =
    let w : Sight = plain_sight scope layout (widths_of ws) in
    let p = and_parts _ _ (subst (λ (b : Bool). b ≡ true) (sound_set_temp w t e) (subst (λ (y : St). is_sound w y ≡ true) is h)) in
    let q = and_parts _ _ p.1 in
    let there : t < length (widths_of ws) = ltb-true _ _ q.0 in
    (omega (arith, there, length_of_widths ws), sym (eqb-true _ _ q.1))
