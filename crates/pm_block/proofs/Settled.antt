-- Assignments that wait.
use std.Path.{fun_ext}
use Rattle.std.proofs.Common.{◌≡◌, ◌∙◌, ℕ, List, [], ◌∷◌, ◌++◌, refl, ap, sym, subst, Bool, true, ◌==◌, ◌&&◌, ◌<◌, ◌+◌, zero, suc, length, drop, add-one, drop-cons, arith, eqb-true, map, ap₂, false}
use Rattle.std.specs.Prelude.{IsTrue, slice_index_or, if◌then◌else◌}
use Rattle.std.proofs.lemmas.Bool.{and_parts, and_from}
use Rattle.pm_bits.specs.Word.{Word}
use Rattle.pm_design.specs.declared.body.St.{St}
use Rattle.pm_design.specs.declared.connection.Part.{Part}
use Rattle.pm_design.specs.declared.plan.FlatPart.{FlatPart}
use Rattle.pm_design.specs.Layout.{Layout, flat_part, is_put, net_from}
use Rattle.pm_block.specs.declared.waiting.Write.{Write}
use Rattle.pm_block.specs.Places.{Valuation, Items, put_at}
use Rattle.pm_block.specs.Plans.{names_of}
use Rattle.pm_block.specs.Run.{Memory, Scene, State, run_body, run_block, temps_of, assigned, put_part}
use Rattle.pm_block.specs.Value.{Temporaries, zero_word}
use Rattle.pm_block.specs.Waiting.{settled, state_with, all_fit}
use Rattle.pm_block.proofs.Names.{places_of_part}

settled_more : (layout : Layout) (ws : List Write) (w : Write) (v : Valuation) → settled layout (ws ++ w ∷ []) v ≡ put_at (net_from layout w.part.bit) w.part.width w.value (settled layout ws v)
settled_more layout [] w v = refl
settled_more layout (x ∷ ws) w v = settled_more layout ws w (put_at (net_from layout x.part.bit) x.part.width x.value v)

-- one more assignment takes effect after the others
pub settled_append : (layout : Layout) (ws : List Write) (w : Write) → settled layout (ws ++ w ∷ []) ≡ (λ v. put_at (net_from layout w.part.bit) w.part.width w.value (settled layout ws v))
settled_append layout ws w = fun_ext (λ v. settled_more layout ws w v)

-- a change that waits
pub later_assigned : (clocked : Bool) → clocked ≡ true → (scope : List (List ℕ)) (layout : Layout) (p : Part) (at : FlatPart) → at ≡ flat_part scope p → (w : Word) (v : Valuation) (items : Items) (ws now : List Write) → now ≡ ws ++ (record { part = at; value = w }) ∷ [] → (ts : Temporaries) →
    state_with layout v items now ts ≡ assigned clocked (put_part (names_of scope layout) p w) (state_with layout v items ws ts)
later_assigned clocked is scope layout p at flat w v items ws now e ts =
    let turn : (ℕ → ℕ) → Valuation → Valuation = λ places u. put_at places p.width w (settled layout ws u) in
    let more : settled layout now ≡ (λ u. put_part (names_of scope layout) p w (settled layout ws u)) =
    ap (settled layout) e ∙ (ap (λ (f : FlatPart). settled layout (ws ++ (record { part = f; value = w }) ∷ [])) flat
    ∙ (settled_append layout ws (record { part = flat_part scope p; value = w })
    ∙ ap turn (places_of_part scope layout p))) in
    let with_later : (Valuation → Valuation) → State = λ l. record { places = v; items = items; later = l; temps = ts } in
    subst (λ (b : Bool). state_with layout v items now ts ≡ assigned b (put_part (names_of scope layout) p w) (state_with layout v items ws ts)) (sym is)
    (ap with_later more)

-- a change that takes effect at once
pub now_assigned : (clocked : Bool) → clocked ≡ false → (scope : List (List ℕ)) (layout next : Layout) → next ≡ layout → (p : Part) (at : FlatPart) → at ≡ flat_part scope p → (w : Word) (v now : Valuation) → now ≡ put_at (net_from layout at.bit) at.width w v → (items left : Items) → left ≡ items → (ws : List Write) (ts : Temporaries) →
    state_with next now left ws ts ≡ assigned clocked (put_part (names_of scope layout) p w) (state_with layout v items ws ts)
now_assigned clocked is scope layout next same p at flat w v now e items left kept ws ts =
    let put_there : FlatPart → Valuation = λ f. put_at (net_from layout f.bit) f.width w v in
    let named : (ℕ → ℕ) → Valuation = λ places. put_at places p.width w v in
    let value : now ≡ put_part (names_of scope layout) p w v = e ∙ (ap put_there flat ∙ ap named (places_of_part scope layout p)) in
    let with_layout : Layout → State = λ l. state_with l now left ws ts in
    let with_places : Valuation → State = λ u. state_with layout u left ws ts in
    let with_items : Items → State = λ i. state_with layout (put_part (names_of scope layout) p w v) i ws ts in
    subst (λ (b : Bool). state_with next now left ws ts ≡ assigned b (put_part (names_of scope layout) p w) (state_with layout v items ws ts)) (sym is)
    (ap with_layout same ∙ (ap with_places value ∙ ap with_items kept))

-- one more assignment that may be made
pub all_fit_append : (layout : Layout) (ws : List Write) (w : Write) → IsTrue (all_fit layout ws) → IsTrue (is_put layout w.part) → (w.value.width == w.part.width) ≡ true → IsTrue (all_fit layout (ws ++ w ∷ []))
all_fit_append layout [] w all put width = and_from (is_put layout w.part && w.value.width == w.part.width) true (and_from (is_put layout w.part) (w.value.width == w.part.width) put width) refl
all_fit_append layout (x ∷ ws) w all put width =
    let p = and_parts (is_put layout x.part && x.value.width == x.part.width) (all_fit layout ws) all in
    and_from (is_put layout x.part && x.value.width == x.part.width) (all_fit layout (ws ++ w ∷ [])) p.0 (all_fit_append layout ws w p.1 put width)

-- the first of those that are left is made
pub settled_from : (layout : Layout) (ws : List Write) (i : ℕ) (w : Write) (v : Valuation) → i < length ws → w ≡ slice_index_or ws i w → settled layout (drop i ws) v ≡ settled layout (drop (i + 1) ws) (put_at (net_from layout w.part.bit) w.part.width w.value v)
settled_from layout ws i w v lt is =
    let split : drop i ws ≡ w ∷ drop (i + 1) ws = rw (add-one, drop-cons ws i w) (ap (λ (y : Write). y ∷ drop (suc i) ws) (sym is)) in
    ap (λ (xs : List Write). settled layout xs v) split

fit_at : (layout : Layout) (ws : List Write) (i : ℕ) (w : Write) → IsTrue (all_fit layout ws) → i < length ws → w ≡ slice_index_or ws i w → IsTrue (is_put layout w.part && w.value.width == w.part.width)
fit_at layout [] i w all lt is = absurd (omega arith)
fit_at layout (x ∷ ws) zero w all lt is = subst (λ (y : Write). (is_put layout y.part && y.value.width == y.part.width) ≡ true) (sym is) (and_parts (is_put layout x.part && x.value.width == x.part.width) (all_fit layout ws) all).0
fit_at layout (x ∷ ws) (suc i) w all lt is = fit_at layout ws i w (and_parts (is_put layout x.part && x.value.width == x.part.width) (all_fit layout ws) all).1 (omega arith) is

-- the part of an assignment that may be made
pub put_fits : (layout : Layout) (ws : List Write) (i : ℕ) (w : Write) → IsTrue (all_fit layout ws) → i < length ws → w ≡ slice_index_or ws i w → IsTrue (is_put layout w.part)
put_fits layout ws i w all lt is = (and_parts (is_put layout w.part) (w.value.width == w.part.width) (fit_at layout ws i w all lt is)).0

-- the word of an assignment that may be made
pub width_fits : (layout : Layout) (ws : List Write) (i : ℕ) (w : Write) → IsTrue (all_fit layout ws) → i < length ws → w ≡ slice_index_or ws i w → w.value.width ≡ w.part.width
width_fits layout ws i w all lt is = eqb-true w.value.width w.part.width (and_parts (is_put layout w.part) (w.value.width == w.part.width) (fit_at layout ws i w all lt is)).1

-- what a state leaves at the end of a block
pub left_of : Bool → State → Memory
left_of clocked s = record { places = if clocked then s.later s.places else s.places; items = s.items }

-- the values behind a block
pub block_left : (k : Bool) (scene : Scene) (body : List St) (first last : State) (m : Memory) (widths : List ℕ)
    → first ≡ record { places = m.places; items = m.items; later = λ u. u; temps = temps_of (map zero_word widths) } → last ≡ run_body k scene body first
    → left_of k last ≡ run_block k scene body widths m
unfolding left_of
block_left k scene body first last m widths start is =
    ap (left_of k) (is ∙ ap (λ (s : State). run_body k scene body s) start)

-- behind a block whose assignments have been made
pub left_later : (k : Bool) → k ≡ true → (s : State) (v : Valuation) (items : Items) → v ≡ s.later s.places → items ≡ s.items → (record { places = v; items = items }) ≡ left_of k s
unfolding left_of
left_later k is s v items places same =
    let with : Valuation → Items → Memory = λ u i. record { places = u; items = i } in
    subst (λ (b : Bool). (record { places = v; items = items }) ≡ left_of b s) (sym is) (ap₂ with places same)

-- behind a block whose assignments took effect at once
pub left_now : (k : Bool) → k ≡ false → (s : State) → (record { places = s.places; items = s.items }) ≡ left_of k s
unfolding left_of
left_now k is s = subst (λ (b : Bool). (record { places = s.places; items = s.items }) ≡ left_of b s) (sym is) refl
