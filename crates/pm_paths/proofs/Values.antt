-- The value of an expression hangs on what it reads, and on the temporaries.
use Rattle.std.proofs.Common.{◌≡◌, ◌∙◌, ◌+◌, ◌-◌, ◌*◌, ◌<◌, ◌^◌, ◌==◌, ℕ, zero, suc, List, [], ◌∷◌, ◌++◌, map, refl, ap, ap₂, subst, Bool, true, false, length, nat_lt, arith, ltb-true, eq-eqb}
use Rattle.std.specs.Prelude.{flat_map, if◌then◌else◌, slice_index_or}
use Rattle.std.proofs.lemmas.Bool.{or_left}
use Rattle.pm_bits.specs.Word.{Word}
use Rattle.pm_bits.specs.Bitwise.{complement_of}
use Rattle.pm_bits.specs.Operator.{result_of, folding_of}
use Rattle.pm_bits.specs.Parts.{sign_extension_of, truncation_of, zero_extension_of}
use Rattle.pm_design.specs.declared.body.Ex.{Ex, Ex-F, fold-roll-Ex}
use Rattle.pm_design.specs.declared.body.Ex.TheFolds.{ind-Ex, map-Ex}
use Rattle.pm_design.specs.declared.connection.Callee.{Callee}
use Rattle.pm_design.specs.declared.connection.Part.{Part}
use Rattle.pm_design.specs.Typing.{element_width}
use Rattle.pm_design.specs.Widths.{log_of}
use Rattle.pm_block.specs.Places.{Items, Valuation, number_at}
use Rattle.pm_block.specs.Value.{Frame, Names, Temporaries, concatenated, no_part, part_word, picked_word, places_of, value, value_step, zero_word}
use Rattle.pm_touched.specs.Events.{Place, is_among}
use Rattle.pm_touched.specs.Events.Place.{Bit, Object}
use Rattle.pm_touched.specs.Expressions.{part_places, parts_places, reads, reads_step}
use Rattle.pm_paths.specs.Memories.{words_at}
use Rattle.pm_paths.proofs.Among.{among_left, among_right, element_among, part_has}

-- two memories have the same at some places
abbrev pub AreSame : List Place → Valuation → Items → Valuation → Items → Type 0
AreSame places v i w j = (q : Place) → is_among q places ≡ true → words_at v i q ≡ words_at w j q

same_left : (xs ys : List Place) (v : Valuation) (i : Items) (w : Valuation) (j : Items) → AreSame (xs ++ ys) v i w j
    → AreSame xs v i w j
same_left xs ys v i w j same q holds = same q (among_left q xs ys holds)

same_right : (xs ys : List Place) (v : Valuation) (i : Items) (w : Valuation) (j : Items) → AreSame (xs ++ ys) v i w j
    → AreSame ys v i w j
same_right xs ys v i w j same q holds = same q (among_right q xs ys holds)

-- what a guard says hangs on what it reads
abbrev pub HangOn : (Callee → List Place) → (Valuation → Items → Callee → Word) → Type 0
HangOn guards ready =
    (m : Callee) (v : Valuation) (i : Items) (w : Valuation) (j : Items)
    → AreSame (guards m) v i w j → ready v i m ≡ ready w j m

-- ---- parts and states

pub same_bit : (v w : Valuation) (i j : Items) (n : ℕ) → words_at v i (Bit n) ≡ words_at w j (Bit n) → v n ≡ w n
same_bit v w i j n same = ap first same
  where
    first : List Word → ℕ
    first [] = 0
    first (x ∷ xs) = x.value

number_same : (place : ℕ → ℕ) (n : ℕ) (v w : Valuation) → ((i : ℕ) → i < n → v (place i) ≡ w (place i))
    → number_at place n v ≡ number_at place n w
unfolding number_at
number_same place zero v w same = refl
number_same place (suc n) v w same =
    ap₂ (λ (a b : ℕ). a + b * 2 ^ n) (number_same place n v w (λ i lt. same i (omega (arith, lt))))
    (same n (omega arith))

part_same : (names : Names) (p : Part) (v : Valuation) (i : Items) (w : Valuation) (j : Items)
    → AreSame (part_places names p) v i w j → part_word names v p ≡ part_word names w p
part_same names p v i w j same =
    ap (λ (k : ℕ). record { width = p.width; value = k })
    (number_same (places_of names p) p.width v w (λ b lt. same_bit v w i j (places_of names p b)
    (same (Bit (places_of names p b)) (part_has names p b lt))))

picked_same : (names : Names) (ps : List Part) (k : ℕ) (v : Valuation) (i : Items) (w : Valuation) (j : Items)
    → AreSame (parts_places names ps) v i w j → picked_word names v ps k ≡ picked_word names w ps k
picked_same names ps k v i w j same = by (nat_lt k (length ps)) refl
  where
    p : Part
    p = slice_index_or ps k no_part

    by : (b : Bool) → nat_lt k (length ps) ≡ b
        → (if b then part_word names v p else zero_word (element_width ps))
        ≡ (if b then part_word names w p else zero_word (element_width ps))
    by true e = part_same names p v i w j (λ q holds. same q (element_among names ps k q (ltb-true _ _ e) holds))
    by false e = refl

pub object_same : (k : ℕ) (v : Valuation) (i : Items) (w : Valuation) (j : Items) → AreSame (Object k ∷ []) v i w j
    → i k ≡ j k
object_same k v i w j same = same (Object k) (or_left (k == k) false (eq-eqb k k refl))

-- ---- expressions

-- the value is the same where what is read is
IsSame : (Callee → List Place) → (Valuation → Items → Callee → Word) → Frame → Valuation → Items → Valuation → Items → Temporaries → Ex → Type 0
IsSame guards ready frame v i w j temps e =
    AreSame (reads guards frame e) v i w j
    → value (ready v i) frame v i temps e ≡ value (ready w j) frame w j temps e

all_same : (guards : Callee → List Place) (ready : Valuation → Items → Callee → Word) (frame : Frame)
    (v : Valuation) (i : Items) (w : Valuation) (j : Items) (temps : Temporaries)
    (es : List ((e : Ex) × IsSame guards ready frame v i w j temps e))
    → AreSame (flat_map (reads guards frame) (map (λ e. e.0) es)) v i w j
    → map (value (ready v i) frame v i temps) (map (λ e. e.0) es) ≡ map (value (ready w j) frame w j temps) (map (λ e. e.0) es)
unfolding IsSame
all_same guards ready frame v i w j temps [] same = refl
all_same guards ready frame v i w j temps (e ∷ es) same =
    let first = reads guards frame e.0 in
    let rest = flat_map (reads guards frame) (map (λ x. x.0) es) in
    ap₂ (λ (x : Word) (xs : List Word). x ∷ xs) (e.1 (same_left first rest v i w j same))
    (all_same guards ready frame v i w j temps es (same_right first rest v i w j same))

joined_lists : (f : Ex → List Place) (es : List Ex) → flat_map (λ places. places) (map f es) ≡ flat_map f es
joined_lists f [] = refl
joined_lists f (e ∷ es) = ap (λ (places : List Place). f e ++ places) (joined_lists f es)

all_words : (guards : Callee → List Place) (ready : Valuation → Items → Callee → Word) (frame : Frame)
    (v : Valuation) (i : Items) (w : Valuation) (j : Items) (temps : Temporaries)
    (es : List ((e : Ex) × IsSame guards ready frame v i w j temps e))
    → AreSame (flat_map (λ places. places) (map (reads guards frame) (map (λ e. e.0) es))) v i w j
    → map (value (ready v i) frame v i temps) (map (λ e. e.0) es) ≡ map (value (ready w j) frame w j temps) (map (λ e. e.0) es)
all_words guards ready frame v i w j temps es same =
    all_same guards ready frame v i w j temps es
    (subst (λ (places : List Place). AreSame places v i w j) (joined_lists (reads guards frame) (map (λ e. e.0) es)) same)

layer_same : (guards : Callee → List Place) (ready : Valuation → Items → Callee → Word) (frame : Frame)
    (v : Valuation) (i : Items) (w : Valuation) (j : Items) (temps : Temporaries) → HangOn guards ready
    → (y : Ex-F ((e : Ex) × IsSame guards ready frame v i w j temps e))
    → AreSame (reads_step guards frame (map-Ex Ex (List Place) (reads guards frame) (map-Ex ((e : Ex) × IsSame guards ready frame v i w j temps e) Ex (λ e. e.0) y))) v i w j
    → value_step (ready v i) frame v i temps (map-Ex Ex Word (value (ready v i) frame v i temps) (map-Ex ((e : Ex) × IsSame guards ready frame v i w j temps e) Ex (λ e. e.0) y))
    ≡ value_step (ready w j) frame w j temps (map-Ex Ex Word (value (ready w j) frame w j temps) (map-Ex ((e : Ex) × IsSame guards ready frame v i w j temps e) Ex (λ e. e.0) y))
unfolding IsSame
layer_same guards ready frame v i w j temps hang (Ex-F.Const c) same = refl
layer_same guards ready frame v i w j temps hang (Ex-F.Get p) same = part_same frame.names p v i w j same
layer_same guards ready frame v i w j temps hang (Ex-F.Temp t lo n) same = refl
layer_same guards ready frame v i w j temps hang (Ex-F.Pick index ps) same =
    let first = reads guards frame index.0 in
    let rest = parts_places frame.names ps in
    ap (λ (x : Word). picked_word frame.names v ps x.value) (index.1 (same_left first rest v i w j same))
    ∙ picked_same frame.names ps (value (ready w j) frame w j temps index.0).value v i w j
    (same_right first rest v i w j same)
layer_same guards ready frame v i w j temps hang (Ex-F.Number k) same =
    ap (λ (xs : List Word). slice_index_or xs 0 (zero_word (frame.holding k).width))
    (object_same (frame.object k) v i w j same)
layer_same guards ready frame v i w j temps hang (Ex-F.Count k) same =
    ap (λ (xs : List Word). record { width = log_of ((frame.holding k).maxlen + 1); value = length xs })
    (object_same (frame.object k) v i w j same)
layer_same guards ready frame v i w j temps hang (Ex-F.Item k n) same =
    ap (λ (xs : List Word). slice_index_or xs n (zero_word (frame.holding k).width))
    (object_same (frame.object k) v i w j same)
layer_same guards ready frame v i w j temps hang (Ex-F.Last k) same =
    ap (λ (xs : List Word). slice_index_or xs (length xs - 1) (zero_word (frame.holding k).width))
    (object_same (frame.object k) v i w j same)
layer_same guards ready frame v i w j temps hang (Ex-F.Ready m) same = hang m v i w j same
layer_same guards ready frame v i w j temps hang (Ex-F.Not a) same = ap complement_of (a.1 same)
layer_same guards ready frame v i w j temps hang (Ex-F.Fold f a) same = ap (folding_of f) (a.1 same)
layer_same guards ready frame v i w j temps hang (Ex-F.Bin op a b) same =
    let first = reads guards frame a.0 in
    let rest = reads guards frame b.0 in
    ap₂ (result_of op) (a.1 (same_left first rest v i w j same)) (b.1 (same_right first rest v i w j same))
layer_same guards ready frame v i w j temps hang (Ex-F.Cat es) same =
    ap concatenated (all_words guards ready frame v i w j temps es same)
layer_same guards ready frame v i w j temps hang (Ex-F.Zext a n) same = ap (λ (x : Word). zero_extension_of x n) (a.1 same)
layer_same guards ready frame v i w j temps hang (Ex-F.Sext a n) same = ap (λ (x : Word). sign_extension_of x n) (a.1 same)
layer_same guards ready frame v i w j temps hang (Ex-F.Trunc a n) same = ap (λ (x : Word). truncation_of x n) (a.1 same)
layer_same guards ready frame v i w j temps hang (Ex-F.Cond c a b) same =
    let first = reads guards frame c.0 in
    let second = reads guards frame a.0 in
    let third = reads guards frame b.0 in
    ap₂ (λ (x : Word) (rest : Word × Word). if x.value == 0 then rest.1 else rest.0)
    (c.1 (same_left first second v i w j (same_left (first ++ second) third v i w j same)))
    (ap₂ (λ (x y : Word). (x, y))
    (a.1 (same_right first second v i w j (same_left (first ++ second) third v i w j same)))
    (b.1 (same_right (first ++ second) third v i w j same)))

-- the value of an expression hangs on what it reads
pub value_same : (guards : Callee → List Place) (ready : Valuation → Items → Callee → Word) (frame : Frame)
    (v : Valuation) (i : Items) (w : Valuation) (j : Items) (temps : Temporaries) (e : Ex) → HangOn guards ready
    → AreSame (reads guards frame e) v i w j
    → value (ready v i) frame v i temps e ≡ value (ready w j) frame w j temps e
unfolding IsSame value reads
value_same guards ready frame v i w j temps e hang =
    ind-Ex (IsSame guards ready frame v i w j temps) (λ x y is.
    let step : Ex-F Ex → Type 0 = λ z. AreSame (reads_step guards frame (map-Ex Ex (List Place) (reads guards frame) z)) v i w j
    → value_step (ready v i) frame v i temps (map-Ex Ex Word (value (ready v i) frame v i temps) z)
    ≡ value_step (ready w j) frame w j temps (map-Ex Ex Word (value (ready w j) frame w j temps) z) in
    let here = subst step is (layer_same guards ready frame v i w j temps hang y) in
    rw (fold-roll-Ex Word (value_step (ready v i) frame v i temps) x, fold-roll-Ex Word (value_step (ready w j) frame w j temps) x, fold-roll-Ex (List Place) (reads_step guards frame) x) here) e
