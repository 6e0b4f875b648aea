-- Values fit their widths.
use Rattle.std.proofs.Common.{◌≡◌, ◌∙◌, ◌+◌, ◌-◌, ◌*◌, ◌<◌, ◌≤◌, ◌^◌, ◌==◌, ◌&&◌, ℕ, zero, suc, List, [], ◌∷◌, map, refl, sym, ap, subst, Bool, true, false, length, nat_lt, nat_le, arith, ltb-true, leb-true, eqb-true}
use Rattle.std.specs.Prelude.{⊤, IsTrue, if◌then◌else◌, slice_index_or}
use Rattle.std.specs.List.{list_all}
use Rattle.std.proofs.lemmas.Bool.{and_parts}
use Rattle.std.proofs.lemmas.Nat.{pow_pos}
use Rattle.std.proofs.lemmas.Grind.{pow_more}
use Rattle.pm_bits.specs.Word.{Word, truth_of}
use Rattle.pm_bits.specs.declared.operator.Fold.{Fold}
use Rattle.pm_bits.specs.declared.operator.Fold.TheVariants as folding
use Rattle.pm_bits.specs.declared.operator.Op.{Op}
use Rattle.pm_bits.specs.declared.operator.Op.TheVariants as operator
use Rattle.pm_bits.specs.Operator.{result_of, folding_of}
use Rattle.pm_bits.specs.Parts.{concatenation_of}
use Rattle.pm_bits.proofs.OnWords.{result_is_word, folding_is_word, complement_is_word, slice_is_word, concatenation_is_word, zero_extension_is_word, sign_extension_is_word, truncation_is_word}
use Rattle.pm_design.specs.declared.body.Ex.{Ex, Ex-F, fold-roll-Ex}
use Rattle.pm_design.specs.declared.body.Ex.TheFolds.{ind-Ex, map-Ex}
use Rattle.pm_design.specs.declared.connection.Callee.{Callee}
use Rattle.pm_design.specs.declared.connection.Part.{Part}
use Rattle.pm_design.specs.Typing.{Holding, Sight, Typing, are_elements, element_width, result_width, state_of, typed, typing, typing_step}
use Rattle.pm_design.specs.Widths.{total, is_width, log_of}
use Rattle.pm_block.specs.Places.{Valuation, Items, number_at}
use Rattle.pm_block.specs.Value.{Frame, Temporaries, concatenated, count_of, joined, no_part, part_word, picked_word, places_of, value, value_step, zero_word}
use Rattle.pm_block.specs.ValueLaws.{HasWidth, IsExpected, ValueFits}
use Rattle.pm_design.proofs.Elements.{element_passes}

-- a value fits what its typing says
Fits : Word → Typing → Type 0
Fits w t = IsTrue t.fine → HasWidth w t.width

number_fits : (place : ℕ → ℕ) (n : ℕ) (v : Valuation) → ((net : ℕ) → v net ≤ 1) → number_at place n v < 2 ^ n
unfolding number_at
number_fits place zero v bits = omega arith
number_fits place (suc n) v bits =
    let low : number_at place n v < 2 ^ n = number_fits place n v bits in
    by (v (place n)) (bits (place n)) low
  where
    by : (b : ℕ) → b ≤ 1 → number_at place n v < 2 ^ n → number_at place n v + b * 2 ^ n < 2 ^ suc n
    by zero le low = grind (arith, pow_more, low)
    by (suc zero) le low = grind (arith, pow_more, low)
    by (suc (suc b)) le low = absurd (omega arith)

width_word : (w : Word) (n : ℕ) → w.width ≡ n → w.value < 2 ^ n → IsTrue (is_width n) → HasWidth w n
width_word w n wide fits width =
    let parts = and_parts (nat_le 1 n) (nat_le n 128) width in
    let some : 1 ≤ n = leb-true _ _ parts.0 in
    let narrow : n ≤ 128 = leb-true _ _ parts.1 in
    record {
      word = record { positive = omega (arith, some, wide); narrow = omega (arith, narrow, wide); fits = subst (λ (k : ℕ). w.value < 2 ^ k) (sym wide) fits };
      wide = wide;
    }

part_fits : (names : ℕ → ℕ → ℕ → ℕ) (v : Valuation) (p : Part) → ((net : ℕ) → v net ≤ 1) → IsTrue (is_width p.width) → HasWidth (part_word names v p) p.width
part_fits names v p bits width = width_word (part_word names v p) p.width refl (number_fits (places_of names p) p.width v bits) width

zero_fits : (n : ℕ) → IsTrue (is_width n) → HasWidth (zero_word n) n
zero_fits n width = width_word (zero_word n) n refl (pow_pos n) width

first_width : (allowed : Part → Bool) (ps : List Part) → IsTrue (nat_lt 0 (length ps)) → IsTrue (list_all (λ p. allowed p && p.width == element_width ps) ps) → ((p : Part) → IsTrue (allowed p) → IsTrue (is_width p.width)) → IsTrue (is_width (element_width ps))
first_width allowed [] some all widths = absurd (omega (arith, ltb-true 0 0 some))
first_width allowed (p ∷ ps) some all widths = widths p (and_parts (allowed p) (p.width == p.width) (and_parts (allowed p && p.width == p.width) (list_all (λ q. allowed q && q.width == p.width) ps) all).0).0

pick_fits : (s : Sight) (names : ℕ → ℕ → ℕ → ℕ) (v : Valuation) (ps : List Part) (i : ℕ) → ((net : ℕ) → v net ≤ 1) → ((p : Part) → IsTrue (s.reads p) → IsTrue (is_width p.width))
    → IsTrue (nat_lt 0 (length ps)) → IsTrue (list_all (λ p. s.reads p && p.width == element_width ps) ps) → HasWidth (picked_word names v ps i) (element_width ps)
pick_fits s names v ps i bits widths some all = by (nat_lt i (length ps)) refl
  where
    by : (b : Bool) → nat_lt i (length ps) ≡ b → HasWidth (if b then part_word names v (slice_index_or ps i no_part) else zero_word (element_width ps)) (element_width ps)
    by true e =
        let passes = and_parts (s.reads (slice_index_or ps i no_part)) ((slice_index_or ps i no_part).width == element_width ps) (element_passes (λ (p : Part). s.reads p && p.width == element_width ps) ps i no_part all (ltb-true _ _ e)) in
        subst (λ (n : ℕ). HasWidth (part_word names v (slice_index_or ps i no_part)) n) (eqb-true _ _ passes.1) (part_fits names v (slice_index_or ps i no_part) bits (widths (slice_index_or ps i no_part) passes.0))
    by false e = zero_fits (element_width ps) (first_width s.reads ps some all widths)

truth_width : (b : Bool) → (truth_of b).width ≡ 1
truth_width true = refl
truth_width false = refl

operator_width : (op : Op) (a b : Word) → (result_of op a b).width ≡ result_width op a.width
operator_width operator.Add a b = refl
operator_width operator.Sub a b = refl
operator_width operator.Mul a b = refl
operator_width operator.And a b = refl
operator_width operator.Or a b = refl
operator_width operator.Xor a b = refl
operator_width operator.Shl a b = refl
operator_width operator.Shr a b = refl
operator_width operator.Eq a b = truth_width _
operator_width operator.Ne a b = truth_width _
operator_width operator.Lt a b = truth_width _
operator_width operator.Le a b = truth_width _
operator_width operator.Gt a b = truth_width _
operator_width operator.Ge a b = truth_width _

folding_width : (f : Fold) (w : Word) → (folding_of f w).width ≡ 1
folding_width folding.All w = truth_width _
folding_width folding.Any w = truth_width _
folding_width folding.Odd w = refl

bin_fits : (op : Op) (a b : Word) (t u : Typing) → Fits a t → Fits b u → Fits (result_of op a b) (typed (t.fine && (u.fine && t.width == u.width)) (result_width op t.width))
unfolding Fits
bin_fits op a b t u left right fine =
    let p = and_parts t.fine (u.fine && t.width == u.width) fine in
    let q = and_parts u.fine (t.width == u.width) p.1 in
    let l = left p.0 in
    let r = right q.0 in
    record {
      word = result_is_word op a b l.word r.word (l.wide ∙ (eqb-true _ _ q.1 ∙ sym r.wide));
      wide = operator_width op a b ∙ ap (result_width op) l.wide;
    }

cond_fits : (c a b : Word) (x t u : Typing) → Fits a t → Fits b u → Fits (if c.value == 0 then b else a) (typed (x.fine && (t.fine && (u.fine && t.width == u.width))) t.width)
unfolding Fits
cond_fits c a b x t u first second fine = by (c.value == 0)
  where
    by : (k : Bool) → HasWidth (if k then b else a) t.width
    by true =
        let p = and_parts x.fine (t.fine && (u.fine && t.width == u.width)) fine in
        let q = and_parts t.fine (u.fine && t.width == u.width) p.1 in
        let r = and_parts u.fine (t.width == u.width) q.1 in
        subst (λ (n : ℕ). HasWidth b n) (sym (eqb-true _ _ r.1)) (second r.0)
    by false = first (and_parts t.fine (u.fine && t.width == u.width) (and_parts x.fine (t.fine && (u.fine && t.width == u.width)) fine).1).0

-- words that fit what their typings say
abbrev AllFit : List Word → List Typing → Type 0
AllFit [] [] = ⊤
AllFit [] (t ∷ ts) = ⊥
AllFit (w ∷ ws) [] = ⊥
AllFit (w ∷ ws) (t ∷ ts) = Fits w t × AllFit ws ts

joined_fits : (w : Word) (n : ℕ) (ws : List Word) (ts : List Typing) → HasWidth w n → AllFit ws ts → IsTrue (list_all (λ t. t.fine) ts) → n + total (map (λ t. t.width) ts) ≤ 128 → HasWidth (joined w ws) (n + total (map (λ t. t.width) ts))
unfolding Fits
joined_fits w n [] [] first fit fine narrow = subst (λ (k : ℕ). HasWidth w k) (omega arith) first
joined_fits w n [] (t ∷ ts) first fit fine narrow = absurd fit
joined_fits w n (u ∷ ws) [] first fit fine narrow = absurd fit
joined_fits w n (u ∷ ws) (t ∷ ts) first fit fine narrow =
    let p = and_parts t.fine (list_all (λ t. t.fine) ts) fine in
    let low = fit.0 p.0 in
    let wide : (concatenation_of w u).width ≡ n + t.width = omega (arith, first.wide, low.wide) in
    let both : HasWidth (concatenation_of w u) (n + t.width) = record { word = concatenation_is_word w u first.word low.word (omega (arith, narrow, first.wide, low.wide)); wide = wide } in
    let sum : n + t.width + total (map (λ t. t.width) ts) ≡ n + (t.width + total (map (λ t. t.width) ts)) = omega arith in
    subst (λ (k : ℕ). HasWidth (joined (concatenation_of w u) ws) k) sum (joined_fits (concatenation_of w u) (n + t.width) ws ts both fit.1 p.1 (omega (arith, narrow)))

cat_fits : (ws : List Word) (ts : List Typing) → AllFit ws ts → Fits (concatenated ws) (typed (list_all (λ t. t.fine) ts && (nat_lt 0 (length ts) && nat_le (total (map (λ t. t.width) ts)) 128)) (total (map (λ t. t.width) ts)))
unfolding Fits
cat_fits [] (t ∷ ts) fit fine = absurd fit
cat_fits (w ∷ ws) [] fit fine = absurd fit
cat_fits [] [] fit fine = absurd (omega (arith, ltb-true 0 0 (and_parts (nat_lt 0 0) (nat_le 0 128) fine).0))
cat_fits (w ∷ ws) (t ∷ ts) fit fine =
    let p = and_parts (t.fine && list_all (λ t. t.fine) ts) (nat_lt 0 (length (t ∷ ts)) && nat_le (t.width + total (map (λ t. t.width) ts)) 128) fine in
    let q = and_parts t.fine (list_all (λ t. t.fine) ts) p.0 in
    let narrow : t.width + total (map (λ t. t.width) ts) ≤ 128 = leb-true _ _ (and_parts (nat_lt 0 (length (t ∷ ts))) (nat_le (t.width + total (map (λ t. t.width) ts)) 128) p.1).1 in
    joined_fits w t.width ws ts (fit.0 q.0) fit.1 q.1 narrow

-- an expression's value fits, where it is sound
IsFitting : Sight → (Callee → Word) → Frame → Valuation → Items → Temporaries → Ex → Type 0
IsFitting s ready frame v items temps e = Fits (value ready frame v items temps e) (typing s e)

all_fit : (s : Sight) (ready : Callee → Word) (frame : Frame) (v : Valuation) (items : Items) (temps : Temporaries) (es : List ((e : Ex) × IsFitting s ready frame v items temps e))
    → AllFit (map (value ready frame v items temps) (map (λ e. e.0) es)) (map (typing s) (map (λ e. e.0) es))
unfolding IsFitting
all_fit s ready frame v items temps [] = tt
all_fit s ready frame v items temps (e ∷ es) = (e.1, all_fit s ready frame v items temps es)

-- a node's value fits once its operands' values do
layer_fits : (s : Sight) (ready : Callee → Word) (frame : Frame) (v : Valuation) (items : Items) (temps : Temporaries) → IsExpected s ready frame v items temps → (y : Ex-F ((e : Ex) × IsFitting s ready frame v items temps e))
    → Fits (value_step ready frame v items temps (map-Ex Ex Word (value ready frame v items temps) (map-Ex ((e : Ex) × IsFitting s ready frame v items temps e) Ex (λ e. e.0) y))) (typing_step s (map-Ex Ex Typing (typing s) (map-Ex ((e : Ex) × IsFitting s ready frame v items temps e) Ex (λ e. e.0) y)))
unfolding Fits IsFitting
layer_fits s ready frame v items temps known (Ex-F.Const c) fine =
    let p = and_parts (is_width c.width) (nat_lt c.value (2 ^ c.width)) fine in
    width_word c c.width refl (ltb-true _ _ p.1) p.0
layer_fits s ready frame v items temps known (Ex-F.Get p) fine = part_fits frame.names v p known.bits (known.parts p fine)
layer_fits s ready frame v items temps known (Ex-F.Temp t lo n) fine =
    let p = and_parts (nat_lt t (length s.temps)) (nat_lt 0 n && nat_le (lo + n) (slice_index_or s.temps t 0)) fine in
    let q = and_parts (nat_lt 0 n) (nat_le (lo + n) (slice_index_or s.temps t 0)) p.1 in
    let some : 0 < n = ltb-true _ _ q.0 in
    let within : lo + n ≤ slice_index_or s.temps t 0 = leb-true _ _ q.1 in
    let word = known.temporaries t (ltb-true _ _ p.0) in
    record { word = slice_is_word (temps t) lo (lo + n) word.word (omega (arith, some)) (omega (arith, within, word.wide)); wide = omega arith }
layer_fits s ready frame v items temps known (Ex-F.Pick i ps) fine =
    let p = and_parts (typing s i.0).fine (nat_lt 0 (length ps) && are_elements s.reads (typing s i.0).width (element_width ps) ps) fine in
    let q = and_parts (nat_lt 0 (length ps)) (are_elements s.reads (typing s i.0).width (element_width ps) ps) p.1 in
    let r = and_parts (nat_le (length ps) (2 ^ (typing s i.0).width)) (list_all (λ p. s.reads p && p.width == element_width ps) ps) q.1 in
    pick_fits s frame.names v ps (value ready frame v items temps i.0).value known.bits known.parts q.0 r.1
layer_fits s ready frame v items temps known (Ex-F.Number k) fine = known.states k 0 (ltb-true _ _ (and_parts (nat_lt k (length s.states)) ((state_of s k).maxlen == 0) fine).0)
layer_fits s ready frame v items temps known (Ex-F.Count k) fine =
    let there : k < length s.states = ltb-true _ _ (and_parts (nat_lt k (length s.states)) (nat_lt 0 (state_of s k).maxlen) fine).0 in
    let same : (state_of s k).maxlen ≡ (frame.holding k).maxlen = ap (λ (h : Holding). h.maxlen) (sym (known.holdings k there)) in
    subst (λ (n : ℕ). HasWidth (record { width = log_of (n + 1); value = count_of frame items k }) (log_of ((state_of s k).maxlen + 1))) same (known.counts k fine)
layer_fits s ready frame v items temps known (Ex-F.Item k i) fine = known.states k i (ltb-true _ _ (and_parts (nat_lt k (length s.states)) (nat_lt i (state_of s k).maxlen) fine).0)
layer_fits s ready frame v items temps known (Ex-F.Last k) fine = known.states k (count_of frame items k - 1) (ltb-true _ _ (and_parts (nat_lt k (length s.states)) (nat_lt 0 (state_of s k).maxlen) fine).0)
layer_fits s ready frame v items temps known (Ex-F.Ready m) fine = known.guards m fine
layer_fits s ready frame v items temps known (Ex-F.Not a) fine = let w = a.1 fine in record { word = complement_is_word (value ready frame v items temps a.0) w.word; wide = w.wide }
layer_fits s ready frame v items temps known (Ex-F.Fold f a) fine = record { word = folding_is_word f (value ready frame v items temps a.0); wide = folding_width f (value ready frame v items temps a.0) }
layer_fits s ready frame v items temps known (Ex-F.Bin op a b) fine = bin_fits op (value ready frame v items temps a.0) (value ready frame v items temps b.0) (typing s a.0) (typing s b.0) a.1 b.1 fine
layer_fits s ready frame v items temps known (Ex-F.Cat es) fine = cat_fits (map (value ready frame v items temps) (map (λ e. e.0) es)) (map (typing s) (map (λ e. e.0) es)) (all_fit s ready frame v items temps es) fine
layer_fits s ready frame v items temps known (Ex-F.Zext a n) fine =
    let p = and_parts (typing s a.0).fine (nat_le (typing s a.0).width n && nat_le n 128) fine in
    let q = and_parts (nat_le (typing s a.0).width n) (nat_le n 128) p.1 in
    let w = a.1 p.0 in
    record { word = zero_extension_is_word (value ready frame v items temps a.0) n w.word (omega (arith, leb-true _ _ q.0, w.wide)) (leb-true _ _ q.1); wide = refl }
layer_fits s ready frame v items temps known (Ex-F.Sext a n) fine =
    let p = and_parts (typing s a.0).fine (nat_le (typing s a.0).width n && nat_le n 128) fine in
    let q = and_parts (nat_le (typing s a.0).width n) (nat_le n 128) p.1 in
    let w = a.1 p.0 in
    record { word = sign_extension_is_word (value ready frame v items temps a.0) n w.word (omega (arith, leb-true _ _ q.0, w.wide)) (leb-true _ _ q.1); wide = refl }
layer_fits s ready frame v items temps known (Ex-F.Trunc a n) fine =
    let p = and_parts (typing s a.0).fine (nat_lt 0 n && nat_le n (typing s a.0).width) fine in
    let q = and_parts (nat_lt 0 n) (nat_le n (typing s a.0).width) p.1 in
    let w = a.1 p.0 in
    record { word = truncation_is_word (value ready frame v items temps a.0) n w.word (omega (arith, ltb-true _ _ q.0)) (omega (arith, leb-true _ _ q.1, w.wide)); wide = refl }
layer_fits s ready frame v items temps known (Ex-F.Cond c a b) fine = cond_fits (value ready frame v items temps c.0) (value ready frame v items temps a.0) (value ready frame v items temps b.0) (typing s c.0) (typing s a.0) (typing s b.0) a.1 b.1 fine

-- the value of a sound expression fits its width
pub value_fits : ValueFits
unfolding Fits IsFitting value typing
value_fits s ready frame v items temps e known fine =
    ind-Ex (IsFitting s ready frame v items temps) (λ x y is.
    let step : Ex-F Ex → Type 0 = λ z. Fits (value_step ready frame v items temps (map-Ex Ex Word (value ready frame v items temps) z)) (typing_step s (map-Ex Ex Typing (typing s) z)) in
    let here = subst step is (layer_fits s ready frame v items temps known y) in
    rw (fold-roll-Ex Word (value_step ready frame v items temps) x, fold-roll-Ex Typing (typing_step s) x) here) e fine
