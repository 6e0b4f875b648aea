-- How a row is filled, one word after another.
use Rattle.std.proofs.Common.{◌≡◌, ◌+◌, ◌<◌, ◌≤◌, ◌^◌, ◌++◌, ℕ, List, [], ◌∷◌, length, take, drop, get_or, set, refl, ap, sym, ◌∙◌, arith}
use Rattle.std.specs.Prelude.{Bool, true, false, ◌&&◌, nat_lt, if◌then◌else◌, Option, None, Some, option_map}
use Rattle.std.specs.Option.{option_map_or}
use Rattle.std.specs.Borrow.{Bor}
use Rattle.std.proofs.lemmas.List.{drop_more, get_or-map, take_more_set, append_assoc, map-set, set-get_or, drop_all, take_all, append-nil, length-map}
use Rattle.pm_bits.specs.Word.{Word}
use Rattle.std.proofs.Math.Nat.{pow-le-pow_right}
use Rattle.std.proofs.lemmas.Bool.Decides.{nat_tests}
use Rattle.std.specs.Str.Parse.{digits_value}
use Rattle.pm_job.specs.Words.{words_of, is_decimal, number_below}
use Rattle.pm_job.specs.Vectors.{value_of, values_of, row_of, entries_of}
use Rattle.pm_job.specs.Values.{value_widths}

-- the words after a blank, and none where there is no blank
abbrev pub words_left : Option (Bor (List ℕ)) → List (List ℕ)
words_left rest = option_map_or (λ text. words_of text.now) rest []

-- the first indices of a row are filled, and the words that are left give the others
abbrev pub fill_from : List ℕ → List Word → ℕ → List (List ℕ) → Option (List Word)
fill_from widths row index words = option_map (λ values. take index row ++ values) (values_of (drop index widths) words)

map_and_then : {A : Type 0} (f g : List A → List A) (value : A) (o : Option (List A)) → ((xs : List A) → f (value ∷ xs) ≡ g xs)
    → option_map f (option_map (λ xs. value ∷ xs) o) ≡ option_map g o
map_and_then f g value None same = refl
map_and_then f g value (Some xs) same = ap Some (same xs)

map_same : {A : Type 0} (o : Option (List A)) → option_map (λ xs. [] ++ xs) o ≡ o
map_same None = refl
map_same (Some xs) = refl

-- a word that gives no value at this index
pub fill_stops : (widths : List ℕ) (row : List Word) (index : ℕ) (d : ℕ) (word : List ℕ) (words : List (List ℕ)) → index < length widths
    → value_of (get_or widths index d) word ≡ None → fill_from widths row index (word ∷ words) ≡ None
unfolding values_of
fill_stops widths row index d word words inside none = rw (drop_more widths index d inside, none)

-- no word for this index
pub fill_ends : (widths : List ℕ) (row : List Word) (index : ℕ) (d : ℕ) → index < length widths → fill_from widths row index [] ≡ None
unfolding values_of
fill_ends widths row index d inside = rw (drop_more widths index d inside)

-- a word that gives the value of this index
pub fill_more : (widths : List ℕ) (row : List Word) (index : ℕ) (d : ℕ) (word : List ℕ) (words : List (List ℕ)) (value : Word)
    → index < length widths → index < length row → value_of (get_or widths index d) word ≡ Some value
    → fill_from widths row index (word ∷ words) ≡ fill_from widths (set row index value) (index + 1) words
unfolding values_of
fill_more widths row index d word words value inside within good =
    rw (drop_more widths index d inside, good, take_more_set row index value within)
    (map_and_then _ _ value _ (λ values. sym (append_assoc (take index row) (value ∷ []) values)))

-- each index is filled
pub fill_done : (widths : List ℕ) (row : List Word) (index : ℕ) → length row ≡ index → value_widths row ≡ widths → fill_from widths row index [] ≡ Some row
unfolding values_of
fill_done widths row index all same =
    let end : length widths ≡ index = ap length (sym same) ∙ length-map row _ ∙ all in
    rw (drop_all index widths (omega arith), take_all index row (omega arith)) (ap Some (append-nil row))

-- words are left after the last index
pub fill_over : (widths : List ℕ) (row : List Word) (index : ℕ) (word : List ℕ) (words : List (List ℕ)) → length row ≡ index → value_widths row ≡ widths
    → fill_from widths row index (word ∷ words) ≡ None
unfolding values_of
fill_over widths row index word words all same =
    let end : length widths ≡ index = ap length (sym same) ∙ length-map row _ ∙ all in
    rw (drop_all index widths (omega arith)) refl

-- a value of an index's width leaves the widths as they are
pub widths_set : (row : List Word) (index : ℕ) (value d : Word) → index < length row → value.width ≡ (get_or row index d).width
    → value_widths (set row index value) ≡ value_widths row
widths_set row index value d inside same =
    map-set (λ (w : Word). w.width) row index value
    ∙ ap (set (value_widths row) index) (same ∙ sym (get_or-map (λ (w : Word). w.width) row index d 0 inside))
    ∙ set-get_or (value_widths row) index 0

-- no index is filled yet
pub fill_start : (widths : List ℕ) (row : List Word) (line : List ℕ) (words : List (List ℕ)) → words ≡ entries_of line → row_of widths line ≡ fill_from widths row 0 words
unfolding row_of
fill_start widths row line words same = rw same (sym (map_same (values_of widths (entries_of line))))

-- the width of an index
pub width_at : (widths : List ℕ) (row : List Word) (index : ℕ) (value : Word) → index < length row → value ≡ get_or row index value → value_widths row ≡ widths
    → get_or widths index 0 ≡ value.width
width_at widths row index value inside is same =
    ap (λ ws. get_or ws index 0) (sym same) ∙ get_or-map (λ (w : Word). w.width) row index value 0 inside ∙ ap (λ (w : Word). w.width) (sym is)

of_width : (width : ℕ) (number : Option ℕ) (value : Word) → option_map (λ n. record { width = width; value = n }) number ≡ Some value → value.width ≡ width
of_width width None value is = cc
of_width width (Some n) value is = cc

-- what a word writes for a width has the width
pub width_value_of : (width : ℕ) (word : List ℕ) (value : Word) → value_of width word ≡ Some value → value.width ≡ width
width_value_of width word value is = of_width width (number_below (2 ^ width) word) value is

none_below : (decimal : Bool) (number small large : ℕ) → small ≤ large → (if decimal && nat_lt number large then Some number else None) ≡ None
    → (if decimal && nat_lt number small then Some number else None) ≡ None
none_below false number small large less none = refl
none_below true number small large less none = grind (arith, nat_tests)

-- a word that writes no number of 128 bits writes none of fewer
pub value_of_wide : (width : ℕ) (word : List ℕ) → width ≤ 128 → number_below (2 ^ 128) word ≡ None → value_of width word ≡ None
value_of_wide width word narrow none =
    let less : 2 ^ width ≤ 2 ^ 128 = pow-le-pow_right (omega arith) narrow in
    ap (option_map _) (none_below (is_decimal word) (digits_value 10 word) (2 ^ width) (2 ^ 128) less none)
