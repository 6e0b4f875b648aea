-- Tables of the places of names.
use Rattle.std.proofs.Common.{◌≡◌, ◌∙◌, ◌+◌, ◌<◌, ◌≤◌, ◌++◌, ℕ, Bool, true, false, List, [], ◌∷◌, length, take, get_or, length-append, length-take-le, refl, ap, sym, inl, inr, arith}
use Rattle.std.specs.Prelude.{Option, Some, None, is_some, if◌then◌else◌, nat_lt, position}
use Rattle.std.specs.List.{position_or_len}
use Rattle.std.specs.Str.{bytes_eq}
use Rattle.std.proofs.lemmas.Bool.{cases_Bool, false≢true}
use Rattle.std.proofs.lemmas.Bool.Decides.{nat_tests}
use Rattle.std.proofs.lemmas.List.{take_all, take_more}
use Rattle.std.proofs.lemmas.List.Folds.{position_or_len_push}
use Rattle.std.proofs.lemmas.Slice.Eq.{bytes_eq-Decides}
use Rattle.pm_values.specs.Tables.{Names, get, put}
use Rattle.pm_values.proofs.Tables.{put_is_found, others_stay}
use Rattle.name_places.specs.Places.{FindsPlaces, KeepsFirst, first_of, place_by}

alone : (o : Option ℕ) → first_of o None ≡ o
alone None = refl
alone (Some place) = refl

settled : (o other : Option ℕ) → is_some o ≡ true → first_of o other ≡ o
settled None other some = absurd (false≢true some)
settled (Some place) other some = refl

-- a name that is there keeps its place
pub kept_old : (places : Names ℕ) (name : List ℕ) (place : ℕ) → is_some (get places name) ≡ true
    → KeepsFirst places name place places
kept_old places name place some other = elim (cases_Bool (bytes_eq name other)) [
  | inl same ↦
      let one : name ≡ other = (bytes_eq-Decides name other).0 same in
      sym (settled (get places other) (if bytes_eq name other then Some place else None)
      (ap (λ (n : List ℕ). is_some (get places n)) (sym one) ∙ some))
  | inr differ ↦ rw differ (sym (alone (get places other)))
]

none_there : (o : Option ℕ) → is_some o ≡ false → o ≡ None
none_there None none = refl
none_there (Some place) none = absurd (false≢true (sym none))

-- names differ either way round
turned : (name other : List ℕ) → bytes_eq name other ≡ false → bytes_eq other name ≡ false
turned name other differ = elim (cases_Bool (bytes_eq other name)) [
  | inl same ↦
      let one : name ≡ other = sym ((bytes_eq-Decides other name).0 same) in
      absurd (false≢true (sym differ ∙ (bytes_eq-Decides name other).1 one))
  | inr apart ↦ apart
]

-- a new name has its place
pub kept_new : (places more : Names ℕ) (name : List ℕ) (place : ℕ) → is_some (get places name) ≡ false
    → more ≡ put places name place
    → KeepsFirst places name place more
kept_new places more name place none is other = elim (cases_Bool (bytes_eq name other)) [
  | inl same ↦
      let one : name ≡ other = (bytes_eq-Decides name other).0 same in
      let absent : get places other ≡ None = ap (get places) (sym one) ∙ none_there (get places name) none in
      let found : get more other ≡ Some place = ap (λ (ps : Names ℕ). get ps other) is
      ∙ ap (get (put places name place)) (sym one)
      ∙ put_is_found places name place in
      rw (same, absent) found
  | inr differ ↦
      let stays : get more other ≡ get places other = ap (λ (ps : Names ℕ). get ps other) is
      ∙ others_stay places name other place (turned name other differ) in
      rw differ (stays ∙ sym (alone (get places other)))
]

-- ---- item by item

some_within : (n m : ℕ) → n < m → (if nat_lt n m then Some n else None) ≡ Some n
some_within n m within = grind (arith, nat_tests, within)

none_past : (n m : ℕ) → m ≤ n → (if nat_lt n m then Some n else None) ≡ None
none_past n m past = grind (arith, nat_tests, past)

module _ {X : Type 0} where
  at_most : (test : X → Bool) (xs : List X) → position_or_len test xs ≤ length xs
  at_most test [] = omega arith
  at_most test (x ∷ xs) = elim (cases_Bool (test x)) [
    | inl passes ↦ rw passes (omega arith)
    | inr fails ↦ rw fails (omega (arith, at_most test xs))
  ]

  -- the first that passes among one item more
  position-push : (test : X → Bool) (xs : List X) (x : X)
      → position test (xs ++ x ∷ []) ≡ first_of (position test xs) (if test x then Some (length xs) else None)
  position-push test xs x =
      let longer : length (xs ++ x ∷ []) ≡ length xs + 1 = length-append xs (x ∷ []) in
      elim (cases_Bool (nat_lt (position_or_len test xs) (length xs))) [
        | inl within ↦
            let there : position_or_len test (xs ++ x ∷ []) ≡ position_or_len test xs =
            grind (arith, nat_tests, position_or_len_push test xs x, within) in
            grind (arith, nat_tests, there, within, longer)
        | inr past ↦ elim (cases_Bool (test x)) [
          | inl passes ↦
              let there : position_or_len test (xs ++ x ∷ []) ≡ length xs =
              grind (arith, nat_tests, position_or_len_push test xs x, past, passes, at_most test xs) in
              rw (there, past, passes) (some_within (length xs) (length (xs ++ x ∷ [])) (omega (arith, longer)))
          | inr fails ↦
              let there : position_or_len test (xs ++ x ∷ []) ≡ length xs + 1 =
              grind (arith, nat_tests, position_or_len_push test xs x, past, fails, at_most test xs) in
              rw (there, past, fails) (none_past (length xs + 1) (length (xs ++ x ∷ [])) (omega (arith, longer)))
        ]
      ]

  -- the table has the place of one item more
  pub one_more : (name_of : X → List ℕ) (items : List X) (index : ℕ) (item : X) (name : List ℕ) (old new : Names ℕ)
      → index < length items → item ≡ get_or items index item → name ≡ name_of item
      → FindsPlaces name_of (take index items) old → KeepsFirst old name index new
      → FindsPlaces name_of (take (index + 1) items) new
  one_more name_of items index item name old new within is named finds keeps other =
      let test : X → Bool = λ i. bytes_eq (name_of i) other in
      let so_far : length (take index items) ≡ index = length-take-le index items (omega (arith, within)) in
      let grown : take (index + 1) items ≡ take index items ++ item ∷ [] =
      take_more items index item within ∙ ap (λ (i : X). take index items ++ i ∷ []) (sym is) in
      keeps other
      ∙ ap (λ (n : List ℕ). first_of (get old other) (if bytes_eq n other then Some index else None)) named
      ∙ ap (λ (o : Option ℕ). first_of o (if test item then Some index else None)) (finds other)
      ∙ ap (λ (n : ℕ). first_of (position test (take index items)) (if test item then Some n else None)) (sym so_far)
      ∙ sym (position-push test (take index items) item)
      ∙ ap (position test) (sym grown)

  -- the table has the places of all items
  pub no_more : (name_of : X → List ℕ) (items : List X) (index : ℕ) (places : Names ℕ) → length items ≤ index
      → FindsPlaces name_of (take index items) places → FindsPlaces name_of items places
  no_more name_of items index places past finds name =
      finds name ∙ ap (λ (is : List X). place_by name_of is name) (take_all index items past)
