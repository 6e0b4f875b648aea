-- A bit that is set, and a row that is added to another.
use Rattle.std.proofs.Common.{◌≡◌, ℕ, ◌+◌, ◌*◌, ◌/◌, ◌%◌, ◌^◌, ◌<◌, ◌≤◌, ◌⊎◌, List, length, get_or, set, max, Bool, true, false, cond, ◌&&◌, ◌||◌, eqb, ltb, bit_or, refl, sym, ap, ap₂, ◌∙◌, inl, inr, arith, eq-eqb, ne_eqb, lt-ltb, le-ltb, w64, get_or-set_same, get_or-set_other}
use Rattle.std.specs.Int.{bit_at}
use Rattle.std.proofs.lemmas.Bool.{or_left, or_right, and_from, and_left, and_right, cases_eq, cases_lt}
use Rattle.std.proofs.lemmas.Nat.{same_from_place}
use Rattle.std.proofs.lemmas.Nat.Bits.{bit_at_set_same, bit_at_set_other, bit_at_or, bit_at-lt}
use Rattle.bit_table.specs.Tables.{bit}

or_false : (t u : Bool) → u ≡ false → (t || u) ≡ t
or_false true u e = refl
or_false false u e = e

pub bit_set : (words : List ℕ) (width a b word : ℕ) → a * width + b / 64 < length words → b / 64 < width →
    word ≡ get_or words (a * width + b / 64) 0 → (x y : ℕ) → y / 64 < width →
    bit (set words (a * width + b / 64) (bit_or word (1 * 2 ^ (b % 64) % 2 ^ 64))) width x y ≡
    (bit words width x y || (eqb x a && eqb y b))
bit_set words width a b word lt column is x y within = go (cases_eq (x * width + y / 64) (a * width + b / 64))
  where
    new : List ℕ
    new = set words (a * width + b / 64) (bit_or word (1 * 2 ^ (b % 64) % 2 ^ 64))

    small : b % 64 < 64
    small = omega arith

    here : x * width + y / 64 ≡ a * width + b / 64 →
        get_or new (x * width + y / 64) 0 ≡ bit_or word (1 * 2 ^ (b % 64) % 2 ^ 64)
    here e =
        ap (λ (i : ℕ). get_or new i 0) e ∙ get_or-set_same words (a * width + b / 64)
        (bit_or word (1 * 2 ^ (b % 64) % 2 ^ 64)) 0 lt

    go : (x * width + y / 64 ≡ a * width + b / 64) ⊎ (x * width + y / 64 ≡ a * width + b / 64 → ⊥) →
        bit new width x y ≡ (bit words width x y || (eqb x a && eqb y b))
    go (inl e) = column_is (same_from_place x (y / 64) a (b / 64) width within column e) (cases_eq (y % 64) (b % 64))
      where
        column_is : (x ≡ a) × (y / 64 ≡ b / 64) → (y % 64 ≡ b % 64) ⊎ (y % 64 ≡ b % 64 → ⊥) →
            bit new width x y ≡ (bit words width x y || (eqb x a && eqb y b))
        column_is same (inl f) =
            let row : x ≡ a = same.0 in let block : y / 64 ≡ b / 64 = same.1 in let whole : y ≡ b = omega arith in
            ap₂ (λ (m i : ℕ). eqb (bit_at m i) 1) (here e) f
            ∙ (ap (λ (m : ℕ). eqb m 1) (bit_at_set_same w64 word (b % 64) small)
            ∙ sym
            (or_right (bit words width x y) (eqb x a && eqb y b)
            (and_from (eqb x a) (eqb y b) (eq-eqb x a row) (eq-eqb y b whole))))
        column_is same (inr f) = let ne : y ≡ b → ⊥ = λ (g : y ≡ b). f (ap (λ (i : ℕ). i % 64) g) in
            ap (λ (m : ℕ). eqb (bit_at m (y % 64)) 1) (here e)
            ∙ (ap (λ (m : ℕ). eqb m 1) (bit_at_set_other w64 word (b % 64) small (y % 64) f)
            ∙ (ap (λ (m : ℕ). eqb (bit_at m (y % 64)) 1) (is ∙ ap (λ (i : ℕ). get_or words i 0) (sym e))
            ∙ sym
            (or_false (bit words width x y) (eqb x a && eqb y b) (and_right (eqb x a) (eqb y b) (ne_eqb y b ne)))))
    go (inr ne) =
        ap (λ (m : ℕ). eqb (bit_at m (y % 64)) 1)
        (get_or-set_other words (a * width + b / 64) (x * width + y / 64) (bit_or word (1 * 2 ^ (b % 64) % 2 ^ 64))
        0 ne)
        ∙ sym (or_false (bit words width x y) (eqb x a && eqb y b) (apart (cases_eq x a)))
      where
        apart : (x ≡ a) ⊎ (x ≡ a → ⊥) → (eqb x a && eqb y b) ≡ false
        apart (inl e) =
            and_right (eqb x a) (eqb y b)
            (ne_eqb y b (λ (f : y ≡ b). ne (ap₂ (λ (i j : ℕ). i * width + j / 64) e f)))
        apart (inr f) = and_left (eqb x a) (eqb y b) (ne_eqb x a f)

-- the first words of a row of the source are added to row a of the old words, as many as there are columns
abbrev pub AreAdded : List ℕ → List ℕ → List ℕ → ℕ → ℕ → ℕ → ℕ → Type 0
AreAdded old source now width a k columns = (x c : ℕ) → c < width → get_or now (x * width + c) 0
    ≡ cond (eqb x a && ltb c columns) (bit_or (get_or old (a * width + c) 0) (get_or source (k * width + c) 0))
    (get_or old (x * width + c) 0)

cond_at : (t : Bool) (m n : ℕ) → t ≡ false → cond t m n ≡ n
cond_at t m n e = ap (λ (u : Bool). cond u m n) e

pub none_added : (old source : List ℕ) (width a k : ℕ) → AreAdded old source old width a k 0
none_added old source width a k x c lt =
    sym (cond_at (eqb x a && ltb c 0) _ _ (and_right (eqb x a) (ltb c 0) (le-ltb c 0 (omega arith))))

-- another row is as it was
pub other_kept : (old source now : List ℕ) (width a k column : ℕ) → column < width → (a ≡ k → ⊥) →
    AreAdded old source now width a k column →
    get_or now (k * width + column) 0 ≡ get_or old (k * width + column) 0
other_kept old source now width a k column lt apart added = added k column lt
    ∙ cond_at (eqb k a && ltb column column) _ _
    (and_left (eqb k a) (ltb column column) (ne_eqb k a (λ (f : k ≡ a). apart (sym f))))

pub more_added : (old source now : List ℕ) (width a k column word more : ℕ) → a * width + width ≤ length now →
    column < width →
    word ≡ get_or now (a * width + column) 0 → more ≡ get_or source (k * width + column) 0 → AreAdded old source now
    width a k column →
    AreAdded old source (set now (a * width + column) (bit_or word more)) width a k (column + 1)
more_added old source now width a k column word more fits lt is_word is_more added x c within =
    go (cases_eq (x * width + c) (a * width + column))
  where
    A : ℕ
    A = bit_or (get_or old (a * width + c) 0) (get_or source (k * width + c) 0)

    B : ℕ
    B = get_or old (x * width + c) 0

    inside : a * width + column < length now
    inside = omega arith

    go : (x * width + c ≡ a * width + column) ⊎ (x * width + c ≡ a * width + column → ⊥) →
        get_or (set now (a * width + column) (bit_or word more)) (x * width + c) 0 ≡ cond
        (eqb x a && ltb c (column + 1)) A B
    go (inl e) = let same = same_from_place x c a column width within lt e in
        ap (λ (i : ℕ). get_or (set now (a * width + column) (bit_or word more)) i 0) e
        ∙ (get_or-set_same now (a * width + column) (bit_or word more) 0 inside
        ∙ (ap₂ (λ (m n : ℕ). bit_or m n)
        (is_word
        ∙ (added a column lt ∙ cond_at (eqb a a && ltb column column) _ _
        (and_right (eqb a a) (ltb column column) (le-ltb column column (omega arith))))) is_more
        ∙ (ap (λ (j : ℕ). bit_or (get_or old (a * width + j) 0) (get_or source (k * width + j) 0)) (sym same.1)
        ∙ sym
        (ap (λ (u : Bool). cond u A B)
        (and_from (eqb x a) (ltb c (column + 1)) (eq-eqb x a same.0)
        (lt-ltb c (column + 1) (let f : c ≡ column = same.1 in omega arith)))))))
    go (inr ne) =
        get_or-set_other now (a * width + column) (x * width + c) (bit_or word more) 0 ne
        ∙ (added x c within ∙ ap (λ (u : Bool). cond u A B) (tests (cases_eq x a)))
      where
        tests : (x ≡ a) ⊎ (x ≡ a → ⊥) → (eqb x a && ltb c column) ≡ (eqb x a && ltb c (column + 1))
        tests (inr f) =
            and_left (eqb x a) (ltb c column) (ne_eqb x a f) ∙ sym
            (and_left (eqb x a) (ltb c (column + 1)) (ne_eqb x a f))
        tests (inl f) = ap (λ (u : Bool). eqb x a && u) (side (cases_lt c column))
          where
            side : (c < column) ⊎ (column ≤ c) → ltb c column ≡ ltb c (column + 1)
            side (inl l) = lt-ltb c column l ∙ sym (lt-ltb c (column + 1) (omega arith))
            side (inr l) =
                let other : c ≡ column → ⊥ = λ (h : c ≡ column). ne (ap₂ (λ (i j : ℕ). i * width + j) f h) in le-ltb
                c column l ∙ sym (le-ltb c (column + 1) (omega arith))

max_one : (m n : ℕ) → m < 2 → n < 2 → eqb (max m n) 1 ≡ (eqb m 1 || eqb n 1)
max_one m n p q = go (cases_eq m 1) (cases_eq n 1)
  where
    go : (m ≡ 1) ⊎ (m ≡ 1 → ⊥) → (n ≡ 1) ⊎ (n ≡ 1 → ⊥) → eqb (max m n) 1 ≡ (eqb m 1 || eqb n 1)
    go (inl e) f = eq-eqb (max m n) 1 (omega arith) ∙ sym (or_left (eqb m 1) (eqb n 1) (eq-eqb m 1 e))
    go (inr e) (inl f) = eq-eqb (max m n) 1 (omega arith) ∙ sym (or_right (eqb m 1) (eqb n 1) (eq-eqb n 1 f))
    go (inr e) (inr f) =
        ne_eqb (max m n) 1 (λ (h : max m n ≡ 1). let x : ⊥ = omega arith in x) ∙ sym
        (or_false (eqb m 1) (eqb n 1) (ne_eqb n 1 f) ∙ ne_eqb m 1 e)

pub all_added : (old source now : List ℕ) (width a k columns : ℕ) → width ≤ columns →
    AreAdded old source now width a k columns → (x y : ℕ) → y / 64 < width →
    bit now width x y ≡ (bit old width x y || (eqb x a && bit source width k y))
all_added old source now width a k columns le added x y within = go (cases_eq x a)
  where
    A : ℕ
    A = get_or old (x * width + y / 64) 0

    B : ℕ
    B = get_or source (k * width + y / 64) 0

    go : (x ≡ a) ⊎ (x ≡ a → ⊥) → bit now width x y ≡ (bit old width x y || (eqb x a && bit source width k y))
    go (inl e) =
        ap (λ (m : ℕ). eqb (bit_at m (y % 64)) 1)
        (added x (y / 64) within
        ∙ (ap (λ (u : Bool). cond u (bit_or (get_or old (a * width + y / 64) 0) B) A)
        (and_from (eqb x a) (ltb (y / 64) columns) (eq-eqb x a e) (lt-ltb (y / 64) columns (omega arith)))
        ∙ ap (λ (r : ℕ). bit_or (get_or old (r * width + y / 64) 0) B) (sym e)))
        ∙ (ap (λ (m : ℕ). eqb m 1) (bit_at_or A B (y % 64))
        ∙ (max_one (bit_at A (y % 64)) (bit_at B (y % 64)) (bit_at-lt A (y % 64)) (bit_at-lt B (y % 64))
        ∙ ap (λ (u : Bool). bit old width x y || (u && bit source width k y)) (sym (eq-eqb x a e))))
    go (inr e) =
        ap (λ (m : ℕ). eqb (bit_at m (y % 64)) 1)
        (added x (y / 64) within ∙ cond_at (eqb x a && ltb (y / 64) columns) _ _
        (and_left (eqb x a) (ltb (y / 64) columns) (ne_eqb x a e)))
        ∙ sym
        (or_false (bit old width x y) (eqb x a && bit source width k y)
        (and_left (eqb x a) (bit source width k y) (ne_eqb x a e)))
