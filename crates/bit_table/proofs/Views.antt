-- What a table's words say of its places.
use Rattle.std.proofs.Common.{◌≡◌, ℕ, ◌+◌, ◌*◌, ◌/◌, ◌%◌, ◌<◌, ◌≤◌, ◌⊎◌, List, Bool, true, false, ◌&&◌, ◌||◌, eqb, ltb, replicate, get_or, refl, sym, ap, ap₂, subst, ◌∙◌, inl, inr, arith, lt-ltb, le-ltb, eqb-true}
use Rattle.std.proofs.lemmas.Bool.{and_parts, and_left, and_right, both_ways, cases_lt, false_from_ne_true}
use Rattle.std.specs.Int.{bit_at}
use Rattle.std.proofs.lemmas.List.{get_or-replicate}
use Rattle.std.proofs.lemmas.Nat.{mul-add-lt}
use Rattle.std.proofs.lemmas.Nat.Bits.{bit_at-zero}
use Rattle.std.proofs.Math.Nat.{mul_comm}
use Rattle.bit_table.specs.Tables.{Table, bit, words_in, is_set, IsEmpty, Adds}

abbrev pub table_of : ℕ → ℕ → List ℕ → Table
table_of rows columns words = record { rows = rows; columns = columns; words = words }

-- a place of the table
pub set_inside : (rows columns width : ℕ) (words : List ℕ) (r c : ℕ) → width ≡ words_in columns → r < rows →
    c < columns → is_set (table_of rows columns words) r c ≡ bit words width r c
unfolding is_set
set_inside rows columns width words r c is lr lc =
    ap₂ (λ (x y : Bool). x && (y && bit words (words_in columns) r c)) (lt-ltb r rows lr) (lt-ltb c columns lc)
    ∙ ap (λ (n : ℕ). bit words n r c) (sym is)

-- outside the table no bit is set
pub set_outside : (t : Table) (r c : ℕ) → (t.rows ≤ r) ⊎ (t.columns ≤ c) → is_set t r c ≡ false
unfolding is_set
set_outside t r c (inl le) = and_left (ltb r t.rows) _ (le-ltb r t.rows le)
set_outside t r c (inr le) = and_right (ltb r t.rows) _ (and_left (ltb c t.columns) _ (le-ltb c t.columns le))

-- bits that are set where the words say so
adds_of : (rows columns width : ℕ) (old new : List ℕ) (more : ℕ → ℕ → Bool) → width ≡ words_in columns →
    ((r c : ℕ) → r < rows → c < columns → bit new width r c ≡ (bit old width r c || more r c)) →
    ((r c : ℕ) → more r c ≡ true → (r < rows) × (c < columns)) →
    Adds (table_of rows columns old) (table_of rows columns new) more
adds_of rows columns width old new more is told inside = record {
  rows = refl;
  columns = refl;
  bits = λ r c. go r c (cases_lt r rows) (cases_lt c columns);
}
  where
    out : (r c : ℕ) → (rows ≤ r) ⊎ (columns ≤ c) →
        is_set (table_of rows columns new) r c ≡ (is_set (table_of rows columns old) r c || more r c)
    out r c outside = set_outside (table_of rows columns new) r c outside
        ∙ sym (ap₂ (λ (x y : Bool). x || y) (set_outside (table_of rows columns old) r c outside)
        (false_from_ne_true (more r c) (λ is_more. none outside (inside r c is_more))))
      where
        none : (rows ≤ r) ⊎ (columns ≤ c) → (r < rows) × (c < columns) → ⊥
        none (inl le) (lr, lc) = omega arith
        none (inr le) (lr, lc) = omega arith

    go : (r c : ℕ) → (r < rows) ⊎ (rows ≤ r) → (c < columns) ⊎ (columns ≤ c) →
        is_set (table_of rows columns new) r c ≡ (is_set (table_of rows columns old) r c || more r c)
    go r c (inl lr) (inl lc) = set_inside rows columns width new r c is lr lc
        ∙ (told r c lr lc ∙ ap (λ (x : Bool). x || more r c) (sym (set_inside rows columns width old r c is lr lc)))
    go r c (inr le) y = out r c (inl le)
    go r c (inl lr) (inr le) = out r c (inr le)

-- a column is in a word of its row
pub column_in : (columns width c : ℕ) → width ≡ words_in columns → c < columns → c / 64 < width
column_in columns width c is lc = let same : width ≡ (columns + 63) / 64 = is in omega arith

pub set_adds : (rows columns width : ℕ) (old new : List ℕ) (t : Table) (row column : ℕ) →
    table_of rows columns old ≡ t → width ≡ words_in columns → row < t.rows → column < t.columns →
    ((r c : ℕ) → c / 64 < width → bit new width r c ≡ (bit old width r c || (eqb r row && eqb c column))) →
    Adds t (table_of rows columns new) (λ r c. eqb r row && eqb c column)
set_adds rows columns width old new t row column view is lr lc told =
    subst (λ (u : Table). row < u.rows → column < u.columns →
    Adds u (table_of rows columns new) (λ r c. eqb r row && eqb c column)) view made lr lc
  where
    made : row < rows → column < columns →
        Adds (table_of rows columns old) (table_of rows columns new) (λ r c. eqb r row && eqb c column)
    made lr lc = adds_of rows columns width old new (λ r c. eqb r row && eqb c column) is
        (λ r c below_rows below_columns. told r c (column_in columns width c is below_columns))
        (λ r c both. let parts = and_parts (eqb r row) (eqb c column) both in (
          subst (λ (n : ℕ). n < rows) (sym (eqb-true r row parts.0)) lr,
          subst (λ (n : ℕ). n < columns) (sym (eqb-true c column parts.1)) lc,
        ))

-- a bit that is set is in the table
set_known : (t : Table) (r c : ℕ) → is_set t r c ≡ true → c < t.columns
set_known t r c h = go (cases_lt c t.columns)
  where
    go : (c < t.columns) ⊎ (t.columns ≤ c) → c < t.columns
    go (inl lt) = lt
    go (inr le) = absurd (both_ways (is_set t r c) (set_outside t r c (inr le)) h)

pub row_adds : (rows columns width : ℕ) (old new : List ℕ) (t : Table) (row other : ℕ) →
    table_of rows columns old ≡ t → width ≡ words_in columns → row < t.rows → other < t.rows →
    ((r c : ℕ) → c / 64 < width → bit new width r c ≡ (bit old width r c || (eqb r row && bit old width other c))) →
    Adds t (table_of rows columns new) (λ r c. eqb r row && is_set t other c)
row_adds rows columns width old new t row other view is lr lo told =
    subst (λ (u : Table). row < u.rows → other < u.rows →
    Adds u (table_of rows columns new) (λ r c. eqb r row && is_set u other c)) view made lr lo
  where
    before : Table
    before = table_of rows columns old

    made : row < rows → other < rows →
        Adds before (table_of rows columns new) (λ r c. eqb r row && is_set before other c)
    made lr lo = adds_of rows columns width old new (λ r c. eqb r row && is_set before other c) is
        (λ r c below_rows below_columns. told r c (column_in columns width c is below_columns)
        ∙ ap (λ (x : Bool). bit old width r c || (eqb r row && x))
        (sym (set_inside rows columns width old other c is lo below_columns)))
        (λ r c both. let parts = and_parts (eqb r row) (is_set before other c) both in
        (subst (λ (n : ℕ). n < rows) (sym (eqb-true r row parts.0)) lr, set_known before other c parts.1))

-- the same with a row of another table of as many columns
pub row_of_adds : (rows columns width : ℕ) (old new : List ℕ) (t : Table) (rows' columns' width' : ℕ) (source : List ℕ) (u : Table) (row other : ℕ) →
    table_of rows columns old ≡ t → table_of rows' columns' source ≡ u → width ≡ words_in columns → width' ≡
    words_in columns' →
    row < t.rows → other < u.rows → u.columns ≡ t.columns →
    ((r c : ℕ) → c / 64 < width → bit new width r c ≡ (bit old width r c || (eqb r row && bit source width other c))) →
    Adds t (table_of rows columns new) (λ r c. eqb r row && is_set u other c)
row_of_adds rows columns width old new t rows' columns' width' source u row other view view' is is' lr lo same told =
    subst
    (λ (x : Table). row < x.rows → u.columns ≡ x.columns → Adds x (table_of rows columns new)
    (λ r c. eqb r row && is_set u other c)) view
    (subst (λ (y : Table). other < y.rows → row < rows → y.columns ≡ columns →
    Adds (table_of rows columns old) (table_of rows columns new)
    (λ r c. eqb r row && is_set y other c)) view' made lo) lr same
  where
    from : Table
    from = table_of rows' columns' source

    made : other < rows' → row < rows → columns' ≡ columns →
        Adds (table_of rows columns old) (table_of rows columns new) (λ r c. eqb r row && is_set from other c)
    made lo lr same = adds_of rows columns width old new (λ r c. eqb r row && is_set from other c) is
        (λ r c below_rows below_columns. told r c (column_in columns width c is below_columns)
        ∙ ap (λ (x : Bool). bit old width r c || (eqb r row && x))
        (sym
        (set_inside rows' columns' width source other c (is ∙ ap words_in (sym same)) lo
        (subst (λ (n : ℕ). c < n) (sym same) below_columns))))
        (λ r c both. let parts = and_parts (eqb r row) (is_set from other c) both in (
          subst (λ (n : ℕ). n < rows) (sym (eqb-true r row parts.0)) lr,
          subst (λ (n : ℕ). c < n) same
              (set_known from other c parts.1),
        ))

-- a row added to itself adds nothing
pub same_row_adds : (t : Table) (row other : ℕ) → row ≡ other → Adds t t (λ r c. eqb r row && is_set t other c)
same_row_adds t row other same = record { rows = refl; columns = refl; bits = λ r c. go r c (eqb r row) refl }
  where
    twice : (x : Bool) → x ≡ (x || x)
    twice true = refl
    twice false = refl

    nothing : (x : Bool) → x ≡ (x || false)
    nothing true = refl
    nothing false = refl

    go : (r c : ℕ) (e : Bool) → eqb r row ≡ e → is_set t r c ≡ (is_set t r c || (eqb r row && is_set t other c))
    go r c true e = twice (is_set t r c) ∙ ap (λ (x : Bool). is_set t r c || x)
        (sym
        (ap (λ (x : Bool). x && is_set t other c) e ∙ ap (λ (n : ℕ). is_set t n c)
        (sym (eqb-true r row e ∙ same))))
    go r c false e =
        nothing (is_set t r c) ∙ ap (λ (x : Bool). is_set t r c || x)
        (sym (ap (λ (x : Bool). x && is_set t other c) e))

-- words that are all 0
pub none_set : (rows columns width : ℕ) (words : List ℕ) → width ≡ words_in columns →
    ((r c : ℕ) → r < rows → c < columns → bit words width r c ≡ false) → IsEmpty (table_of rows columns words) rows
    columns
none_set rows columns width words is none = record {
  rows_are = refl;
  columns_are = refl;
  clear = λ r c. go r c (cases_lt r rows) (cases_lt c columns);
}
  where
    go : (r c : ℕ) → (r < rows) ⊎ (rows ≤ r) → (c < columns) ⊎ (columns ≤ c) →
        is_set (table_of rows columns words) r c ≡ false
    go r c (inl lr) (inl lc) = set_inside rows columns width words r c is lr lc ∙ none r c lr lc
    go r c (inr le) y = set_outside (table_of rows columns words) r c (inl le)
    go r c (inl lr) (inr le) = set_outside (table_of rows columns words) r c (inr le)

-- no bit of a word 0 is set
pub zeros_clear : (count width r c : ℕ) (words : List ℕ) → words ≡ replicate count 0 → r * width + c / 64 < count →
    bit words width r c ≡ false
zeros_clear count width r c words are lt = ap (λ (word : ℕ). eqb (bit_at word (c % 64)) 1)
    (ap (λ (ws : List ℕ). get_or ws (r * width + c / 64) 0) are ∙ get_or-replicate count (r * width + c / 64) 0
    0 lt)
    ∙ ap (λ (n : ℕ). eqb n 1) (bit_at-zero (c % 64))

pub empty_of : (rows columns width : ℕ) (words : List ℕ) → width ≡ words_in columns →
    words ≡ replicate (rows * width) 0 →
    IsEmpty (table_of rows columns words) rows columns
empty_of rows columns width words is are = none_set rows columns width words is (λ r c lr lc.
    zeros_clear (rows * width) width r c words are
    (subst (λ (n : ℕ). r * width + c / 64 < n) (mul_comm width rows)
    (mul-add-lt r width (c / 64) rows lr (column_in columns width c is lc))))
