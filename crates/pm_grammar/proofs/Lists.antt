-- What is read of a list: its elements, or one expression for each number of a range.
use Rattle.std.proofs.Common.{◌≡◌, ◌⊎◌, ◌∷◌, ◌++◌, ℕ, Bool, true, false, IsTrue, List, [], codes, append_assoc, append-nil, refl, sym, ap, subst, inl, inr, ◌∙◌}
use Rattle.std.specs.Prelude.{Option, Some, None}
use Rattle.std.proofs.lemmas.Bool.{false≢true}
use Rattle.pm_syn.specs.declared.expression.Expr.{Expr}
use Rattle.pm_syn.specs.declared.expression.Expr.TheViews as expr
use Rattle.pm_syn.specs.declared.token.Token.{Token}
use Rattle.pm_grammar.specs.Brackets.{IsItemsAfter, IsOnlyItems, SpellsEach, SpellsList, SpellsMore}
use Rattle.pm_grammar.specs.Expressions.{Spells, SpellsItems, SpellsRange, SpellsSequence}
use Rattle.pm_grammar.specs.Prefixes.{IsAfter, IsNotFirst, begins_with}
use Rattle.pm_grammar.specs.Tokens.{is_symbol, is_word}
use Rattle.pm_grammar.specs.Reading.{Begins, IsOnly, IsOnlyBeginning, IsRead}
use Rattle.pm_grammar.specs.declared.level.Level.TheVariants as level
use Rattle.pm_grammar.proofs.ExpressionStarts.{closing_opens}
use Rattle.pm_grammar.proofs.OneSymbol.{bracket_no_comma, ends_bracket, ends_for}
use Rattle.pm_grammar.proofs.OperandStarts.{begun_expression}
use Rattle.pm_grammar.proofs.TokenTexts.{of_mark}
use Rattle.pm_grammar.proofs.Parts.{not_begun, Closed, IsOnlyTo, behind_first, behind_test, closed_begins, front_closed, none_closed, not_there, only_closed, unclosed}
use Rattle.pm_grammar.proofs.Sequences.{items_are, more_done, more_ends, more_first, more_on}

-- ---- one expression for each number of a range

each_is : (e f : Expr) (ts : List Token) → SpellsEach e ts f → (p : List ℕ × List Expr) × (f ≡ expr.Each e p.0 p.1) × Closed (is_symbol (codes "]")) SpellsRange ts p
each_is e _ _ (SpellsEach.each ts closing name bounds s is) = ((name, bounds), refl, (ts, closing, refl, s, is))

range_to : (tokens : List Token) (read : Option ((List ℕ × List Expr) × List Token)) → IsOnlyBeginning SpellsRange tokens read → IsOnlyTo SpellsRange (is_symbol (codes "]")) tokens read
range_to tokens read only p closing rest is begins = only p (closing ∷ rest) begins

pub each_found : (tokens rest after : List Token) (e : Expr) (p : List ℕ × List Expr) → Begins SpellsRange tokens p rest → IsAfter (is_symbol (codes "]")) rest after
    → Begins (SpellsEach e) tokens (expr.Each e p.0 p.1) after
each_found tokens rest after e p begins behind =
    (begins.0 ++ behind.0 ∷ [], front_closed tokens begins.0 rest after behind.0 begins.1 behind.1, SpellsEach.each begins.0 behind.0 p.0 p.1 begins.2 behind.2)

pub no_each : (tokens : List Token) (e : Expr) → IsOnlyBeginning SpellsRange tokens None → IsOnlyBeginning (SpellsEach e) tokens None
no_each tokens e only f left begins =
    let each = each_is e f begins.0 begins.2 in
    none_closed SpellsRange (is_symbol (codes "]")) tokens (range_to tokens None only) each.0 left (begins.0, begins.1, each.2)

pub open_each : (tokens rest : List Token) (e : Expr) (p : List ℕ × List Expr) → IsOnlyBeginning SpellsRange tokens (Some (p, rest)) → IsNotFirst (is_symbol (codes "]")) rest
    → IsOnlyBeginning (SpellsEach e) tokens None
open_each tokens rest e p only apart f left begins =
    let each = each_is e f begins.0 begins.2 in
    unclosed SpellsRange (is_symbol (codes "]")) tokens p rest (range_to tokens (Some (p, rest)) only) apart each.0 left (begins.0, begins.1, each.2)

pub only_each : (tokens rest after : List Token) (e : Expr) (p : List ℕ × List Expr) → IsOnlyBeginning SpellsRange tokens (Some (p, rest)) → IsAfter (is_symbol (codes "]")) rest after
    → IsOnlyBeginning (SpellsEach e) tokens (Some (expr.Each e p.0 p.1, after))
only_each tokens rest after e p only behind f left begins =
    let each = each_is e f begins.0 begins.2 in
    let was = only_closed SpellsRange (is_symbol (codes "]")) tokens p rest after (range_to tokens (Some (p, rest)) only) behind each.0 left (begins.0, begins.1, each.2) in
    (each.1 ∙ ap (λ (one : List ℕ × List Expr). expr.Each e one.0 one.1) was.0, was.1)

-- ---- a list

-- an expression, `for`, and what makes a list of it
record EachReads (tokens : List Token) (f : Expr) (left : List Token) : Type 0 where
  pub behind : List Token
  pub for_word : Token
  pub e : Expr
  pub e_begins : Begins (Spells level.Conditional) tokens e (for_word ∷ behind)
  pub word : IsTrue (is_word (codes "for") for_word)
  pub each_begins : Begins (SpellsEach e) behind f left

list_reads : (tokens left : List Token) (f : Expr) → Begins SpellsList tokens f left
    → ((es : List Expr) × (f ≡ expr.Items es) × Begins (Closed (is_symbol (codes "]")) SpellsItems) tokens es left) ⊎ EachReads tokens f left
list_reads tokens left f (front, split, spelled) = go front f split spelled where
  go : (ts : List Token) (g : Expr) → tokens ≡ ts ++ left → SpellsList ts g
      → ((es : List Expr) × (g ≡ expr.Items es) × Begins (Closed (is_symbol (codes "]")) SpellsItems) tokens es left) ⊎ EachReads tokens g left
  go _ _ is (SpellsList.items ts closing es s mark) = inl (es, refl, (ts ++ closing ∷ [], is, (ts, closing, refl, s, mark)))
  go _ g is (SpellsList.each ts us for_word e _ s word t) = inr (record {
    behind = us ++ left;
    for_word = for_word;
    e = e;
    e_begins = (ts, is ∙ append_assoc ts (for_word ∷ us) left, s);
    word = word;
    each_begins = (us, refl, t);
  })

-- no expression begins with a closing bracket
no_bracket : (tokens rest after : List Token) (e : Expr) → IsAfter (is_symbol (codes "]")) tokens after → Begins (Spells level.Conditional) tokens e rest → ⊥
no_bracket tokens rest after e behind begins =
    let begun = begun_expression level.Conditional begins.0 e begins.2 in
    let split : tokens ≡ begun.0 ∷ (begun.1 ++ rest) = begins.1 ∙ ap (λ (us : List Token). us ++ rest) begun.2 in
    let mark = behind_test (is_symbol (codes "]")) tokens after (begun.1 ++ rest) begun.0 behind split in
    false≢true (sym (closing_opens begun.0 mark) ∙ begun.3)

-- elements and the closing bracket: none, or an expression and more
record ItemsRead (tokens : List Token) (es : List Expr) (closing : Token) (left : List Token) : Type 0 where
  pub behind : List Token
  pub first : Expr
  pub others : List Expr
  pub made : es ≡ first ∷ others
  pub first_begins : Begins (Spells level.Conditional) tokens first (behind ++ closing ∷ left)
  pub more : SpellsMore (Spells level.Conditional) true behind others

items_read : (tokens left : List Token) (es : List Expr) (closing : Token) → Begins SpellsItems tokens es (closing ∷ left)
    → ((es ≡ []) × (tokens ≡ closing ∷ left)) ⊎ ItemsRead tokens es closing left
items_read tokens left es closing begins = elim (items_are begins.0 es begins.2) [
  | inl nothing ↦ inl (nothing.1, begins.1 ∙ ap (λ (us : List Token). us ++ closing ∷ left) nothing.0)
  | inr some ↦ inr (record {
    behind = some.1;
    first = some.2;
    others = some.3;
    made = some.5;
    first_begins = (some.0, begins.1 ∙ ap (λ (us : List Token). us ++ closing ∷ left) some.4 ∙ append_assoc some.0 some.1 (closing ∷ left), some.6);
    more = some.7;
  })
]

pub empty_found : (tokens rest : List Token) → IsAfter (is_symbol (codes "]")) tokens rest → Begins SpellsList tokens (expr.Items []) rest
empty_found tokens rest behind = (behind.0 ∷ [], behind.1, SpellsList.items [] behind.0 [] SpellsItems.no_items behind.2)

pub only_empty : (tokens rest : List Token) → IsAfter (is_symbol (codes "]")) tokens rest → IsOnlyBeginning SpellsList tokens (Some (expr.Items [], rest))
only_empty tokens rest behind f left begins = elim (list_reads tokens left f begins) [
  | inl list ↦
      let closed = closed_begins SpellsItems (is_symbol (codes "]")) tokens left list.0 list.2 in
      elim (items_read tokens left list.0 closed.0 closed.1) [
        | inl nothing ↦ (list.1 ∙ ap (λ (es : List Expr). expr.Items es) nothing.0, sym (behind_first (is_symbol (codes "]")) tokens rest left closed.0 behind nothing.1))
        | inr some ↦ absurd (no_bracket tokens (some.behind ++ closed.0 ∷ left) rest some.first behind some.first_begins)
      ]
  | inr each ↦ absurd (no_bracket tokens (each.for_word ∷ each.behind) rest each.e behind each.e_begins)
]

pub no_list : (tokens : List Token) → IsNotFirst (is_symbol (codes "]")) tokens → IsOnly level.Conditional tokens None → IsOnlyBeginning SpellsList tokens None
no_list tokens apart only f left begins = elim (list_reads tokens left f begins) [
  | inl list ↦
      let closed = closed_begins SpellsItems (is_symbol (codes "]")) tokens left list.0 list.2 in
      elim (items_read tokens left list.0 closed.0 closed.1) [
        | inl nothing ↦ not_there (is_symbol (codes "]")) tokens left closed.0 apart nothing.1 closed.2
        | inr some ↦ only some.first (some.behind ++ closed.0 ∷ left) some.first_begins
            (more_ends true some.behind left some.others closed.0 some.more (ends_bracket closed.0 closed.2))
      ]
  | inr each ↦ only each.e (each.for_word ∷ each.behind) each.e_begins (ends_for each.for_word each.word)
]

-- `for` is neither a comma nor a closing bracket
no_for_more : (b : Bool) (ts left rest tail : List Token) (es : List Expr) (closing : Token) → SpellsMore (Spells level.Conditional) b ts es → IsTrue (is_symbol (codes "]") closing)
    → rest ≡ ts ++ closing ∷ left → IsAfter (is_word (codes "for")) rest tail → ⊥
no_for_more b ts left rest tail es closing more mark same behind =
    let first = more_first (Spells level.Conditional) b ts left es closing more in
    let word = behind_test (is_word (codes "for")) rest tail first.1 first.0 behind (same ∙ first.2) in
    elim first.3 [
      | inl comma ↦
          let no : is_word (codes "for") first.0 ≡ false = of_mark (codes ",") first.0 (is_word (codes "for")) false comma refl in
          false≢true (sym no ∙ word)
      | inr one ↦
          let closed = subst (λ (t : Token). IsTrue (is_symbol (codes "]") t)) (sym one) mark in
          let no : is_word (codes "for") first.0 ≡ false = of_mark (codes "]") first.0 (is_word (codes "for")) false closed refl in
          false≢true (sym no ∙ word)
    ]

pub begins_each : (tokens rest tail after : List Token) (e f : Expr) → Begins (Spells level.Conditional) tokens e rest → IsAfter (is_word (codes "for")) rest tail → Begins (SpellsEach e) tail f after
    → Begins SpellsList tokens f after
begins_each tokens rest tail after e f begins behind begins' = (
  begins.0 ++ behind.0 ∷ begins'.0,
  begins.1 ∙ ap (λ (us : List Token). begins.0 ++ us) (behind.1 ∙ ap (λ (us : List Token). behind.0 ∷ us) begins'.1)
      ∙ sym (append_assoc begins.0 (behind.0 ∷ begins'.0) after),
  SpellsList.each begins.0 begins'.0 behind.0 e f begins.2 behind.2 begins'.2,
)

pub only_for : (tokens rest tail : List Token) (e : Expr) (read : Option (Expr × List Token)) → IsNotFirst (is_symbol (codes "]")) tokens → IsOnly level.Conditional tokens (Some (e, rest))
    → IsAfter (is_word (codes "for")) rest tail → IsOnlyBeginning (SpellsEach e) tail read → IsOnlyBeginning SpellsList tokens read
only_for tokens rest tail e read apart only behind only' f left begins = elim (list_reads tokens left f begins) [
  | inl list ↦
      let closed = closed_begins SpellsItems (is_symbol (codes "]")) tokens left list.0 list.2 in
      elim (items_read tokens left list.0 closed.0 closed.1) [
        | inl nothing ↦ absurd (not_there (is_symbol (codes "]")) tokens left closed.0 apart nothing.1 closed.2)
        | inr some ↦
            let was = only some.first (some.behind ++ closed.0 ∷ left) some.first_begins
            (more_ends true some.behind left some.others closed.0 some.more (ends_bracket closed.0 closed.2)) in
            absurd (no_for_more true some.behind left rest tail some.others closed.0 some.more closed.2 (sym was.1) behind)
      ]
  | inr each ↦
      let was = only each.e (each.for_word ∷ each.behind) each.e_begins (ends_for each.for_word each.word) in
      let same = behind_first (is_word (codes "for")) rest tail each.behind each.for_word behind (sym was.1) in
      let moved = subst (λ (us : List Token). Begins (SpellsEach each.e) us f left) (sym same) each.each_begins in
      only' f left (subst (λ (one : Expr). Begins (SpellsEach one) tail f left) was.0 moved)
]

-- the elements decide where `for` isn't there
items_to : (tokens rest : List Token) (first : Expr) (read : Option (List Expr × List Token)) → IsNotFirst (is_symbol (codes "]")) tokens → IsOnly level.Conditional tokens (Some (first, rest))
    → IsOnlyItems first rest read → IsOnlyTo SpellsItems (is_symbol (codes "]")) tokens read
items_to tokens rest first read apart only only' es closing left mark begins = elim (items_read tokens left es closing begins) [
  | inl nothing ↦ absurd (not_there (is_symbol (codes "]")) tokens left closing apart nothing.1 mark)
  | inr some ↦
      let was = only some.first (some.behind ++ closing ∷ left) some.first_begins (more_ends true some.behind left some.others closing some.more (ends_bracket closing mark)) in
      let inside = only' some.others closing left mark (some.behind, sym was.1, some.more) in
      subst (λ (zs : List Expr). IsRead read zs (closing ∷ left)) (sym (some.made ∙ ap (λ (one : Expr). one ∷ some.others) was.0)) inside
]

list_of : (tokens rest : List Token) (first : Expr) (read : Option (List Expr × List Token)) → IsOnly level.Conditional tokens (Some (first, rest)) → IsNotFirst (is_word (codes "for")) rest
    → IsOnlyBeginning (Closed (is_symbol (codes "]")) SpellsItems) tokens read
    → (f : Expr) (left : List Token) → Begins SpellsList tokens f left → (es : List Expr) × (f ≡ expr.Items es) × IsRead read es left
list_of tokens rest first read only apart closed f left begins = elim (list_reads tokens left f begins) [
  | inl list ↦ (list.0, list.1, closed list.0 left list.2)
  | inr each ↦
      let was = only each.e (each.for_word ∷ each.behind) each.e_begins (ends_for each.for_word each.word) in
      absurd (not_there (is_word (codes "for")) rest each.behind each.for_word apart (sym was.1) each.word)
]

pub no_more_items : (tokens rest : List Token) (first : Expr) → IsNotFirst (is_symbol (codes "]")) tokens → IsOnly level.Conditional tokens (Some (first, rest))
    → IsNotFirst (is_word (codes "for")) rest → IsOnlyItems first rest None → IsOnlyBeginning SpellsList tokens None
no_more_items tokens rest first apart only no_for only' f left begins =
    let closed = none_closed SpellsItems (is_symbol (codes "]")) tokens (items_to tokens rest first None apart only only') in
    (list_of tokens rest first None only no_for closed f left begins).2

pub open_list : (tokens rest after : List Token) (first : Expr) (es : List Expr) → IsNotFirst (is_symbol (codes "]")) tokens → IsOnly level.Conditional tokens (Some (first, rest))
    → IsNotFirst (is_word (codes "for")) rest → IsOnlyItems first rest (Some (es, after)) → IsNotFirst (is_symbol (codes "]")) after → IsOnlyBeginning SpellsList tokens None
open_list tokens rest after first es apart only no_for only' open_there f left begins =
    let closed = unclosed SpellsItems (is_symbol (codes "]")) tokens es after (items_to tokens rest first (Some (es, after)) apart only only') open_there in
    (list_of tokens rest first None only no_for closed f left begins).2

pub only_list : (tokens rest after end : List Token) (first : Expr) (es : List Expr) → IsNotFirst (is_symbol (codes "]")) tokens → IsOnly level.Conditional tokens (Some (first, rest))
    → IsNotFirst (is_word (codes "for")) rest → IsOnlyItems first rest (Some (es, after)) → IsAfter (is_symbol (codes "]")) after end → IsOnlyBeginning SpellsList tokens (Some (expr.Items es, end))
only_list tokens rest after end first es apart only no_for only' behind f left begins =
    let closed = only_closed SpellsItems (is_symbol (codes "]")) tokens es after end (items_to tokens rest first (Some (es, after)) apart only only') behind in
    let was = list_of tokens rest first (Some (es, end)) only no_for closed f left begins in
    (was.1 ∙ ap (λ (zs : List Expr). expr.Items zs) was.2.0, was.2.1)

pub list_found : (tokens rest after end : List Token) (first : Expr) (es : List Expr) → Begins (Spells level.Conditional) tokens first rest → IsItemsAfter first rest es after
    → IsAfter (is_symbol (codes "]")) after end → Begins SpellsList tokens (expr.Items es) end
list_found tokens rest after end first es begins items behind =
    let inside = items begins.0 begins.2 in
    let all : tokens ≡ inside.0 ++ after = begins.1 ∙ inside.1 in
    (inside.0 ++ behind.0 ∷ [], front_closed tokens inside.0 after end behind.0 all behind.1, SpellsList.items inside.0 behind.0 es inside.2 behind.2)

-- ---- the elements after the first one

-- the elements up to here, and no comma
abbrev pub IsSequenceBehind : Expr → List Token → List Expr → List Token → Type 0
IsSequenceBehind first tokens es rest = (front : List Token) → Spells level.Conditional front first → Begins SpellsSequence (front ++ tokens) es rest

pub sequence_start : (tokens : List Token) (first : Expr) → IsSequenceBehind first tokens (first ∷ []) tokens
sequence_start tokens first front spelled = (front, refl, SpellsSequence.one front first spelled)

pub begins_more : (all rest tail after : List Token) (es : List Expr) (e : Expr) → Begins SpellsSequence all es rest → IsAfter (is_symbol (codes ",")) rest tail
    → Begins (Spells level.Conditional) tail e after → Begins SpellsSequence all (es ++ e ∷ []) after
begins_more all rest tail after es e begins comma begins' = (
  begins.0 ++ comma.0 ∷ begins'.0,
  begins.1 ∙ ap (λ (us : List Token). begins.0 ++ us) (comma.1 ∙ ap (λ (us : List Token). comma.0 ∷ us) begins'.1) ∙ sym (append_assoc begins.0 (comma.0 ∷ begins'.0) after),
  SpellsSequence.more begins.0 begins'.0 comma.0 es e begins.2 comma.2 begins'.2,
)

pub sequence_more : (tokens rest tail after : List Token) (first : Expr) (es : List Expr) (e : Expr) → IsSequenceBehind first tokens es rest → IsAfter (is_symbol (codes ",")) rest tail
    → Begins (Spells level.Conditional) tail e after → IsSequenceBehind first tokens (es ++ e ∷ []) after
sequence_more tokens rest tail after first es e sequence comma begins front spelled = begins_more (front ++ tokens) rest tail after es e (sequence front spelled) comma begins

pub items_found : (tokens rest : List Token) (first : Expr) (es : List Expr) → IsSequenceBehind first tokens es rest → IsItemsAfter first tokens es rest
items_found tokens rest first es sequence front spelled =
    let begins = sequence front spelled in
    (begins.0, begins.1, SpellsItems.some_items begins.0 es begins.2)

pub items_comma_found : (tokens rest tail : List Token) (first : Expr) (es : List Expr) → IsSequenceBehind first tokens es rest → IsAfter (is_symbol (codes ",")) rest tail → IsItemsAfter first tokens es tail
items_comma_found tokens rest tail first es sequence comma front spelled =
    let begins = sequence front spelled in
    (begins.0 ++ comma.0 ∷ [], front_closed (front ++ tokens) begins.0 rest tail comma.0 begins.1 comma.1, SpellsItems.items_comma begins.0 comma.0 es begins.2 comma.2)

-- each end of the list continues from these elements
abbrev pub GoesOnItems : Expr → List Token → List Expr → List Token → Type 0
GoesOnItems first tokens es rest =
    (others : List Expr) (closing : Token) (left : List Token) → IsTrue (is_symbol (codes "]") closing) → Begins (SpellsMore (Spells level.Conditional) true) tokens others (closing ∷ left)
    → (us : List Token) × (more : List Expr) × (rest ≡ us ++ closing ∷ left) × (first ∷ others ≡ es ++ more) × SpellsMore (Spells level.Conditional) true us more

pub goes_items : (tokens : List Token) (first : Expr) → GoesOnItems first tokens (first ∷ []) tokens
goes_items tokens first others closing left mark begins = (begins.0, others, begins.1, refl, begins.2)

-- the next element, if no closing bracket is there
next_item : (tokens rest tail : List Token) (first : Expr) (es : List Expr) → GoesOnItems first tokens es rest → IsAfter (is_symbol (codes ",")) rest tail → begins_with (is_symbol (codes "]")) tail ≡ false
    → (others : List Expr) (closing : Token) (left : List Token) → IsTrue (is_symbol (codes "]") closing) → Begins (SpellsMore (Spells level.Conditional) true) tokens others (closing ∷ left)
    → (us vs : List Token) × (e : Expr) × (more : List Expr) × (first ∷ others ≡ es ++ e ∷ more) × (tail ≡ us ++ (vs ++ closing ∷ left)) × Spells level.Conditional us e
    × SpellsMore (Spells level.Conditional) true vs more
next_item tokens rest tail first es goes comma apart others closing left mark begins =
    let on = goes others closing left mark begins in
    elim (more_on (Spells level.Conditional) true on.0 left rest tail on.1 closing on.4 on.2 comma (bracket_no_comma closing mark)) [
      | inl last ↦ absurd (not_begun (is_symbol (codes "]")) tail left closing apart last.2 mark)
      | inr next ↦ (next.0, next.1, next.2, next.3, on.3 ∙ ap (λ (zs : List Expr). es ++ zs) next.4, next.5, next.6, next.7)
    ]

pub goes_item : (tokens rest tail after : List Token) (first : Expr) (es : List Expr) (e : Expr) → GoesOnItems first tokens es rest → IsAfter (is_symbol (codes ",")) rest tail
    → begins_with (is_symbol (codes "]")) tail ≡ false → IsOnly level.Conditional tail (Some (e, after)) → GoesOnItems first tokens (es ++ e ∷ []) after
goes_item tokens rest tail after first es e goes comma apart only others closing left mark begins =
    let next = next_item tokens rest tail first es goes comma apart others closing left mark begins in
    let was = only next.2 (next.1 ++ closing ∷ left) (next.0, next.5, next.6) (more_ends true next.1 left next.3 closing next.7 (ends_bracket closing mark)) in (
      next.1,
      next.3,
      sym was.1,
      next.4 ∙ ap (λ (one : Expr). es ++ one ∷ next.3) was.0 ∙ sym (append_assoc es (e ∷ []) next.3),
      next.7,
    )

pub no_item : (tokens rest tail : List Token) (first : Expr) (es : List Expr) → GoesOnItems first tokens es rest → IsAfter (is_symbol (codes ",")) rest tail
    → begins_with (is_symbol (codes "]")) tail ≡ false → IsOnly level.Conditional tail None → IsOnlyItems first tokens None
no_item tokens rest tail first es goes comma apart only others closing left mark begins =
    let next = next_item tokens rest tail first es goes comma apart others closing left mark begins in
    only next.2 (next.1 ++ closing ∷ left) (next.0, next.5, next.6) (more_ends true next.1 left next.3 closing next.7 (ends_bracket closing mark))

-- a closing bracket begins no expression
begun_not : (tokens left : List Token) (e : Expr) → begins_with (is_symbol (codes "]")) tokens ≡ true → Begins (Spells level.Conditional) tokens e left → ⊥
begun_not [] left e begun begins = false≢true begun
begun_not (t ∷ tokens) left e begun begins = no_bracket (t ∷ tokens) left tokens e (t, refl, begun) begins

pub only_items_comma : (tokens rest tail : List Token) (first : Expr) (es : List Expr) → GoesOnItems first tokens es rest → IsAfter (is_symbol (codes ",")) rest tail
    → begins_with (is_symbol (codes "]")) tail ≡ true → IsOnlyItems first tokens (Some (es, tail))
only_items_comma tokens rest tail first es goes comma begun others closing left mark begins =
    let on = goes others closing left mark begins in
    elim (more_on (Spells level.Conditional) true on.0 left rest tail on.1 closing on.4 on.2 comma (bracket_no_comma closing mark)) [
      | inl last ↦ (on.3 ∙ ap (λ (zs : List Expr). es ++ zs) last.1 ∙ append-nil es, sym last.2)
      | inr next ↦ absurd (begun_not tail (next.1 ++ closing ∷ left) next.2 begun (next.0, next.5, next.6))
    ]

pub only_items : (tokens rest : List Token) (first : Expr) (es : List Expr) → GoesOnItems first tokens es rest → IsNotFirst (is_symbol (codes ",")) rest → IsOnlyItems first tokens (Some (es, rest))
only_items tokens rest first es goes apart others closing left mark begins =
    let on = goes others closing left mark begins in
    let last = more_done (Spells level.Conditional) true on.0 left rest on.1 closing on.4 on.2 apart in
    (on.3 ∙ ap (λ (zs : List Expr). es ++ zs) last.0 ∙ append-nil es, sym last.1)
