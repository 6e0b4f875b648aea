-- What is read of one suffix: an attribute, a call, an index or a slice.
use Rattle.std.proofs.Common.{◌≡◌, ◌⊎◌, ◌∷◌, ◌++◌, ℕ, false, IsTrue, List, [], codes, append_assoc, refl, sym, ap, subst, inl, inr, ◌∙◌}
use Rattle.std.specs.Prelude.{Option, Some, None}
use Rattle.std.specs.Str.{bytes_eq}
use Rattle.std.proofs.lemmas.Bool.{false≢true}
use Rattle.pm_syn.specs.declared.expression.Arg.{Arg}
use Rattle.pm_syn.specs.declared.expression.Expr.{Expr}
use Rattle.pm_syn.specs.declared.expression.Expr.TheViews as expr
use Rattle.pm_syn.specs.declared.token.Token.{Token}
use Rattle.pm_grammar.specs.Brackets.{SpellsAttribute, SpellsSubscript}
use Rattle.pm_grammar.specs.Expressions.{Spells, SpellsArguments}
use Rattle.pm_grammar.specs.Prefixes.{IsAfter, IsNotFirst}
use Rattle.pm_grammar.specs.Tokens.{is_symbol, is_name}
use Rattle.pm_grammar.specs.Reading.{Begins, IsOnly, IsOnlyBefore, IsOnlyBeginning, IsRead}
use Rattle.pm_grammar.specs.Suffixes.{SpellsSuffix}
use Rattle.pm_grammar.specs.declared.level.Level.TheVariants as level
use Rattle.pm_grammar.proofs.OneSymbol.{ends_bracket, ends_colon}
use Rattle.pm_grammar.proofs.TokenTexts.{of_mark}
use Rattle.pm_grammar.proofs.Parts.{Closed, Opened, behind_first, closed_begins, front_closed, none_closed, not_there, only_closed, only_expression, opened_begins, unclosed}

-- a token isn't two symbols
one_mark : (bytes other : List ℕ) (t : Token) → bytes_eq bytes other ≡ false → IsTrue (is_symbol bytes t) → IsTrue (is_symbol other t) → ⊥
one_mark bytes other t apart is is' =
    let no : is_symbol other t ≡ false = of_mark bytes t (is_symbol other) false is apart in
    false≢true (sym no ∙ is')

-- ---- an attribute

pub attribute_found : (tokens rest : List Token) (e : Expr) (name : Token) (text : List ℕ) → tokens ≡ name ∷ rest → IsTrue (is_name name) → text ≡ name.text
    → Begins (SpellsAttribute e) tokens (expr.Attr e text) rest
attribute_found tokens rest e name text is named same =
    subst (λ (one : List ℕ). Begins (SpellsAttribute e) tokens (expr.Attr e one) rest) (sym same) (name ∷ [], is, SpellsAttribute.attribute name named)

attribute_is : (e f : Expr) (ts : List Token) → SpellsAttribute e ts f → (name : Token) × (ts ≡ name ∷ []) × (f ≡ expr.Attr e name.text) × IsTrue (is_name name)
attribute_is e _ _ (SpellsAttribute.attribute name is) = (name, refl, refl, is)

attribute_reads : (tokens left : List Token) (e f : Expr) → Begins (SpellsAttribute e) tokens f left → (name : Token) × (tokens ≡ name ∷ left) × (f ≡ expr.Attr e name.text) × IsTrue (is_name name)
attribute_reads tokens left e f begins =
    let one = attribute_is e f begins.0 begins.2 in
    (one.0, begins.1 ∙ ap (λ (us : List Token). us ++ left) one.1, one.2, one.3)

pub only_attribute : (tokens rest : List Token) (e : Expr) (name : Token) (text : List ℕ) → tokens ≡ name ∷ rest → text ≡ name.text → IsOnlyBeginning (SpellsAttribute e) tokens (Some (expr.Attr e text, rest))
only_attribute tokens rest e name text is same f left begins =
    let one = attribute_reads tokens left e f begins in
    let there = one.1 in
    let name_same : one.0 ≡ name = cc in
    let left_same : left ≡ rest = cc in
    (one.2 ∙ ap (λ (t : Token). expr.Attr e t.text) name_same ∙ ap (λ (word : List ℕ). expr.Attr e word) (sym same), left_same)

-- ---- a call

-- arguments, and a closing parenthesis
abbrev IsCall : Expr → List Token → Expr → Type 0
IsCall e ts f = (arguments : List Arg) × (f ≡ expr.Call e arguments) × Closed (is_symbol (codes ")")) SpellsArguments ts arguments

pub no_call : (tokens : List Token) (e : Expr) → IsOnlyBefore SpellsArguments (codes ")") tokens None → IsOnlyBeginning (IsCall e) tokens None
no_call tokens e only f left begins =
    let call = begins.2 in
    none_closed SpellsArguments (is_symbol (codes ")")) tokens only call.0 left (begins.0, begins.1, call.2)

pub open_call : (tokens rest : List Token) (e : Expr) (arguments : List Arg) → IsOnlyBefore SpellsArguments (codes ")") tokens (Some (arguments, rest)) → IsNotFirst (is_symbol (codes ")")) rest
    → IsOnlyBeginning (IsCall e) tokens None
open_call tokens rest e arguments only apart f left begins =
    let call = begins.2 in
    unclosed SpellsArguments (is_symbol (codes ")")) tokens arguments rest only apart call.0 left (begins.0, begins.1, call.2)

pub only_call : (tokens rest after : List Token) (e : Expr) (arguments : List Arg) → IsOnlyBefore SpellsArguments (codes ")") tokens (Some (arguments, rest)) → IsAfter (is_symbol (codes ")")) rest after
    → IsOnlyBeginning (IsCall e) tokens (Some (expr.Call e arguments, after))
only_call tokens rest after e arguments only behind f left begins =
    let call = begins.2 in
    let was = only_closed SpellsArguments (is_symbol (codes ")")) tokens arguments rest after only behind call.0 left (begins.0, begins.1, call.2) in
    (call.1 ∙ ap (λ (one : List Arg). expr.Call e one) was.0, was.1)

-- ---- an index or a slice

-- bounds and a closing bracket
record IsSlice (e : Expr) (ts : List Token) (f : Expr) : Type 0 where
  pub front : List Token
  pub behind : List Token
  pub colon : Token
  pub low : Expr
  pub high : Expr
  pub split : ts ≡ front ++ colon ∷ behind
  pub made : f ≡ expr.Slice e low high
  pub low_spelled : Spells level.Conditional front low
  pub mark : IsTrue (is_symbol (codes ":") colon)
  pub high_spelled : Closed (is_symbol (codes "]")) (Spells level.Conditional) behind high

place_is : (e f : Expr) (ts : List Token) → SpellsSubscript e ts f
    → ((place : Expr) × (f ≡ expr.Index e place) × Closed (is_symbol (codes "]")) (Spells level.Conditional) ts place) ⊎ IsSlice e ts f
place_is e _ _ (SpellsSubscript.index ts closing place s is) = inl (place, refl, (ts, closing, refl, s, is))
place_is e _ _ (SpellsSubscript.slice ts us colon closing low high s is t is') = inr (record {
  front = ts;
  behind = us ++ closing ∷ [];
  colon = colon;
  low = low;
  high = high;
  split = refl;
  made = refl;
  low_spelled = s;
  mark = is;
  high_spelled = (us, closing, refl, t, is');
})

-- the first expression, and what follows it
record SliceReads (e : Expr) (tokens : List Token) (f : Expr) (left : List Token) : Type 0 where
  pub behind : List Token
  pub colon : Token
  pub low : Expr
  pub high : Expr
  pub made : f ≡ expr.Slice e low high
  pub low_begins : Begins (Spells level.Conditional) tokens low (colon ∷ behind)
  pub mark : IsTrue (is_symbol (codes ":") colon)
  pub high_begins : Begins (Closed (is_symbol (codes "]")) (Spells level.Conditional)) behind high left

record IndexReads (e : Expr) (tokens : List Token) (f : Expr) (left : List Token) : Type 0 where
  pub closing : Token
  pub place : Expr
  pub made : f ≡ expr.Index e place
  pub place_begins : Begins (Spells level.Conditional) tokens place (closing ∷ left)
  pub mark : IsTrue (is_symbol (codes "]") closing)

place_reads : (tokens left : List Token) (e f : Expr) → Begins (SpellsSubscript e) tokens f left → IndexReads e tokens f left ⊎ SliceReads e tokens f left
place_reads tokens left e f begins = elim (place_is e f begins.0 begins.2) [
  | inl index ↦
      let closed = closed_begins (Spells level.Conditional) (is_symbol (codes "]")) tokens left index.0 (begins.0, begins.1, index.2) in
      inl (record { closing = closed.0; place = index.0; made = index.1; place_begins = closed.1; mark = closed.2 })
  | inr slice ↦ inr (record {
    behind = slice.behind ++ left;
    colon = slice.colon;
    low = slice.low;
    high = slice.high;
    made = slice.made;
    low_begins = (slice.front, begins.1 ∙ ap (λ (us : List Token). us ++ left) slice.split ∙ append_assoc slice.front (slice.colon ∷ slice.behind) left, slice.low_spelled);
    mark = slice.mark;
    high_begins = (slice.behind, refl, slice.high_spelled);
  })
]

pub no_place : (tokens : List Token) (e : Expr) → IsOnly level.Conditional tokens None → IsOnlyBeginning (SpellsSubscript e) tokens None
no_place tokens e only f left begins = elim (place_reads tokens left e f begins) [
  | inl index ↦ only index.place (index.closing ∷ left) index.place_begins (ends_bracket index.closing index.mark)
  | inr slice ↦ only slice.low (slice.colon ∷ slice.behind) slice.low_begins (ends_colon slice.colon slice.mark)
]

pub index_found : (tokens rest after : List Token) (e place : Expr) → Begins (Spells level.Conditional) tokens place rest → IsAfter (is_symbol (codes "]")) rest after
    → Begins (SpellsSubscript e) tokens (expr.Index e place) after
index_found tokens rest after e place begins behind =
    let split = front_closed tokens begins.0 rest after behind.0 begins.1 behind.1 in
    (begins.0 ++ behind.0 ∷ [], split, SpellsSubscript.index begins.0 behind.0 place begins.2 behind.2)

pub slice_found : (tokens rest tail rest' after : List Token) (e low high : Expr) → Begins (Spells level.Conditional) tokens low rest → IsAfter (is_symbol (codes ":")) rest tail
    → Begins (Spells level.Conditional) tail high rest' → IsAfter (is_symbol (codes "]")) rest' after → Begins (SpellsSubscript e) tokens (expr.Slice e low high) after
slice_found tokens rest tail rest' after e low high begins colon begins' behind =
    let split = front_closed tail begins'.0 rest' after behind.0 begins'.1 behind.1 in (
      begins.0 ++ colon.0 ∷ (begins'.0 ++ behind.0 ∷ []),
      begins.1 ∙ ap (λ (us : List Token). begins.0 ++ us) (colon.1 ∙ ap (λ (us : List Token). colon.0 ∷ us) split)
          ∙ sym (append_assoc begins.0 (colon.0 ∷ (begins'.0 ++ behind.0 ∷ [])) after),
      SpellsSubscript.slice begins.0 begins'.0 colon.0 behind.0 low high begins.2 colon.2 begins'.2 behind.2,
    )

pub only_index : (tokens rest after : List Token) (e low : Expr) → IsOnly level.Conditional tokens (Some (low, rest)) → IsAfter (is_symbol (codes "]")) rest after
    → IsOnlyBeginning (SpellsSubscript e) tokens (Some (expr.Index e low, after))
only_index tokens rest after e low only behind f left begins = elim (place_reads tokens left e f begins) [
  | inl index ↦
      let was = only index.place (index.closing ∷ left) index.place_begins (ends_bracket index.closing index.mark) in
      (index.made ∙ ap (λ (one : Expr). expr.Index e one) was.0, sym (behind_first (is_symbol (codes "]")) rest after left index.closing behind (sym was.1)))
  | inr slice ↦
      let was = only slice.low (slice.colon ∷ slice.behind) slice.low_begins (ends_colon slice.colon slice.mark) in
      let two = was.1 in
      let there = behind.1 in
      let same : behind.0 ≡ slice.colon = cc in
      absurd (one_mark (codes "]") (codes ":") slice.colon refl (subst (λ (t : Token). IsTrue (is_symbol (codes "]") t)) same behind.2) slice.mark)
]

-- neither a closing bracket nor a colon
pub no_place_behind : (tokens rest : List Token) (e low : Expr) → IsOnly level.Conditional tokens (Some (low, rest)) → IsNotFirst (is_symbol (codes "]")) rest → IsNotFirst (is_symbol (codes ":")) rest
    → IsOnlyBeginning (SpellsSubscript e) tokens None
no_place_behind tokens rest e low only no_bracket no_colon f left begins = elim (place_reads tokens left e f begins) [
  | inl index ↦
      let was = only index.place (index.closing ∷ left) index.place_begins (ends_bracket index.closing index.mark) in
      not_there (is_symbol (codes "]")) rest left index.closing no_bracket (sym was.1) index.mark
  | inr slice ↦
      let was = only slice.low (slice.colon ∷ slice.behind) slice.low_begins (ends_colon slice.colon slice.mark) in
      not_there (is_symbol (codes ":")) rest slice.behind slice.colon no_colon (sym was.1) slice.mark
]

-- after the colon, the upper bound and the closing bracket decide
slice_of : (tokens rest tail : List Token) (e low : Expr) (read : Option (Expr × List Token)) → IsOnly level.Conditional tokens (Some (low, rest)) → IsNotFirst (is_symbol (codes "]")) rest
    → IsAfter (is_symbol (codes ":")) rest tail → IsOnlyBeginning (Closed (is_symbol (codes "]")) (Spells level.Conditional)) tail read
    → (f : Expr) (left : List Token) → Begins (SpellsSubscript e) tokens f left → (high : Expr) × (f ≡ expr.Slice e low high) × IsRead read high left
slice_of tokens rest tail e low read only no_bracket colon closed f left begins = elim (place_reads tokens left e f begins) [
  | inl index ↦
      let was = only index.place (index.closing ∷ left) index.place_begins (ends_bracket index.closing index.mark) in
      absurd (not_there (is_symbol (codes "]")) rest left index.closing no_bracket (sym was.1) index.mark)
  | inr slice ↦
      let was = only slice.low (slice.colon ∷ slice.behind) slice.low_begins (ends_colon slice.colon slice.mark) in
      let same = behind_first (is_symbol (codes ":")) rest tail slice.behind slice.colon colon (sym was.1) in
      let inside = closed slice.high left (subst (λ (us : List Token). Begins (Closed (is_symbol (codes "]")) (Spells level.Conditional)) us slice.high left) (sym same) slice.high_begins) in
      (slice.high, slice.made ∙ ap (λ (one : Expr). expr.Slice e one slice.high) was.0, inside)
]

pub no_slice : (tokens rest tail : List Token) (e low : Expr) → IsOnly level.Conditional tokens (Some (low, rest)) → IsNotFirst (is_symbol (codes "]")) rest
    → IsAfter (is_symbol (codes ":")) rest tail → IsOnly level.Conditional tail None → IsOnlyBeginning (SpellsSubscript e) tokens None
no_slice tokens rest tail e low only no_bracket colon only' f left begins =
    let closed = none_closed (Spells level.Conditional) (is_symbol (codes "]")) tail (only_expression (is_symbol (codes "]")) tail None ends_bracket only') in
    (slice_of tokens rest tail e low None only no_bracket colon closed f left begins).2

pub open_slice : (tokens rest tail rest' : List Token) (e low high : Expr) → IsOnly level.Conditional tokens (Some (low, rest)) → IsNotFirst (is_symbol (codes "]")) rest
    → IsAfter (is_symbol (codes ":")) rest tail → IsOnly level.Conditional tail (Some (high, rest')) → IsNotFirst (is_symbol (codes "]")) rest' → IsOnlyBeginning (SpellsSubscript e) tokens None
open_slice tokens rest tail rest' e low high only no_bracket colon only' apart f left begins =
    let closed = unclosed (Spells level.Conditional) (is_symbol (codes "]")) tail high rest' (only_expression (is_symbol (codes "]")) tail (Some (high, rest')) ends_bracket only') apart in
    (slice_of tokens rest tail e low None only no_bracket colon closed f left begins).2

pub only_slice : (tokens rest tail rest' after : List Token) (e low high : Expr) → IsOnly level.Conditional tokens (Some (low, rest)) → IsNotFirst (is_symbol (codes "]")) rest
    → IsAfter (is_symbol (codes ":")) rest tail → IsOnly level.Conditional tail (Some (high, rest')) → IsAfter (is_symbol (codes "]")) rest' after
    → IsOnlyBeginning (SpellsSubscript e) tokens (Some (expr.Slice e low high, after))
only_slice tokens rest tail rest' after e low high only no_bracket colon only' behind f left begins =
    let closed = only_closed (Spells level.Conditional) (is_symbol (codes "]")) tail high rest' after (only_expression (is_symbol (codes "]")) tail (Some (high, rest')) ends_bracket only') behind in
    let was = slice_of tokens rest tail e low (Some (high, after)) only no_bracket colon closed f left begins in
    (was.1 ∙ ap (λ (one : Expr). expr.Slice e low one) was.2.0, was.2.1)

-- ---- a suffix

suffix_is : (e f : Expr) (ts : List Token) → SpellsSuffix e ts f
    → Opened (is_symbol (codes ".")) (SpellsAttribute e) ts f ⊎ Opened (is_symbol (codes "(")) (IsCall e) ts f ⊎ Opened (is_symbol (codes "[")) (SpellsSubscript e) ts f
suffix_is e _ _ (SpellsSuffix.attribute dot name is is') = inl (dot, name ∷ [], refl, SpellsAttribute.attribute name is', is)
suffix_is e _ _ (SpellsSuffix.call us opening closing arguments is t is') =
    inr (inl (opening, us ++ closing ∷ [], refl, (arguments, refl, (us, closing, refl, t, is')), is))
suffix_is e _ _ (SpellsSuffix.index us opening closing place is t is') = inr (inr (opening, us ++ closing ∷ [], refl, SpellsSubscript.index us closing place t is', is))
suffix_is e _ _ (SpellsSuffix.slice us vs opening colon closing low high is t is' u is'') =
    inr (inr (opening, us ++ colon ∷ (vs ++ closing ∷ []), refl, SpellsSubscript.slice us vs colon closing low high t is' u is'', is))

-- which suffixes begin with this token
suffix_begins : (all tokens left : List Token) (first : Token) (e f : Expr) → all ≡ first ∷ tokens → Begins (SpellsSuffix e) all f left
    → (IsTrue (is_symbol (codes ".") first) × Begins (SpellsAttribute e) tokens f left) ⊎ (IsTrue (is_symbol (codes "(") first) × Begins (IsCall e) tokens f left)
    ⊎ (IsTrue (is_symbol (codes "[") first) × Begins (SpellsSubscript e) tokens f left)
suffix_begins all tokens left first e f is begins = elim (suffix_is e f begins.0 begins.2) [
  | inl one ↦ inl (opened_begins (SpellsAttribute e) (is_symbol (codes ".")) all tokens first left f is (begins.0, begins.1, one))
  | inr (inl one) ↦ inr (inl (opened_begins (IsCall e) (is_symbol (codes "(")) all tokens first left f is (begins.0, begins.1, one)))
  | inr (inr one) ↦ inr (inr (opened_begins (SpellsSubscript e) (is_symbol (codes "[")) all tokens first left f is (begins.0, begins.1, one)))
]

spells_attribute : (e f : Expr) (dot : Token) (ts : List Token) → IsTrue (is_symbol (codes ".") dot) → SpellsAttribute e ts f → SpellsSuffix e (dot ∷ ts) f
spells_attribute e _ dot _ is (SpellsAttribute.attribute name is') = SpellsSuffix.attribute dot name is is'

spells_place : (e f : Expr) (opening : Token) (ts : List Token) → IsTrue (is_symbol (codes "[") opening) → SpellsSubscript e ts f → SpellsSuffix e (opening ∷ ts) f
spells_place e _ opening _ is (SpellsSubscript.index ts closing place s is') = SpellsSuffix.index ts opening closing place is s is'
spells_place e _ opening _ is (SpellsSubscript.slice ts us colon closing low high s is' t is'') = SpellsSuffix.slice ts us opening colon closing low high is s is' t is''

pub begins_attribute : (all tokens rest : List Token) (e f : Expr) → IsAfter (is_symbol (codes ".")) all tokens → Begins (SpellsAttribute e) tokens f rest → Begins (SpellsSuffix e) all f rest
begins_attribute all tokens rest e f behind begins =
    (behind.0 ∷ begins.0, behind.1 ∙ ap (λ (us : List Token). behind.0 ∷ us) begins.1, spells_attribute e f behind.0 begins.0 behind.2 begins.2)

pub begins_place : (all tokens rest : List Token) (e f : Expr) → IsAfter (is_symbol (codes "[")) all tokens → Begins (SpellsSubscript e) tokens f rest → Begins (SpellsSuffix e) all f rest
begins_place all tokens rest e f behind begins =
    (behind.0 ∷ begins.0, behind.1 ∙ ap (λ (us : List Token). behind.0 ∷ us) begins.1, spells_place e f behind.0 begins.0 behind.2 begins.2)

pub begins_call : (all tokens rest after : List Token) (e : Expr) (arguments : List Arg) → IsAfter (is_symbol (codes "(")) all tokens → Begins SpellsArguments tokens arguments rest
    → IsAfter (is_symbol (codes ")")) rest after → Begins (SpellsSuffix e) all (expr.Call e arguments) after
begins_call all tokens rest after e arguments behind begins closing =
    let split = front_closed tokens begins.0 rest after closing.0 begins.1 closing.1 in (
      behind.0 ∷ (begins.0 ++ closing.0 ∷ []),
      behind.1 ∙ ap (λ (us : List Token). behind.0 ∷ us) split,
      SpellsSuffix.call begins.0 behind.0 closing.0 arguments behind.2 begins.2 closing.2,
    )

pub only_suffix_attribute : (all tokens : List Token) (e : Expr) (read : Option (Expr × List Token)) → IsAfter (is_symbol (codes ".")) all tokens → IsOnlyBeginning (SpellsAttribute e) tokens read
    → IsOnlyBeginning (SpellsSuffix e) all read
only_suffix_attribute all tokens e read behind only f left begins = elim (suffix_begins all tokens left behind.0 e f behind.1 begins) [
  | inl one ↦ only f left one.1
  | inr (inl one) ↦ absurd (one_mark (codes ".") (codes "(") behind.0 refl behind.2 one.0)
  | inr (inr one) ↦ absurd (one_mark (codes ".") (codes "[") behind.0 refl behind.2 one.0)
]

pub only_suffix_call : (all tokens : List Token) (e : Expr) (read : Option (Expr × List Token)) → IsAfter (is_symbol (codes "(")) all tokens → IsOnlyBeginning (IsCall e) tokens read
    → IsOnlyBeginning (SpellsSuffix e) all read
only_suffix_call all tokens e read behind only f left begins = elim (suffix_begins all tokens left behind.0 e f behind.1 begins) [
  | inl one ↦ absurd (one_mark (codes "(") (codes ".") behind.0 refl behind.2 one.0)
  | inr (inl one) ↦ only f left one.1
  | inr (inr one) ↦ absurd (one_mark (codes "(") (codes "[") behind.0 refl behind.2 one.0)
]

pub only_suffix_place : (all tokens : List Token) (e : Expr) (read : Option (Expr × List Token)) → IsAfter (is_symbol (codes "[")) all tokens → IsOnlyBeginning (SpellsSubscript e) tokens read
    → IsOnlyBeginning (SpellsSuffix e) all read
only_suffix_place all tokens e read behind only f left begins = elim (suffix_begins all tokens left behind.0 e f behind.1 begins) [
  | inl one ↦ absurd (one_mark (codes "[") (codes ".") behind.0 refl behind.2 one.0)
  | inr (inl one) ↦ absurd (one_mark (codes "[") (codes "(") behind.0 refl behind.2 one.0)
  | inr (inr one) ↦ only f left one.1
]
