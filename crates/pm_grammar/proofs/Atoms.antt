-- That an atom is one token, or a list or a group in brackets; and what is read of each.
use Rattle.std.proofs.Common.{◌≡◌, ◌⊎◌, ◌∷◌, ◌++◌, ℕ, true, false, IsTrue, List, [], codes, refl, sym, ap, subst, inl, inr, ◌∙◌}
use Rattle.std.specs.Prelude.{Option, Some, None}
use Rattle.std.proofs.lemmas.Bool.{false≢true}
use Rattle.pm_syn.specs.declared.expression.Expr.{Expr}
use Rattle.pm_syn.specs.declared.expression.Expr as leaf
use Rattle.pm_syn.specs.declared.expression.Expr.TheViews as expr
use Rattle.pm_syn.specs.declared.token.Token.{Token}
use Rattle.pm_syn.specs.declared.token.TokenKind.TheVariants as kind
use Rattle.pm_grammar.specs.Brackets.{SpellsEach, SpellsGroup, SpellsLeaf, SpellsList}
use Rattle.pm_grammar.specs.Expressions.{Spells, SpellsRange}
use Rattle.pm_grammar.specs.Prefixes.{IsAfter, IsNotFirst}
use Rattle.pm_grammar.specs.Tokens.{is_symbol, is_name, is_word}
use Rattle.pm_grammar.specs.Reading.{Begins, IsOnly, IsOnlyBeginning}
use Rattle.pm_grammar.specs.declared.level.Level.TheVariants as level
use Rattle.pm_grammar.proofs.OneSymbol.{ends_parenthesis, false_is_keyword, name_is, no_name_of_word, true_is_keyword}
use Rattle.pm_grammar.proofs.TokenTexts.{of_mark, of_word}
use Rattle.pm_grammar.proofs.Parts.{Closed, Opened, begins_closed, none_closed, not_there, only_closed, only_expression, opened_begins, unclosed}

-- ---- one token

pub leaf_name : (token : Token) (text : List ℕ) → text ≡ token.text → IsTrue (is_name token) → SpellsLeaf token (leaf.Name text)
leaf_name token text same is = subst (λ (one : List ℕ). SpellsLeaf token (leaf.Name one)) (sym same) (SpellsLeaf.named is)

-- a name is no other token
pub only_name : (token : Token) (text : List ℕ) → text ≡ token.text → IsTrue (is_name token) → (e : Expr) → SpellsLeaf token e → e ≡ leaf.Name text
only_name token text same is _ (SpellsLeaf.named is') = ap (λ (one : List ℕ). leaf.Name one) (sym same)
only_name token text same is _ (SpellsLeaf.number value is') = let named = name_is token is in cc
only_name token text same is _ (SpellsLeaf.true_word is') = let no = no_name_of_word (codes "True") token true_is_keyword is' in absurd (false≢true (sym no ∙ is))
only_name token text same is _ (SpellsLeaf.false_word is') = let no = no_name_of_word (codes "False") token false_is_keyword is' in absurd (false≢true (sym no ∙ is))

pub only_true : (token : Token) → IsTrue (is_word (codes "True") token) → (e : Expr) → SpellsLeaf token e → e ≡ leaf.Bool true
only_true token is _ (SpellsLeaf.named is') = let no = no_name_of_word (codes "True") token true_is_keyword is in absurd (false≢true (sym no ∙ is'))
only_true token is _ (SpellsLeaf.number value is') = let named = of_word (codes "True") token (λ (t : Token). t.kind) kind.Name is refl in cc
only_true token is _ (SpellsLeaf.true_word is') = refl
only_true token is _ (SpellsLeaf.false_word is') = let no : is_word (codes "True") token ≡ false = of_word (codes "False") token (is_word (codes "True")) false is' refl in absurd (false≢true (sym no ∙ is))

pub only_false : (token : Token) → IsTrue (is_word (codes "False") token) → (e : Expr) → SpellsLeaf token e → e ≡ leaf.Bool false
only_false token is _ (SpellsLeaf.named is') = let no = no_name_of_word (codes "False") token false_is_keyword is in absurd (false≢true (sym no ∙ is'))
only_false token is _ (SpellsLeaf.number value is') = let named = of_word (codes "False") token (λ (t : Token). t.kind) kind.Name is refl in cc
only_false token is _ (SpellsLeaf.true_word is') = let no : is_word (codes "False") token ≡ false = of_word (codes "True") token (is_word (codes "False")) false is' refl in absurd (false≢true (sym no ∙ is))
only_false token is _ (SpellsLeaf.false_word is') = refl

-- a name or a word is of a name's kind
leaf_kind : (token : Token) (e : Expr) → SpellsLeaf token e → (token.kind ≡ kind.Name) ⊎ ((value : ℕ) × (token.kind ≡ kind.Int value))
leaf_kind token _ (SpellsLeaf.named is) = inl (name_is token is)
leaf_kind token _ (SpellsLeaf.number value is) = inr (value, is)
leaf_kind token _ (SpellsLeaf.true_word is) = inl (of_word (codes "True") token (λ (t : Token). t.kind) kind.Name is refl)
leaf_kind token _ (SpellsLeaf.false_word is) = inl (of_word (codes "False") token (λ (t : Token). t.kind) kind.Name is refl)

pub only_int : (token : Token) (value : ℕ) → token.kind ≡ kind.Int value → (e : Expr) → SpellsLeaf token e → e ≡ leaf.Int value
only_int token value at _ (SpellsLeaf.named is) = let named = name_is token is in cc
only_int token value at _ (SpellsLeaf.number other is) =
    let same : other ≡ value = cc in
    ap (λ (one : ℕ). leaf.Int one) same
only_int token value at _ (SpellsLeaf.true_word is) = let named = of_word (codes "True") token (λ (t : Token). t.kind) kind.Name is refl in cc
only_int token value at _ (SpellsLeaf.false_word is) = let named = of_word (codes "False") token (λ (t : Token). t.kind) kind.Name is refl in cc

-- a symbol is no leaf
no_leaf_mark : (bytes : List ℕ) (token : Token) (e : Expr) → IsTrue (is_symbol bytes token) → SpellsLeaf token e → ⊥
no_leaf_mark bytes token e is spelled =
    let op : token.kind ≡ kind.Op = of_mark bytes token (λ (t : Token). t.kind) kind.Op is refl in
    elim (leaf_kind token e spelled) [ inl named ↦ cc | inr int ↦ let e = int.1 in cc ]

-- ---- a group

group_spells : (ts : List Token) (e : Expr) → Closed (is_symbol (codes ")")) (Spells level.Conditional) ts e → SpellsGroup ts e
group_spells ts e closed = subst (λ (us : List Token). SpellsGroup us e) (sym closed.2) (SpellsGroup.group closed.0 closed.1 e closed.3 closed.4)

spells_closed : (ts : List Token) (e : Expr) → SpellsGroup ts e → Closed (is_symbol (codes ")")) (Spells level.Conditional) ts e
spells_closed _ _ (SpellsGroup.group ts closing e s is) = (ts, closing, refl, s, is)

pub group_found : (tokens rest after : List Token) (e : Expr) → Begins (Spells level.Conditional) tokens e rest → IsAfter (is_symbol (codes ")")) rest after → Begins SpellsGroup tokens e after
group_found tokens rest after e begins behind =
    let closed = begins_closed (Spells level.Conditional) (is_symbol (codes ")")) tokens rest after e begins behind in
    (closed.0, closed.1, group_spells closed.0 e closed.2)

group_closed : (tokens : List Token) (read : Option (Expr × List Token)) → IsOnlyBeginning (Closed (is_symbol (codes ")")) (Spells level.Conditional)) tokens read → IsOnlyBeginning SpellsGroup tokens read
group_closed tokens read only e rest begins = only e rest (begins.0, begins.1, spells_closed begins.0 e begins.2)

pub no_group : (tokens : List Token) → IsOnly level.Conditional tokens None → IsOnlyBeginning SpellsGroup tokens None
no_group tokens only =
    group_closed tokens None (none_closed (Spells level.Conditional) (is_symbol (codes ")")) tokens (only_expression (is_symbol (codes ")")) tokens None ends_parenthesis only))

pub open_group : (tokens rest : List Token) (e : Expr) → IsOnly level.Conditional tokens (Some (e, rest)) → IsNotFirst (is_symbol (codes ")")) rest → IsOnlyBeginning SpellsGroup tokens None
open_group tokens rest e only apart =
    group_closed tokens None (unclosed (Spells level.Conditional) (is_symbol (codes ")")) tokens e rest (only_expression (is_symbol (codes ")")) tokens (Some (e, rest)) ends_parenthesis only) apart)

pub only_group : (tokens rest after : List Token) (e : Expr) → IsOnly level.Conditional tokens (Some (e, rest)) → IsAfter (is_symbol (codes ")")) rest after
    → IsOnlyBeginning SpellsGroup tokens (Some (e, after))
only_group tokens rest after e only behind =
    group_closed tokens (Some (e, after)) (only_closed (Spells level.Conditional) (is_symbol (codes ")")) tokens e rest after (only_expression (is_symbol (codes ")")) tokens (Some (e, rest)) ends_parenthesis only) behind)

-- ---- an atom

atom_is : (ts : List Token) (e : Expr) → Spells level.Atom ts e
    → ((t : Token) × (ts ≡ t ∷ []) × SpellsLeaf t e) ⊎ Opened (is_symbol (codes "(")) SpellsGroup ts e ⊎ Opened (is_symbol (codes "[")) SpellsList ts e
atom_is ts e (Spells.as_tight _ _ _ s) = atom_is ts e s
atom_is _ _ (Spells.grouped_left _ ts us sign op left right groups s is t) = absurd (false≢true groups)
atom_is _ _ (Spells.named name is) = inl (name, refl, SpellsLeaf.named is)
atom_is _ _ (Spells.number literal value is) = inl (literal, refl, SpellsLeaf.number value is)
atom_is _ _ (Spells.true_word word is) = inl (word, refl, SpellsLeaf.true_word is)
atom_is _ _ (Spells.false_word word is) = inl (word, refl, SpellsLeaf.false_word is)
atom_is _ _ (Spells.group ts opening closing e is s is') = inr (inl (opening, ts ++ closing ∷ [], refl, SpellsGroup.group ts closing e s is', is))
atom_is _ _ (Spells.items ts opening closing es is s is') = inr (inr (opening, ts ++ closing ∷ [], refl, SpellsList.items ts closing es s is', is))
atom_is _ _ (Spells.each ts us opening for_word closing e name bounds is s is' t is'') =
    inr (inr (
      opening,
      ts ++ for_word ∷ (us ++ closing ∷ []),
      refl,
      SpellsList.each ts (us ++ closing ∷ []) for_word e (expr.Each e name bounds) s is' (SpellsEach.each us closing name bounds t is''),
      is,
    ))

atom_group : (opening : Token) (ts : List Token) (e : Expr) → IsTrue (is_symbol (codes "(") opening) → SpellsGroup ts e → Spells level.Atom (opening ∷ ts) e
atom_group opening _ _ is (SpellsGroup.group ts closing e s is') = Spells.group ts opening closing e is s is'

each_is : (e list : Expr) (us : List Token) → SpellsEach e us list
    → (ts : List Token) × (closing : Token) × (name : List ℕ) × (bounds : List Expr) × (us ≡ ts ++ closing ∷ []) × (list ≡ expr.Each e name bounds) × SpellsRange ts (name, bounds) × IsTrue (is_symbol (codes "]") closing)
each_is e _ _ (SpellsEach.each ts closing name bounds s is) = (ts, closing, name, bounds, refl, refl, s, is)

atom_list : (opening : Token) (ts : List Token) (e : Expr) → IsTrue (is_symbol (codes "[") opening) → SpellsList ts e → Spells level.Atom (opening ∷ ts) e
atom_list opening _ _ is (SpellsList.items ts closing es s is') = Spells.items ts opening closing es is s is'
atom_list opening _ list is (SpellsList.each ts us for_word e _ s is' t) =
    let inside = each_is e list us t in
    let made = Spells.each ts inside.0 opening for_word inside.1 e inside.2 inside.3 is s is' inside.6 inside.7 in
    subst (λ (vs : List Token). Spells level.Atom (opening ∷ (ts ++ for_word ∷ vs)) list) (sym inside.4)
    (subst (λ (z : Expr). Spells level.Atom (opening ∷ (ts ++ for_word ∷ (inside.0 ++ inside.1 ∷ []))) z) (sym inside.5) made)

atom_leaf : (t : Token) (e : Expr) → SpellsLeaf t e → Spells level.Atom (t ∷ []) e
atom_leaf t _ (SpellsLeaf.named is) = Spells.named t is
atom_leaf t _ (SpellsLeaf.number value is) = Spells.number t value is
atom_leaf t _ (SpellsLeaf.true_word is) = Spells.true_word t is
atom_leaf t _ (SpellsLeaf.false_word is) = Spells.false_word t is

pub begins_group : (all tokens rest : List Token) (e : Expr) → IsAfter (is_symbol (codes "(")) all tokens → Begins SpellsGroup tokens e rest → Begins (Spells level.Atom) all e rest
begins_group all tokens rest e behind begins =
    (behind.0 ∷ begins.0, behind.1 ∙ ap (λ (us : List Token). behind.0 ∷ us) begins.1, atom_group behind.0 begins.0 e behind.2 begins.2)

pub begins_list : (all tokens rest : List Token) (e : Expr) → IsAfter (is_symbol (codes "[")) all tokens → Begins SpellsList tokens e rest → Begins (Spells level.Atom) all e rest
begins_list all tokens rest e behind begins =
    (behind.0 ∷ begins.0, behind.1 ∙ ap (λ (us : List Token). behind.0 ∷ us) begins.1, atom_list behind.0 begins.0 e behind.2 begins.2)

pub begins_leaf : (all rest : List Token) (t : Token) (e : Expr) → all ≡ t ∷ rest → SpellsLeaf t e → Begins (Spells level.Atom) all e rest
begins_leaf all rest t e is s = (t ∷ [], is, atom_leaf t e s)

-- which atoms begin with this token
atom_begins : (all tokens left : List Token) (first : Token) (e : Expr) → all ≡ first ∷ tokens → Begins (Spells level.Atom) all e left
    → (SpellsLeaf first e × (tokens ≡ left)) ⊎ (IsTrue (is_symbol (codes "(") first) × Begins SpellsGroup tokens e left) ⊎ (IsTrue (is_symbol (codes "[") first) × Begins SpellsList tokens e left)
atom_begins all tokens left first e is begins = elim (atom_is begins.0 e begins.2) [
  | inl one ↦
      let split : all ≡ one.0 ∷ left = begins.1 ∙ ap (λ (us : List Token). us ++ left) one.1 in
      let same : one.0 ≡ first = cc in
      let tail : tokens ≡ left = cc in
      inl (subst (λ (t : Token). SpellsLeaf t e) same one.2, tail)
  | inr (inl group) ↦ inr (inl (opened_begins SpellsGroup (is_symbol (codes "(")) all tokens first left e is (begins.0, begins.1, group)))
  | inr (inr list) ↦ inr (inr (opened_begins SpellsList (is_symbol (codes "[")) all tokens first left e is (begins.0, begins.1, list)))
]

apart_marks : (t : Token) → IsTrue (is_symbol (codes "(") t) → IsTrue (is_symbol (codes "[") t) → ⊥
apart_marks t is is' =
    let no : is_symbol (codes "[") t ≡ false = of_mark (codes "(") t (is_symbol (codes "[")) false is refl in
    false≢true (sym no ∙ is')

pub atom_of_group : (all tokens : List Token) (read : Option (Expr × List Token)) → IsAfter (is_symbol (codes "(")) all tokens → IsOnlyBeginning SpellsGroup tokens read → IsOnly level.Atom all read
atom_of_group all tokens read behind only e left begins ends = elim (atom_begins all tokens left behind.0 e behind.1 begins) [
  | inl one ↦ absurd (no_leaf_mark (codes "(") behind.0 e behind.2 one.0)
  | inr (inl group) ↦ only e left group.1
  | inr (inr list) ↦ absurd (apart_marks behind.0 behind.2 list.0)
]

pub atom_of_list : (all tokens : List Token) (read : Option (Expr × List Token)) → IsAfter (is_symbol (codes "[")) all tokens → IsOnlyBeginning SpellsList tokens read → IsOnly level.Atom all read
atom_of_list all tokens read behind only e left begins ends = elim (atom_begins all tokens left behind.0 e behind.1 begins) [
  | inl one ↦ absurd (no_leaf_mark (codes "[") behind.0 e behind.2 one.0)
  | inr (inl group) ↦ absurd (apart_marks behind.0 group.0 behind.2)
  | inr (inr list) ↦ only e left list.1
]

atom_of_leaf : (all rest : List Token) (first : Token) → all ≡ first ∷ rest → IsNotFirst (is_symbol (codes "(")) all → IsNotFirst (is_symbol (codes "[")) all
    → (e : Expr) (left : List Token) → Begins (Spells level.Atom) all e left → SpellsLeaf first e × (rest ≡ left)
atom_of_leaf all rest first is no_group no_list e left begins = elim (atom_begins all rest left first e is begins) [
  | inl one ↦ one
  | inr (inl group) ↦ absurd (not_there (is_symbol (codes "(")) all rest first no_group is group.0)
  | inr (inr list) ↦ absurd (not_there (is_symbol (codes "[")) all rest first no_list is list.0)
]

pub only_leaf : (all rest : List Token) (first : Token) (a : Expr) → all ≡ first ∷ rest → IsNotFirst (is_symbol (codes "(")) all → IsNotFirst (is_symbol (codes "[")) all
    → ((e : Expr) → SpellsLeaf first e → e ≡ a) → IsOnly level.Atom all (Some (a, rest))
only_leaf all rest first a is no_group no_list only e left begins ends =
    let found = atom_of_leaf all rest first is no_group no_list e left begins in
    (only e found.0, sym found.1)

pub no_atom_there : (all rest : List Token) (first : Token) → all ≡ first ∷ rest → IsNotFirst (is_symbol (codes "(")) all → IsNotFirst (is_symbol (codes "[")) all
    → ((e : Expr) → SpellsLeaf first e → ⊥) → IsOnly level.Atom all None
no_atom_there all rest first is no_group no_list never e left begins ends = never e (atom_of_leaf all rest first is no_group no_list e left begins).0

-- no atom of no tokens
pub no_tokens : (all : List Token) → all ≡ [] → IsOnly level.Atom all None
no_tokens all is e left begins ends = elim (atom_is begins.0 e begins.2) [
  | inl one ↦ let split = begins.1 ∙ ap (λ (us : List Token). us ++ left) one.1 in cc
  | inr (inl group) ↦ let split = begins.1 ∙ ap (λ (us : List Token). us ++ left) group.2 in cc
  | inr (inr list) ↦ let split = begins.1 ∙ ap (λ (us : List Token). us ++ left) list.2 in cc
]
