-- That tokens spell one expression: what was spelled is the only reading, part by part.
use Rattle.std.proofs.Common.{◌≡◌, ◌++◌, ◌∙◌, ℕ, Bool, false, true, IsTrue, List, [], ◌∷◌, codes, Some, None, append_assoc, refl, sym, ap, subst}
use Rattle.std.proofs.lemmas.Bool.{both_ways, or_left, or_right}
use Rattle.pm_syn.specs.declared.expression.Arg.{Arg}
use Rattle.pm_syn.specs.declared.expression.Expr.{Expr}
use Rattle.pm_syn.specs.declared.expression.Expr as leaf
use Rattle.pm_syn.specs.declared.expression.Expr.TheViews as expr
use Rattle.pm_syn.specs.declared.token.Token.{Token}
use Rattle.pm_grammar.specs.Brackets.{IsNoParameter, SpellsList, ends_argument}
use Rattle.pm_grammar.specs.Expressions.{Spells, SpellsArgument, SpellsArgumentSequence, SpellsArguments, SpellsItems, SpellsRange, SpellsSequence}
use Rattle.pm_grammar.specs.Expressions as spells
use Rattle.pm_grammar.specs.Prefixes.{IsNotFirst, begins_with}
use Rattle.pm_grammar.specs.Laws.{TokensSpellOneExpression}
use Rattle.pm_grammar.specs.Levels.{tighter}
use Rattle.pm_grammar.specs.Tokens.{is_symbol, is_name, is_op, is_word}
use Rattle.pm_grammar.specs.Reading.{Ends, IsOnlyBeginning, IsOnlyBefore, IsOnly}
use Rattle.pm_grammar.specs.declared.level.Level.{Level}
use Rattle.pm_grammar.specs.declared.level.Level.TheVariants as level
use Rattle.pm_grammar.proofs.Atoms.{only_false, only_int, only_name, only_true}
use Rattle.pm_grammar.proofs.ArgumentNames.{argument_begun}
use Rattle.pm_grammar.proofs.ExpressionStarts.{closing_opens, opens, parenthesis_opens}
use Rattle.pm_grammar.proofs.OneSymbol.{argument_ends, bracket_no_comma, ends_bracket, ends_comma, ends_for, ends_parenthesis, name_is}
use Rattle.pm_grammar.proofs.OperandStarts.{IsBegun, begun_expression}
use Rattle.pm_grammar.proofs.TokenTexts.{of_mark, of_word}
use Rattle.pm_grammar.proofs.CallArguments.{GoesOnArguments, IsOnlyArgument, goes_argument, goes_arguments, no_plain_parameter, only_arguments, only_last, only_named, only_plain}
use Rattle.pm_grammar.proofs.Lists.{GoesOnItems, goes_item, goes_items, only_each, only_empty, only_for, only_items, only_items_comma, only_list}
use Rattle.pm_grammar.proofs.OneReading.{IsOne, one_attribute, one_call, one_comparison, one_conditional, one_group, one_grouped, one_index, one_leaf, one_list, one_negation, one_power, one_signed, one_slice, one_tight}
use Rattle.pm_grammar.proofs.Ranges.{GoesOnBounds, goes_bound, goes_bounds, only_bounds, only_range}
use Rattle.pm_grammar.proofs.Sequences.{sequence_is}

-- ---- expressions with commas between them

-- an expression comes first, and each sequence of a list or a range continues from these
record IsSequenceRead (ts : List Token) (es : List Expr) (rest : List Token) : Type 0 where
  first : Expr
  behind : List Token
  first_only : IsOnly level.Conditional (ts ++ rest) (Some (first, behind))
  no_for : IsNotFirst (is_word (codes "for")) behind
  items : GoesOnItems first behind es rest
  bounds : GoesOnBounds (ts ++ rest) es rest

abbrev IsOneSequence : List Token → List Expr → Type 0
IsOneSequence ts es = (rest : List Token) → Ends level.Conditional rest → IsNotFirst (is_word (codes "for")) rest → IsSequenceRead ts es rest

one_element : (ts : List Token) (e : Expr) → IsOne level.Conditional ts e → IsOneSequence ts (e ∷ [])
one_element ts e one rest ends no_for =
    let only = (one rest).only ends in
    record {
      first = e;
      behind = rest;
      first_only = only;
      no_for = no_for;
      items = goes_items rest e;
      bounds = goes_bounds (ts ++ rest) rest e only;
    }

-- no expression begins with such a token
not_begun : (test : Token → Bool) → ((t : Token) → IsTrue (test t) → opens t ≡ false) → (ts rest : List Token) → IsBegun opens ts → begins_with test (ts ++ rest) ≡ false
not_begun test never ts rest begun =
    let no : test begun.0 ≡ false = go (test begun.0) (λ is. both_ways (opens begun.0) (never begun.0 is) begun.3) in
    subst (λ (xs : List Token). begins_with test (xs ++ rest) ≡ false) (sym begun.2) no
  where
    go : (b : Bool) → (IsTrue b → ⊥) → b ≡ false
    go true never = absurd (never refl)
    go false never = refl

not_there : (test : Token → Bool) → ((t : Token) → IsTrue (test t) → opens t ≡ false) → (ts rest : List Token) → IsBegun opens ts → IsNotFirst test (ts ++ rest)
not_there test never ts rest begun =
    subst (λ (xs : List Token). IsNotFirst test (xs ++ rest)) (sym begun.2)
    (subst (λ (xs : List Token). begins_with test (xs ++ rest) ≡ false) begun.2 (not_begun test never ts rest begun))

one_more_element : (ts us : List Token) (comma : Token) (es : List Expr) (e : Expr) → IsTrue (is_symbol (codes ",") comma) → Spells level.Conditional us e
    → IsOneSequence ts es → IsOne level.Conditional us e → IsOneSequence (ts ++ comma ∷ us) (es ++ e ∷ [])
one_more_element ts us comma es e mark spelled one two rest ends no_for =
    let tail = us ++ rest in
    let no_word : is_word (codes "for") comma ≡ false = of_mark (codes ",") comma (is_word (codes "for")) false mark refl in
    let inner = one (comma ∷ tail) (ends_comma comma mark) no_word in
    let only = (two rest).only ends in
    let grouped = sym (append_assoc ts (comma ∷ us) rest) in
    record {
      first = inner.first;
      behind = inner.behind;
      first_only = subst (λ (xs : List Token). IsOnly level.Conditional xs (Some (inner.first, inner.behind))) grouped inner.first_only;
      no_for = inner.no_for;
      items = goes_item inner.behind (comma ∷ tail) tail rest inner.first es e inner.items (comma, refl, mark)
          (not_begun (is_symbol (codes "]")) closing_opens us rest (begun_expression level.Conditional us e spelled)) only;
      bounds = subst (λ (xs : List Token). GoesOnBounds xs (es ++ e ∷ []) rest) grouped (goes_bound (ts ++ comma ∷ tail) (comma ∷ tail) tail rest es e inner.bounds (comma, refl, mark) only);
    }

sequence_begun : (ts : List Token) (es : List Expr) → SpellsSequence ts es → IsBegun opens ts
sequence_begun ts es spelled =
    let some = sequence_is ts es spelled in
    let begun = begun_expression level.Conditional some.0 some.2 some.6 in
    (begun.0, begun.1 ++ some.1, some.4 ∙ ap (λ (xs : List Token). xs ++ some.1) begun.2, begun.3)

-- ---- lists

-- what comes after an opening bracket
abbrev IsOneList : List Token → List Expr → Type 0
IsOneList ts es = (closing : Token) (rest : List Token) → IsTrue (is_symbol (codes "]") closing) → IsOnlyBeginning SpellsList (ts ++ closing ∷ rest) (Some (expr.Items es, rest))

one_list_of : (ts : List Token) (es : List Expr) → SpellsSequence ts es → IsOneSequence ts es → IsOneList ts es
one_list_of ts es spelled one closing rest is =
    let no_for : is_word (codes "for") closing ≡ false = of_mark (codes "]") closing (is_word (codes "for")) false is refl in
    let inner = one (closing ∷ rest) (ends_bracket closing is) no_for in
    only_list (ts ++ closing ∷ rest) inner.behind (closing ∷ rest) rest inner.first es
    (not_there (is_symbol (codes "]")) closing_opens ts (closing ∷ rest) (sequence_begun ts es spelled)) inner.first_only inner.no_for
    (only_items inner.behind (closing ∷ rest) inner.first es inner.items (bracket_no_comma closing is)) (closing, refl, is)

one_list_comma : (ts : List Token) (comma : Token) (es : List Expr) → IsTrue (is_symbol (codes ",") comma) → SpellsSequence ts es → IsOneSequence ts es → IsOneList (ts ++ comma ∷ []) es
one_list_comma ts comma es mark spelled one closing rest is =
    let no_for : is_word (codes "for") comma ≡ false = of_mark (codes ",") comma (is_word (codes "for")) false mark refl in
    let inner = one (comma ∷ closing ∷ rest) (ends_comma comma mark) no_for in
    subst (λ (xs : List Token). IsOnlyBeginning SpellsList xs (Some (expr.Items es, rest))) (sym (append_assoc ts (comma ∷ []) (closing ∷ rest)))
    (only_list (ts ++ comma ∷ closing ∷ rest) inner.behind (closing ∷ rest) rest inner.first es
    (not_there (is_symbol (codes "]")) closing_opens ts (comma ∷ closing ∷ rest) (sequence_begun ts es spelled)) inner.first_only inner.no_for
    (only_items_comma inner.behind (comma ∷ closing ∷ rest) (closing ∷ rest) inner.first es inner.items (comma, refl, mark) is) (closing, refl, is))

-- ---- ranges

abbrev pub IsOneRange : List Token → List ℕ × List Expr → Type 0
IsOneRange ts p = (rest : List Token) → IsOnlyBeginning SpellsRange (ts ++ rest) (Some (p, rest))

one_range : (ts : List Token) (name in_word range opening closing : Token) (bounds : List Expr) → IsTrue (is_name name) → IsTrue (is_word (codes "in") in_word) → IsTrue (is_word (codes "range") range)
    → IsTrue (is_symbol (codes "(") opening) → IsTrue (is_symbol (codes ")") closing) → IsOneSequence ts bounds
    → IsOneRange (name ∷ in_word ∷ range ∷ opening ∷ (ts ++ closing ∷ [])) (name.text, bounds)
one_range ts name in_word range opening closing bounds named is_in is_range is_open is_close one rest =
    let no_for : is_word (codes "for") closing ≡ false = of_mark (codes ")") closing (is_word (codes "for")) false is_close refl in
    let no_more : is_symbol (codes ",") closing ≡ false = of_mark (codes ")") closing (is_symbol (codes ",")) false is_close refl in
    let inner = one (closing ∷ rest) (ends_parenthesis closing is_close) no_for in
    let tail = ts ++ closing ∷ rest in
    only_range (name ∷ in_word ∷ range ∷ opening ∷ ((ts ++ closing ∷ []) ++ rest)) tail (closing ∷ rest) rest name name.text bounds
    (record {
      in_word = in_word;
      range = range;
      opening = opening;
      there = ap (λ (xs : List Token). name ∷ in_word ∷ range ∷ opening ∷ xs) (append_assoc ts (closing ∷ []) rest);
      named = named;
      is_in = is_in;
      is_range = is_range;
      mark = is_open;
    })
    refl (only_bounds tail (closing ∷ rest) bounds inner.bounds no_more) (closing, refl, is_close)

one_each : (ts us : List Token) (opening for_word closing : Token) (e : Expr) (name : List ℕ) (bounds : List Expr) → IsTrue (is_symbol (codes "[") opening) → IsTrue (is_word (codes "for") for_word)
    → IsTrue (is_symbol (codes "]") closing) → Spells level.Conditional ts e → IsOne level.Conditional ts e → IsOneRange us (name, bounds)
    → IsOne level.Atom (opening ∷ (ts ++ for_word ∷ (us ++ closing ∷ []))) (expr.Each e name bounds)
one_each ts us opening for_word closing e name bounds is_open is_for is_close spelled one two =
    one_list (ts ++ for_word ∷ (us ++ closing ∷ [])) opening (expr.Each e name bounds) is_open (λ rest.
    let tail = us ++ closing ∷ rest in
    let all = ts ++ for_word ∷ tail in
    subst (λ (xs : List Token). IsOnlyBeginning SpellsList xs (Some (expr.Each e name bounds, rest)))
    (sym (append_assoc ts (for_word ∷ (us ++ closing ∷ [])) rest ∙ ap (λ (xs : List Token). ts ++ for_word ∷ xs) (append_assoc us (closing ∷ []) rest)))
    (only_for all (for_word ∷ tail) tail e (Some (expr.Each e name bounds, rest))
    (not_there (is_symbol (codes "]")) closing_opens ts (for_word ∷ tail) (begun_expression level.Conditional ts e spelled))
    ((one (for_word ∷ tail)).only (ends_for for_word is_for)) (for_word, refl, is_for)
    (only_each tail (closing ∷ rest) rest e (name, bounds) (two (closing ∷ rest)) (closing, refl, is_close))))

-- ---- arguments

abbrev IsOneArgument : List Token → Arg → Type 0
IsOneArgument ts a = (behind : Token) (rest : List Token) → IsTrue (ends_argument behind) → IsOnlyArgument (ts ++ behind ∷ rest) (Some (a, behind ∷ rest))

one_plain : (ts : List Token) (e : Expr) → Spells level.Conditional ts e → IsOne level.Conditional ts e → IsOneArgument ts (record { name = None; value = e })
one_plain ts e spelled one behind rest is =
    let none : IsNoParameter (ts ++ behind ∷ rest) = λ name tail parameter. no_plain_parameter (ts ++ behind ∷ rest) tail rest name behind e parameter is (ts, refl, spelled) in
    only_plain (ts ++ behind ∷ rest) (behind ∷ rest) e none ((one (behind ∷ rest)).only (argument_ends behind is))

one_named : (ts : List Token) (name sign : Token) (e : Expr) → IsTrue (is_name name) → IsTrue (is_symbol (codes "=") sign) → IsOne level.Conditional ts e
    → IsOneArgument (name ∷ sign ∷ ts) (record { name = Some name.text; value = e })
one_named ts name sign e named mark one behind rest is =
    only_named (name ∷ sign ∷ (ts ++ behind ∷ rest)) (ts ++ behind ∷ rest) (behind ∷ rest) name name.text e (sign, refl, named, mark) refl ((one (behind ∷ rest)).only (argument_ends behind is))

-- arguments were read, and the last one after them
record AreArgumentsRead (ts : List Token) (arguments : List Arg) (rest : List Token) : Type 0 where
  front : List Arg
  last : Arg
  from : List Token
  made : arguments ≡ front ++ last ∷ []
  apart : begins_with (is_symbol (codes ")")) from ≡ false
  goes : GoesOnArguments (ts ++ rest) front from
  only : IsOnlyArgument from (Some (last, rest))

abbrev AreOneArguments : List Token → List Arg → Type 0
AreOneArguments ts arguments = (behind : Token) (rest : List Token) → IsTrue (ends_argument behind) → AreArgumentsRead ts arguments (behind ∷ rest)

one_first_argument : (ts : List Token) (a : Arg) → SpellsArgument ts a → IsOneArgument ts a → AreOneArguments ts (a ∷ [])
one_first_argument ts a spelled one behind rest is = record {
  front = [];
  last = a;
  from = ts ++ behind ∷ rest;
  made = refl;
  apart = not_begun (is_symbol (codes ")")) parenthesis_opens ts (behind ∷ rest) (argument_begun ts a spelled);
  goes = goes_arguments (ts ++ behind ∷ rest);
  only = one behind rest is;
}

one_more_argument : (ts us : List Token) (comma : Token) (arguments : List Arg) (a : Arg) → IsTrue (is_symbol (codes ",") comma) → SpellsArgument us a
    → AreOneArguments ts arguments → IsOneArgument us a → AreOneArguments (ts ++ comma ∷ us) (arguments ++ a ∷ [])
one_more_argument ts us comma arguments a mark spelled one two behind rest is =
    let tail = us ++ behind ∷ rest in
    let inner = one comma tail (or_left _ _ mark) in
    let goes = goes_argument (ts ++ comma ∷ tail) inner.from (comma ∷ tail) tail inner.front inner.last inner.apart inner.goes inner.only (comma, refl, mark) in
    record {
      front = arguments;
      last = a;
      from = tail;
      made = refl;
      apart = not_begun (is_symbol (codes ")")) parenthesis_opens us (behind ∷ rest) (argument_begun us a spelled);
      goes = subst (λ (xs : List Token). GoesOnArguments xs arguments tail) (sym (append_assoc ts (comma ∷ us) (behind ∷ rest)))
          (subst (λ (xs : List Arg). GoesOnArguments (ts ++ comma ∷ tail) xs tail) (sym inner.made) goes);
      only = two behind rest is;
    }

abbrev AreAllArguments : List Token → List Arg → Type 0
AreAllArguments ts arguments = (closing : Token) (rest : List Token) → IsTrue (is_symbol (codes ")") closing) → IsOnlyBefore SpellsArguments (codes ")") (ts ++ closing ∷ rest) (Some (arguments, closing ∷ rest))

all_none : AreAllArguments [] []
all_none closing rest is = only_arguments (closing ∷ rest) (closing ∷ rest) [] is (goes_arguments (closing ∷ rest))

all_some : (ts : List Token) (arguments : List Arg) → AreOneArguments ts arguments → AreAllArguments ts arguments
all_some ts arguments one closing rest is =
    let inner = one closing rest (or_right _ _ is) in
    let no_more : is_symbol (codes ",") closing ≡ false = of_mark (codes ")") closing (is_symbol (codes ",")) false is refl in
    subst (λ (xs : List Arg). IsOnlyBefore SpellsArguments (codes ")") (ts ++ closing ∷ rest) (Some (xs, closing ∷ rest))) (sym inner.made)
    (only_last (ts ++ closing ∷ rest) inner.from (closing ∷ rest) inner.front inner.last inner.apart inner.goes inner.only no_more)

all_comma : (ts : List Token) (comma : Token) (arguments : List Arg) → IsTrue (is_symbol (codes ",") comma) → AreOneArguments ts arguments → AreAllArguments (ts ++ comma ∷ []) arguments
all_comma ts comma arguments mark one closing rest is =
    let all = ts ++ comma ∷ closing ∷ rest in
    let inner = one comma (closing ∷ rest) (or_left _ _ mark) in
    let goes = goes_argument all inner.from (comma ∷ closing ∷ rest) (closing ∷ rest) inner.front inner.last inner.apart inner.goes inner.only (comma, refl, mark) in
    subst (λ (xs : List Token). IsOnlyBefore SpellsArguments (codes ")") xs (Some (arguments, closing ∷ rest))) (sym (append_assoc ts (comma ∷ []) (closing ∷ rest)))
    (only_arguments all (closing ∷ rest) arguments is (subst (λ (xs : List Arg). GoesOnArguments all xs (closing ∷ rest)) (sym inner.made) goes))

-- ---- all of it

word_no_mark : (bytes : List ℕ) (token : Token) → IsTrue (is_word bytes token) → is_op token.kind ≡ false
word_no_mark bytes token is = of_word bytes token (λ (t : Token). is_op t.kind) false is refl

mutual
  -- what spells an expression is its only reading
  pub only_spelled : (l : Level) (ts : List Token) (e : Expr) → Spells l ts e → IsOne l ts e
  only_spelled l ts e (spells.as_tight _ _ _ s) = one_tight l ts e s (only_spelled (tighter l) ts e s)
  only_spelled _ _ _ (spells.conditional ts us vs if_word else_word value condition other s is_if t is_else u) =
      one_conditional ts us vs if_word else_word value condition other is_if is_else (only_spelled level.Disjunction ts value s) (only_spelled level.Disjunction us condition t) (only_spelled level.Conditional vs other u)
  only_spelled _ _ _ (spells.grouped_left l ts us sign op left right groups s is t) =
      one_grouped l ts us sign op left right groups is (only_spelled l ts left s) (only_spelled (tighter l) us right t)
  only_spelled _ _ _ (spells.negation ts word e is s) = one_negation ts word e is (only_spelled level.Negation ts e s)
  only_spelled _ _ _ (spells.comparison ts us sign op left right s is t) =
      one_comparison ts us sign op left right is (only_spelled level.BitOr ts left s) (only_spelled level.BitOr us right t)
  only_spelled _ _ _ (spells.signed ts sign op e is s) = one_signed ts sign op e is (only_spelled level.Unary ts e s)
  only_spelled _ _ _ (spells.power ts us sign op base exponent s is t) =
      one_power ts us sign op base exponent is (only_spelled level.Postfix ts base s) (only_spelled level.Unary us exponent t)
  only_spelled _ _ _ (spells.attribute ts dot name e s is named) = one_attribute ts dot name e is (only_spelled level.Postfix ts e s)
  only_spelled _ _ _ (spells.call ts us opening closing e arguments s is t is') =
      one_call ts us opening closing e arguments is is' (only_spelled level.Postfix ts e s) (λ rest. only_arguments_spelled us arguments t closing rest is')
  only_spelled _ _ _ (spells.index ts us opening closing e place s is t is') =
      one_index ts us opening closing e place is is' (only_spelled level.Postfix ts e s) (only_spelled level.Conditional us place t)
  only_spelled _ _ _ (spells.slice ts us vs opening colon closing e low high s is t is' u is'') =
      one_slice ts us vs opening colon closing e low high is is' is'' (only_spelled level.Postfix ts e s) (only_spelled level.Conditional us low t) (only_spelled level.Conditional vs high u)
  only_spelled _ _ _ (spells.named name is) = one_leaf name (leaf.Name name.text) (ap is_op (name_is name is)) (only_name name name.text refl is)
  only_spelled _ _ _ (spells.number literal value is) = one_leaf literal (leaf.Int value) (ap is_op is) (only_int literal value is)
  only_spelled _ _ _ (spells.true_word word is) = one_leaf word (leaf.Bool true) (word_no_mark (codes "True") word is) (only_true word is)
  only_spelled _ _ _ (spells.false_word word is) = one_leaf word (leaf.Bool false) (word_no_mark (codes "False") word is) (only_false word is)
  only_spelled _ _ _ (spells.group ts opening closing e is s is') = one_group ts opening closing e is is' (only_spelled level.Conditional ts e s)
  only_spelled _ _ _ (spells.items ts opening closing es is s is') =
      one_list (ts ++ closing ∷ []) opening (expr.Items es) is (λ rest.
      subst (λ (xs : List Token). IsOnlyBeginning SpellsList xs (Some (expr.Items es, rest))) (sym (append_assoc ts (closing ∷ []) rest)) (only_items_spelled ts es s closing rest is'))
  only_spelled _ _ _ (spells.each ts us opening for_word closing e name bounds is s is' t is'') =
      one_each ts us opening for_word closing e name bounds is is' is'' s (only_spelled level.Conditional ts e s) (only_range_spelled us (name, bounds) t)

  only_sequence_spelled : (ts : List Token) (es : List Expr) → SpellsSequence ts es → IsOneSequence ts es
  only_sequence_spelled _ _ (spells.one ts e s) = one_element ts e (only_spelled level.Conditional ts e s)
  only_sequence_spelled _ _ (spells.more ts us comma es e s mark t) = one_more_element ts us comma es e mark t (only_sequence_spelled ts es s) (only_spelled level.Conditional us e t)

  only_items_spelled : (ts : List Token) (es : List Expr) → SpellsItems ts es → IsOneList ts es
  only_items_spelled _ _ spells.no_items = λ closing rest is. only_empty (closing ∷ rest) rest (closing, refl, is)
  only_items_spelled _ _ (spells.some_items ts es s) = one_list_of ts es s (only_sequence_spelled ts es s)
  only_items_spelled _ _ (spells.items_comma ts comma es s mark) = one_list_comma ts comma es mark s (only_sequence_spelled ts es s)

  pub only_range_spelled : (ts : List Token) (p : List ℕ × List Expr) → SpellsRange ts p → IsOneRange ts p
  only_range_spelled _ _ (spells.ranged ts name in_word range opening closing bounds named is_in is_range is_open s few is_close) =
      one_range ts name in_word range opening closing bounds named is_in is_range is_open is_close (only_sequence_spelled ts bounds s)

  only_argument_spelled : (ts : List Token) (a : Arg) → SpellsArgument ts a → IsOneArgument ts a
  only_argument_spelled _ _ (spells.plain ts e s) = one_plain ts e s (only_spelled level.Conditional ts e s)
  only_argument_spelled _ _ (spells.by_name ts name sign e named mark s) = one_named ts name sign e named mark (only_spelled level.Conditional ts e s)

  only_argument_sequence_spelled : (ts : List Token) (arguments : List Arg) → SpellsArgumentSequence ts arguments → AreOneArguments ts arguments
  only_argument_sequence_spelled _ _ (spells.one_argument ts a s) = one_first_argument ts a s (only_argument_spelled ts a s)
  only_argument_sequence_spelled _ _ (spells.more_arguments ts us comma arguments a s mark t) =
      one_more_argument ts us comma arguments a mark t (only_argument_sequence_spelled ts arguments s) (only_argument_spelled us a t)

  only_arguments_spelled : (ts : List Token) (arguments : List Arg) → SpellsArguments ts arguments → AreAllArguments ts arguments
  only_arguments_spelled _ _ spells.no_arguments = all_none
  only_arguments_spelled _ _ (spells.some_arguments ts arguments s) = all_some ts arguments (only_argument_sequence_spelled ts arguments s)
  only_arguments_spelled _ _ (spells.arguments_comma ts comma arguments s mark) = all_comma ts comma arguments mark (only_argument_sequence_spelled ts arguments s)

-- an expression is the only reading before what doesn't continue from it
pub only_expression_spelled : (ts rest : List Token) (e : Expr) → Spells level.Conditional ts e → Ends level.Conditional rest → IsOnly level.Conditional (ts ++ rest) (Some (e, rest))
only_expression_spelled ts rest e spelled ends = (only_spelled level.Conditional ts e spelled rest).only ends

pub tokens_spell_one_expression : TokensSpellOneExpression
tokens_spell_one_expression tokens one other spelled also =
    (only_expression_spelled tokens [] other also tt one [] (tokens, refl, spelled) tt).0
