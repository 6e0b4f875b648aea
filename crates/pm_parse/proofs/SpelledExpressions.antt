-- The names in an expression that tokens spell are proper, where the tokens' names are spelled as names.
use Rattle.std.proofs.Common.{ℕ, List, [], ◌∷◌, ◌++◌, Some, None, All}
use Rattle.std.proofs.lemmas.List.Elements.{All-cons, All-nil, All-push}
use Rattle.pm_syn.specs.declared.expression.Arg.{Arg}
use Rattle.pm_syn.specs.declared.expression.BinaryOp.{BinaryOp}
use Rattle.pm_syn.specs.declared.expression.Expr.{Expr}
use Rattle.pm_syn.specs.declared.expression.Expr.TheViews as expr
use Rattle.pm_syn.specs.declared.token.Token.{Token}
use Rattle.pm_grammar.specs.Expressions.{Spells, SpellsArgument, SpellsArgumentSequence, SpellsArguments, SpellsItems, SpellsRange, SpellsSequence}
use Rattle.pm_grammar.specs.Expressions as spells
use Rattle.pm_parse.specs.FileNames.{IsProperName, names_of_argument, names_of_expression}
use Rattle.pm_parse.proofs.ExpressionNames.{names-Attr, names-Binary, names-Bool, names-Call, names-Cond, names-Each, names-Index, names-Int, names-Items, names-Name, names-Slice, names-Unary, names-argument}
use Rattle.pm_parse.proofs.ProperNames.{AreProper, AreSpelled, after_spelled, all_proper, both_proper, first_spelled, prefix_spelled, more_proper, name_proper, none_proper, one_proper, rest_spelled, same_proper}

-- ---- expressions by their parts

-- the names in the expression are proper
abbrev pub HasProper : Expr → Type 0
HasProper e = AreProper (names_of_expression e)

-- the names in the argument are proper
abbrev pub IsProperArgument : Arg → Type 0
IsProperArgument argument = AreProper (names_of_argument argument)

-- an operation with two operands
proper_binary : (op : BinaryOp) (a b : Expr) → HasProper a → HasProper b → HasProper (expr.Binary op a b)
proper_binary op a b one two = same_proper _ _ (names-Binary op a b) (both_proper (names_of_expression a) (names_of_expression b) one two)

-- a choice by a condition
proper_conditional : (a condition b : Expr) → HasProper a → HasProper condition → HasProper b → HasProper (expr.Cond a condition b)
proper_conditional a condition b one two three =
    same_proper _ _ (names-Cond a condition b) (both_proper (names_of_expression a) _ one (both_proper (names_of_expression condition) (names_of_expression b) two three))

-- an attribute
proper_attribute : (a : Expr) (name : List ℕ) → HasProper a → IsProperName name → HasProper (expr.Attr a name)
proper_attribute a name one is = same_proper _ _ (names-Attr a name) (both_proper (names_of_expression a) (name ∷ []) one (one_proper name is))

-- a call
proper_call : (a : Expr) (arguments : List Arg) → HasProper a → All IsProperArgument arguments → HasProper (expr.Call a arguments)
proper_call a arguments one all = same_proper _ _ (names-Call a arguments) (both_proper (names_of_expression a) _ one (all_proper names_of_argument arguments all))

-- an element at an index
proper_index : (a place : Expr) → HasProper a → HasProper place → HasProper (expr.Index a place)
proper_index a place one two = same_proper _ _ (names-Index a place) (both_proper (names_of_expression a) (names_of_expression place) one two)

-- the elements between two indexes
proper_slice : (a low high : Expr) → HasProper a → HasProper low → HasProper high → HasProper (expr.Slice a low high)
proper_slice a low high one two three =
    same_proper _ _ (names-Slice a low high) (both_proper (names_of_expression a) _ one (both_proper (names_of_expression low) (names_of_expression high) two three))

-- a list
proper_items : (es : List Expr) → All HasProper es → HasProper (expr.Items es)
proper_items es all = same_proper _ _ (names-Items es) (all_proper names_of_expression es all)

-- a list whose elements a variable runs through
proper_each : (a : Expr) (name : List ℕ) (bounds : List Expr) → HasProper a → IsProperName name → All HasProper bounds → HasProper (expr.Each a name bounds)
proper_each a name bounds one is all =
    same_proper _ _ (names-Each a name bounds) (both_proper (names_of_expression a) _ one (more_proper name _ is (all_proper names_of_expression bounds all)))

-- an argument without a name
proper_plain : (e : Expr) → HasProper e → IsProperArgument (record { name = None; value = e })
proper_plain e one = same_proper _ _ (names-argument None e) one

-- an argument with a name
proper_named : (name : List ℕ) (e : Expr) → IsProperName name → HasProper e → IsProperArgument (record { name = Some name; value = e })
proper_named name e is one = same_proper _ _ (names-argument (Some name) e) (more_proper name (names_of_expression e) is one)

-- ---- what the tokens spell

-- the variable and the arguments of a range
abbrev IsProperRange : List ℕ × List Expr → Type 0
IsProperRange range = IsProperName range.0 × All HasProper range.1

mutual
  -- an expression
  pub spelled_expression : (l : _) (ts : List Token) (e : Expr) → Spells l ts e → AreSpelled ts → HasProper e
  spelled_expression l ts e (spells.as_tight _ _ _ s) all = spelled_expression _ ts e s all
  spelled_expression _ _ _ (spells.conditional ts us vs if_word else_word value condition other s is_if t is_else u) all =
      let after = after_spelled ts (us ++ else_word ∷ vs) if_word all in
      proper_conditional value condition other (spelled_expression _ ts value s (prefix_spelled ts _ all))
      (spelled_expression _ us condition t (prefix_spelled us _ after)) (spelled_expression _ vs other u (after_spelled us vs else_word after))
  spelled_expression _ _ _ (spells.grouped_left l ts us sign op left right groups s is t) all =
      proper_binary op left right (spelled_expression _ ts left s (prefix_spelled ts _ all)) (spelled_expression _ us right t (after_spelled ts us sign all))
  spelled_expression _ _ _ (spells.negation ts word e is s) all = same_proper _ _ (names-Unary _ e) (spelled_expression _ ts e s (rest_spelled word ts all))
  spelled_expression _ _ _ (spells.comparison ts us sign op left right s is t) all =
      proper_binary op left right (spelled_expression _ ts left s (prefix_spelled ts _ all)) (spelled_expression _ us right t (after_spelled ts us sign all))
  spelled_expression _ _ _ (spells.signed ts sign op e is s) all = same_proper _ _ (names-Unary op e) (spelled_expression _ ts e s (rest_spelled sign ts all))
  spelled_expression _ _ _ (spells.power ts us sign op base exponent s is t) all =
      proper_binary op base exponent (spelled_expression _ ts base s (prefix_spelled ts _ all)) (spelled_expression _ us exponent t (after_spelled ts us sign all))
  spelled_expression _ _ _ (spells.attribute ts dot name e s is named) all =
      proper_attribute e name.text (spelled_expression _ ts e s (prefix_spelled ts _ all)) (name_proper name named (first_spelled name [] (after_spelled ts (name ∷ []) dot all)))
  spelled_expression _ _ _ (spells.call ts us opening closing e arguments s is t is') all =
      let after = after_spelled ts (us ++ closing ∷ []) opening all in
      proper_call e arguments (spelled_expression _ ts e s (prefix_spelled ts _ all)) (spelled_arguments us arguments t (prefix_spelled us _ after))
  spelled_expression _ _ _ (spells.index ts us opening closing e place s is t is') all =
      let after = after_spelled ts (us ++ closing ∷ []) opening all in
      proper_index e place (spelled_expression _ ts e s (prefix_spelled ts _ all)) (spelled_expression _ us place t (prefix_spelled us _ after))
  spelled_expression _ _ _ (spells.slice ts us vs opening colon closing e low high s is t is' u is'') all =
      let after = after_spelled ts (us ++ colon ∷ (vs ++ closing ∷ [])) opening all in
      let last = after_spelled us (vs ++ closing ∷ []) colon after in
      proper_slice e low high (spelled_expression _ ts e s (prefix_spelled ts _ all)) (spelled_expression _ us low t (prefix_spelled us _ after))
      (spelled_expression _ vs high u (prefix_spelled vs _ last))
  spelled_expression _ _ _ (spells.named name is) all = same_proper _ _ (names-Name name.text) (one_proper name.text (name_proper name is (first_spelled name [] all)))
  spelled_expression _ _ _ (spells.number literal value is) all = same_proper _ _ (names-Int value) none_proper
  spelled_expression _ _ _ (spells.true_word word is) all = same_proper _ _ (names-Bool _) none_proper
  spelled_expression _ _ _ (spells.false_word word is) all = same_proper _ _ (names-Bool _) none_proper
  spelled_expression _ _ _ (spells.group ts opening closing e is s is') all = spelled_expression _ ts e s (prefix_spelled ts _ (rest_spelled opening (ts ++ closing ∷ []) all))
  spelled_expression _ _ _ (spells.items ts opening closing es is s is') all =
      proper_items es (spelled_items ts es s (prefix_spelled ts _ (rest_spelled opening (ts ++ closing ∷ []) all)))
  spelled_expression _ _ _ (spells.each ts us opening for_word closing e name bounds is s is' t is'') all =
      let inside = rest_spelled opening (ts ++ for_word ∷ (us ++ closing ∷ [])) all in
      let after = after_spelled ts (us ++ closing ∷ []) for_word inside in
      let range = spelled_range us (name, bounds) t (prefix_spelled us _ after) in
      proper_each e name bounds (spelled_expression _ ts e s (prefix_spelled ts _ inside)) range.0 range.1

  -- expressions with commas between them
  spelled_sequence : (ts : List Token) (es : List Expr) → SpellsSequence ts es → AreSpelled ts → All HasProper es
  spelled_sequence _ _ (spells.one ts e s) all = All-cons HasProper e [] (spelled_expression _ ts e s all) (All-nil HasProper)
  spelled_sequence _ _ (spells.more ts us comma es e s symbol t) all =
      All-push HasProper es e (spelled_sequence ts es s (prefix_spelled ts _ all)) (spelled_expression _ us e t (after_spelled ts us comma all))

  -- the elements of a list
  spelled_items : (ts : List Token) (es : List Expr) → SpellsItems ts es → AreSpelled ts → All HasProper es
  spelled_items _ _ spells.no_items all = All-nil HasProper
  spelled_items _ _ (spells.some_items ts es s) all = spelled_sequence ts es s all
  spelled_items _ _ (spells.items_comma ts comma es s symbol) all = spelled_sequence ts es s (prefix_spelled ts _ all)

  -- a variable and the arguments of its range
  pub spelled_range : (ts : List Token) (range : List ℕ × List Expr) → SpellsRange ts range → AreSpelled ts → IsProperRange range
  spelled_range _ _ (spells.ranged ts name in_word range opening closing bounds named is_in is_range is_open s few is_close) all =
      let inside = ts ++ closing ∷ [] in
      let after = rest_spelled opening inside (rest_spelled range (opening ∷ inside) (rest_spelled in_word (range ∷ opening ∷ inside) (rest_spelled name (in_word ∷ range ∷ opening ∷ inside) all))) in
      (name_proper name named (first_spelled name (in_word ∷ range ∷ opening ∷ inside) all), spelled_sequence ts bounds s (prefix_spelled ts (closing ∷ []) after))

  -- an argument of a call
  spelled_argument : (ts : List Token) (a : Arg) → SpellsArgument ts a → AreSpelled ts → IsProperArgument a
  spelled_argument _ _ (spells.plain ts e s) all = proper_plain e (spelled_expression _ ts e s all)
  spelled_argument _ _ (spells.by_name ts name sign e named symbol s) all =
      proper_named name.text e (name_proper name named (first_spelled name (sign ∷ ts) all)) (spelled_expression _ ts e s (rest_spelled sign ts (rest_spelled name (sign ∷ ts) all)))

  -- arguments with commas between them
  spelled_argument_sequence : (ts : List Token) (arguments : List Arg) → SpellsArgumentSequence ts arguments → AreSpelled ts → All IsProperArgument arguments
  spelled_argument_sequence _ _ (spells.one_argument ts a s) all = All-cons IsProperArgument a [] (spelled_argument ts a s all) (All-nil IsProperArgument)
  spelled_argument_sequence _ _ (spells.more_arguments ts us comma arguments a s symbol t) all =
      All-push IsProperArgument arguments a (spelled_argument_sequence ts arguments s (prefix_spelled ts _ all)) (spelled_argument us a t (after_spelled ts us comma all))

  -- the arguments of a call
  spelled_arguments : (ts : List Token) (arguments : List Arg) → SpellsArguments ts arguments → AreSpelled ts → All IsProperArgument arguments
  spelled_arguments _ _ spells.no_arguments all = All-nil IsProperArgument
  spelled_arguments _ _ (spells.some_arguments ts arguments s) all = spelled_argument_sequence ts arguments s all
  spelled_arguments _ _ (spells.arguments_comma ts comma arguments s symbol) all = spelled_argument_sequence ts arguments s (prefix_spelled ts _ all)
