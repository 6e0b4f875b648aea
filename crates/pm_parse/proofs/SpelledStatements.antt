-- The names in a statement that tokens spell are proper, where the tokens' names are spelled as names.
use Rattle.std.proofs.Common.{ℕ, Bool, List, [], ◌∷◌, ◌++◌, map, Option, Some, None, All}
use Rattle.std.proofs.lemmas.List.Elements.{All-nil, All-push}
use Rattle.pm_syn.specs.declared.expression.Expr.{Expr}
use Rattle.pm_syn.specs.declared.statement.AssignOp.{AssignOp}
use Rattle.pm_syn.specs.declared.statement.Par.{Par}
use Rattle.pm_syn.specs.declared.statement.Stmt.{Stmt}
use Rattle.pm_syn.specs.declared.statement.Stmt as leaf
use Rattle.pm_syn.specs.declared.statement.Stmt.TheViews as stmt
use Rattle.pm_syn.specs.declared.token.Token.{Token}
use Rattle.pm_grammar.specs.Statements.{IsExpression, SpellsEnd, SpellsLine, SpellsOptional, SpellsParameter, SpellsParameters, SpellsResult, SpellsSignature, SpellsSimple}
use Rattle.pm_grammar.specs.Statements as spells
use Rattle.pm_parse.specs.FileNames.{IsProperName, all_names, names_of_expression, names_of_option, names_of_parameter, names_of_statement}
use Rattle.pm_parse.proofs.ProperNames.{AreProper, AreSpelled, after_spelled, all_proper, suffix_spelled, both_proper, first_spelled, prefix_spelled, more_proper, name_proper, none_proper, one_proper, rest_spelled, same_proper}
use Rattle.pm_parse.proofs.SpelledExpressions.{HasProper, spelled_expression, spelled_range}
use Rattle.pm_parse.proofs.StatementNames.{names-Assert, names-Assign, names-Class, names-Def, names-Do, names-Doc, names-Elif, names-Else, names-For, names-If, names-Import, names-JoinLambda, names-Mark, names-NonBlocking, names-Note, names-Pass, names-Return, names_after_colon}

-- ---- statements by their parts

-- the names in the statement are proper
abbrev pub IsProper : Stmt → Type 0
IsProper s = AreProper (names_of_statement s)

-- the names in the parameter are proper
abbrev IsProperParameter : Par → Type 0
IsProperParameter p = AreProper (names_of_parameter p)

-- an expression
an_expression : (ts : List Token) (e : Expr) → IsExpression ts e → AreSpelled ts → HasProper e
an_expression ts e spelled all = spelled_expression _ ts e spelled all

-- an assignment
proper_assignment : (op : AssignOp) (target value : Expr) → HasProper target → HasProper value → IsProper (leaf.Assign op target value)
proper_assignment op target value one two = same_proper _ _ (names-Assign op target value) (both_proper (names_of_expression target) (names_of_expression value) one two)

-- a connection to a lambda
proper_lambda : (target value : Expr) → HasProper target → HasProper value → IsProper (leaf.JoinLambda target value)
proper_lambda target value one two = same_proper _ _ (names-JoinLambda target value) (both_proper (names_of_expression target) (names_of_expression value) one two)

-- an annotation
proper_annotation : (target note : Expr) (value : Option Expr) → HasProper target → HasProper note → AreProper (names_of_option value) → IsProper (leaf.Note target note value)
proper_annotation target note value one two three =
    same_proper _ _ (names-Note target note value) (both_proper (names_of_expression target) _ one (both_proper (names_of_expression note) (names_of_option value) two three))

-- a parameter
proper_parameter : (name : List ℕ) (note default : Option Expr) → IsProperName name → AreProper (names_of_option note) → AreProper (names_of_option default)
    → IsProperParameter (record { name = name; note = note; default = default })
proper_parameter name note default is one two = more_proper name _ is (both_proper (names_of_option note) (names_of_option default) one two)

-- a function
proper_function : (name : List ℕ) (has_self : Bool) (ps : List Par) (note : Option Expr) (inner : Option Stmt) → IsProperName name → All IsProperParameter ps
    → AreProper (names_of_option note) → AreProper (names_after_colon inner) → IsProper (stmt.Def name has_self ps note inner)
proper_function name has_self ps note inner is all one two =
    same_proper _ _ (names-Def name has_self ps note inner)
    (more_proper name _ is (both_proper (all_names (map names_of_parameter ps)) _ (all_proper names_of_parameter ps all) (both_proper (names_of_option note) (names_after_colon inner) one two)))

-- a loop
proper_loop : (name : List ℕ) (bounds : List Expr) (inner : Option Stmt) → IsProperName name → All HasProper bounds → AreProper (names_after_colon inner) → IsProper (stmt.For name bounds inner)
proper_loop name bounds inner is all one =
    same_proper _ _ (names-For name bounds inner)
    (more_proper name _ is (both_proper (all_names (map names_of_expression bounds)) (names_after_colon inner) (all_proper names_of_expression bounds all) one))

-- ---- what the tokens spell

-- a statement that is allowed after a header
spelled_simple : (ts : List Token) (s : Stmt) → SpellsSimple ts s → AreSpelled ts → IsProper s
spelled_simple _ _ (spells.passed word is) all = same_proper _ _ names-Pass none_proper
spelled_simple _ _ (spells.returned word ts e is spelled) all = same_proper _ _ (names-Return e) (an_expression ts e spelled (rest_spelled word ts all))
spelled_simple _ _ (spells.asserted word ts e is spelled) all = same_proper _ _ (names-Assert e) (an_expression ts e spelled (rest_spelled word ts all))
spelled_simple _ _ (spells.asserted_saying word comma ts strings e is spelled symbol are) all =
    same_proper _ _ (names-Assert e) (an_expression ts e spelled (prefix_spelled ts (comma ∷ strings) (rest_spelled word (ts ++ comma ∷ strings) all)))
spelled_simple _ _ (spells.doc strings are) all = same_proper _ _ names-Doc none_proper
spelled_simple _ _ (spells.assigned sign ts us op target value spelled is also) all =
    proper_assignment op target value (an_expression ts target spelled (prefix_spelled ts (sign ∷ us) all)) (an_expression us value also (after_spelled ts us sign all))
spelled_simple _ _ (spells.joined sign word colon ts us target value spelled is lambda_is symbol also) all =
    proper_lambda target value (an_expression ts target spelled (prefix_spelled ts (sign ∷ word ∷ colon ∷ us) all))
    (an_expression us value also (rest_spelled colon us (rest_spelled word (colon ∷ us) (after_spelled ts (word ∷ colon ∷ us) sign all))))
spelled_simple _ _ (spells.noted colon ts us target note spelled symbol also) all =
    proper_annotation target note None (an_expression ts target spelled (prefix_spelled ts (colon ∷ us) all)) (an_expression us note also (after_spelled ts us colon all)) none_proper
spelled_simple _ _ (spells.noted_value colon sign ts us vs target note value spelled symbol also is last) all =
    let after = after_spelled ts (us ++ sign ∷ vs) colon all in
    proper_annotation target note (Some value) (an_expression ts target spelled (prefix_spelled ts (colon ∷ (us ++ sign ∷ vs)) all))
    (an_expression us note also (prefix_spelled us (sign ∷ vs) after)) (an_expression vs value last (after_spelled us vs sign after))
spelled_simple _ _ (spells.done ts e spelled) all = same_proper _ _ (names-Do e) (an_expression ts e spelled all)

-- the end of a header
spelled_end : (ts : List Token) (inner : Option Stmt) → SpellsEnd ts inner → AreSpelled ts → AreProper (names_after_colon inner)
spelled_end _ _ (spells.alone colon symbol) all = none_proper
spelled_end _ _ (spells.with_statement colon ts s symbol spelled) all = spelled_simple ts s spelled (rest_spelled colon ts all)

-- a symbol and an expression, or nothing
spelled_optional : (symbol : List ℕ) (ts : List Token) (e : Option Expr) → SpellsOptional symbol ts e → AreSpelled ts → AreProper (names_of_option e)
spelled_optional symbol _ _ spells.absent all = none_proper
spelled_optional symbol _ _ (spells.present sign ts e is spelled) all = an_expression ts e spelled (rest_spelled sign ts all)

-- a parameter, with its annotation and its default
spelled_parameter : (ts : List Token) (p : Par) → SpellsParameter ts p → AreSpelled ts → IsProperParameter p
spelled_parameter _ _ (spells.parameter name ts us note default named spelled also) all =
    let after = rest_spelled name (ts ++ us) all in
    proper_parameter name.text note default (name_proper name named (first_spelled name (ts ++ us) all)) (spelled_optional _ ts note spelled (prefix_spelled ts us after))
    (spelled_optional _ us default also (suffix_spelled ts us after))

-- the parameters after `s`
spelled_parameters : (ts : List Token) (ps : List Par) → SpellsParameters ts ps → AreSpelled ts → All IsProperParameter ps
spelled_parameters _ _ (spells.itself word is) all = All-nil IsProperParameter
spelled_parameters _ _ (spells.and_parameter comma ts us ps p spelled symbol also) all =
    All-push IsProperParameter ps p (spelled_parameters ts ps spelled (prefix_spelled ts (comma ∷ us) all)) (spelled_parameter us p also (after_spelled ts us comma all))

-- what is between the parentheses of a function
spelled_signature : (ts : List Token) (has_self : Bool) (ps : List Par) → SpellsSignature ts has_self ps → AreSpelled ts → All IsProperParameter ps
spelled_signature _ _ _ spells.without_parameters all = All-nil IsProperParameter
spelled_signature _ _ _ (spells.with_parameters ts ps spelled) all = spelled_parameters ts ps spelled all
spelled_signature _ _ _ (spells.parameters_comma comma ts ps spelled symbol) all = spelled_parameters ts ps spelled (prefix_spelled ts (comma ∷ []) all)

-- the annotation of a function's result
spelled_result : (ts : List Token) (note : Option Expr) → SpellsResult ts note → AreSpelled ts → AreProper (names_of_option note)
spelled_result _ _ spells.unsaid all = none_proper
spelled_result _ _ (spells.nothing arrow word is none) all = none_proper
spelled_result _ _ (spells.something arrow ts e is spelled) all = an_expression ts e spelled (rest_spelled arrow ts all)

-- a logical line
pub spelled_line : (ts : List Token) (s : Stmt) → SpellsLine ts s → AreSpelled ts → IsProper s
spelled_line _ _ (spells.import_all from_word library import_word star is library_is import_is star_is) all = same_proper _ _ names-Import none_proper
spelled_line _ _ (spells.import_names from_word library import_word names is library_is import_is spelled) all = same_proper _ _ names-Import none_proper
spelled_line _ _ (spells.import_deque from_word library import_word deque is library_is import_is deque_is) all = same_proper _ _ names-Import none_proper
spelled_line _ _ (spells.class_alone word name colon is named symbol) all =
    same_proper _ _ (names-Class name.text None) (one_proper name.text (name_proper name named (first_spelled name (colon ∷ []) (rest_spelled word (name ∷ colon ∷ []) all))))
spelled_line _ _ (spells.class_of word name opening base closing colon is named is_open base_named is_close symbol) all =
    let last = closing ∷ colon ∷ [] in
    let after = rest_spelled word (name ∷ opening ∷ base ∷ last) all in
    let inside = rest_spelled opening (base ∷ last) (rest_spelled name (opening ∷ base ∷ last) after) in
    same_proper _ _ (names-Class name.text (Some base.text))
    (more_proper name.text (base.text ∷ []) (name_proper name named (first_spelled name (opening ∷ base ∷ last) after)) (one_proper base.text (name_proper base base_named (first_spelled base last inside))))
spelled_line _ _ (spells.defined word name opening closing ts us vs has_self ps note inner is named is_open spelled is_close note_is ends) all =
    let last = closing ∷ (us ++ vs) in
    let after = rest_spelled word (name ∷ opening ∷ (ts ++ last)) all in
    let inside = rest_spelled opening (ts ++ last) (rest_spelled name (opening ∷ (ts ++ last)) after) in
    let rest = after_spelled ts (us ++ vs) closing inside in
    proper_function name.text has_self ps note inner (name_proper name named (first_spelled name (opening ∷ (ts ++ last)) after)) (spelled_signature ts has_self ps spelled (prefix_spelled ts last inside))
    (spelled_result us note note_is (prefix_spelled us vs rest)) (spelled_end vs inner ends (suffix_spelled us vs rest))
spelled_line _ _ (spells.marked at_sign name is named) all =
    same_proper _ _ (names-Mark name.text) (one_proper name.text (name_proper name named (first_spelled name [] (rest_spelled at_sign (name ∷ []) all))))
spelled_line _ _ (spells.guarded at_sign word opening lambda self colon closing ts e is word_is is_open lambda_is self_is symbol spelled is_close) all =
    let prefix = at_sign ∷ word ∷ opening ∷ lambda ∷ self ∷ colon ∷ [] in
    same_proper _ _ (names-NonBlocking e) (an_expression ts e spelled (prefix_spelled ts (closing ∷ []) (suffix_spelled prefix (ts ++ closing ∷ []) all)))
spelled_line _ _ (spells.if_line word ts us condition inner is spelled ends) all =
    let after = rest_spelled word (ts ++ us) all in
    same_proper _ _ (names-If condition inner) (both_proper (names_of_expression condition) (names_after_colon inner) (an_expression ts condition spelled (prefix_spelled ts us after))
    (spelled_end us inner ends (suffix_spelled ts us after)))
spelled_line _ _ (spells.elif_line word ts us condition inner is spelled ends) all =
    let after = rest_spelled word (ts ++ us) all in
    same_proper _ _ (names-Elif condition inner) (both_proper (names_of_expression condition) (names_after_colon inner) (an_expression ts condition spelled (prefix_spelled ts us after))
    (spelled_end us inner ends (suffix_spelled ts us after)))
spelled_line _ _ (spells.else_line word ts inner is ends) all = same_proper _ _ (names-Else inner) (spelled_end ts inner ends (rest_spelled word ts all))
spelled_line _ _ (spells.for_line word ts us name bounds inner is range ends) all =
    let after = rest_spelled word (ts ++ us) all in
    let read = spelled_range ts (name, bounds) range (prefix_spelled ts us after) in
    proper_loop name bounds inner read.0 read.1 (spelled_end us inner ends (suffix_spelled ts us after))
spelled_line _ _ (spells.simple ts s spelled) all = spelled_simple ts s spelled all
