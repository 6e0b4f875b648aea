-- That the tokens of a logical line spell one statement.
use Rattle.std.proofs.Common.{◌≡◌, ◌⊎◌, ◌++◌, ◌∙◌, ℕ, Bool, false, true, IsTrue, List, [], ◌∷◌, codes, Option, Some, None, append_assoc, refl, sym, ap, subst, inl, inr}
use Rattle.std.proofs.lemmas.Bool.{both_ways, false_from_ne_true, false≢true, or_left, or_right}
use Rattle.std.specs.Str.{bytes_eq}
use Rattle.pm_syn.specs.declared.expression.Expr.{Expr}
use Rattle.pm_syn.specs.declared.statement.Par.{Par}
use Rattle.pm_syn.specs.declared.statement.Stmt.{Stmt}
use Rattle.pm_syn.specs.declared.statement.Stmt as leaf
use Rattle.pm_syn.specs.declared.statement.Stmt.TheViews as stmt
use Rattle.pm_syn.specs.declared.token.Token.{Token}
use Rattle.pm_grammar.specs.Prefixes.{IsNotFirst, begins_with}
use Rattle.pm_grammar.specs.Brackets.{ends_argument}
use Rattle.pm_grammar.specs.Headers.{IsCondition, IsGuard, IsOnlyOptional, IsSignature, OpensGuard, SpellsBase, SpellsBranch, SpellsClass, SpellsDecorator, SpellsDefinition, SpellsFunctionEnd, SpellsImport}
use Rattle.pm_grammar.specs.Headers as header
use Rattle.pm_grammar.specs.Laws.{TokensSpellOneStatement}
use Rattle.pm_grammar.specs.Tokens.{is_symbol, is_name, is_word}
use Rattle.pm_grammar.specs.Reading.{Ends, IsOnlyBefore}
use Rattle.pm_grammar.specs.Statements.{IsExpression, SpellsEnd, SpellsLine, SpellsOptional, SpellsParameter, SpellsParameters, SpellsResult, SpellsSignature, SpellsSimple}
use Rattle.pm_grammar.specs.Statements as line
use Rattle.pm_grammar.specs.declared.level.Level.TheVariants as level
use Rattle.pm_grammar.proofs.Headers.{elif_read, else_read, expression_before, guard_read_once, if_read, none_behind, only_alone, only_before_end, only_with, optional_behind, pair_is, result_behind, some_behind}
use Rattle.pm_grammar.proofs.Headers as headers
use Rattle.pm_grammar.proofs.ExpressionStarts.{none_opens, opens, opens_expression}
use Rattle.pm_grammar.proofs.OneSymbol.{argument_ends, ends_colon, ends_parenthesis, mark_no_name, mark_no_word, no_argument_end, other_mark, other_word, word_no_mark}
use Rattle.pm_grammar.proofs.StatementStarts.{no_simple_at, no_simple_class, no_simple_def, no_simple_elif, no_simple_else, no_simple_for, no_simple_from, no_simple_if, opens_simple, opens_statement}
use Rattle.pm_grammar.proofs.Lines.{at_only, branch_only, class_only, def_only, for_only, from_only}
use Rattle.pm_grammar.proofs.OneExpression.{only_expression_spelled, only_range_spelled}
use Rattle.pm_grammar.proofs.OneSimpleStatement.{one_simple}
use Rattle.pm_grammar.proofs.Signatures.{IsGoingOn, IsOnlyParameter, definition_only, function_end_parts, goes_first, goes_next, no_self_only, note_ends, only_parameter, signature_only, trailing_only}

-- ---- the end of a header

one_end : (ts : List Token) (body : Option Stmt) → SpellsEnd ts body → (other : Option Stmt) → SpellsEnd ts other → other ≡ body
one_end _ _ (line.alone colon is) other also = only_alone (colon ∷ []) [] (colon, refl, is) refl other also
one_end _ _ (line.with_statement colon ts s is spelled) other also =
    let some : ts ≡ [] → ⊥ = λ none. (let none_opens = subst (λ (us : List Token). IsTrue (begins_with opens_simple us)) none (opens_statement spelled) in false≢true none_opens) in
    let read = only_with (colon ∷ ts) ts (colon, refl, is) some other also in
    read.1 ∙ ap Some (one_simple ts s spelled read.0 read.2)

-- the end of a header begins with a colon
end_begun : (ts : List Token) (body : Option Stmt) → SpellsEnd ts body → (colon : Token) × (us : List Token) × (ts ≡ colon ∷ us) × IsTrue (is_symbol (codes ":") colon)
end_begun _ _ (line.alone colon is) = (colon, [], refl, is)
end_begun _ _ (line.with_statement colon ts s is spelled) = (colon, ts, refl, is)

-- no expression continues there
end_ends : (ts : List Token) (body : Option Stmt) → SpellsEnd ts body → Ends level.Conditional ts
end_ends _ _ (line.alone colon is) = ends_colon colon is
end_ends _ _ (line.with_statement colon ts s is spelled) = ends_colon colon is

-- a condition, and the end of its header
one_condition : (ts us : List Token) (condition : Expr) (body : Option Stmt) → IsExpression ts condition → SpellsEnd us body → (p : Expr × Option Stmt) → IsCondition (ts ++ us) p.0 p.1 → p ≡ (condition, body)
one_condition ts us condition body spelled ends p is =
    let only = expression_before (ts ++ us) (Some (condition, us)) (only_expression_spelled ts us condition spelled (end_ends us body ends)) in
    let read = only_before_end IsExpression (ts ++ us) us condition only p.0 is.0 p.1 is.1 is.2 in
    pair_is p condition body read.0 (one_end us body ends p.1 read.1)

-- ---- parameters

one_optional : (bytes : List ℕ) (ts rest : List Token) (e : Option Expr) → SpellsOptional bytes ts e → IsNotFirst (is_symbol bytes) rest → Ends level.Conditional rest → IsOnlyOptional bytes (ts ++ rest) (Some (e, rest))
one_optional bytes _ rest _ line.absent not_there ends = λ other left begins left_not left_ends. none_there begins.0 left other begins.1 begins.2 where
  none_there : (front left : List Token) (other : Option Expr) → rest ≡ front ++ left → SpellsOptional bytes front other → (other ≡ None) × (left ≡ rest)
  none_there _ left _ split line.absent = (refl, sym split)
  none_there _ left _ split (line.present sign us e is spelled) = absurd (both_ways (is_symbol bytes sign) (subst (IsNotFirst (is_symbol bytes)) split not_there) is)
one_optional bytes _ rest _ (line.present sign ts e is spelled) not_there ends = λ other left begins left_not left_ends.
    let read = optional_behind bytes (sign ∷ (ts ++ rest)) (ts ++ rest) (sign, refl, is) other left begins left_not in
    let same = only_expression_spelled ts rest e spelled ends read.0 left read.2 left_ends in
    (read.1 ∙ ap Some same.0, same.1)

one_parameter : (ts : List Token) (p : Par) → SpellsParameter ts p → (next : Token) (rest : List Token) → IsTrue (ends_argument next) → IsOnlyParameter (ts ++ next ∷ rest) (Some (p, next ∷ rest))
one_parameter _ _ (line.parameter name ts us note default named note_is default_is) next rest is =
    let behind = next ∷ rest in
    let mid = us ++ behind in
    let tail = (ts ++ us) ++ behind in
    let ends = note_ends default_is next rest is in
    let notes : IsOnlyOptional (codes ":") tail (Some (note, mid)) =
    subst (λ (xs : List Token). IsOnlyOptional (codes ":") xs (Some (note, mid))) (sym (append_assoc ts us behind)) (one_optional (codes ":") ts mid note note_is ends.0 ends.1) in
    let defaults : IsOnlyOptional (codes "=") mid (Some (default, behind)) = one_optional (codes "=") us behind default default_is (no_argument_end (codes "=") next refl refl is) (argument_ends next is) in
    only_parameter (name ∷ tail) tail mid behind name name.text note default refl notes defaults refl

-- a parameter begins with a name
parameter_begun : (ts : List Token) (p : Par) → SpellsParameter ts p → (rest : List Token) → begins_with (is_symbol (codes ")")) (ts ++ rest) ≡ false
parameter_begun _ _ (line.parameter name _ _ _ _ named _ _) rest = false_from_ne_true _ (λ is. both_ways (is_name name) (mark_no_name (codes ")") name is) named)

one_going_on : (ts : List Token) (ps : List Par) → SpellsParameters ts ps → (next : Token) (rest : List Token) → IsTrue (ends_argument next) → IsGoingOn (ts ++ next ∷ rest) ps (next ∷ rest)
one_going_on _ _ (line.itself word is) next rest ends = goes_first (word ∷ next ∷ rest) (next ∷ rest) (word, refl, is)
one_going_on _ _ (line.and_parameter comma ts us ps p first mark spelled) next rest ends =
    let tail = us ++ next ∷ rest in
    let inner = one_going_on ts ps first comma tail (or_left _ _ mark) in
    subst (λ (xs : List Token). IsGoingOn xs (ps ++ p ∷ []) (next ∷ rest)) (sym (append_assoc ts (comma ∷ us) (next ∷ rest)))
    (goes_next (ts ++ comma ∷ tail) (comma ∷ tail) tail (next ∷ rest) ps p inner (comma, refl, mark) (parameter_begun us p spelled (next ∷ rest)) (one_parameter us p spelled next rest ends))

-- what comes between the parentheses of a function
abbrev IsOneSignature : List Token → Bool → List Par → Type 0
IsOneSignature ts has_self ps = (closing : Token) (rest : List Token) → IsTrue (is_symbol (codes ")") closing) → IsOnlyBefore IsSignature (codes ")") (ts ++ closing ∷ rest) (Some ((has_self, ps), closing ∷ rest))

one_signature : (ts : List Token) (has_self : Bool) (ps : List Par) → SpellsSignature ts has_self ps → IsOneSignature ts has_self ps
one_signature _ _ _ line.without_parameters = λ closing rest is. no_self_only (closing ∷ rest) (mark_no_word (codes ")") (codes "s") closing is)
one_signature _ _ _ (line.with_parameters ts ps spelled) = λ closing rest is.
    signature_only (ts ++ closing ∷ rest) (closing ∷ rest) ps (one_going_on ts ps spelled closing rest (or_right _ _ is)) (other_mark (codes ")") (codes ",") closing refl is)
one_signature _ _ _ (line.parameters_comma comma ts ps spelled mark) = λ closing rest is.
    subst (λ (xs : List Token). IsOnlyBefore IsSignature (codes ")") xs (Some ((true, ps), closing ∷ rest))) (sym (append_assoc ts (comma ∷ []) (closing ∷ rest)))
    (trailing_only (ts ++ comma ∷ closing ∷ rest) (comma ∷ closing ∷ rest) (closing ∷ rest) ps (one_going_on ts ps spelled comma (closing ∷ rest) (or_left _ _ mark)) (comma, refl, mark) is)

-- ---- the annotation of a result

-- no arrow is there
no_arrow : (front rest left : List Token) (other : Option Expr) (colon : Token) → SpellsResult front other → rest ≡ front ++ left → IsTrue (is_symbol (codes ":") colon) → (us : List Token) → rest ≡ colon ∷ us → (other ≡ None) × (left ≡ rest)
no_arrow _ rest left _ colon line.unsaid split is us there = (refl, sym split)
no_arrow _ rest left _ colon (line.nothing arrow word mark none) split is us there =
    let same : colon ≡ arrow = cc in
    absurd (both_ways (is_symbol (codes "->") colon) (other_mark (codes ":") (codes "->") colon refl is) (subst (λ (t : Token). IsTrue (is_symbol (codes "->") t)) (sym same) mark))
no_arrow _ rest left _ colon (line.something arrow ts e mark spelled) split is us there =
    let same : colon ≡ arrow = cc in
    absurd (both_ways (is_symbol (codes "->") colon) (other_mark (codes ":") (codes "->") colon refl is) (subst (λ (t : Token). IsTrue (is_symbol (codes "->") t)) (sym same) mark))

-- `None` begins no expression
no_none : (ts rest : List Token) → IsTrue (begins_with opens ts) → IsNotFirst (is_word (codes "None")) (ts ++ rest)
no_none [] rest begun = absurd (false≢true begun)
no_none (t ∷ ts) rest begun = false_from_ne_true _ (λ is. both_ways (opens t) (none_opens t is) begun)

one_result : (ts : List Token) (e : Option Expr) → SpellsResult ts e → (rest : List Token) (body : Option Stmt) → SpellsEnd rest body → IsOnlyBefore SpellsResult (codes ":") (ts ++ rest) (Some (e, rest))
one_result _ _ line.unsaid rest body ends = λ other closing left is begins.
    let begun = end_begun rest body ends in
    no_arrow begins.0 rest (closing ∷ left) other begun.0 begins.2 begins.1 begun.3 begun.1 begun.2
one_result _ _ (line.nothing arrow word mark none) rest body ends = λ other closing left is begins.
    none_behind (word ∷ rest) rest (closing ∷ left) other (word, refl, none) (result_behind (arrow ∷ word ∷ rest) (word ∷ rest) (arrow, refl, mark) other closing left is begins)
one_result _ _ (line.something arrow ts e mark spelled) rest body ends = λ other closing left is begins.
    let read = some_behind (ts ++ rest) (closing ∷ left) other (no_none ts rest (opens_expression spelled)) (result_behind (arrow ∷ (ts ++ rest)) (ts ++ rest) (arrow, refl, mark) other closing left is begins) in
    let same = only_expression_spelled ts rest e spelled (end_ends rest body ends) read.0 (closing ∷ left) read.2 (ends_colon closing is) in
    (read.1 ∙ ap Some same.0, same.1)

-- ---- lines by their first token

one_import : (ts : List Token) (word : Token) → IsTrue (is_word (codes "from") word) → (other : Stmt) → SpellsLine (word ∷ ts) other → other ≡ leaf.Import
one_import ts word is other also = (from_only (word ∷ ts) ts word other refl is also).1

-- a class, token by token
class_is : (ts : List Token) (s : Stmt) → SpellsClass ts s
    → ((name colon : Token) × (ts ≡ name ∷ colon ∷ []) × (s ≡ leaf.Class name.text None))
    ⊎ ((name opening base closing colon : Token) × (ts ≡ name ∷ opening ∷ base ∷ closing ∷ colon ∷ []) × (s ≡ leaf.Class name.text (Some base.text)))
class_is _ _ (header.without_base name colon is mark) = inl (name, colon, refl, refl)
class_is _ _ (header.with_base name base ts is spelled) =
    let parts = base_is ts base spelled in
    inr (name, parts.0, base, parts.1, parts.2, ap (λ (xs : List Token). name ∷ xs) parts.3, refl)
  where
    base_is : (us : List Token) (one : Token) → SpellsBase us one → (opening closing colon : Token) × (us ≡ opening ∷ one ∷ closing ∷ colon ∷ [])
    base_is _ _ (header.based opening one closing colon _ _ _ _) = (opening, closing, colon, refl)

one_class_alone : (name colon : Token) (other : Stmt) → SpellsClass (name ∷ colon ∷ []) other → other ≡ leaf.Class name.text None
one_class_alone name colon other also =
    elim (class_is (name ∷ colon ∷ []) other also) [
      | inl parts ↦
          let front = parts.2 in
          let same : parts.0 ≡ name = cc in
          parts.3 ∙ ap (λ (t : Token). leaf.Class t.text None) same
      | inr parts ↦ let front = parts.5 in absurd cc
    ]

one_class_of : (name opening base closing colon : Token) (other : Stmt) → SpellsClass (name ∷ opening ∷ base ∷ closing ∷ colon ∷ []) other → other ≡ leaf.Class name.text (Some base.text)
one_class_of name opening base closing colon other also =
    elim (class_is (name ∷ opening ∷ base ∷ closing ∷ colon ∷ []) other also) [
      | inl parts ↦ let front = parts.2 in absurd cc
      | inr parts ↦
          let front = parts.5 in
          let same : parts.0 ≡ name = cc in
          let same_base : parts.2 ≡ base = cc in
          parts.6 ∙ ap (λ (t : Token). leaf.Class t.text (Some parts.2.text)) same ∙ ap (λ (t : Token). leaf.Class name.text (Some t.text)) same_base
    ]

one_mark : (name : Token) (other : Stmt) → SpellsDecorator (name ∷ []) other → other ≡ leaf.Mark name.text
one_mark name other also = go (name ∷ []) other also refl where
  no_guard : (us vs : List Token) → OpensGuard us vs → us ≡ [] → ⊥
  no_guard _ _ (header.opened opening lambda self colon rest _ _ _ _) none = cc

  go : (ts : List Token) (s : Stmt) → SpellsDecorator ts s → ts ≡ name ∷ [] → s ≡ leaf.Mark name.text
  go _ _ (header.mark one is) front = let same : one ≡ name = cc in ap (λ (t : Token). leaf.Mark t.text) same
  go _ _ (header.guard word us vs e is opens_it inner) front = absurd (no_guard us vs opens_it cc)

one_guard : (ts : List Token) (closing : Token) (e : Expr) → IsExpression ts e → IsTrue (is_symbol (codes ")") closing) → (other : Expr) → IsGuard (ts ++ closing ∷ []) other → other ≡ e
one_guard ts closing e spelled is other found =
    (only_expression_spelled ts (closing ∷ []) e spelled (ends_parenthesis closing is) other (found.0 ∷ []) found.2 (ends_parenthesis found.0 found.1)).0

-- no header begins with a word or a symbol with which a simple statement begins
one_branch : (ts : List Token) (s : Stmt) → IsTrue (begins_with opens_simple ts) → SpellsBranch ts s → SpellsSimple ts s
one_branch _ _ begun (header.if_branch word ts condition body is inner) = absurd (both_ways (opens_simple word) (no_simple_if word is) begun)
one_branch _ _ begun (header.elif_branch word ts condition body is inner) = absurd (both_ways (opens_simple word) (no_simple_elif word is) begun)
one_branch _ _ begun (header.else_branch word ts body is ends) = absurd (both_ways (opens_simple word) (no_simple_else word is) begun)
one_branch ts s begun (header.simple_branch _ _ spelled) = spelled

simple_line : (ts : List Token) (s : Stmt) → IsTrue (begins_with opens_simple ts) → SpellsLine ts s → SpellsSimple ts s
simple_line [] s begun spelled = absurd (false≢true begun)
simple_line (t ∷ ts) s begun spelled =
    let never = λ (test : Token → Bool) (no : IsTrue (test t) → opens_simple t ≡ false). false_from_ne_true (test t) (λ is. both_ways (opens_simple t) (no is) begun) in
    one_branch (t ∷ ts) s begun (branch_only (t ∷ ts) ts t s refl (never (is_symbol (codes "@")) (no_simple_at t)) (never (is_word (codes "from")) (no_simple_from t)) (never (is_word (codes "class")) (no_simple_class t)) (never (is_word (codes "def")) (no_simple_def t)) (never (is_word (codes "for")) (no_simple_for t)) spelled)

-- if `if`, `elif` or `else` comes first
branch_line : (bytes : List ℕ) (word : Token) (ts : List Token) (s : Stmt) → bytes_eq bytes (codes "from") ≡ false → bytes_eq bytes (codes "class") ≡ false → bytes_eq bytes (codes "def") ≡ false → bytes_eq bytes (codes "for") ≡ false
    → IsTrue (is_word bytes word) → SpellsLine (word ∷ ts) s → SpellsBranch (word ∷ ts) s
branch_line bytes word ts s no_from no_class no_def no_for is spelled =
    branch_only (word ∷ ts) ts word s refl (word_no_mark bytes (codes "@") word is) (other_word bytes (codes "from") word no_from is) (other_word bytes (codes "class") word no_class is) (other_word bytes (codes "def") word no_def is) (other_word bytes (codes "for") word no_for is) spelled

one_definition : (name opening closing : Token) (ts us vs : List Token) (has_self : Bool) (ps : List Par) (result : Option Expr) (body : Option Stmt) → IsTrue (is_symbol (codes "(") opening) → SpellsSignature ts has_self ps
    → IsTrue (is_symbol (codes ")") closing) → SpellsResult us result → SpellsEnd vs body → (other : Stmt) → SpellsDefinition (name ∷ opening ∷ (ts ++ closing ∷ (us ++ vs))) other → other ≡ stmt.Def name.text has_self ps result body
one_definition name opening closing ts us vs has_self ps result body is_open signature is_close result_is ends other also =
    let rest = closing ∷ (us ++ vs) in
    let behind = ts ++ rest in
    let only_end = λ (end : Option Expr × Option Stmt) (spelled : SpellsFunctionEnd rest end.0 end.1).
    (let parts = function_end_parts rest (us ++ vs) vs result (closing, refl, is_close) (one_result us result result_is vs body ends) end.0 end.1 spelled in pair_is end result body parts.0 (one_end vs body ends end.1 parts.1)) in
    definition_only (name ∷ opening ∷ behind) (opening ∷ behind) behind rest name name.text (has_self, ps) result body refl (opening, refl, is_open)
    (one_signature ts has_self ps signature closing (us ++ vs) is_close) only_end refl other also

-- ---- all lines

one_line : (ts : List Token) (s : Stmt) → SpellsLine ts s → (other : Stmt) → SpellsLine ts other → other ≡ s
one_line _ _ (line.import_all from_word library import_word star is library_is import_is star_is) other also = one_import _ from_word is other also
one_line _ _ (line.import_names from_word library import_word names is library_is import_is spelled) other also = one_import _ from_word is other also
one_line _ _ (line.import_deque from_word library import_word deque is library_is import_is deque_is) other also = one_import _ from_word is other also
one_line _ _ (line.class_alone word name colon is named mark) other also = one_class_alone name colon other (class_only (word ∷ name ∷ colon ∷ []) (name ∷ colon ∷ []) word other refl is also)
one_line _ _ (line.class_of word name opening base closing colon is named is_open base_named is_close mark) other also =
    let behind = name ∷ opening ∷ base ∷ closing ∷ colon ∷ [] in
    one_class_of name opening base closing colon other (class_only (word ∷ behind) behind word other refl is also)
one_line _ _ (line.defined word name opening closing ts us vs has_self ps result body is named is_open signature is_close result_is ends) other also =
    let behind = name ∷ opening ∷ (ts ++ closing ∷ (us ++ vs)) in
    one_definition name opening closing ts us vs has_self ps result body is_open signature is_close result_is ends other (def_only (word ∷ behind) behind word other refl is also)
one_line _ _ (line.marked at_sign name is named) other also = one_mark name other (at_only (at_sign ∷ name ∷ []) (name ∷ []) at_sign other refl is also)
one_line _ _ (line.guarded at_sign word opening lambda self colon closing ts e is word_is is_open lambda_is self_is mark spelled is_close) other also =
    let behind = ts ++ closing ∷ [] in
    let rest = opening ∷ lambda ∷ self ∷ colon ∷ behind in
    guard_read_once (word ∷ rest) rest behind word e refl (λ none. cc) (header.opened opening lambda self colon behind is_open lambda_is self_is mark) (one_guard ts closing e spelled is_close) other
    (at_only (at_sign ∷ word ∷ rest) (word ∷ rest) at_sign other refl is also)
one_line _ _ (line.if_line word ts us condition body is spelled ends) other also =
    if_read (word ∷ (ts ++ us)) (ts ++ us) condition body (word, refl, is) (one_condition ts us condition body spelled ends) other (branch_line (codes "if") word (ts ++ us) other refl refl refl refl is also)
one_line _ _ (line.elif_line word ts us condition body is spelled ends) other also =
    elif_read (word ∷ (ts ++ us)) (ts ++ us) condition body (word, refl, is) (one_condition ts us condition body spelled ends) other (branch_line (codes "elif") word (ts ++ us) other refl refl refl refl is also)
one_line _ _ (line.else_line word ts body is ends) other also =
    else_read (word ∷ ts) ts body (word, refl, is) (one_end ts body ends) other (branch_line (codes "else") word ts other refl refl refl refl is also)
one_line _ _ (line.for_line word ts us name bounds body is range ends) other also =
    headers.for_only (ts ++ us) us (name, bounds) body (only_range_spelled ts (name, bounds) range us) (one_end us body ends) other (for_only (word ∷ (ts ++ us)) (ts ++ us) word other refl is also)
one_line _ _ (line.simple ts s spelled) other also = one_simple ts s spelled other (simple_line ts other (opens_statement spelled) also)

pub tokens_spell_one_statement : TokensSpellOneStatement
tokens_spell_one_statement tokens one other spelled also = one_line tokens other also one spelled
