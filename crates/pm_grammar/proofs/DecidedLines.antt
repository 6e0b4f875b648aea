-- Whether tokens spell the parts of a header, and whether those of a logical line spell a statement.
use Rattle.std.proofs.Common.{◌<◌, ◌≤◌, ◌++◌, ℕ, suc, zero, Bool, true, false, List, [], ◌∷◌, codes, length, arith, inl, inr}
use Rattle.std.specs.Prelude.{Option, Some, None, Result, Ok, Err, nat_lt}
use Rattle.std.proofs.lemmas.Bool.{cases_Bool}
use Rattle.std.proofs.lemmas.Bool.Decides.{nat_tests}
use Rattle.pm_syn.specs.declared.expression.Expr.{Expr}
use Rattle.pm_syn.specs.declared.statement.Par.{Par}
use Rattle.pm_syn.specs.declared.statement.Stmt.{Stmt}
use Rattle.pm_syn.specs.declared.statement.Stmt as leaf
use Rattle.pm_syn.specs.declared.statement.Stmt.TheViews as stmt
use Rattle.pm_syn.specs.declared.token.Token.{Token}
use Rattle.pm_grammar.specs.Answers.{IsLineAnswer}
use Rattle.pm_grammar.specs.Depths.{depth_of_statement}
use Rattle.pm_grammar.specs.Expressions.{SpellsRange}
use Rattle.pm_grammar.specs.Laws.{EveryLineHasAnAnswer}
use Rattle.pm_grammar.specs.Tokens.{is_symbol, is_name, is_word}
use Rattle.pm_grammar.specs.Statements.{SpellsEnd, SpellsLine, SpellsNames, SpellsOptional, SpellsParameter, SpellsParameters, SpellsResult, SpellsSignature, SpellsSimple}
use Rattle.pm_grammar.specs.declared.fault.LineFault.{LineFault}
use Rattle.pm_grammar.specs.declared.fault.LineFault.TheVariants as fault
use Rattle.pm_grammar.proofs.DecidedExpressions.{AnyExpression, decide_range}
use Rattle.pm_grammar.proofs.DecidedSimpleStatements.{decide_simple, expressions}
use Rattle.pm_grammar.proofs.Decisions.{Decided, Decision, Found, IsEmpty, Next, Split, after, decide_empty, decide_split_at, in_two, or_else}

-- ---- the end of a header

abbrev Alone : List Token → Type 0
Alone = Next (is_symbol (codes ":")) IsEmpty

abbrev WithStatement : List Token → Type 0
WithStatement = Next (is_symbol (codes ":")) (Found SpellsSimple)

alone : (tokens : List Token) → Alone tokens → Found SpellsEnd tokens
alone _ (Next.next colon _ is IsEmpty.empty) = (None, SpellsEnd.alone colon is)

with_statement : (tokens : List Token) → WithStatement tokens → Found SpellsEnd tokens
with_statement _ (Next.next colon ts is s) = (Some s.0, SpellsEnd.with_statement colon ts s.0 is s.1)

no_end : (tokens : List Token) (body : Option Stmt) → SpellsEnd tokens body → (Alone tokens → ⊥) → (WithStatement tokens → ⊥) → ⊥
no_end _ _ (SpellsEnd.alone colon is) no_alone no_with = no_alone (Next.next colon [] is IsEmpty.empty)
no_end _ _ (SpellsEnd.with_statement colon ts s is spelled) no_alone no_with = no_with (Next.next colon ts is (s, spelled))

decide_alone : (n : ℕ) → Decided n Alone
decide_alone n = after (decide_empty n)

decide_with_statement : (n : ℕ) → Decided n WithStatement
decide_with_statement n = after (decide_simple n)

decide_end : (n : ℕ) → Decided n (Found SpellsEnd)
decide_end n tokens below =
    or_else (decide_alone n tokens below) (alone tokens) (λ no_alone.
    or_else (decide_with_statement n tokens below) (with_statement tokens) (λ no_with.
    inr (λ found. no_end tokens found.0 found.1 no_alone no_with)))

-- ---- names

abbrev OneName : List Token → Type 0
OneName = Next is_name IsEmpty

abbrev MoreNames : List Token → Type 0
MoreNames = Split SpellsNames (Next (is_symbol (codes ",")) OneName)

one_name : (tokens : List Token) → OneName tokens → SpellsNames tokens
one_name _ (Next.next name _ is IsEmpty.empty) = SpellsNames.one_name name is

more_names : (tokens : List Token) → MoreNames tokens → SpellsNames tokens
more_names _ (Split.split ts _ names (Next.next comma _ is (Next.next name _ named IsEmpty.empty))) = SpellsNames.more_names ts comma name names is named

no_names : (tokens : List Token) → SpellsNames tokens → (OneName tokens → ⊥) → (MoreNames tokens → ⊥) → ⊥
no_names _ (SpellsNames.one_name name is) no_one no_more = no_one (Next.next name [] is IsEmpty.empty)
no_names _ (SpellsNames.more_names ts comma name names is named) no_one no_more = no_more (Split.split ts (comma ∷ name ∷ []) names (Next.next comma (name ∷ []) is (Next.next name [] named IsEmpty.empty)))

decide_name : (n : ℕ) → Decided n OneName
decide_name n = after (decide_empty n)

decide_names : (n : ℕ) → Decided n SpellsNames
decide_names zero = λ tokens below. absurd (omega arith)
decide_names (suc n) = λ tokens below.
    or_else (decide_name (suc n) tokens below) (one_name tokens) (λ no_one.
    or_else (decide_split_at n SpellsNames (is_symbol (codes ",")) OneName (decide_names n) (decide_name n) tokens below) (more_names tokens) (λ no_more.
    inr (λ names. no_names tokens names no_one no_more)))

-- ---- parameters

abbrev Present : List ℕ → List Token → Type 0
Present symbol = Next (is_symbol symbol) AnyExpression

absent : (symbol : List ℕ) (tokens : List Token) → IsEmpty tokens → Found (SpellsOptional symbol) tokens
absent symbol _ IsEmpty.empty = (None, SpellsOptional.absent)

present : (symbol : List ℕ) (tokens : List Token) → Present symbol tokens → Found (SpellsOptional symbol) tokens
present symbol _ (Next.next sign ts is e) = (Some e.0, SpellsOptional.present sign ts e.0 is e.1)

no_optional : (symbol : List ℕ) (tokens : List Token) (e : Option Expr) → SpellsOptional symbol tokens e → (IsEmpty tokens → ⊥) → (Present symbol tokens → ⊥) → ⊥
no_optional symbol _ _ SpellsOptional.absent no_absent no_present = no_absent IsEmpty.empty
no_optional symbol _ _ (SpellsOptional.present sign ts e is spelled) no_absent no_present = no_present (Next.next sign ts is (e, spelled))

decide_present : (n : ℕ) (symbol : List ℕ) → Decided n (Present symbol)
decide_present n symbol = after (expressions n)

decide_optional : (n : ℕ) (symbol : List ℕ) → Decided n (Found (SpellsOptional symbol))
decide_optional n symbol tokens below =
    or_else (decide_empty n tokens below) (absent symbol tokens) (λ no_absent.
    or_else (decide_present n symbol tokens below) (present symbol tokens) (λ no_present.
    inr (λ found. no_optional symbol tokens found.0 found.1 no_absent no_present)))

abbrev ParameterForm : List Token → Type 0
ParameterForm = Next is_name (Split (Found (SpellsOptional (codes ":"))) (Found (SpellsOptional (codes "="))))

parameter : (tokens : List Token) → ParameterForm tokens → Found SpellsParameter tokens
parameter _ (Next.next name _ is (Split.split ts us note default)) =
    (record { name = name.text; note = note.0; default = default.0 }, SpellsParameter.parameter name ts us note.0 default.0 is note.1 default.1)

no_parameter : (tokens : List Token) (p : Par) → SpellsParameter tokens p → (ParameterForm tokens → ⊥) → ⊥
no_parameter _ _ (SpellsParameter.parameter name ts us note default is note_is default_is) no_form = no_form (Next.next name (ts ++ us) is (Split.split ts us (note, note_is) (default, default_is)))

decide_parameter_form : (n : ℕ) → Decided n ParameterForm
decide_parameter_form n = after (in_two (decide_optional n (codes ":")) (decide_optional n (codes "=")))

decide_parameter : (n : ℕ) → Decided n (Found SpellsParameter)
decide_parameter n tokens below = or_else (decide_parameter_form n tokens below) (parameter tokens) (λ no_form. inr (λ found. no_parameter tokens found.0 found.1 no_form))

abbrev Itself : List Token → Type 0
Itself = Next (is_word (codes "s")) IsEmpty

abbrev AndParameter : List Token → Type 0
AndParameter = Split (Found SpellsParameters) (Next (is_symbol (codes ",")) (Found SpellsParameter))

itself : (tokens : List Token) → Itself tokens → Found SpellsParameters tokens
itself _ (Next.next word _ is IsEmpty.empty) = ([], SpellsParameters.itself word is)

and_parameter : (tokens : List Token) → AndParameter tokens → Found SpellsParameters tokens
and_parameter _ (Split.split ts _ ps (Next.next comma us is p)) = (ps.0 ++ p.0 ∷ [], SpellsParameters.and_parameter comma ts us ps.0 p.0 ps.1 is p.1)

no_parameters : (tokens : List Token) (ps : List Par) → SpellsParameters tokens ps → (Itself tokens → ⊥) → (AndParameter tokens → ⊥) → ⊥
no_parameters _ _ (SpellsParameters.itself word is) no_itself no_and = no_itself (Next.next word [] is IsEmpty.empty)
no_parameters _ _ (SpellsParameters.and_parameter comma ts us ps p before is spelled) no_itself no_and = no_and (Split.split ts (comma ∷ us) (ps, before) (Next.next comma us is (p, spelled)))

decide_itself : (n : ℕ) → Decided n Itself
decide_itself n = after (decide_empty n)

decide_parameters : (n : ℕ) → Decided n (Found SpellsParameters)
decide_parameters zero = λ tokens below. absurd (omega arith)
decide_parameters (suc n) = λ tokens below.
    or_else (decide_itself (suc n) tokens below) (itself tokens) (λ no_itself.
    or_else (decide_split_at n (Found SpellsParameters) (is_symbol (codes ",")) (Found SpellsParameter) (decide_parameters n) (decide_parameter n) tokens below) (and_parameter tokens) (λ no_and.
    inr (λ found. no_parameters tokens found.0 found.1 no_itself no_and)))

-- ---- the head of a function

-- what stands between its parentheses
abbrev SignatureForm : List Token → Type 0
SignatureForm tokens = (has_self : Bool) × (ps : List Par) × SpellsSignature tokens has_self ps

abbrev ParametersComma : List Token → Type 0
ParametersComma = Split (Found SpellsParameters) (Next (is_symbol (codes ",")) IsEmpty)

without_parameters : (tokens : List Token) → IsEmpty tokens → SignatureForm tokens
without_parameters _ IsEmpty.empty = (false, [], SpellsSignature.without_parameters)

parameters_comma : (tokens : List Token) → ParametersComma tokens → SignatureForm tokens
parameters_comma _ (Split.split ts _ ps (Next.next comma _ is IsEmpty.empty)) = (true, ps.0, SpellsSignature.parameters_comma comma ts ps.0 ps.1 is)

no_signature : (tokens : List Token) (has_self : Bool) (ps : List Par) → SpellsSignature tokens has_self ps → (IsEmpty tokens → ⊥) → (Found SpellsParameters tokens → ⊥) → (ParametersComma tokens → ⊥) → ⊥
no_signature _ _ _ SpellsSignature.without_parameters no_none no_some no_comma = no_none IsEmpty.empty
no_signature _ _ _ (SpellsSignature.with_parameters ts ps spelled) no_none no_some no_comma = no_some (ps, spelled)
no_signature _ _ _ (SpellsSignature.parameters_comma comma ts ps spelled is) no_none no_some no_comma = no_comma (Split.split ts (comma ∷ []) (ps, spelled) (Next.next comma [] is IsEmpty.empty))

decide_parameters_comma : (n : ℕ) → Decided n ParametersComma
decide_parameters_comma n = in_two (decide_parameters n) (after (decide_empty n))

decide_signature : (n : ℕ) → Decided n SignatureForm
decide_signature n tokens below =
    or_else (decide_empty n tokens below) (without_parameters tokens) (λ no_none.
    or_else (decide_parameters n tokens below) (λ some. (true, some.0, SpellsSignature.with_parameters tokens some.0 some.1)) (λ no_some.
    or_else (decide_parameters_comma n tokens below) (parameters_comma tokens) (λ no_comma.
    inr (λ found. no_signature tokens found.0 found.1 found.2 no_none no_some no_comma))))

abbrev ResultNone : List Token → Type 0
ResultNone = Next (is_symbol (codes "->")) (Next (is_word (codes "None")) IsEmpty)

abbrev ResultSome : List Token → Type 0
ResultSome = Next (is_symbol (codes "->")) AnyExpression

unsaid : (tokens : List Token) → IsEmpty tokens → Found SpellsResult tokens
unsaid _ IsEmpty.empty = (None, SpellsResult.unsaid)

nothing : (tokens : List Token) → ResultNone tokens → Found SpellsResult tokens
nothing _ (Next.next arrow _ is (Next.next word _ word_is IsEmpty.empty)) = (None, SpellsResult.nothing arrow word is word_is)

something : (tokens : List Token) → ResultSome tokens → Found SpellsResult tokens
something _ (Next.next arrow ts is e) = (Some e.0, SpellsResult.something arrow ts e.0 is e.1)

no_result : (tokens : List Token) (e : Option Expr) → SpellsResult tokens e → (IsEmpty tokens → ⊥) → (ResultNone tokens → ⊥) → (ResultSome tokens → ⊥) → ⊥
no_result _ _ SpellsResult.unsaid no_unsaid no_nothing no_something = no_unsaid IsEmpty.empty
no_result _ _ (SpellsResult.nothing arrow word is word_is) no_unsaid no_nothing no_something = no_nothing (Next.next arrow (word ∷ []) is (Next.next word [] word_is IsEmpty.empty))
no_result _ _ (SpellsResult.something arrow ts e is spelled) no_unsaid no_nothing no_something = no_something (Next.next arrow ts is (e, spelled))

decide_nothing : (n : ℕ) → Decided n ResultNone
decide_nothing n = after (after (decide_empty n))

decide_something : (n : ℕ) → Decided n ResultSome
decide_something n = after (expressions n)

decide_result : (n : ℕ) → Decided n (Found SpellsResult)
decide_result n tokens below =
    or_else (decide_empty n tokens below) (unsaid tokens) (λ no_unsaid.
    or_else (decide_nothing n tokens below) (nothing tokens) (λ no_nothing.
    or_else (decide_something n tokens below) (something tokens) (λ no_something.
    inr (λ found. no_result tokens found.0 found.1 no_unsaid no_nothing no_something))))

-- ---- logical lines

abbrev ImportAll : List Token → Type 0
ImportAll = Next (is_word (codes "from")) (Next (is_word (codes "pymtl3")) (Next (is_word (codes "import")) (Next (is_symbol (codes "*")) IsEmpty)))

abbrev ImportNames : List Token → Type 0
ImportNames = Next (is_word (codes "from")) (Next (is_word (codes "pymtl3")) (Next (is_word (codes "import")) SpellsNames))

abbrev ImportDeque : List Token → Type 0
ImportDeque = Next (is_word (codes "from")) (Next (is_word (codes "collections")) (Next (is_word (codes "import")) (Next (is_word (codes "deque")) IsEmpty)))

abbrev ClassAlone : List Token → Type 0
ClassAlone = Next (is_word (codes "class")) (Next is_name (Next (is_symbol (codes ":")) IsEmpty))

abbrev ClassOf : List Token → Type 0
ClassOf = Next (is_word (codes "class")) (Next is_name (Next (is_symbol (codes "(")) (Next is_name (Next (is_symbol (codes ")")) (Next (is_symbol (codes ":")) IsEmpty)))))

abbrev Defined : List Token → Type 0
Defined = Next (is_word (codes "def")) (Next is_name (Next (is_symbol (codes "(")) (Split SignatureForm (Next (is_symbol (codes ")")) (Split (Found SpellsResult) (Found SpellsEnd))))))

abbrev Decorated : List Token → Type 0
Decorated = Next (is_symbol (codes "@")) (Next is_name IsEmpty)

abbrev Guarded : List Token → Type 0
Guarded = Next (is_symbol (codes "@")) (Next (is_word (codes "non_blocking")) (Next (is_symbol (codes "(")) (Next (is_word (codes "lambda")) (Next (is_word (codes "s")) (Next (is_symbol (codes ":")) (Split AnyExpression (Next (is_symbol (codes ")")) IsEmpty)))))))

abbrev Conditioned : List ℕ → List Token → Type 0
Conditioned word = Next (is_word word) (Split AnyExpression (Found SpellsEnd))

abbrev Else : List Token → Type 0
Else = Next (is_word (codes "else")) (Found SpellsEnd)

abbrev For : List Token → Type 0
For = Next (is_word (codes "for")) (Split (Found SpellsRange) (Found SpellsEnd))

-- the tokens are of none of these forms
record IsNoLine (tokens : List Token) : Type 0 where
  import_all : ImportAll tokens → ⊥
  import_names : ImportNames tokens → ⊥
  import_deque : ImportDeque tokens → ⊥
  class_alone : ClassAlone tokens → ⊥
  class_of : ClassOf tokens → ⊥
  defined : Defined tokens → ⊥
  decorated : Decorated tokens → ⊥
  guarded : Guarded tokens → ⊥
  if_line : Conditioned (codes "if") tokens → ⊥
  elif_line : Conditioned (codes "elif") tokens → ⊥
  else_line : Else tokens → ⊥
  for_line : For tokens → ⊥
  simple : Found SpellsSimple tokens → ⊥

no_line : (tokens : List Token) (s : Stmt) → SpellsLine tokens s → IsNoLine tokens → ⊥
no_line _ _ (SpellsLine.import_all from_word library import_word star is library_is import_is star_is) none =
    none.import_all (Next.next from_word (library ∷ import_word ∷ star ∷ []) is (Next.next library (import_word ∷ star ∷ []) library_is (Next.next import_word (star ∷ []) import_is (Next.next star [] star_is IsEmpty.empty))))
no_line _ _ (SpellsLine.import_names from_word library import_word names is library_is import_is spelled) none =
    none.import_names (Next.next from_word (library ∷ import_word ∷ names) is (Next.next library (import_word ∷ names) library_is (Next.next import_word names import_is spelled)))
no_line _ _ (SpellsLine.import_deque from_word library import_word deque is library_is import_is deque_is) none =
    none.import_deque (Next.next from_word (library ∷ import_word ∷ deque ∷ []) is (Next.next library (import_word ∷ deque ∷ []) library_is (Next.next import_word (deque ∷ []) import_is (Next.next deque [] deque_is IsEmpty.empty))))
no_line _ _ (SpellsLine.class_alone word name colon is named colon_is) none =
    none.class_alone (Next.next word (name ∷ colon ∷ []) is (Next.next name (colon ∷ []) named (Next.next colon [] colon_is IsEmpty.empty)))
no_line _ _ (SpellsLine.class_of word name opening base closing colon is named open_is based close_is colon_is) none =
    none.class_of (Next.next word (name ∷ opening ∷ base ∷ closing ∷ colon ∷ []) is (Next.next name (opening ∷ base ∷ closing ∷ colon ∷ []) named (Next.next opening (base ∷ closing ∷ colon ∷ []) open_is
    (Next.next base (closing ∷ colon ∷ []) based (Next.next closing (colon ∷ []) close_is (Next.next colon [] colon_is IsEmpty.empty))))))
no_line _ _ (SpellsLine.defined word name opening closing ts us vs has_self ps result body is named open_is signature close_is result_is ends) none =
    none.defined (Next.next word (name ∷ opening ∷ (ts ++ closing ∷ (us ++ vs))) is (Next.next name (opening ∷ (ts ++ closing ∷ (us ++ vs))) named (Next.next opening (ts ++ closing ∷ (us ++ vs)) open_is
    (Split.split ts (closing ∷ (us ++ vs)) (has_self, ps, signature) (Next.next closing (us ++ vs) close_is (Split.split us vs (result, result_is) (body, ends)))))))
no_line _ _ (SpellsLine.marked at_sign name is named) none = none.decorated (Next.next at_sign (name ∷ []) is (Next.next name [] named IsEmpty.empty))
no_line _ _ (SpellsLine.guarded at_sign word opening lambda self colon closing ts e is word_is open_is lambda_is self_is colon_is spelled close_is) none =
    none.guarded (Next.next at_sign (word ∷ opening ∷ lambda ∷ self ∷ colon ∷ (ts ++ closing ∷ [])) is (Next.next word (opening ∷ lambda ∷ self ∷ colon ∷ (ts ++ closing ∷ [])) word_is
    (Next.next opening (lambda ∷ self ∷ colon ∷ (ts ++ closing ∷ [])) open_is (Next.next lambda (self ∷ colon ∷ (ts ++ closing ∷ [])) lambda_is (Next.next self (colon ∷ (ts ++ closing ∷ [])) self_is
    (Next.next colon (ts ++ closing ∷ []) colon_is (Split.split ts (closing ∷ []) (e, spelled) (Next.next closing [] close_is IsEmpty.empty))))))))
no_line _ _ (SpellsLine.if_line word ts us condition body is spelled ends) none = none.if_line (Next.next word (ts ++ us) is (Split.split ts us (condition, spelled) (body, ends)))
no_line _ _ (SpellsLine.elif_line word ts us condition body is spelled ends) none = none.elif_line (Next.next word (ts ++ us) is (Split.split ts us (condition, spelled) (body, ends)))
no_line _ _ (SpellsLine.else_line word ts body is ends) none = none.else_line (Next.next word ts is (body, ends))
no_line _ _ (SpellsLine.for_line word ts us name bounds body is range ends) none = none.for_line (Next.next word (ts ++ us) is (Split.split ts us ((name, bounds), range) (body, ends)))
no_line _ _ (SpellsLine.simple ts s spelled) none = none.simple (s, spelled)

import_all : (tokens : List Token) → ImportAll tokens → Found SpellsLine tokens
import_all _ (Next.next from_word _ is (Next.next library _ library_is (Next.next import_word _ import_is (Next.next star _ star_is IsEmpty.empty)))) =
    (leaf.Import, SpellsLine.import_all from_word library import_word star is library_is import_is star_is)

import_names : (tokens : List Token) → ImportNames tokens → Found SpellsLine tokens
import_names _ (Next.next from_word _ is (Next.next library _ library_is (Next.next import_word names import_is spelled))) =
    (leaf.Import, SpellsLine.import_names from_word library import_word names is library_is import_is spelled)

import_deque : (tokens : List Token) → ImportDeque tokens → Found SpellsLine tokens
import_deque _ (Next.next from_word _ is (Next.next library _ library_is (Next.next import_word _ import_is (Next.next deque _ deque_is IsEmpty.empty)))) =
    (leaf.Import, SpellsLine.import_deque from_word library import_word deque is library_is import_is deque_is)

class_alone : (tokens : List Token) → ClassAlone tokens → Found SpellsLine tokens
class_alone _ (Next.next word _ is (Next.next name _ named (Next.next colon _ colon_is IsEmpty.empty))) = (leaf.Class name.text None, SpellsLine.class_alone word name colon is named colon_is)

class_of : (tokens : List Token) → ClassOf tokens → Found SpellsLine tokens
class_of _ (Next.next word _ is (Next.next name _ named (Next.next opening _ open_is (Next.next base _ based (Next.next closing _ close_is (Next.next colon _ colon_is IsEmpty.empty)))))) =
    (leaf.Class name.text (Some base.text), SpellsLine.class_of word name opening base closing colon is named open_is based close_is colon_is)

defined : (tokens : List Token) → Defined tokens → Found SpellsLine tokens
defined _ (Next.next word _ is (Next.next name _ named (Next.next opening _ open_is (Split.split ts _ signature (Next.next closing _ close_is (Split.split us vs result body)))))) = (
  stmt.Def name.text signature.0 signature.1 result.0 body.0,
  SpellsLine.defined word name opening closing ts us vs signature.0 signature.1 result.0 body.0 is named open_is signature.2 close_is result.1 body.1,
)

decorated : (tokens : List Token) → Decorated tokens → Found SpellsLine tokens
decorated _ (Next.next at_sign _ is (Next.next name _ named IsEmpty.empty)) = (leaf.Mark name.text, SpellsLine.marked at_sign name is named)

guarded : (tokens : List Token) → Guarded tokens → Found SpellsLine tokens
guarded _ (Next.next at_sign _ is (Next.next word _ word_is (Next.next opening _ open_is (Next.next lambda _ lambda_is (Next.next self _ self_is (Next.next colon _ colon_is (Split.split ts _ e (Next.next closing _ close_is IsEmpty.empty)))))))) =
    (leaf.NonBlocking e.0, SpellsLine.guarded at_sign word opening lambda self colon closing ts e.0 is word_is open_is lambda_is self_is colon_is e.1 close_is)

if_line : (tokens : List Token) → Conditioned (codes "if") tokens → Found SpellsLine tokens
if_line _ (Next.next word _ is (Split.split ts us condition body)) = (stmt.If condition.0 body.0, SpellsLine.if_line word ts us condition.0 body.0 is condition.1 body.1)

elif_line : (tokens : List Token) → Conditioned (codes "elif") tokens → Found SpellsLine tokens
elif_line _ (Next.next word _ is (Split.split ts us condition body)) = (stmt.Elif condition.0 body.0, SpellsLine.elif_line word ts us condition.0 body.0 is condition.1 body.1)

else_line : (tokens : List Token) → Else tokens → Found SpellsLine tokens
else_line _ (Next.next word ts is body) = (stmt.Else body.0, SpellsLine.else_line word ts body.0 is body.1)

for_line : (tokens : List Token) → For tokens → Found SpellsLine tokens
for_line _ (Next.next word _ is (Split.split ts us ((name, bounds), range) body)) = (stmt.For name bounds body.0, SpellsLine.for_line word ts us name bounds body.0 is range body.1)

decide_import_all : (n : ℕ) → Decided n ImportAll
decide_import_all n = after (after (after (after (decide_empty n))))

decide_import_names : (n : ℕ) → Decided n ImportNames
decide_import_names n = after (after (after (decide_names n)))

decide_import_deque : (n : ℕ) → Decided n ImportDeque
decide_import_deque n = after (after (after (after (decide_empty n))))

decide_class_alone : (n : ℕ) → Decided n ClassAlone
decide_class_alone n = after (after (after (decide_empty n)))

decide_class_of : (n : ℕ) → Decided n ClassOf
decide_class_of n = after (after (after (after (after (after (decide_empty n))))))

decide_defined : (n : ℕ) → Decided n Defined
decide_defined n = after (after (after (in_two (decide_signature n) (after (in_two (decide_result n) (decide_end n))))))

decide_decorated : (n : ℕ) → Decided n Decorated
decide_decorated n = after (after (decide_empty n))

decide_guarded : (n : ℕ) → Decided n Guarded
decide_guarded n = after (after (after (after (after (after (in_two (expressions n) (after (decide_empty n))))))))

decide_conditioned : (n : ℕ) (word : List ℕ) → Decided n (Conditioned word)
decide_conditioned n word = after (in_two (expressions n) (decide_end n))

decide_else : (n : ℕ) → Decided n Else
decide_else n = after (decide_end n)

decide_for : (n : ℕ) → Decided n For
decide_for n = after (in_two (decide_range n (expressions n)) (decide_end n))

decide_lines : (n : ℕ) → Decided n (Found SpellsLine)
decide_lines n tokens below =
    or_else (decide_import_all n tokens below) (import_all tokens) (λ no_all.
    or_else (decide_import_names n tokens below) (import_names tokens) (λ no_names.
    or_else (decide_import_deque n tokens below) (import_deque tokens) (λ no_deque.
    or_else (decide_class_alone n tokens below) (class_alone tokens) (λ no_class_alone.
    or_else (decide_class_of n tokens below) (class_of tokens) (λ no_class_of.
    or_else (decide_defined n tokens below) (defined tokens) (λ no_defined.
    or_else (decide_decorated n tokens below) (decorated tokens) (λ no_decorated.
    or_else (decide_guarded n tokens below) (guarded tokens) (λ no_guarded.
    or_else (decide_conditioned n (codes "if") tokens below) (if_line tokens) (λ no_if.
    or_else (decide_conditioned n (codes "elif") tokens below) (elif_line tokens) (λ no_elif.
    or_else (decide_else n tokens below) (else_line tokens) (λ no_else.
    or_else (decide_for n tokens below) (for_line tokens) (λ no_for.
    or_else (decide_simple n tokens below) (λ s. (s.0, SpellsLine.simple tokens s.0 s.1)) (λ no_simple.
    let none : IsNoLine tokens = record {
      import_all = no_all;
      import_names = no_names;
      import_deque = no_deque;
      class_alone = no_class_alone;
      class_of = no_class_of;
      defined = no_defined;
      decorated = no_decorated;
      guarded = no_guarded;
      if_line = no_if;
      elif_line = no_elif;
      else_line = no_else;
      for_line = no_for;
      simple = no_simple;
    } in
    inr (λ found. no_line tokens found.0 found.1 none))))))))))))))

-- tokens spell a statement, or none
pub decide_line : (tokens : List Token) → Decision (Found SpellsLine tokens)
decide_line tokens = decide_lines (suc (length tokens)) tokens (omega arith)

-- ---- answers

-- the statement of a line, or the fault that it is too deep
answer_of : (tokens : List Token) (s : Stmt) → SpellsLine tokens s → (answer : Result Stmt LineFault) × IsLineAnswer tokens answer
answer_of tokens s spelled =
    elim (cases_Bool (nat_lt 64 (depth_of_statement s))) [
      | inl deep ↦ let below : 64 < depth_of_statement s = grind (arith, nat_tests) in (Err fault.TooDeep, (s, spelled, below))
      | inr shallow ↦ let within : depth_of_statement s ≤ 64 = grind (arith, nat_tests) in (Ok s, (spelled, within))
    ]

pub every_line_has_an_answer : EveryLineHasAnAnswer
every_line_has_an_answer tokens =
    elim (decide_line tokens) [
      | inl found ↦ answer_of tokens found.0 found.1
      | inr none ↦ (Err fault.Syntax, λ s spelled. none (s, spelled))
    ]
