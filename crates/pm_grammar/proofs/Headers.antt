-- What the parts of a header are, by their first tokens.
use Rattle.std.proofs.Common.{◌≡◌, ◌∙◌, ◌⊎◌, ◌∷◌, ◌++◌, ◌==◌, ℕ, Bool, true, false, IsTrue, List, [], length, arith, codes, Option, Some, None, refl, sym, ap, subst, inl, inr}
use Rattle.std.proofs.lemmas.Bool.{both_ways, false≢true}
use Rattle.std.proofs.lemmas.Bool.Decides.{nat_tests}
use Rattle.std.specs.Borrow.{Bor}
use Rattle.std.specs.Option.{MatchOption}
use Rattle.pm_syn.specs.declared.expression.Expr.{Expr}
use Rattle.pm_syn.specs.declared.statement.Stmt.{Stmt}
use Rattle.pm_syn.specs.declared.statement.Stmt as leaf
use Rattle.pm_syn.specs.declared.statement.Stmt.TheViews as stmt
use Rattle.pm_syn.specs.declared.token.Token.{Token}
use Rattle.pm_grammar.specs.Expressions.{SpellsRange}
use Rattle.pm_grammar.specs.Prefixes.{IsAfter, IsNotFirst, begins_with}
use Rattle.pm_grammar.specs.Headers.{IsCondition, IsGuard, OpensGuard, SpellsBase, SpellsBranch, SpellsClass, SpellsDecorator, SpellsFor, based, elif_branch, else_branch, for_range, guard, if_branch, is_lone, mark, opened, simple_branch, with_base, without_base}
use Rattle.pm_syn.specs.Names.{is_keyword}
use Rattle.pm_grammar.specs.Tokens.{is_symbol, is_name, is_word}
use Rattle.pm_grammar.specs.Reading.{Begins, IsOnly, IsOnlyBefore, IsOnlyBeginning, IsRead}
use Rattle.pm_grammar.specs.Statements.{IsExpression, SpellsEnd, SpellsOptional, SpellsResult, SpellsSimple, alone, with_statement, absent, present, unsaid, nothing, something}
use Rattle.pm_grammar.specs.declared.level.Level.TheVariants as level
use Rattle.pm_grammar.proofs.ExpressionStarts.{begins_more, none_opens, opens, opens_expression}
use Rattle.pm_grammar.proofs.OneSymbol.{ends_colon, ends_parenthesis, other_mark, other_word}
use Rattle.pm_grammar.proofs.StatementStarts.{no_simple_elif, no_simple_else, no_simple_if, no_simple_in, opens_simple, opens_statement}
use Rattle.pm_grammar.proofs.TokenTexts.{by_word}

-- ---- nothing

pub empty_true : (ts : List Token) (test : Bool) → test ≡ (length ts == 0) → test ≡ true → ts ≡ []
empty_true [] test is empty = refl
empty_true (t ∷ ts) test is empty = absurd (grind (arith, nat_tests))

pub empty_false : (ts : List Token) (test : Bool) → test ≡ (length ts == 0) → test ≡ false → ts ≡ [] → ⊥
empty_false [] test is never empty = false≢true (sym never ∙ is)
empty_false (t ∷ ts) test is never empty = cc

-- ---- the end of a header

-- no simple statement begins with the token
pub not_simple : (first : Token) (ts : List Token) (s : Stmt) → opens_simple first ≡ false → SpellsSimple (first ∷ ts) s → ⊥
not_simple first ts s never is = both_ways (opens_simple first) never (opens_statement is)

end_is : {colon : Token} {ts : List Token} {body : Option Stmt} → SpellsEnd (colon ∷ ts) body → ((ts ≡ []) × (body ≡ None)) ⊎ ((s : Stmt) × (body ≡ Some s) × SpellsSimple ts s)
end_is (alone colon is) = inl (refl, refl)
end_is (with_statement colon ts s is inner) = inr (s, refl, inner)

pub end_alone : (all behind : List Token) → IsAfter (is_symbol (codes ":")) all behind → behind ≡ [] → SpellsEnd all None
end_alone all behind colon empty =
    let same : all ≡ colon.0 ∷ [] = colon.1 ∙ ap (λ (ts : List Token). colon.0 ∷ ts) empty in
    subst (λ (ts : List Token). SpellsEnd ts None) (sym same) (alone colon.0 colon.2)

pub end_with : (all behind : List Token) (s : Stmt) → IsAfter (is_symbol (codes ":")) all behind → SpellsSimple behind s → SpellsEnd all (Some s)
end_with all behind s colon inner = subst (λ (ts : List Token). SpellsEnd ts (Some s)) (sym colon.1) (with_statement colon.0 behind s colon.2 inner)

pub only_alone : (all behind : List Token) → IsAfter (is_symbol (codes ":")) all behind → behind ≡ [] → (body : Option Stmt) → SpellsEnd all body → body ≡ None
only_alone all behind colon empty body is =
    elim (end_is (subst (λ (ts : List Token). SpellsEnd ts body) colon.1 is)) [
      | inl one ↦ one.1
      | inr more ↦ absurd (no_simple_in more.0 (subst (λ (ts : List Token). SpellsSimple ts more.0) empty more.2))
    ]

pub only_with : (all behind : List Token) → IsAfter (is_symbol (codes ":")) all behind → (behind ≡ [] → ⊥) → (body : Option Stmt) → SpellsEnd all body → (s : Stmt) × (body ≡ Some s) × SpellsSimple behind s
only_with all behind colon some body is =
    elim (end_is (subst (λ (ts : List Token). SpellsEnd ts body) colon.1 is)) [
      | inl one ↦ absurd (some one.0)
      | inr more ↦ more
    ]

end_begins : {ts : List Token} {body : Option Stmt} → SpellsEnd ts body → (colon : Token) × (tail : List Token) × (ts ≡ colon ∷ tail) × IsTrue (is_symbol (codes ":") colon)
end_begins (alone colon is) = (colon, [], refl, is)
end_begins (with_statement colon ts s is inner) = (colon, ts, refl, is)

-- ---- a part and the end of a header after it

pub expression_before : (all : List Token) (read : Option (Expr × List Token)) → IsOnly level.Conditional all read → IsOnlyBefore IsExpression (codes ":") all read
expression_before all read only one closing rest is begins = only one (closing ∷ rest) begins (ends_colon closing is)

read_before_end : {A : Type 0} (Spelled : List Token → A → Type 0) (all : List Token) (read : Option (A × List Token)) → IsOnlyBefore Spelled (codes ":") all read
    → (one : A) (r : List Token) (b : Option Stmt) → Begins Spelled all one r → SpellsEnd r b → IsRead read one r
read_before_end {A} Spelled all read only one r b begins ends =
    let colon = end_begins ends in
    let here = only one colon.0 colon.1 colon.3 (subst (λ (ts : List Token). Begins Spelled all one ts) colon.2 begins) in
    subst (λ (ts : List Token). IsRead read one ts) (sym colon.2) here

pub none_before_end : {A : Type 0} (Spelled : List Token → A → Type 0) (all : List Token) → IsOnlyBefore Spelled (codes ":") all None
    → (one : A) (r : List Token) (b : Option Stmt) → Begins Spelled all one r → SpellsEnd r b → ⊥
none_before_end Spelled all only one r b begins ends = read_before_end Spelled all None only one r b begins ends

pub only_before_end : {A : Type 0} (Spelled : List Token → A → Type 0) (all rest : List Token) (a : A) → IsOnlyBefore Spelled (codes ":") all (Some (a, rest))
    → (one : A) (r : List Token) (b : Option Stmt) → Begins Spelled all one r → SpellsEnd r b → (one ≡ a) × SpellsEnd rest b
only_before_end Spelled all rest a only one r b begins ends =
    let here = read_before_end Spelled all (Some (a, rest)) only one r b begins ends in
    (here.0, subst (λ (ts : List Token). SpellsEnd ts b) here.1 ends)

pub pair_is : {A B : Type 0} (pair : A × B) (a : A) (b : B) → pair.0 ≡ a → pair.1 ≡ b → pair ≡ (a, b)
pair_is {A} {B} pair a b first second = ap (λ (x : A). (x, pair.1)) first ∙ ap (λ (y : B). (a, y)) second

-- ---- an optional expression

pub optional_found : (bytes : List ℕ) (all behind rest : List Token) (e : Expr) → IsAfter (is_symbol bytes) all behind → Begins IsExpression behind e rest → Begins (SpellsOptional bytes) all (Some e) rest
optional_found bytes all behind rest e sign begins =
    (sign.0 ∷ begins.0, sign.1 ∙ ap (λ (ts : List Token). sign.0 ∷ ts) begins.1, present sign.0 begins.0 e sign.2 begins.2)

optional_is : (bytes : List ℕ) (sign : Token) (behind rest : List Token) → IsTrue (is_symbol bytes sign) → IsNotFirst (is_symbol bytes) rest
    → {front : List Token} {one : Option Expr} → SpellsOptional bytes front one → sign ∷ behind ≡ front ++ rest → (e : Expr) × (one ≡ Some e) × Begins IsExpression behind e rest
optional_is bytes sign behind rest is not_there absent same = absurd (both_ways (is_symbol bytes sign) (subst (IsNotFirst (is_symbol bytes)) (sym same) not_there) is)
optional_is bytes sign behind rest is not_there (present first ts e first_is inner) same =
    let tail : behind ≡ ts ++ rest = cc in
    (e, refl, (ts, tail, inner))

pub optional_behind : (bytes : List ℕ) (all behind : List Token) → IsAfter (is_symbol bytes) all behind → (one : Option Expr) (rest : List Token) → Begins (SpellsOptional bytes) all one rest → IsNotFirst (is_symbol bytes) rest
    → (e : Expr) × (one ≡ Some e) × Begins IsExpression behind e rest
optional_behind bytes all behind sign one rest begins not_there = optional_is bytes sign.0 behind rest sign.2 not_there begins.2 (sym sign.1 ∙ begins.1)

-- ---- the annotation of a result

pub nothing_found : (all behind rest : List Token) → IsAfter (is_symbol (codes "->")) all behind → IsAfter (is_word (codes "None")) behind rest → Begins SpellsResult all None rest
nothing_found all behind rest arrow word =
    (arrow.0 ∷ word.0 ∷ [], arrow.1 ∙ ap (λ (ts : List Token). arrow.0 ∷ ts) word.1, nothing arrow.0 word.0 arrow.2 word.2)

pub result_found : (all behind rest : List Token) (e : Expr) → IsAfter (is_symbol (codes "->")) all behind → Begins IsExpression behind e rest → Begins SpellsResult all (Some e) rest
result_found all behind rest e arrow begins =
    (arrow.0 ∷ begins.0, arrow.1 ∙ ap (λ (ts : List Token). arrow.0 ∷ ts) begins.1, something arrow.0 begins.0 e arrow.2 begins.2)

-- what comes after the arrow: `None`, or an expression
abbrev pub IsBehindArrow : List Token → Option Expr → List Token → Type 0
IsBehindArrow behind one rest = ((one ≡ None) × IsAfter (is_word (codes "None")) behind rest) ⊎ ((e : Expr) × (one ≡ Some e) × Begins IsExpression behind e rest)

result_is : (arrow closing : Token) (behind rest : List Token) → IsTrue (is_symbol (codes "->") arrow) → IsTrue (is_symbol (codes ":") closing)
    → {front : List Token} {one : Option Expr} → SpellsResult front one → arrow ∷ behind ≡ front ++ (closing ∷ rest) → IsBehindArrow behind one (closing ∷ rest)
result_is arrow closing behind rest is colon unsaid same =
    let first : arrow ≡ closing = cc in
    absurd (both_ways (is_symbol (codes ":") arrow) (other_mark (codes "->") (codes ":") arrow refl is) (subst (λ (t : Token). IsTrue (is_symbol (codes ":") t)) (sym first) colon))
result_is arrow closing behind rest is colon (nothing first word first_is word_is) same =
    let tail : behind ≡ word ∷ closing ∷ rest = cc in
    inl (refl, (word, tail, word_is))
result_is arrow closing behind rest is colon (something first ts e first_is inner) same =
    let tail : behind ≡ ts ++ (closing ∷ rest) = cc in
    inr (e, refl, (ts, tail, inner))

pub result_behind : (all behind : List Token) → IsAfter (is_symbol (codes "->")) all behind → (one : Option Expr) (closing : Token) (rest : List Token) → IsTrue (is_symbol (codes ":") closing)
    → Begins SpellsResult all one (closing ∷ rest) → IsBehindArrow behind one (closing ∷ rest)
result_behind all behind arrow one closing rest colon begins = result_is arrow.0 closing behind rest arrow.2 colon begins.2 (sym arrow.1 ∙ begins.1)

-- an expression begins with no `None`
no_none : (behind rest : List Token) (e : Expr) (word : Token) (tail : List Token) → behind ≡ word ∷ tail → IsTrue (is_word (codes "None") word) → Begins IsExpression behind e rest → ⊥
no_none behind rest e word tail front is begins =
    let begun = subst (λ (ts : List Token). IsTrue (begins_with opens ts)) (sym begins.1 ∙ front) (begins_more opens begins.0 rest (opens_expression begins.2)) in
    both_ways (opens word) (none_opens word is) begun

pub none_behind : (behind rest r : List Token) (one : Option Expr) → IsAfter (is_word (codes "None")) behind rest → IsBehindArrow behind one r → (one ≡ None) × (r ≡ rest)
none_behind behind rest r one word is =
    elim is [
      | inl none ↦ (let tail : r ≡ rest = cc (none.1.1, word.1) in (none.0, tail))
      | inr some ↦ absurd (no_none behind r some.0 word.0 rest word.1 word.2 some.2)
    ]

pub some_behind : (behind r : List Token) (one : Option Expr) → IsNotFirst (is_word (codes "None")) behind → IsBehindArrow behind one r → (e : Expr) × (one ≡ Some e) × Begins IsExpression behind e r
some_behind behind r one not_there is =
    elim is [
      | inl none ↦ absurd (both_ways (is_word (codes "None") none.1.0) (subst (IsNotFirst (is_word (codes "None"))) none.1.1 not_there) none.1.2)
      | inr some ↦ some
    ]

-- ---- a symbol alone

pub lone_is : (bytes : List ℕ) (ts : List Token) → is_lone bytes ts ≡ true → (token : Token) × (ts ≡ token ∷ []) × IsTrue (is_symbol bytes token)
lone_is bytes [] is = absurd (false≢true is)
lone_is bytes (token ∷ []) is = (token, refl, is)
lone_is bytes (token ∷ next ∷ rest) is = absurd (false≢true is)

-- ---- a guard

guard_read : (all : List Token) (read : Option (Expr × List Token)) → IsOnly level.Conditional all read → (e : Expr) → (found : IsGuard all e) → IsRead read e (found.0 ∷ [])
guard_read all read only e found = only e (found.0 ∷ []) found.2 (ends_parenthesis found.0 found.1)

pub no_guard : (all : List Token) → IsOnly level.Conditional all None → (e : Expr) → IsGuard all e → ⊥
no_guard all only e found = guard_read all None only e found

pub only_guard : (all rest : List Token) (tree : Expr) → IsOnly level.Conditional all (Some (tree, rest)) → (e : Expr) → IsGuard all e → (e ≡ tree) × (is_lone (codes ")") rest ≡ true)
only_guard all rest tree only e found =
    let here = guard_read all (Some (tree, rest)) only e found in
    (here.0, subst (λ (ts : List Token). is_lone (codes ")") ts ≡ true) here.1 found.1)

-- ---- what comes after `@`

pub guard_opens : (all first second third : List Token) → IsAfter (is_symbol (codes "(")) all first → IsAfter (is_word (codes "lambda")) first second → IsAfter (is_word (codes "s")) second third
    → (colon : Option (Bor (List Token))) → MatchOption colon (IsNotFirst (is_symbol (codes ":")) third) (λ (tail : Bor (List Token)). IsAfter (is_symbol (codes ":")) third tail.now)
    → MatchOption colon ((behind : List Token) → OpensGuard all behind → ⊥) (λ (tail : Bor (List Token)). OpensGuard all tail.now)
guard_opens all first second third opening lambda self None not_there = λ behind opens_it.
    let there = no_colon opens_it opening.1 lambda.1 self.1 in
    both_ways (is_symbol (codes ":") there.0) (subst (IsNotFirst (is_symbol (codes ":"))) there.1 not_there) there.2
  where
    no_colon : {ts behind first second third : List Token} {t u v : Token} → OpensGuard ts behind → ts ≡ t ∷ first → first ≡ u ∷ second → second ≡ v ∷ third → (colon : Token) × (third ≡ colon ∷ behind) × IsTrue (is_symbol (codes ":") colon)
    no_colon (opened opening lambda self colon rest opening_is lambda_is self_is colon_is) a b c = (colon, cc, colon_is)
guard_opens all first second third opening lambda self (Some tail) colon =
    let same : all ≡ opening.0 ∷ lambda.0 ∷ self.0 ∷ colon.0 ∷ tail.now = cc (opening.1, lambda.1, self.1, colon.1) in
    subst (λ (ts : List Token). OpensGuard ts tail.now) (sym same) (opened opening.0 lambda.0 self.0 colon.0 tail.now opening.2 lambda.2 self.2 colon.2)

-- the word of a guard is a name
non_blocking_name : (word : Token) → IsTrue (is_word (codes "non_blocking") word) → IsTrue (is_name word)
unfolding is_keyword
non_blocking_name word is = by_word (codes "non_blocking") word (λ t. IsTrue (is_name t)) is refl

pub no_decorator : (ts : List Token) (s : Stmt) → IsNotFirst is_name ts → SpellsDecorator ts s → ⊥
no_decorator ts s not_there (mark name is) = both_ways (is_name name) not_there is
no_decorator ts s not_there (guard word us vs e is opens_it inner) = both_ways (is_name word) not_there (non_blocking_name word is)

pub mark_found : (all rest : List Token) (name : Token) (text : List ℕ) → (all ≡ name ∷ rest) × IsTrue (is_name name) → rest ≡ [] → text ≡ name.text → SpellsDecorator all (leaf.Mark text)
mark_found all rest name text named empty same =
    let front : all ≡ name ∷ [] = cc in
    rw (front, same) (mark name named.1)

pub guard_found : (all rest behind : List Token) (word : Token) (e : Expr) → all ≡ word ∷ rest → IsTrue (is_word (codes "non_blocking") word) → OpensGuard rest behind → IsGuard behind e → SpellsDecorator all (leaf.NonBlocking e)
guard_found all rest behind word e front is opens_it inner = rw front (guard word rest behind e is opens_it inner)

-- one way to open a guard
one_opening : {ts one other : List Token} → OpensGuard ts one → OpensGuard ts other → one ≡ other
one_opening (opened opening lambda self colon rest opening_is lambda_is self_is colon_is) also = same also refl where
  same : {ts us : List Token} {t u v w : Token} {other : List Token} → OpensGuard ts other → t ∷ u ∷ v ∷ w ∷ us ≡ ts → us ≡ other
  same (opened opening lambda self colon rest opening_is lambda_is self_is colon_is) front = cc

guard_is : {ts : List Token} {word : Token} {s : Stmt} → SpellsDecorator (word ∷ ts) s → (ts ≡ []) ⊎ ((us : List Token) × (e : Expr) × (s ≡ leaf.NonBlocking e) × OpensGuard ts us × IsGuard us e)
guard_is (mark name is) = inl refl
guard_is (guard word ts us e is opens_it inner) = inr (us, e, refl, opens_it, inner)

pub guard_only : (all rest behind : List Token) (word : Token) → all ≡ word ∷ rest → (rest ≡ [] → ⊥) → OpensGuard rest behind → (s : Stmt) → SpellsDecorator all s → (e : Expr) × (s ≡ leaf.NonBlocking e) × IsGuard behind e
guard_only all rest behind word front some opens_it s is =
    elim (guard_is (subst (λ (ts : List Token). SpellsDecorator ts s) front is)) [
      | inl empty ↦ absurd (some empty)
      | inr found ↦ (found.1, found.2, subst (λ (ts : List Token). IsGuard ts found.1) (one_opening found.3 opens_it) found.4)
    ]

pub guard_read_once : (all rest behind : List Token) (word : Token) (e : Expr) → all ≡ word ∷ rest → (rest ≡ [] → ⊥) → OpensGuard rest behind → ((one : Expr) → IsGuard behind one → one ≡ e)
    → (s : Stmt) → SpellsDecorator all s → s ≡ leaf.NonBlocking e
guard_read_once all rest behind word e front some opens_it only s is =
    let parts = guard_only all rest behind word front some opens_it s is in
    parts.1 ∙ ap leaf.NonBlocking (only parts.0 parts.2)

-- ---- a class

pub base_found : (all behind rest after : List Token) (base : Token) → IsAfter (is_symbol (codes "(")) all behind → (behind ≡ base ∷ rest) × IsTrue (is_name base) → IsAfter (is_symbol (codes ")")) rest after → is_lone (codes ":") after ≡ true → SpellsBase all base
base_found all behind rest after base opening named closing lone =
    let colon = lone_is (codes ":") after lone in
    let front : all ≡ opening.0 ∷ base ∷ closing.0 ∷ colon.0 ∷ [] = cc (opening.1, named.0, closing.1, colon.1) in
    rw front (based opening.0 base closing.0 colon.0 opening.2 named.1 closing.2 colon.2)

one_base : {ts : List Token} {one other : Token} → SpellsBase ts one → SpellsBase ts other → one ≡ other
one_base (based opening base closing colon opening_is base_is closing_is colon_is) also = same also refl where
  same : {ts us : List Token} {t u other : Token} → SpellsBase ts other → t ∷ u ∷ us ≡ ts → u ≡ other
  same (based opening base closing colon opening_is base_is closing_is colon_is) front = cc

pub class_alone_found : (all rest : List Token) (name : Token) (text : List ℕ) → (all ≡ name ∷ rest) × IsTrue (is_name name) → is_lone (codes ":") rest ≡ true → text ≡ name.text → SpellsClass all (leaf.Class text None)
class_alone_found all rest name text named lone same =
    let colon = lone_is (codes ":") rest lone in
    let front : all ≡ name ∷ colon.0 ∷ [] = cc (named.0, colon.1) in
    rw (front, same) (without_base name colon.0 named.1 colon.2)

pub class_found : (all rest : List Token) (name base : Token) (text of : List ℕ) → (all ≡ name ∷ rest) × IsTrue (is_name name) → SpellsBase rest base → text ≡ name.text → of ≡ base.text → SpellsClass all (leaf.Class text (Some of))
class_found all rest name base text of named spelled same also = rw (named.0, same, also) (with_base name base rest named.1 spelled)

class_is : {ts : List Token} {name : Token} {s : Stmt} → SpellsClass (name ∷ ts) s → (is_lone (codes ":") ts ≡ true) ⊎ ((base : Token) × SpellsBase ts base × (s ≡ leaf.Class name.text (Some base.text)))
class_is (without_base name colon is colon_is) = inl colon_is
class_is (with_base name base ts is spelled) = inr (base, spelled, refl)

class_only : (all rest : List Token) (name base : Token) → all ≡ name ∷ rest → is_lone (codes ":") rest ≡ false → SpellsBase rest base → (s : Stmt) → SpellsClass all s → s ≡ leaf.Class name.text (Some base.text)
class_only all rest name base front never spelled s is =
    elim (class_is (subst (λ (ts : List Token). SpellsClass ts s) front is)) [
      | inl lone ↦ absurd (both_ways _ never lone)
      | inr found ↦ found.2 ∙ ap (λ (t : Token). leaf.Class name.text (Some t.text)) (one_base found.1 spelled)
    ]

pub class_read : (all rest : List Token) (name base : Token) (text of : List ℕ) → all ≡ name ∷ rest → is_lone (codes ":") rest ≡ false → SpellsBase rest base → text ≡ name.text → of ≡ base.text → (s : Stmt) → SpellsClass all s → s ≡ leaf.Class text (Some of)
class_read all rest name base text of front never spelled same also s is = rw (class_only all rest name base front never spelled s is, same, also) refl

-- ---- a branch

if_is : {word : Token} {ts : List Token} {s : Stmt} → SpellsBranch (word ∷ ts) s → IsTrue (is_word (codes "if") word) → (condition : Expr) × (body : Option Stmt) × (s ≡ stmt.If condition body) × IsCondition ts condition body
if_is (if_branch word ts condition body is inner) here = (condition, body, refl, inner)
if_is (elif_branch word ts condition body is inner) here = absurd (both_ways _ (other_word (codes "if") (codes "elif") word refl here) is)
if_is (else_branch word ts body is inner) here = absurd (both_ways _ (other_word (codes "if") (codes "else") word refl here) is)
if_is {word} {ts} (simple_branch us s inner) here = absurd (not_simple word ts s (no_simple_if word here) inner)

elif_is : {word : Token} {ts : List Token} {s : Stmt} → SpellsBranch (word ∷ ts) s → IsTrue (is_word (codes "elif") word) → (condition : Expr) × (body : Option Stmt) × (s ≡ stmt.Elif condition body) × IsCondition ts condition body
elif_is (if_branch word ts condition body is inner) here = absurd (both_ways _ (other_word (codes "elif") (codes "if") word refl here) is)
elif_is (elif_branch word ts condition body is inner) here = (condition, body, refl, inner)
elif_is (else_branch word ts body is inner) here = absurd (both_ways _ (other_word (codes "elif") (codes "else") word refl here) is)
elif_is {word} {ts} (simple_branch us s inner) here = absurd (not_simple word ts s (no_simple_elif word here) inner)

else_is : {word : Token} {ts : List Token} {s : Stmt} → SpellsBranch (word ∷ ts) s → IsTrue (is_word (codes "else") word) → (body : Option Stmt) × (s ≡ stmt.Else body) × SpellsEnd ts body
else_is (if_branch word ts condition body is inner) here = absurd (both_ways _ (other_word (codes "else") (codes "if") word refl here) is)
else_is (elif_branch word ts condition body is inner) here = absurd (both_ways _ (other_word (codes "else") (codes "elif") word refl here) is)
else_is (else_branch word ts body is inner) here = (body, refl, inner)
else_is {word} {ts} (simple_branch us s inner) here = absurd (not_simple word ts s (no_simple_else word here) inner)

pub if_only : (all behind : List Token) → IsAfter (is_word (codes "if")) all behind → (s : Stmt) → SpellsBranch all s → (condition : Expr) × (body : Option Stmt) × (s ≡ stmt.If condition body) × IsCondition behind condition body
if_only all behind word s is = if_is (subst (λ (ts : List Token). SpellsBranch ts s) word.1 is) word.2

pub elif_only : (all behind : List Token) → IsAfter (is_word (codes "elif")) all behind → (s : Stmt) → SpellsBranch all s → (condition : Expr) × (body : Option Stmt) × (s ≡ stmt.Elif condition body) × IsCondition behind condition body
elif_only all behind word s is = elif_is (subst (λ (ts : List Token). SpellsBranch ts s) word.1 is) word.2

pub else_only : (all behind : List Token) → IsAfter (is_word (codes "else")) all behind → (s : Stmt) → SpellsBranch all s → (body : Option Stmt) × (s ≡ stmt.Else body) × SpellsEnd behind body
else_only all behind word s is = else_is (subst (λ (ts : List Token). SpellsBranch ts s) word.1 is) word.2

pub if_found : (all behind : List Token) (condition : Expr) (body : Option Stmt) → IsAfter (is_word (codes "if")) all behind → IsCondition behind condition body → SpellsBranch all (stmt.If condition body)
if_found all behind condition body word inner = subst (λ (ts : List Token). SpellsBranch ts (stmt.If condition body)) (sym word.1) (if_branch word.0 behind condition body word.2 inner)

pub elif_found : (all behind : List Token) (condition : Expr) (body : Option Stmt) → IsAfter (is_word (codes "elif")) all behind → IsCondition behind condition body → SpellsBranch all (stmt.Elif condition body)
elif_found all behind condition body word inner = subst (λ (ts : List Token). SpellsBranch ts (stmt.Elif condition body)) (sym word.1) (elif_branch word.0 behind condition body word.2 inner)

pub else_found : (all behind : List Token) (body : Option Stmt) → IsAfter (is_word (codes "else")) all behind → SpellsEnd behind body → SpellsBranch all (stmt.Else body)
else_found all behind body word inner = subst (λ (ts : List Token). SpellsBranch ts (stmt.Else body)) (sym word.1) (else_branch word.0 behind body word.2 inner)

-- if none of the words comes first, it is a simple statement
pub branch_simple : (all : List Token) (s : Stmt) → IsNotFirst (is_word (codes "if")) all → IsNotFirst (is_word (codes "elif")) all → IsNotFirst (is_word (codes "else")) all → SpellsBranch all s → SpellsSimple all s
branch_simple _ _ no_if no_elif no_else (if_branch word ts condition body is inner) = absurd (both_ways _ no_if is)
branch_simple _ _ no_if no_elif no_else (elif_branch word ts condition body is inner) = absurd (both_ways _ no_elif is)
branch_simple _ _ no_if no_elif no_else (else_branch word ts body is inner) = absurd (both_ways _ no_else is)
branch_simple _ _ no_if no_elif no_else (simple_branch ts s inner) = inner

-- the condition and the end of the header were read
pub if_read : (all behind : List Token) (condition : Expr) (body : Option Stmt) → IsAfter (is_word (codes "if")) all behind → ((p : Expr × Option Stmt) → IsCondition behind p.0 p.1 → p ≡ (condition, body))
    → (s : Stmt) → SpellsBranch all s → s ≡ stmt.If condition body
if_read all behind condition body word only s is =
    let parts = if_only all behind word s is in
    parts.2 ∙ ap (λ (p : Expr × Option Stmt). stmt.If p.0 p.1) (only (parts.0, parts.1) parts.3)

pub elif_read : (all behind : List Token) (condition : Expr) (body : Option Stmt) → IsAfter (is_word (codes "elif")) all behind → ((p : Expr × Option Stmt) → IsCondition behind p.0 p.1 → p ≡ (condition, body))
    → (s : Stmt) → SpellsBranch all s → s ≡ stmt.Elif condition body
elif_read all behind condition body word only s is =
    let parts = elif_only all behind word s is in
    parts.2 ∙ ap (λ (p : Expr × Option Stmt). stmt.Elif p.0 p.1) (only (parts.0, parts.1) parts.3)

pub else_read : (all behind : List Token) (body : Option Stmt) → IsAfter (is_word (codes "else")) all behind → ((other : Option Stmt) → SpellsEnd behind other → other ≡ body)
    → (s : Stmt) → SpellsBranch all s → s ≡ stmt.Else body
else_read all behind body word only s is =
    let parts = else_only all behind word s is in
    parts.1 ∙ ap stmt.Else (only parts.0 parts.2)

-- ---- what comes after `for`

for_is : {ts : List Token} {s : Stmt} → SpellsFor ts s → (rest : List Token) × (name : List ℕ) × (bounds : List Expr) × (body : Option Stmt) × (s ≡ stmt.For name bounds body) × Begins SpellsRange ts (name, bounds) rest × SpellsEnd rest body
for_is (for_range ts rest name bounds body begins ends) = (rest, name, bounds, body, refl, begins, ends)

pub no_for : (all : List Token) → IsOnlyBeginning SpellsRange all None → (s : Stmt) → SpellsFor all s → ⊥
no_for all only s is =
    let parts = for_is is in
    only (parts.1, parts.2) parts.0 parts.5

-- the range was read, and the end of the header comes after it
pub for_parts : (all rest : List Token) (range : List ℕ × List Expr) → IsOnlyBeginning SpellsRange all (Some (range, rest)) → (s : Stmt) → SpellsFor all s
    → (body : Option Stmt) × (s ≡ stmt.For range.0 range.1 body) × SpellsEnd rest body
for_parts all rest range only s is =
    let parts = for_is is in
    let same = only (parts.1, parts.2) parts.0 parts.5 in
    (parts.3, parts.4 ∙ ap (λ (one : List ℕ × List Expr). stmt.For one.0 one.1 parts.3) same.0, subst (λ (ts : List Token). SpellsEnd ts parts.3) same.1 parts.6)

pub for_only : (all rest : List Token) (range : List ℕ × List Expr) (body : Option Stmt) → IsOnlyBeginning SpellsRange all (Some (range, rest)) → ((other : Option Stmt) → SpellsEnd rest other → other ≡ body)
    → (s : Stmt) → SpellsFor all s → s ≡ stmt.For range.0 range.1 body
for_only all rest range body only only_end s is =
    let parts = for_parts all rest range only s is in
    parts.1 ∙ ap (λ (one : Option Stmt). stmt.For range.0 range.1 one) (only_end parts.0 parts.2)
