-- A logical line by its first token.
use Rattle.std.proofs.Common.{◌≡◌, ◌∙◌, ◌∷◌, ◌++◌, Bool, false, IsTrue, List, [], length, codes, Option, Some, refl, sym, ap, subst}
use Rattle.std.proofs.lemmas.Bool.{both_ways}
use Rattle.pm_syn.specs.declared.expression.Expr.{Expr}
use Rattle.pm_syn.specs.declared.statement.Par.{Par}
use Rattle.pm_syn.specs.declared.statement.Stmt.{Stmt}
use Rattle.pm_syn.specs.declared.statement.Stmt as leaf
use Rattle.pm_syn.specs.declared.statement.Stmt.TheViews as stmt
use Rattle.pm_syn.specs.declared.token.Token.{Token}
use Rattle.pm_grammar.specs.Headers.{IsGuard, IsImport, OpensGuard, SpellsBase, SpellsBranch, SpellsClass, SpellsDecorator, SpellsDefinition, SpellsDequeImport, SpellsFor, SpellsFunctionEnd, SpellsImport, all_names, based, definition, deque, deque_import, elif_branch, else_branch, for_range, function_end, guard, if_branch, mark, opened, simple_branch, some_names, with_base, without_base}
use Rattle.pm_grammar.specs.Tokens.{is_symbol, is_name, is_word}
use Rattle.pm_grammar.specs.Statements.{SpellsLine, SpellsSignature, class_alone, class_of, defined, elif_line, else_line, for_line, guarded, if_line, import_all, import_deque, import_names, marked, simple}
use Rattle.pm_grammar.proofs.OneSymbol.{mark_no_word, other_word, word_no_mark}
use Rattle.pm_grammar.proofs.StatementStarts.{no_simple_at, no_simple_class, no_simple_def, no_simple_for, no_simple_from, no_simple_in, opens_simple}
use Rattle.pm_grammar.proofs.Headers.{not_simple}

-- a logical line by its first token
data IsLine : List Token → Stmt → Type 0 where
  at_line : (t : Token) (ts : List Token) (s : Stmt) → IsTrue (is_symbol (codes "@") t) → SpellsDecorator ts s → IsLine (t ∷ ts) s
  from_line : (t : Token) (ts : List Token) → IsTrue (is_word (codes "from") t) → SpellsImport ts → IsLine (t ∷ ts) leaf.Import
  class_line : (t : Token) (ts : List Token) (s : Stmt) → IsTrue (is_word (codes "class") t) → SpellsClass ts s → IsLine (t ∷ ts) s
  def_line : (t : Token) (ts : List Token) (s : Stmt) → IsTrue (is_word (codes "def") t) → SpellsDefinition ts s → IsLine (t ∷ ts) s
  range_line : (t : Token) (ts : List Token) (s : Stmt) → IsTrue (is_word (codes "for") t) → SpellsFor ts s → IsLine (t ∷ ts) s
  branch_line : (ts : List Token) (s : Stmt) → SpellsBranch ts s → IsLine ts s

line_is : {ts : List Token} {s : Stmt} → SpellsLine ts s → IsLine ts s
line_is (import_all from_word library import_word star from_is library_is import_is star_is) = from_line from_word _ from_is (all_names library import_word star library_is import_is star_is)
line_is (import_names from_word library import_word names from_is library_is import_is spelled) = from_line from_word _ from_is (some_names library import_word names library_is import_is spelled)
line_is (import_deque from_word library import_word its_deque from_is library_is import_is deque_is) = from_line from_word _ from_is (deque _ (deque_import library import_word its_deque library_is import_is deque_is))
line_is (class_alone word name colon is name_is colon_is) = class_line word _ _ is (without_base name colon name_is colon_is)
line_is (class_of word name opening base closing colon is name_is opening_is base_is closing_is colon_is) = class_line word _ _ is (with_base name base _ name_is (based opening base closing colon opening_is base_is closing_is colon_is))
line_is (defined word name opening closing ts us vs has_self ps result body is name_is opening_is signature closing_is result_is ends) =
    def_line word _ _ is (definition name opening _ (closing ∷ (us ++ vs)) has_self ps result body name_is opening_is (ts, refl, signature) (function_end closing (us ++ vs) vs result body closing_is (us, refl, result_is) ends))
line_is (marked at_sign name is name_is) = at_line at_sign _ _ is (mark name name_is)
line_is (guarded at_sign word opening lambda self colon closing ts e is word_is opening_is lambda_is self_is colon_is inner closing_is) =
    at_line at_sign _ _ is (guard word _ (ts ++ closing ∷ []) e word_is (opened opening lambda self colon _ opening_is lambda_is self_is colon_is) (closing, closing_is, (ts, refl, inner)))
line_is (if_line word ts us condition body is inner ends) = branch_line _ _ (if_branch word _ condition body is (us, (ts, refl, inner), ends))
line_is (elif_line word ts us condition body is inner ends) = branch_line _ _ (elif_branch word _ condition body is (us, (ts, refl, inner), ends))
line_is (else_line word ts body is ends) = branch_line _ _ (else_branch word ts body is ends)
line_is (for_line word ts us name bounds body is inner ends) = range_line word _ _ is (for_range _ us name bounds body (ts, refl, inner) ends)
line_is (simple ts s inner) = branch_line ts s (simple_branch ts s inner)

-- ---- one way at each first token

no_branch : (t : Token) → is_word (codes "if") t ≡ false → is_word (codes "elif") t ≡ false → is_word (codes "else") t ≡ false → opens_simple t ≡ false → {ts : List Token} {s : Stmt} → SpellsBranch (t ∷ ts) s → ⊥
no_branch t no_if no_elif no_else never (if_branch word ts condition body is inner) = both_ways _ no_if is
no_branch t no_if no_elif no_else never (elif_branch word ts condition body is inner) = both_ways _ no_elif is
no_branch t no_if no_elif no_else never (else_branch word ts body is ends) = both_ways _ no_else is
no_branch t no_if no_elif no_else never {ts} {s} (simple_branch us one inner) = not_simple t ts s never inner

at_is : {t : Token} {ts : List Token} {s : Stmt} → IsLine (t ∷ ts) s → IsTrue (is_symbol (codes "@") t) → SpellsDecorator ts s
at_is (at_line t ts s also inner) is = inner
at_is (from_line t ts also inner) is = absurd (both_ways _ (mark_no_word (codes "@") (codes "from") t is) also)
at_is (class_line t ts s also inner) is = absurd (both_ways _ (mark_no_word (codes "@") (codes "class") t is) also)
at_is (def_line t ts s also inner) is = absurd (both_ways _ (mark_no_word (codes "@") (codes "def") t is) also)
at_is (range_line t ts s also inner) is = absurd (both_ways _ (mark_no_word (codes "@") (codes "for") t is) also)
at_is {t} {ts} {s} (branch_line us one inner) is = absurd (no_branch t (mark_no_word (codes "@") (codes "if") t is) (mark_no_word (codes "@") (codes "elif") t is) (mark_no_word (codes "@") (codes "else") t is) (no_simple_at t is) inner)

from_is : {t : Token} {ts : List Token} {s : Stmt} → IsLine (t ∷ ts) s → IsTrue (is_word (codes "from") t) → SpellsImport ts × (s ≡ leaf.Import)
from_is (at_line t ts s also inner) is = absurd (both_ways _ (word_no_mark (codes "from") (codes "@") t is) also)
from_is (from_line t ts also inner) is = (inner, refl)
from_is (class_line t ts s also inner) is = absurd (both_ways _ (other_word (codes "from") (codes "class") t refl is) also)
from_is (def_line t ts s also inner) is = absurd (both_ways _ (other_word (codes "from") (codes "def") t refl is) also)
from_is (range_line t ts s also inner) is = absurd (both_ways _ (other_word (codes "from") (codes "for") t refl is) also)
from_is {t} {ts} {s} (branch_line us one inner) is = absurd (no_branch t (other_word (codes "from") (codes "if") t refl is) (other_word (codes "from") (codes "elif") t refl is) (other_word (codes "from") (codes "else") t refl is) (no_simple_from t is) inner)

class_is : {t : Token} {ts : List Token} {s : Stmt} → IsLine (t ∷ ts) s → IsTrue (is_word (codes "class") t) → SpellsClass ts s
class_is (at_line t ts s also inner) is = absurd (both_ways _ (word_no_mark (codes "class") (codes "@") t is) also)
class_is (from_line t ts also inner) is = absurd (both_ways _ (other_word (codes "class") (codes "from") t refl is) also)
class_is (class_line t ts s also inner) is = inner
class_is (def_line t ts s also inner) is = absurd (both_ways _ (other_word (codes "class") (codes "def") t refl is) also)
class_is (range_line t ts s also inner) is = absurd (both_ways _ (other_word (codes "class") (codes "for") t refl is) also)
class_is {t} {ts} {s} (branch_line us one inner) is = absurd (no_branch t (other_word (codes "class") (codes "if") t refl is) (other_word (codes "class") (codes "elif") t refl is) (other_word (codes "class") (codes "else") t refl is) (no_simple_class t is) inner)

def_is : {t : Token} {ts : List Token} {s : Stmt} → IsLine (t ∷ ts) s → IsTrue (is_word (codes "def") t) → SpellsDefinition ts s
def_is (at_line t ts s also inner) is = absurd (both_ways _ (word_no_mark (codes "def") (codes "@") t is) also)
def_is (from_line t ts also inner) is = absurd (both_ways _ (other_word (codes "def") (codes "from") t refl is) also)
def_is (class_line t ts s also inner) is = absurd (both_ways _ (other_word (codes "def") (codes "class") t refl is) also)
def_is (def_line t ts s also inner) is = inner
def_is (range_line t ts s also inner) is = absurd (both_ways _ (other_word (codes "def") (codes "for") t refl is) also)
def_is {t} {ts} {s} (branch_line us one inner) is = absurd (no_branch t (other_word (codes "def") (codes "if") t refl is) (other_word (codes "def") (codes "elif") t refl is) (other_word (codes "def") (codes "else") t refl is) (no_simple_def t is) inner)

for_is : {t : Token} {ts : List Token} {s : Stmt} → IsLine (t ∷ ts) s → IsTrue (is_word (codes "for") t) → SpellsFor ts s
for_is (at_line t ts s also inner) is = absurd (both_ways _ (word_no_mark (codes "for") (codes "@") t is) also)
for_is (from_line t ts also inner) is = absurd (both_ways _ (other_word (codes "for") (codes "from") t refl is) also)
for_is (class_line t ts s also inner) is = absurd (both_ways _ (other_word (codes "for") (codes "class") t refl is) also)
for_is (def_line t ts s also inner) is = absurd (both_ways _ (other_word (codes "for") (codes "def") t refl is) also)
for_is (range_line t ts s also inner) is = inner
for_is {t} {ts} {s} (branch_line us one inner) is = absurd (no_branch t (other_word (codes "for") (codes "if") t refl is) (other_word (codes "for") (codes "elif") t refl is) (other_word (codes "for") (codes "else") t refl is) (no_simple_for t is) inner)

branch_is : {t : Token} {ts : List Token} {s : Stmt} → IsLine (t ∷ ts) s → is_symbol (codes "@") t ≡ false → is_word (codes "from") t ≡ false → is_word (codes "class") t ≡ false → is_word (codes "def") t ≡ false → is_word (codes "for") t ≡ false → SpellsBranch (t ∷ ts) s
branch_is (at_line t ts s also inner) no_at no_from no_class no_def no_for = absurd (both_ways _ no_at also)
branch_is (from_line t ts also inner) no_at no_from no_class no_def no_for = absurd (both_ways _ no_from also)
branch_is (class_line t ts s also inner) no_at no_from no_class no_def no_for = absurd (both_ways _ no_class also)
branch_is (def_line t ts s also inner) no_at no_from no_class no_def no_for = absurd (both_ways _ no_def also)
branch_is (range_line t ts s also inner) no_at no_from no_class no_def no_for = absurd (both_ways _ no_for also)
branch_is (branch_line ts s inner) no_at no_from no_class no_def no_for = inner

pub at_only : (all ts : List Token) (t : Token) (s : Stmt) → all ≡ t ∷ ts → IsTrue (is_symbol (codes "@") t) → SpellsLine all s → SpellsDecorator ts s
at_only all ts t s front is line = at_is (subst (λ (us : List Token). IsLine us s) front (line_is line)) is

pub from_only : (all ts : List Token) (t : Token) (s : Stmt) → all ≡ t ∷ ts → IsTrue (is_word (codes "from") t) → SpellsLine all s → IsImport ts s
from_only all ts t s front is line = from_is (subst (λ (us : List Token). IsLine us s) front (line_is line)) is

pub class_only : (all ts : List Token) (t : Token) (s : Stmt) → all ≡ t ∷ ts → IsTrue (is_word (codes "class") t) → SpellsLine all s → SpellsClass ts s
class_only all ts t s front is line = class_is (subst (λ (us : List Token). IsLine us s) front (line_is line)) is

pub def_only : (all ts : List Token) (t : Token) (s : Stmt) → all ≡ t ∷ ts → IsTrue (is_word (codes "def") t) → SpellsLine all s → SpellsDefinition ts s
def_only all ts t s front is line = def_is (subst (λ (us : List Token). IsLine us s) front (line_is line)) is

pub for_only : (all ts : List Token) (t : Token) (s : Stmt) → all ≡ t ∷ ts → IsTrue (is_word (codes "for") t) → SpellsLine all s → SpellsFor ts s
for_only all ts t s front is line = for_is (subst (λ (us : List Token). IsLine us s) front (line_is line)) is

pub branch_only : (all ts : List Token) (t : Token) (s : Stmt) → all ≡ t ∷ ts → is_symbol (codes "@") t ≡ false → is_word (codes "from") t ≡ false → is_word (codes "class") t ≡ false → is_word (codes "def") t ≡ false → is_word (codes "for") t ≡ false → SpellsLine all s → SpellsBranch all s
branch_only all ts t s front no_at no_from no_class no_def no_for line =
    subst (λ (us : List Token). SpellsBranch us s) (sym front) (branch_is (subst (λ (us : List Token). IsLine us s) front (line_is line)) no_at no_from no_class no_def no_for)

-- no line is empty
pub no_line : (ts : List Token) (s : Stmt) → length ts ≡ 0 → SpellsLine ts s → ⊥
no_line [] s empty line = go (line_is line) where
  no_empty_branch : {one : Stmt} → SpellsBranch [] one → ⊥
  no_empty_branch (simple_branch ts one inner) = no_simple_in one inner

  go : {one : Stmt} → IsLine [] one → ⊥
  go (branch_line ts one inner) = no_empty_branch inner
no_line (t ∷ ts) s empty line = cc

-- ---- what was found

deque_found : {ts : List Token} → SpellsDequeImport ts → (t : Token) → IsTrue (is_word (codes "from") t) → SpellsLine (t ∷ ts) leaf.Import
deque_found (deque_import library import_word its_deque library_is import_is deque_is) t is = import_deque t library import_word its_deque is library_is import_is deque_is

import_found : {ts : List Token} → SpellsImport ts → (t : Token) → IsTrue (is_word (codes "from") t) → SpellsLine (t ∷ ts) leaf.Import
import_found (all_names library import_word star library_is import_is star_is) t is = import_all t library import_word star is library_is import_is star_is
import_found (some_names library import_word names library_is import_is spelled) t is = import_names t library import_word names is library_is import_is spelled
import_found (deque ts inner) t is = deque_found inner t is

base_line : {ts : List Token} {base : Token} → SpellsBase ts base → (t name : Token) → IsTrue (is_word (codes "class") t) → IsTrue (is_name name) → SpellsLine (t ∷ name ∷ ts) (leaf.Class name.text (Some base.text))
base_line (based opening base closing colon opening_is base_is closing_is colon_is) t name is name_is = class_of t name opening base closing colon is name_is opening_is base_is closing_is colon_is

class_found : {ts : List Token} {s : Stmt} → SpellsClass ts s → (t : Token) → IsTrue (is_word (codes "class") t) → SpellsLine (t ∷ ts) s
class_found (without_base name colon name_is colon_is) t is = class_alone t name colon is name_is colon_is
class_found (with_base name base ts name_is inner) t is = base_line inner t name is name_is

guard_line : {ts us : List Token} {e : Expr} → OpensGuard ts us → IsGuard us e → (t word : Token) → IsTrue (is_symbol (codes "@") t) → IsTrue (is_word (codes "non_blocking") word) → SpellsLine (t ∷ word ∷ ts) (leaf.NonBlocking e)
guard_line {ts} {us} {e} (opened opening lambda self colon rest opening_is lambda_is self_is colon_is) inner t word is word_is =
    let line = guarded t word opening lambda self colon inner.0 inner.2.0 e is word_is opening_is lambda_is self_is colon_is inner.2.2 inner.1 in
    subst (λ (vs : List Token). SpellsLine (t ∷ word ∷ opening ∷ lambda ∷ self ∷ colon ∷ vs) (leaf.NonBlocking e)) (sym inner.2.1) line

at_found : {ts : List Token} {s : Stmt} → SpellsDecorator ts s → (t : Token) → IsTrue (is_symbol (codes "@") t) → SpellsLine (t ∷ ts) s
at_found (mark name name_is) t is = marked t name is name_is
at_found (guard word ts us e word_is opens_it inner) t is = guard_line opens_it inner t word is word_is

ending_line : {rest : List Token} {result : Option Expr} {body : Option Stmt} → SpellsFunctionEnd rest result body → (t name opening : Token) (ts us : List Token) (has_self : Bool) (ps : List Par) → IsTrue (is_word (codes "def") t) → IsTrue (is_name name)
    → IsTrue (is_symbol (codes "(") opening) → us ≡ ts ++ rest → SpellsSignature ts has_self ps → SpellsLine (t ∷ name ∷ opening ∷ us) (stmt.Def name.text has_self ps result body)
ending_line (function_end closing ts rest result body closing_is note ends) t name opening front us has_self ps is name_is opening_is same signature =
    let line = defined t name opening closing front note.0 rest has_self ps result body is name_is opening_is signature closing_is note.2 ends in
    let whole : us ≡ front ++ (closing ∷ (note.0 ++ rest)) = same ∙ ap (λ (vs : List Token). front ++ (closing ∷ vs)) note.1 in
    subst (λ (vs : List Token). SpellsLine (t ∷ name ∷ opening ∷ vs) (stmt.Def name.text has_self ps result body)) (sym whole) line

def_found : {ts : List Token} {s : Stmt} → SpellsDefinition ts s → (t : Token) → IsTrue (is_word (codes "def") t) → SpellsLine (t ∷ ts) s
def_found (definition name opening ts rest has_self ps result body name_is opening_is begins ends) t is = ending_line ends t name opening begins.0 ts has_self ps is name_is opening_is begins.1 begins.2

for_found : {ts : List Token} {s : Stmt} → SpellsFor ts s → (t : Token) → IsTrue (is_word (codes "for") t) → SpellsLine (t ∷ ts) s
for_found (for_range ts rest name bounds body begins ends) t is =
    subst (λ (us : List Token). SpellsLine (t ∷ us) (stmt.For name bounds body)) (sym begins.1) (for_line t begins.0 rest name bounds body is begins.2 ends)

pub branch_found : {ts : List Token} {s : Stmt} → SpellsBranch ts s → SpellsLine ts s
branch_found (if_branch word ts condition body is inner) =
    subst (λ (us : List Token). SpellsLine (word ∷ us) (stmt.If condition body)) (sym inner.1.1) (if_line word inner.1.0 inner.0 condition body is inner.1.2 inner.2)
branch_found (elif_branch word ts condition body is inner) =
    subst (λ (us : List Token). SpellsLine (word ∷ us) (stmt.Elif condition body)) (sym inner.1.1) (elif_line word inner.1.0 inner.0 condition body is inner.1.2 inner.2)
branch_found (else_branch word ts body is ends) = else_line word ts body is ends
branch_found (simple_branch ts s inner) = simple ts s inner

pub at_line_found : (all ts : List Token) (t : Token) (s : Stmt) → all ≡ t ∷ ts → IsTrue (is_symbol (codes "@") t) → SpellsDecorator ts s → SpellsLine all s
at_line_found all ts t s front is inner = subst (λ (us : List Token). SpellsLine us s) (sym front) (at_found inner t is)

pub from_line_found : (all ts : List Token) (t : Token) (s : Stmt) → all ≡ t ∷ ts → IsTrue (is_word (codes "from") t) → IsImport ts s → SpellsLine all s
from_line_found all ts t s front is inner = rw (front, inner.1) (import_found inner.0 t is)

pub class_line_found : (all ts : List Token) (t : Token) (s : Stmt) → all ≡ t ∷ ts → IsTrue (is_word (codes "class") t) → SpellsClass ts s → SpellsLine all s
class_line_found all ts t s front is inner = subst (λ (us : List Token). SpellsLine us s) (sym front) (class_found inner t is)

pub def_line_found : (all ts : List Token) (t : Token) (s : Stmt) → all ≡ t ∷ ts → IsTrue (is_word (codes "def") t) → SpellsDefinition ts s → SpellsLine all s
def_line_found all ts t s front is inner = subst (λ (us : List Token). SpellsLine us s) (sym front) (def_found inner t is)

pub for_line_found : (all ts : List Token) (t : Token) (s : Stmt) → all ≡ t ∷ ts → IsTrue (is_word (codes "for") t) → SpellsFor ts s → SpellsLine all s
for_line_found all ts t s front is inner = subst (λ (us : List Token). SpellsLine us s) (sym front) (for_found inner t is)
