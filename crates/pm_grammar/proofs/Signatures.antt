-- Parameters one after the other, as a signature is read.
use Rattle.std.proofs.Common.{◌≡◌, ◌∙◌, ◌⊎◌, ◌∷◌, ◌++◌, ℕ, Bool, true, false, IsTrue, List, [], codes, append_assoc, Option, Some, None, refl, sym, ap, subst, inl, inr}
use Rattle.std.proofs.lemmas.Bool.{both_ways, or_left, or_right}
use Rattle.pm_syn.specs.declared.expression.Expr.{Expr}
use Rattle.pm_syn.specs.declared.statement.Par.{Par}
use Rattle.pm_syn.specs.declared.statement.Stmt.{Stmt}
use Rattle.pm_syn.specs.declared.statement.Stmt.TheViews as stmt
use Rattle.pm_syn.specs.declared.token.Token.{Token}
use Rattle.pm_grammar.specs.Prefixes.{IsAfter, IsNotFirst, begins_with}
use Rattle.pm_grammar.specs.Brackets.{ends_argument}
use Rattle.pm_grammar.specs.Headers.{IsOnlyOptional, IsSignature, SpellsDefinition, SpellsFunctionEnd, definition, function_end}
use Rattle.pm_grammar.specs.Tokens.{is_symbol, is_name, is_word}
use Rattle.pm_grammar.specs.Reading.{Begins, Ends, IsOnlyBefore, IsOnlyUpTo, IsRead}
use Rattle.pm_grammar.specs.Statements.{SpellsEnd, SpellsOptional, SpellsParameter, SpellsParameters, SpellsResult, SpellsSignature, absent, and_parameter, itself, parameter, parameters_comma, present, with_parameters, without_parameters}
use Rattle.pm_grammar.specs.declared.level.Level.TheVariants as level
use Rattle.pm_grammar.proofs.OneSymbol.{argument_ends, ends_equals, mark_no_name, mark_no_word, no_argument_end, other_mark}
use Rattle.pm_grammar.proofs.Headers.{none_before_end, only_before_end, pair_is}

-- ---- where a parameter ends

-- if a default or the end of a parameter begins, no annotation continues
pub note_ends : {us : List Token} {default : Option Expr} → SpellsOptional (codes "=") us default → (next : Token) (rest : List Token) → IsTrue (ends_argument next)
    → IsNotFirst (is_symbol (codes ":")) (us ++ (next ∷ rest)) × Ends level.Conditional (us ++ (next ∷ rest))
note_ends absent next rest is = (no_argument_end (codes ":") next refl refl is, argument_ends next is)
note_ends (present sign ts e sign_is inner) next rest is = (other_mark (codes "=") (codes ":") sign refl sign_is, ends_equals sign sign_is)

-- ---- a parameter

-- the parameter of these parts
abbrev par_of : List ℕ → Option Expr → Option Expr → Par
par_of text note default = record { name = text; note = note; default = default }

-- each parameter that a comma or a closing parenthesis follows was read
abbrev pub IsOnlyParameter : List Token → Option (Par × List Token) → Type 0
IsOnlyParameter = IsOnlyUpTo SpellsParameter ends_argument

-- the parts of a parameter after its name
abbrev IsParameterBehind : Token → List Token → Par → Token → List Token → Type 0
IsParameterBehind name tail one next rest =
    (note : Option Expr) × (default : Option Expr) × (us : List Token) × (one ≡ par_of name.text note default)
    × Begins (SpellsOptional (codes ":")) tail note (us ++ (next ∷ rest)) × SpellsOptional (codes "=") us default

parameter_is : {front : List Token} {one : Par} → SpellsParameter front one → (name next : Token) (tail rest : List Token) → name ∷ tail ≡ front ++ (next ∷ rest) → IsParameterBehind name tail one next rest
parameter_is (parameter first ts us note default is note_is default_is) name next tail rest same =
    let name_same : first ≡ name = cc in
    let tail_same : tail ≡ (ts ++ us) ++ (next ∷ rest) = cc in
    (note, default, us, ap (λ (t : Token). par_of t.text note default) name_same, (ts, tail_same ∙ append_assoc ts us (next ∷ rest), note_is), default_is)

parameter_behind : (all tail : List Token) (name : Token) → all ≡ name ∷ tail → (one : Par) (next : Token) (rest : List Token) → Begins SpellsParameter all one (next ∷ rest) → IsParameterBehind name tail one next rest
parameter_behind all tail name front one next rest begins = parameter_is begins.2 name next tail rest (sym front ∙ begins.1)

note_read : (all tail : List Token) (name : Token) (read : Option (Option Expr × List Token)) → all ≡ name ∷ tail → IsOnlyOptional (codes ":") tail read
    → (one : Par) (next : Token) (rest : List Token) → IsTrue (ends_argument next) → (begins : Begins SpellsParameter all one (next ∷ rest))
    → (behind : IsParameterBehind name tail one next rest) × IsRead read behind.0 (behind.2 ++ (next ∷ rest))
note_read all tail name read front only one next rest is begins =
    let behind = parameter_behind all tail name front one next rest begins in
    let ends = note_ends behind.5 next rest is in
    (behind, only behind.0 (behind.2 ++ (next ∷ rest)) behind.4 ends.0 ends.1)

pub no_note : (all tail : List Token) (name : Token) → all ≡ name ∷ tail → IsOnlyOptional (codes ":") tail None → IsOnlyParameter all None
no_note all tail name front only one next rest is begins = (note_read all tail name None front only one next rest is begins).1

default_read : (all tail mid : List Token) (name : Token) (note : Option Expr) (read : Option (Option Expr × List Token)) → all ≡ name ∷ tail → IsOnlyOptional (codes ":") tail (Some (note, mid))
    → IsOnlyOptional (codes "=") mid read → (one : Par) (next : Token) (rest : List Token) → IsTrue (ends_argument next) → Begins SpellsParameter all one (next ∷ rest)
    → (default : Option Expr) × (one ≡ par_of name.text note default) × IsRead read default (next ∷ rest)
default_read all tail mid name note read front only then_only one next rest is begins =
    let here = note_read all tail name (Some (note, mid)) front only one next rest is begins in
    let same = here.1 in
    (here.0.1, here.0.3 ∙ ap (λ (n : Option Expr). par_of name.text n here.0.1) same.0, then_only here.0.1 (next ∷ rest) (here.0.2, sym same.1, here.0.5) (no_argument_end (codes "=") next refl refl is) (argument_ends next is))

pub no_default : (all tail mid : List Token) (name : Token) (note : Option Expr) → all ≡ name ∷ tail → IsOnlyOptional (codes ":") tail (Some (note, mid)) → IsOnlyOptional (codes "=") mid None → IsOnlyParameter all None
no_default all tail mid name note front only then_only one next rest is begins = (default_read all tail mid name note None front only then_only one next rest is begins).2

pub only_parameter : (all tail mid behind : List Token) (name : Token) (text : List ℕ) (note default : Option Expr) → all ≡ name ∷ tail → IsOnlyOptional (codes ":") tail (Some (note, mid))
    → IsOnlyOptional (codes "=") mid (Some (default, behind)) → text ≡ name.text → IsOnlyParameter all (Some (record { name = text; note = note; default = default }, behind))
only_parameter all tail mid behind name text note default front only then_only same one next rest is begins =
    let here = default_read all tail mid name note (Some (default, behind)) front only then_only one next rest is begins in
    (here.1 ∙ ap (λ (d : Option Expr). par_of name.text note d) here.2.0 ∙ ap (λ (t : List ℕ). par_of t note default) (sym same), here.2.1)

pub parameter_found : (all tail mid behind : List Token) (name : Token) (text : List ℕ) (note default : Option Expr) → (all ≡ name ∷ tail) × IsTrue (is_name name) → Begins (SpellsOptional (codes ":")) tail note mid
    → Begins (SpellsOptional (codes "=")) mid default behind → text ≡ name.text → Begins SpellsParameter all (record { name = text; note = note; default = default }) behind
parameter_found all tail mid behind name text note default named note_found default_found same =
    let front : all ≡ name ∷ ((note_found.0 ++ default_found.0) ++ behind) =
    named.0 ∙ ap (λ (ts : List Token). name ∷ ts) (note_found.1 ∙ ap (λ (ts : List Token). note_found.0 ++ ts) default_found.1 ∙ sym (append_assoc note_found.0 default_found.0 behind)) in
    (name ∷ (note_found.0 ++ default_found.0), front, rw same (parameter name note_found.0 default_found.0 note default named.1 note_found.2 default_found.2))

-- a parameter begins with a name
parameter_begins : {us : List Token} {p : Par} → SpellsParameter us p → (name : Token) × (tail : List Token) × (us ≡ name ∷ tail) × IsTrue (is_name name)
parameter_begins (parameter name ts us its_note default is note_is default_is) = (name, ts ++ us, refl, is)

-- ---- how a signature continues

-- after these parameters a signature continues by the tokens to all of its parameters, and the rest comes after it
pub data GoesOn : List Par → List Token → List Par → List Token → Type 0 where
  ended : (ps : List Par) (ts : List Token) → GoesOn ps ts ps ts
  comma_ended : (ps : List Par) (comma : Token) (ts : List Token) → IsTrue (is_symbol (codes ",") comma) → GoesOn ps (comma ∷ ts) ps ts
  goes : (ps every : List Par) (p : Par) (comma : Token) (us ts rest : List Token) → IsTrue (is_symbol (codes ",") comma) → SpellsParameter us p → GoesOn (ps ++ p ∷ []) ts every rest → GoesOn ps (comma ∷ (us ++ ts)) every rest

from_parameters : {ts : List Token} {ps : List Par} → SpellsParameters ts ps → (tail : List Token) (every : List Par) (rest : List Token) → GoesOn ps tail every rest
    → (word : Token) × (us : List Token) × (ts ++ tail ≡ word ∷ us) × IsTrue (is_word (codes "s") word) × GoesOn [] us every rest
from_parameters (itself word is) tail every rest on = (word, tail, refl, is, on)
from_parameters (and_parameter comma ts us ps p first comma_is spelled) tail every rest on =
    let start = from_parameters first (comma ∷ (us ++ tail)) every rest (goes ps every p comma us tail rest comma_is spelled on) in
    (start.0, start.1, append_assoc ts (comma ∷ us) tail ∙ start.2, start.3, start.4)

-- a signature that begins with `s`, or nothing
signature_is : {front : List Token} {has_self : Bool} {ps : List Par} → SpellsSignature front has_self ps → (rest : List Token)
    → ((front ≡ []) × (has_self ≡ false) × (ps ≡ [])) ⊎ ((word : Token) × (us : List Token) × (front ++ rest ≡ word ∷ us) × IsTrue (is_word (codes "s") word) × (has_self ≡ true) × GoesOn [] us ps rest)
signature_is without_parameters rest = inl (refl, refl, refl)
signature_is (with_parameters ts ps spelled) rest =
    let start = from_parameters spelled rest ps rest (ended ps rest) in
    inr (start.0, start.1, start.2, start.3, refl, start.4)
signature_is (parameters_comma comma ts ps spelled is) rest =
    let start = from_parameters spelled (comma ∷ rest) ps rest (comma_ended ps comma rest is) in
    inr (start.0, start.1, append_assoc ts (comma ∷ []) rest ∙ start.2, start.3, refl, start.4)

-- each signature with which the tokens begin continues after these parameters
abbrev pub IsGoingOn : List Token → List Par → List Token → Type 0
IsGoingOn all ps here = (one : Bool × List Par) (closing : Token) (rest : List Token) → IsTrue (is_symbol (codes ")") closing) → Begins IsSignature all one (closing ∷ rest) → (one.0 ≡ true) × GoesOn ps here one.1 (closing ∷ rest)

pub goes_first : (all here : List Token) → IsAfter (is_word (codes "s")) all here → IsGoingOn all [] here
goes_first all here self one closing rest is begins =
    elim (signature_is begins.2 (closing ∷ rest)) [
      | inl nothing ↦ (
          let same : closing ∷ rest ≡ self.0 ∷ here = cc (nothing.0, begins.1, self.1) in
          let first : closing ≡ self.0 = cc in
          absurd (both_ways _ (mark_no_word (codes ")") (codes "s") closing is) (subst (λ (t : Token). IsTrue (is_word (codes "s") t)) (sym first) self.2)))
      | inr some ↦ (
          let same : here ≡ some.1 = cc (some.2, begins.1, self.1) in
          (some.4, subst (λ (ts : List Token). GoesOn [] ts one.1 (closing ∷ rest)) (sym same) some.5))
    ]

pub no_self_found : (all : List Token) → Begins IsSignature all (false, []) all
no_self_found all = ([], refl, without_parameters)

pub no_self_only : (all : List Token) → IsNotFirst (is_word (codes "s")) all → IsOnlyBefore IsSignature (codes ")") all (Some ((false, []), all))
no_self_only all not_there one closing rest is begins =
    elim (signature_is begins.2 (closing ∷ rest)) [
      | inl nothing ↦ (pair_is one false [] nothing.1 nothing.2, cc (nothing.0, begins.1))
      | inr some ↦ absurd (both_ways (is_word (codes "s") some.0) (subst (IsNotFirst (is_word (codes "s"))) (begins.1 ∙ some.2) not_there) some.3)
    ]

pub self_found : (all here : List Token) → IsAfter (is_word (codes "s")) all here → Begins SpellsParameters all [] here
self_found all here self = (self.0 ∷ [], self.1, itself self.0 self.2)

-- the ways to continue
goes_is : {ps every : List Par} {ts rest : List Token} → GoesOn ps ts every rest
    → ((ts ≡ rest) × (every ≡ ps))
    ⊎ (((comma : Token) × (ts ≡ comma ∷ rest) × IsTrue (is_symbol (codes ",") comma) × (every ≡ ps))
    ⊎ ((comma : Token) × (us vs : List Token) × (p : Par) × (ts ≡ comma ∷ (us ++ vs)) × IsTrue (is_symbol (codes ",") comma) × SpellsParameter us p × GoesOn (ps ++ p ∷ []) vs every rest))
goes_is (ended ps ts) = inl (refl, refl)
goes_is (comma_ended ps comma ts is) = inr (inl (comma, refl, is, refl))
goes_is (goes ps every p comma us ts rest is spelled on) = inr (inr (comma, us, ts, p, refl, is, spelled, on))

-- if a signature continues or ends, a parameter ends
goes_begins : {ps every : List Par} {ts : List Token} (closing : Token) (rest : List Token) → IsTrue (is_symbol (codes ")") closing) → GoesOn ps ts every (closing ∷ rest)
    → (next : Token) × (tail : List Token) × (ts ≡ next ∷ tail) × IsTrue (ends_argument next)
goes_begins closing rest is on =
    elim (goes_is on) [
      | inl end ↦ (closing, rest, end.0, or_right _ _ is)
      | inr more ↦ elim more [
        | inl comma ↦ (comma.0, closing ∷ rest, comma.1, or_left _ _ comma.2)
        | inr next ↦ (next.0, next.1 ++ next.2, next.4, or_left _ _ next.5)
      ]
    ]

-- ---- the end of a signature

comma_no_closing : (comma closing : Token) → comma ≡ closing → IsTrue (is_symbol (codes ",") comma) → IsTrue (is_symbol (codes ")") closing) → ⊥
comma_no_closing comma closing same is closing_is =
    both_ways _ (other_mark (codes ",") (codes ")") comma refl is) (subst (λ (t : Token). IsTrue (is_symbol (codes ")") t)) (sym same) closing_is)

pub signature_found : (all here : List Token) (ps : List Par) → Begins SpellsParameters all ps here → Begins IsSignature all (true, ps) here
signature_found all here ps begins = (begins.0, begins.1, with_parameters begins.0 ps begins.2)

pub signature_only : (all here : List Token) (ps : List Par) → IsGoingOn all ps here → IsNotFirst (is_symbol (codes ",")) here → IsOnlyBefore IsSignature (codes ")") all (Some ((true, ps), here))
signature_only all here ps going not_there one closing rest is begins =
    let on = going one closing rest is begins in
    elim (goes_is on.1) [
      | inl end ↦ (pair_is one true ps on.0 end.1, sym end.0)
      | inr more ↦ elim more [
        | inl comma ↦ absurd (both_ways (is_symbol (codes ",") comma.0) (subst (IsNotFirst (is_symbol (codes ","))) comma.1 not_there) comma.2)
        | inr next ↦ absurd (both_ways (is_symbol (codes ",") next.0) (subst (IsNotFirst (is_symbol (codes ","))) next.4 not_there) next.5)
      ]
    ]

pub trailing_found : (all here behind : List Token) (ps : List Par) → Begins SpellsParameters all ps here → IsAfter (is_symbol (codes ",")) here behind → Begins IsSignature all (true, ps) behind
trailing_found all here behind ps begins comma =
    (begins.0 ++ comma.0 ∷ [], begins.1 ∙ ap (λ (ts : List Token). begins.0 ++ ts) comma.1 ∙ sym (append_assoc begins.0 (comma.0 ∷ []) behind), parameters_comma comma.0 begins.0 ps begins.2 comma.2)

-- a parameter doesn't begin with a symbol
no_mark_begins : (mark : List ℕ) (us vs behind : List Token) (p : Par) → behind ≡ us ++ vs → SpellsParameter us p → begins_with (is_symbol mark) behind ≡ false
no_mark_begins mark us vs behind p front spelled =
    let name = parameter_begins spelled in
    let same : behind ≡ name.0 ∷ (name.1 ++ vs) = front ∙ ap (λ (ts : List Token). ts ++ vs) name.2 in
    rw same (go name.0 (is_symbol mark name.0) refl name.3)
  where
    go : (token : Token) (test : Bool) → is_symbol mark token ≡ test → IsTrue (is_name token) → is_symbol mark token ≡ false
    go token true is named = absurd (both_ways _ (mark_no_name mark token is) named)
    go token false is named = is

pub trailing_only : (all here behind : List Token) (ps : List Par) → IsGoingOn all ps here → IsAfter (is_symbol (codes ",")) here behind → begins_with (is_symbol (codes ")")) behind ≡ true → IsOnlyBefore IsSignature (codes ")") all (Some ((true, ps), behind))
trailing_only all here behind ps going comma begun one closing rest is begins =
    let on = going one closing rest is begins in
    elim (goes_is on.1) [
      | inl end ↦ absurd (comma_no_closing comma.0 closing (cc (comma.1, end.0)) comma.2 is)
      | inr more ↦ elim more [
        | inl last ↦ (pair_is one true ps on.0 last.3, cc (comma.1, last.1))
        | inr next ↦ absurd (both_ways _ (no_mark_begins (codes ")") next.1 next.2 behind next.3 (cc (comma.1, next.4)) next.6) begun)
      ]
    ]

-- ---- the next parameter

next_read : (all here behind : List Token) (ps : List Par) (read : Option (Par × List Token)) → IsGoingOn all ps here → IsAfter (is_symbol (codes ",")) here behind → begins_with (is_symbol (codes ")")) behind ≡ false → IsOnlyParameter behind read
    → (one : Bool × List Par) (closing : Token) (rest : List Token) → IsTrue (is_symbol (codes ")") closing) → Begins IsSignature all one (closing ∷ rest)
    → (p : Par) × (vs : List Token) × (one.0 ≡ true) × IsRead read p vs × GoesOn (ps ++ p ∷ []) vs one.1 (closing ∷ rest)
next_read all here behind ps read going comma not_begun only one closing rest is begins =
    let on = going one closing rest is begins in
    elim (goes_is on.1) [
      | inl end ↦ absurd (comma_no_closing comma.0 closing (cc (comma.1, end.0)) comma.2 is)
      | inr more ↦ elim more [
        | inl last ↦ (
            let same : behind ≡ closing ∷ rest = cc (comma.1, last.1) in
            absurd (both_ways _ (subst (λ (ts : List Token). begins_with (is_symbol (codes ")")) ts ≡ false) same not_begun) is))
        | inr next ↦ (
            let front : behind ≡ next.1 ++ next.2 = cc (comma.1, next.4) in
            let end = goes_begins closing rest is next.7 in
            let there : IsRead read next.3 (end.0 ∷ end.1) = only next.3 end.0 end.1 end.3 (next.1, front ∙ ap (λ (ts : List Token). next.1 ++ ts) end.2, next.6) in
            (next.3, next.2, on.0, subst (λ (ts : List Token). IsRead read next.3 ts) (sym end.2) there, next.7))
      ]
    ]

pub no_next : (all here behind : List Token) (ps : List Par) → IsGoingOn all ps here → IsAfter (is_symbol (codes ",")) here behind → begins_with (is_symbol (codes ")")) behind ≡ false → IsOnlyParameter behind None
    → IsOnlyBefore IsSignature (codes ")") all None
no_next all here behind ps going comma not_begun only one closing rest is begins = (next_read all here behind ps None going comma not_begun only one closing rest is begins).3

pub goes_next : (all here behind next : List Token) (ps : List Par) (p : Par) → IsGoingOn all ps here → IsAfter (is_symbol (codes ",")) here behind → begins_with (is_symbol (codes ")")) behind ≡ false → IsOnlyParameter behind (Some (p, next))
    → IsGoingOn all (ps ++ p ∷ []) next
goes_next all here behind next ps p going comma not_begun only one closing rest is begins =
    let there = next_read all here behind ps (Some (p, next)) going comma not_begun only one closing rest is begins in
    let same = there.3 in
    (there.2, subst (λ (ts : List Token). GoesOn (ps ++ p ∷ []) ts one.1 (closing ∷ rest)) same.1 (subst (λ (q : Par). GoesOn (ps ++ q ∷ []) there.1 one.1 (closing ∷ rest)) same.0 there.4))

pub next_found : (all here behind next : List Token) (ps : List Par) (p : Par) → Begins SpellsParameters all ps here → IsAfter (is_symbol (codes ",")) here behind → Begins SpellsParameter behind p next → Begins SpellsParameters all (ps ++ p ∷ []) next
next_found all here behind next ps p begins comma spelled =
    let front : here ≡ comma.0 ∷ (spelled.0 ++ next) = comma.1 ∙ ap (λ (ts : List Token). comma.0 ∷ ts) spelled.1 in
    (begins.0 ++ comma.0 ∷ spelled.0, begins.1 ∙ ap (λ (ts : List Token). begins.0 ++ ts) front ∙ sym (append_assoc begins.0 (comma.0 ∷ spelled.0) next), and_parameter comma.0 begins.0 spelled.0 ps p begins.2 comma.2 spelled.2)

-- ---- the end of a function's header

function_end_is : {closing : Token} {ts : List Token} {result : Option Expr} {body : Option Stmt} → SpellsFunctionEnd (closing ∷ ts) result body → (rest : List Token) × Begins SpellsResult ts result rest × SpellsEnd rest body
function_end_is (function_end closing ts rest result body is begins ends) = (rest, begins, ends)

pub function_end_behind : (all behind : List Token) → IsAfter (is_symbol (codes ")")) all behind → (result : Option Expr) (body : Option Stmt) → SpellsFunctionEnd all result body → (rest : List Token) × Begins SpellsResult behind result rest × SpellsEnd rest body
function_end_behind all behind closing result body is = function_end_is (subst (λ (ts : List Token). SpellsFunctionEnd ts result body) closing.1 is)

pub no_result : (all behind : List Token) → IsAfter (is_symbol (codes ")")) all behind → IsOnlyBefore SpellsResult (codes ":") behind None
    → (result : Option Expr) (body : Option Stmt) → SpellsFunctionEnd all result body → ⊥
no_result all behind closing only result body is =
    let parts = function_end_behind all behind closing result body is in
    none_before_end SpellsResult behind only result parts.0 body parts.1 parts.2

pub function_end_parts : (all behind rest : List Token) (result : Option Expr) → IsAfter (is_symbol (codes ")")) all behind → IsOnlyBefore SpellsResult (codes ":") behind (Some (result, rest))
    → (one : Option Expr) (body : Option Stmt) → SpellsFunctionEnd all one body → (one ≡ result) × SpellsEnd rest body
function_end_parts all behind rest result closing only one body is =
    let parts = function_end_behind all behind closing one body is in
    only_before_end SpellsResult behind rest result only one parts.0 body parts.1 parts.2

pub function_end_found : (all behind rest : List Token) (result : Option Expr) (body : Option Stmt) → IsAfter (is_symbol (codes ")")) all behind → Begins SpellsResult behind result rest → SpellsEnd rest body → SpellsFunctionEnd all result body
function_end_found all behind rest result body closing begins ends = subst (λ (ts : List Token). SpellsFunctionEnd ts result body) (sym closing.1) (function_end closing.0 behind rest result body closing.2 begins ends)

function_end_begins : {ts : List Token} {result : Option Expr} {body : Option Stmt} → SpellsFunctionEnd ts result body → (closing : Token) × (tail : List Token) × (ts ≡ closing ∷ tail) × IsTrue (is_symbol (codes ")") closing)
function_end_begins (function_end closing ts rest result body is begins ends) = (closing, ts, refl, is)

-- ---- a definition

definition_is : {name opening : Token} {ts : List Token} {s : Stmt} → SpellsDefinition (name ∷ opening ∷ ts) s
    → (rest : List Token) × (has_self : Bool) × (ps : List Par) × (result : Option Expr) × (body : Option Stmt) × (s ≡ stmt.Def name.text has_self ps result body) × Begins IsSignature ts (has_self, ps) rest × SpellsFunctionEnd rest result body
definition_is (definition name opening ts rest has_self ps result body is opening_is begins ends) = (rest, has_self, ps, result, body, refl, begins, ends)

-- if the end of a function's header follows, the signature was read
read_before_end : (behind : List Token) (read : Option ((Bool × List Par) × List Token)) → IsOnlyBefore IsSignature (codes ")") behind read → (one : Bool × List Par) (rest : List Token) (result : Option Expr) (body : Option Stmt)
    → Begins IsSignature behind one rest → SpellsFunctionEnd rest result body → IsRead read one rest
read_before_end behind read only one rest result body begins ends =
    let closing = function_end_begins ends in
    let read_there = only one closing.0 closing.1 closing.3 (subst (λ (ts : List Token). Begins IsSignature behind one ts) closing.2 begins) in
    subst (λ (ts : List Token). IsRead read one ts) (sym closing.2) read_there

signature_read : (all tail behind : List Token) (name : Token) (read : Option ((Bool × List Par) × List Token)) → all ≡ name ∷ tail → IsAfter (is_symbol (codes "(")) tail behind → IsOnlyBefore IsSignature (codes ")") behind read
    → (s : Stmt) → SpellsDefinition all s
    → (rest : List Token) × (has_self : Bool) × (ps : List Par) × (result : Option Expr) × (body : Option Stmt) × (s ≡ stmt.Def name.text has_self ps result body) × IsRead read (has_self, ps) rest × SpellsFunctionEnd rest result body
signature_read all tail behind name read front opening only s is =
    let same : all ≡ name ∷ opening.0 ∷ behind = cc (front, opening.1) in
    let there = definition_is (subst (λ (ts : List Token). SpellsDefinition ts s) same is) in
    (there.0, there.1, there.2, there.3, there.4, there.5, read_before_end behind read only (there.1, there.2) there.0 there.3 there.4 there.6 there.7, there.7)

pub no_signature : (all tail behind : List Token) (name : Token) → all ≡ name ∷ tail → IsAfter (is_symbol (codes "(")) tail behind → IsOnlyBefore IsSignature (codes ")") behind None
    → (s : Stmt) → SpellsDefinition all s → ⊥
no_signature all tail behind name front opening only s is = (signature_read all tail behind name None front opening only s is).6

-- the signature was read, and the end of the header comes after it
pub definition_parts : (all tail behind rest : List Token) (name : Token) (signature : Bool × List Par) → all ≡ name ∷ tail → IsAfter (is_symbol (codes "(")) tail behind
    → IsOnlyBefore IsSignature (codes ")") behind (Some (signature, rest)) → (s : Stmt) → SpellsDefinition all s
    → (result : Option Expr) × (body : Option Stmt) × (s ≡ stmt.Def name.text signature.0 signature.1 result body) × SpellsFunctionEnd rest result body
definition_parts all tail behind rest name signature front opening only s is =
    let there = signature_read all tail behind name (Some (signature, rest)) front opening only s is in
    let same = there.6 in
    let made : s ≡ stmt.Def name.text signature.0 signature.1 there.3 there.4 = there.5 ∙ ap (λ (one : Bool × List Par). stmt.Def name.text one.0 one.1 there.3 there.4) same.0 in
    (there.3, there.4, made, subst (λ (ts : List Token). SpellsFunctionEnd ts there.3 there.4) same.1 there.7)

pub definition_only : (all tail behind rest : List Token) (name : Token) (text : List ℕ) (signature : Bool × List Par) (result : Option Expr) (body : Option Stmt) → all ≡ name ∷ tail → IsAfter (is_symbol (codes "(")) tail behind
    → IsOnlyBefore IsSignature (codes ")") behind (Some (signature, rest)) → ((end : Option Expr × Option Stmt) → SpellsFunctionEnd rest end.0 end.1 → end ≡ (result, body)) → text ≡ name.text
    → (s : Stmt) → SpellsDefinition all s → s ≡ stmt.Def text signature.0 signature.1 result body
definition_only all tail behind rest name text signature result body front opening only only_end same s is =
    let parts = definition_parts all tail behind rest name signature front opening only s is in
    parts.2 ∙ ap (λ (end : Option Expr × Option Stmt). stmt.Def name.text signature.0 signature.1 end.0 end.1) (only_end (parts.0, parts.1) parts.3)
    ∙ ap (λ (t : List ℕ). stmt.Def t signature.0 signature.1 result body) (sym same)

pub definition_found : (all tail behind rest : List Token) (name : Token) (text : List ℕ) (has_self : Bool) (ps : List Par) (result : Option Expr) (body : Option Stmt) → (all ≡ name ∷ tail) × IsTrue (is_name name) → IsAfter (is_symbol (codes "(")) tail behind
    → Begins IsSignature behind (has_self, ps) rest → SpellsFunctionEnd rest result body → text ≡ name.text → SpellsDefinition all (stmt.Def text has_self ps result body)
definition_found all tail behind rest name text has_self ps result body named opening begins ends same =
    let front : all ≡ name ∷ opening.0 ∷ behind = cc (named.0, opening.1) in
    subst (λ (ts : List Token). SpellsDefinition ts (stmt.Def text has_self ps result body)) (sym front) (rw same (definition name opening.0 behind rest has_self ps result body named.1 opening.2 begins ends))
