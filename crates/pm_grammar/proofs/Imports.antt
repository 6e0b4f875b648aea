-- What comes after `from`, and names with commas between them.
use Rattle.std.proofs.Common.{◌≡◌, ◌∙◌, ◌⊎◌, ◌∷◌, ◌++◌, ◌||◌, ◌==◌, Bool, true, false, IsTrue, List, [], length, append-nil, append_assoc, codes, refl, sym, ap, subst, inl, inr}
use Rattle.std.proofs.lemmas.Bool.{both_ways, or_cases, or_left, or_right}
use Rattle.std.specs.Prelude.{◌↔◌}
use Rattle.pm_syn.specs.declared.token.Token.{Token}
use Rattle.pm_grammar.specs.Prefixes.{IsAfter, IsNotFirst}
use Rattle.pm_grammar.specs.Headers.{SpellsDequeImport, SpellsImport, all_names, deque, deque_import, is_lone, some_names}
use Rattle.pm_grammar.specs.Tokens.{is_symbol, is_name, is_word}
use Rattle.pm_grammar.specs.Statements.{SpellsNames, more_names, one_name}
use Rattle.pm_grammar.proofs.OneSymbol.{other_word}
use Rattle.pm_grammar.proofs.Headers.{empty_true, lone_is}

-- ---- names

-- after a name, names continue to the end of the tokens
pub data NamesGoOn : List Token → Type 0 where
  names_end : NamesGoOn []
  names_next : (comma name : Token) (ts : List Token) → IsTrue (is_symbol (codes ",") comma) → IsTrue (is_name name) → NamesGoOn ts → NamesGoOn (comma ∷ name ∷ ts)

from_names : {ts : List Token} → SpellsNames ts → (tail : List Token) → NamesGoOn tail → (name : Token) × (us : List Token) × (ts ++ tail ≡ name ∷ us) × IsTrue (is_name name) × NamesGoOn us
from_names (one_name name is) tail on = (name, tail, refl, is, on)
from_names (more_names ts comma name first comma_is is) tail on =
    let start = from_names first (comma ∷ name ∷ tail) (names_next comma name tail comma_is is on) in
    (start.0, start.1, append_assoc ts (comma ∷ name ∷ []) tail ∙ start.2, start.3, start.4)

names_behind : (ts : List Token) → SpellsNames ts → (name : Token) × (us : List Token) × (ts ≡ name ∷ us) × IsTrue (is_name name) × NamesGoOn us
names_behind ts spelled =
    let start = from_names spelled [] names_end in
    (start.0, start.1, sym (append-nil ts) ∙ start.2, start.3, start.4)

pub no_names : (all : List Token) → IsNotFirst is_name all → SpellsNames all → ⊥
no_names all not_there spelled =
    let start = names_behind all spelled in
    both_ways (is_name start.0) (subst (IsNotFirst is_name) start.2 not_there) start.3

-- the tokens begin with names
abbrev pub HasNames : List Token → List Token → Type 0
HasNames all rest = (front : List Token) × (all ≡ front ++ rest) × SpellsNames front

pub first_name_found : (all rest : List Token) (name : Token) → (all ≡ name ∷ rest) × IsTrue (is_name name) → HasNames all rest
first_name_found all rest name named = (name ∷ [], named.0, one_name name named.1)

pub first_name_only : (all rest : List Token) (name : Token) → (all ≡ name ∷ rest) × IsTrue (is_name name) → SpellsNames all → NamesGoOn rest
first_name_only all rest name named spelled =
    let start = names_behind all spelled in
    let same : start.1 ≡ rest = cc (named.0, start.2) in
    subst NamesGoOn same start.4

pub next_name_found : (all here behind rest : List Token) (name : Token) → HasNames all here → IsAfter (is_symbol (codes ",")) here behind → (behind ≡ name ∷ rest) × IsTrue (is_name name) → HasNames all rest
next_name_found all here behind rest name names comma named =
    let front : here ≡ comma.0 ∷ name ∷ rest = comma.1 ∙ ap (λ (ts : List Token). comma.0 ∷ ts) named.0 in
    (names.0 ++ comma.0 ∷ name ∷ [], names.1 ∙ ap (λ (ts : List Token). names.0 ++ ts) front ∙ sym (append_assoc names.0 (comma.0 ∷ name ∷ []) rest), more_names names.0 comma.0 name names.2 comma.2 named.1)

next_is : {comma : Token} {ts : List Token} → NamesGoOn (comma ∷ ts) → (name : Token) × (us : List Token) × (ts ≡ name ∷ us) × IsTrue (is_symbol (codes ",") comma) × IsTrue (is_name name) × NamesGoOn us
next_is (names_next comma name ts comma_is is on) = (name, ts, refl, comma_is, is, on)

pub next_name_only : (here behind rest : List Token) (name : Token) → IsAfter (is_symbol (codes ",")) here behind → behind ≡ name ∷ rest → NamesGoOn here → NamesGoOn rest
next_name_only here behind rest name comma named on =
    let next = next_is (subst NamesGoOn comma.1 on) in
    let same : next.1 ≡ rest = cc (named, next.2) in
    subst NamesGoOn same next.5

pub no_next_name : (here behind : List Token) → IsAfter (is_symbol (codes ",")) here behind → IsNotFirst is_name behind → NamesGoOn here → ⊥
no_next_name here behind comma not_there on =
    let next = next_is (subst NamesGoOn comma.1 on) in
    both_ways (is_name next.0) (subst (IsNotFirst is_name) next.2 not_there) next.4

-- without a comma, names end
pub names_are : (all here : List Token) (test : Bool) → HasNames all here → (SpellsNames all → NamesGoOn here) → IsNotFirst (is_symbol (codes ",")) here → test ≡ (length here == 0) → IsTrue test ↔ SpellsNames all
names_are all here test names going not_there empty =
    (λ is. subst SpellsNames (sym (names.1 ∙ ap (λ (ts : List Token). names.0 ++ ts) (empty_true here test empty is) ∙ append-nil names.0)) names.2, λ spelled. empty ∙ ended here not_there (going spelled))
  where
    ended : (ts : List Token) → IsNotFirst (is_symbol (codes ",")) ts → NamesGoOn ts → (length ts == 0) ≡ true
    ended [] never on = refl
    ended (t ∷ ts) never on = absurd (both_ways (is_symbol (codes ",") t) never (next_is on).3)

-- ---- an import

deque_found : {third : List Token} {t u v : Token} → IsTrue (is_word (codes "collections") t) → IsTrue (is_word (codes "import") u) → IsTrue (is_word (codes "deque") v) → third ≡ [] → SpellsDequeImport (t ∷ u ∷ v ∷ third)
deque_found {third} {t} {u} {v} a b d empty = rw empty (deque_import t u v a b d)

deque_ends : {t u v : Token} {rest : List Token} → SpellsDequeImport (t ∷ u ∷ v ∷ rest) → rest ≡ []
deque_ends (deque_import library import_word its_deque a b d) = refl

pub deque_is : (all first second third : List Token) (test : Bool) → IsAfter (is_word (codes "collections")) all first → IsAfter (is_word (codes "import")) first second → IsAfter (is_word (codes "deque")) second third → test ≡ (length third == 0)
    → IsTrue test ↔ SpellsDequeImport all
deque_is all first second third test library import_word its_deque empty =
    let front : all ≡ library.0 ∷ import_word.0 ∷ its_deque.0 ∷ third = cc (library.1, import_word.1, its_deque.1) in
    (λ is. rw front (deque_found library.2 import_word.2 its_deque.2 (empty_true third test empty is)), λ spelled. empty ∙ ap (λ (ts : List Token). length ts == 0) (deque_ends (subst SpellsDequeImport front spelled)))

import_all : {library import_word : Token} {rest : List Token} → IsTrue (is_word (codes "pymtl3") library) → IsTrue (is_word (codes "import") import_word) → is_lone (codes "*") rest ≡ true → SpellsImport (library ∷ import_word ∷ rest)
import_all {library} {import_word} {rest} is import_is lone =
    let star = lone_is (codes "*") rest lone in
    rw star.1 (all_names library import_word star.0 is import_is star.2)

names_or_star : {library import_word : Token} {rest : List Token} → IsTrue (is_word (codes "pymtl3") library) → SpellsImport (library ∷ import_word ∷ rest) → SpellsNames rest ⊎ (is_lone (codes "*") rest ≡ true)
names_or_star is (all_names library import_word star library_is import_is star_is) = inr star_is
names_or_star is (some_names library import_word names library_is import_is spelled) = inl spelled
names_or_star {library} {import_word} {rest} is (deque ts spelled) = absurd (no_deque spelled is)
  where
    no_deque : {first : Token} {us : List Token} → SpellsDequeImport (first ∷ us) → IsTrue (is_word (codes "pymtl3") first) → ⊥
    no_deque (deque_import library import_word its_deque a b d) is = both_ways _ (other_word (codes "pymtl3") (codes "collections") library refl is) a

import_is : (all behind names : List Token) (named : Bool) → IsAfter (is_word (codes "pymtl3")) all behind → IsAfter (is_word (codes "import")) behind names → (IsTrue named ↔ SpellsNames names)
    → IsTrue (named || is_lone (codes "*") names) ↔ SpellsImport all
import_is all behind names named library import_word are =
    let front : all ≡ library.0 ∷ import_word.0 ∷ names = cc (library.1, import_word.1) in (
      λ is. elim (or_cases _ _ is) [
        | inl spelled ↦ rw front (some_names library.0 import_word.0 names library.2 import_word.2 (are.0 spelled))
        | inr lone ↦ rw front (import_all library.2 import_word.2 lone)
      ],
      λ spelled. elim (names_or_star library.2 (subst SpellsImport front spelled)) [
        | inl is ↦ or_left _ _ (are.1 is)
        | inr lone ↦ or_right _ _ lone
      ],
    )

pub import_named : (all behind names : List Token) (named : Bool) → IsAfter (is_word (codes "pymtl3")) all behind → IsAfter (is_word (codes "import")) behind names → (IsTrue named ↔ SpellsNames names) → named ≡ true → IsTrue named ↔ SpellsImport all
import_named all behind names named library import_word are is =
    let both = import_is all behind names named library import_word are in
    (λ here. both.0 (or_left _ _ here), λ spelled. is)

pub import_star : (all behind names : List Token) (named star : Bool) → IsAfter (is_word (codes "pymtl3")) all behind → IsAfter (is_word (codes "import")) behind names → (IsTrue named ↔ SpellsNames names) → named ≡ false → star ≡ is_lone (codes "*") names
    → IsTrue star ↔ SpellsImport all
import_star all behind names named star library import_word are unnamed same =
    let both = import_is all behind names named library import_word are in (
      λ is. both.0 (or_right _ _ (sym same ∙ is)),
      λ spelled. elim (or_cases _ _ (both.1 spelled)) [
        | inl is ↦ absurd (both_ways _ unnamed is)
        | inr lone ↦ same ∙ lone
      ],
    )

pub import_deque_is : (all : List Token) (test : Bool) → IsNotFirst (is_word (codes "pymtl3")) all → (IsTrue test ↔ SpellsDequeImport all) → IsTrue test ↔ SpellsImport all
import_deque_is all test not_there are = (λ is. deque all (are.0 is), λ spelled. are.1 (go spelled not_there)) where
  go : {ts : List Token} → SpellsImport ts → IsNotFirst (is_word (codes "pymtl3")) ts → SpellsDequeImport ts
  go (all_names pymtl3 import_word star library_is word_is star_is) never = absurd (both_ways _ never library_is)
  go (some_names pymtl3 import_word names library_is word_is spelled) never = absurd (both_ways _ never library_is)
  go (deque ts inner) never = inner
