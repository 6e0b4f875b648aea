-- Names that are proper, part by part.
use Rattle.std.proofs.Common.{◌≡◌, ℕ, IsTrue, List, [], ◌∷◌, ◌++◌, map, All, not}
use Rattle.std.proofs.lemmas.Bool.{and_from, and_parts}
use Rattle.std.proofs.lemmas.List.Elements.{All-append, All-cons, All-head, All-nil, All-tail}
use Rattle.pm_syn.specs.declared.token.Token.{Token}
use Rattle.pm_syn.specs.Names.{is_keyword, is_spelled_as_name}
use Rattle.pm_grammar.specs.Tokens.{is_name, is_name_kind}
use Rattle.pm_grammar.proofs.TokenTexts.{name_kind_is}
use Rattle.pm_parse.specs.FileNames.{IsProperName, IsSpelledAsKind, Names, all_names}

-- ---- what holds of each of two lists

-- a prefix of a list
pub all_prefix : {A : Type 0} (P : A → Type 0) (xs ys : List A) → All P (xs ++ ys) → All P xs
all_prefix P [] ys all = All-nil P
all_prefix P (x ∷ xs) ys all = All-cons P x xs (All-head P x (xs ++ ys) all) (all_prefix P xs ys (All-tail P x (xs ++ ys) all))

-- what comes after a prefix of a list
pub all_rest : {A : Type 0} (P : A → Type 0) (xs ys : List A) → All P (xs ++ ys) → All P ys
all_rest P [] ys all = all
all_rest P (x ∷ xs) ys all = all_rest P xs ys (All-tail P x (xs ++ ys) all)

-- ---- tokens

-- each token that is of the names' kind is spelled as a name
abbrev pub AreSpelled : List Token → Type 0
AreSpelled tokens = All IsSpelledAsKind tokens

-- the first token
pub first_spelled : (t : Token) (ts : List Token) → AreSpelled (t ∷ ts) → IsSpelledAsKind t
first_spelled t ts all = All-head IsSpelledAsKind t ts all

-- the tokens after the first
pub rest_spelled : (t : Token) (ts : List Token) → AreSpelled (t ∷ ts) → AreSpelled ts
rest_spelled t ts all = All-tail IsSpelledAsKind t ts all

-- the tokens before others
pub prefix_spelled : (ts us : List Token) → AreSpelled (ts ++ us) → AreSpelled ts
prefix_spelled ts us all = all_prefix IsSpelledAsKind ts us all

-- the tokens after others
pub suffix_spelled : (ts us : List Token) → AreSpelled (ts ++ us) → AreSpelled us
suffix_spelled ts us all = all_rest IsSpelledAsKind ts us all

-- the tokens after others and one more
pub after_spelled : (ts us : List Token) (t : Token) → AreSpelled (ts ++ t ∷ us) → AreSpelled us
after_spelled ts us t all = rest_spelled t us (suffix_spelled ts (t ∷ us) all)

-- the text of a token that is a name
pub name_proper : (t : Token) → IsTrue (is_name t) → IsSpelledAsKind t → IsProperName t.text
name_proper t named spelled =
    let parts = and_parts (is_name_kind t.kind) (not (is_keyword t.text)) named in
    and_from (is_spelled_as_name t.text) (not (is_keyword t.text)) (spelled (name_kind_is t.kind parts.0)) parts.1

-- ---- names

-- each of the names is proper
abbrev pub AreProper : Names → Type 0
AreProper names = All IsProperName names

-- no names
pub none_proper : AreProper []
none_proper = All-nil IsProperName

-- one name before others
pub more_proper : (name : List ℕ) (names : Names) → IsProperName name → AreProper names → AreProper (name ∷ names)
more_proper name names is are = All-cons IsProperName name names is are

-- one name
pub one_proper : (name : List ℕ) → IsProperName name → AreProper (name ∷ [])
one_proper name is = more_proper name [] is none_proper

-- the names of two parts
pub both_proper : (names others : Names) → AreProper names → AreProper others → AreProper (names ++ others)
both_proper names others are others_are = All-append IsProperName names others are others_are

-- the names of parts that are what these names are
pub same_proper : (names others : Names) → others ≡ names → AreProper names → AreProper others
same_proper names others same are = rw same are

-- the names of each of some parts
pub all_proper : {A : Type 0} (names_of_part : A → Names) (parts : List A) → All (λ part. AreProper (names_of_part part)) parts → AreProper (all_names (map names_of_part parts))
all_proper names_of_part [] all = none_proper
all_proper names_of_part (part ∷ parts) all =
    both_proper (names_of_part part) (all_names (map names_of_part parts)) (All-head (λ one. AreProper (names_of_part one)) part parts all)
    (all_proper names_of_part parts (All-tail (λ one. AreProper (names_of_part one)) part parts all))
