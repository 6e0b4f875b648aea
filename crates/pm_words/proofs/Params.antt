-- The parameters of words, one after another.
use Rattle.std.proofs.Common.{◌≡◌, ◌<◌, ◌+◌, ◌++◌, ◌∙◌, ℕ, List, [], ◌∷◌, ◌≤◌, map, drop, length, get_or, refl, sym, ap, append_assoc, append-nil}
use Rattle.std.specs.Prelude.{Option, Some, None, option_map}
use Rattle.std.specs.Option.{option_and_then}
use Rattle.std.proofs.lemmas.List.{at_drop_more}
use Rattle.std.proofs.Math.ListN.{drop_of_length-le}
use denote.Ref.{Bor}
use Rattle.pm_elab.specs.declared.parameter.Param.{Param}
use Rattle.pm_words.specs.Readings.{param_of, params_of}

-- the parameters of these words come after those
abbrev pub Follow : List Param → List (List ℕ) → Option (List Param) → Type 0
Follow params words whole = option_map (λ more. params ++ more) (params_of words) ≡ whole

-- a word without a parameter leaves none
pub word_fails : (params : List Param) (word : List ℕ) (words : List (List ℕ)) (whole : Option (List Param))
    → Follow params (word ∷ words) whole → param_of word ≡ None → whole ≡ None
unfolding params_of
word_fails params word words whole follow none = sym follow ∙ rw none refl

again : (params : List Param) (param : Param) (rest : Option (List Param))
    → option_map (λ more. (params ++ param ∷ []) ++ more) rest
    ≡ option_map (λ more. params ++ more) (option_and_then (λ more. Some (param ∷ more)) rest)
again params param None = refl
again params param (Some more) = ap (λ (all : List Param). Some all) (append_assoc params (param ∷ []) more)

-- one more word, and its parameter
pub word_follows : (params : List Param) (word : List ℕ) (param : Param) (words : List (List ℕ))
    (whole : Option (List Param))
    → Follow params (word ∷ words) whole → param_of word ≡ Some param → Follow (params ++ param ∷ []) words whole
unfolding params_of
word_follows params word param words whole follow some = again params param (params_of words) ∙ (rw some at follow)

-- no word is left
pub words_done : (params : List Param) (whole : Option (List Param)) → Follow params [] whole → whole ≡ Some params
unfolding params_of
words_done params whole follow = sym follow ∙ ap (λ (all : List Param). Some all) (append-nil params)

-- the next word
pub next_word : (words : List (Bor (List ℕ))) (index : ℕ) (other : Bor (List ℕ)) → index < length words
    → map (λ word. word.now) (drop index words) ≡ (get_or words index other).now ∷ map (λ word. word.now)
    (drop (index + 1) words)
next_word words index other within = at_drop_more (map (λ (word : Bor (List ℕ)). word.now)) words index other within

-- the words from an index on follow those before it
abbrev pub FollowAt : List (Bor (List ℕ)) → ℕ → List Param → Type 0
FollowAt words index params =
    Follow params (map (λ word. word.now) (drop index words)) (params_of (map (λ word. word.now) words))

pub next_fails : (words : List (Bor (List ℕ))) (index : ℕ) (params : List Param) (other : Bor (List ℕ))
    → index < length words
    → FollowAt words index params → param_of (get_or words index other).now ≡ None
    → params_of (map (λ word. word.now) words) ≡ None
next_fails words index params other within follow none =
    word_fails params (get_or words index other).now (map (λ word. word.now) (drop (index + 1) words)) _
    (rw (next_word words index other within) at follow) none

pub next_follows : (words : List (Bor (List ℕ))) (index : ℕ) (params more : List Param) (param : Param)
    (other : Bor (List ℕ))
    → index < length words → FollowAt words index params → param_of (get_or words index other).now ≡ Some param
    → more ≡ params ++ param ∷ [] → FollowAt words (index + 1) more
next_follows words index params more param other within follow some is =
    rw is (word_follows params (get_or words index other).now param (map (λ word. word.now) (drop (index + 1) words)) _
    (rw (next_word words index other within) at follow) some)

pub all_follow : (words : List (Bor (List ℕ))) (index : ℕ) (params : List Param) → length words ≤ index
    → FollowAt words index params
    → params_of (map (λ word. word.now) words) ≡ Some params
all_follow words index params past follow =
    let none : drop index words ≡ [] = drop_of_length-le words past in words_done params _ (rw none at follow)
