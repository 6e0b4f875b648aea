-- Words that are spelled as names.
use Rattle.std.proofs.Common.{◌≡◌, ◌∙◌, sym, ap, ℕ, Bool, true, false, List, [], ◌∷◌, refl, inl, inr}
use Rattle.std.specs.Prelude.{◌||◌}
use Rattle.std.specs.List.{list_all, list_any}
use Rattle.std.specs.Str.{bytes_eq}
use Rattle.std.proofs.lemmas.Bool.{and_parts, cases_Bool, false≢true}
use Rattle.std.proofs.lemmas.Grind.{common_steps}
use Rattle.std.proofs.Common.{arith}
use Rattle.pm_words.proofs.Steps.{bytes_eq_to}
use Rattle.pm_syn.specs.Names.{is_keyword, is_proper_name, is_spelled_as_name, keywords}

-- a word among words that pass a test passes it
among : (test : List ℕ → Bool) (words : List (List ℕ)) (word : List ℕ) → list_all test words ≡ true
    → list_any (bytes_eq word) words ≡ true
    → test word ≡ true
among test [] word all any = absurd (false≢true any)
among test (first ∷ words) word all any = elim (cases_Bool (bytes_eq word first)) [
  | inl same ↦ ap test (bytes_eq_to word first same) ∙ (and_parts (test first) (list_all test words) all).0
  | inr other ↦ among test words word (and_parts (test first) (list_all test words) all).1 (rw other at any)
]

keywords_are_names : list_all is_spelled_as_name keywords ≡ true
keywords_are_names = refl

reserved_is_name : (word : List ℕ) → is_keyword word ≡ true → is_spelled_as_name word ≡ true
unfolding is_keyword
reserved_is_name word reserved = among is_spelled_as_name keywords word keywords_are_names reserved

-- a word that is proper or reserved is one that is spelled as a name
pub proper_or_reserved : (word : List ℕ) → (is_proper_name word || is_keyword word) ≡ is_spelled_as_name word
proper_or_reserved word = elim (cases_Bool (is_keyword word)) [
  | inl reserved ↦ grind (arith, common_steps, reserved, reserved_is_name word reserved)
  | inr free ↦ grind (arith, common_steps, free)
]

-- a word that isn't proper is a name where it is reserved
pub not_proper : (word : List ℕ) → is_proper_name word ≡ false → is_keyword word ≡ is_spelled_as_name word
not_proper word other = ap (λ (b : Bool). b || is_keyword word) (sym other) ∙ proper_or_reserved word
