-- What a parse found, and the rows that say so.
use Rattle.std.proofs.Common.{◌≡◌, ◌∙◌, ap, refl, List, [], ℕ}
use Rattle.std.specs.Prelude.{Option, Some, None, map, option_map, unwrap_or}
use denote.Ref.{Bor}
use Rattle.pm_words.specs.Entries.{words_now}
use Rattle.clap.specs.Words.{Text, first_value, first_of, all_of, raw_values, matched_of, rows_of}
use Rattle.clap.specs.declared.parser.matches.Found.{Found}
use Rattle.clap.proofs.WalkLemmas.{first_value-rows, raw_values-rows}

pointed : (words : Option (Bor (List (Bor (List ℕ)))))
    → words_now words ≡ unwrap_or (option_map (λ s. map (λ v. v.now) s.now) words) []
pointed None = refl
pointed (Some words) = refl

pub first_found : (found : Found) (id : Text) → first_value found id ≡ first_of id (rows_of found)
first_found = first_value-rows

-- the words that a reference points to are those of the row, or none
pub all_found : (found : Found) (id : Text) (words : Option (Bor (List (Bor (List ℕ)))))
    → option_map (λ s. map (λ v. v.now) s.now) words ≡ option_map raw_values (matched_of found id)
    → words_now words ≡ unwrap_or (all_of id (rows_of found)) []
all_found found id words same =
    pointed words ∙ ap (λ (o : Option (List (List ℕ))). unwrap_or o []) (same ∙ raw_values-rows found id)
