-- What the code holds of the entries.
use Rattle.std.specs.Prelude.{ℕ, List, [], Option, Some, None, map, option_map}
use denote.Ref.{Bor}
use Rattle.pm_words.specs.Words.{Entries}
use Rattle.pm_words.specs.declared.entries.Entries.{Entries as Found}

-- the words, or none
abbrev pub words_now : Option (Bor (List (Bor (List ℕ)))) → List (List ℕ)
words_now None = []
words_now (Some words) = map (λ word. word.now) words.now

-- the entries that a value of the code means
abbrev pub entries_now : Found → Entries
entries_now found = record {
  action = option_map (λ word. word.now) found.action;
  rest = words_now found.rest;
  order = option_map (λ word. word.now) found.order;
  reset = option_map (λ word. word.now) found.reset;
}
