-- The words of a line.
use Rattle.std.specs.Prelude.{ℕ, Bool, true, false, not, ◌||◌, ◌==◌, List, [], ◌∷◌, filter}
use Rattle.std.specs.List.{slice_split}

-- a blank or a tab
abbrev pub is_space : ℕ → Bool
is_space byte = byte == 32 || byte == 9

-- any other byte
abbrev pub is_printed : ℕ → Bool
is_printed byte = not (is_space byte)

-- not empty
abbrev pub is_word : List ℕ → Bool
is_word [] = false
is_word (byte ∷ bytes) = true

-- what is between blanks and tabs
unfoldable pub words_of : List ℕ → List (List ℕ)
words_of text = filter is_word (slice_split is_space text)
