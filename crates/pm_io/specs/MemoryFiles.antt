-- Files in memory, by name.
use Rattle.std.specs.Prelude.{ℕ, Bool, true, not, ◌&&◌, IsTrue, List, [], ◌∷◌, map}
use Rattle.std.specs.List.{list_any}
use Rattle.std.specs.Str.{bytes_eq}
use Rattle.pm_io.specs.declared.memory_file.MemFile.{MemFile}

-- the files as a list of names and contents
abbrev pub listed_of : List MemFile → List (List ℕ × List ℕ)
listed_of files = map (λ file. (file.name, file.bytes)) files

-- whether no name occurs twice
abbrev pub are_distinct : List (List ℕ) → Bool
are_distinct [] = true
are_distinct (name ∷ names) = not (list_any (bytes_eq name) names) && are_distinct names

-- no two files have the same name
abbrev pub NamesDiffer : List MemFile → Type 0
NamesDiffer files = IsTrue (are_distinct (map (λ file. file.name) files))
