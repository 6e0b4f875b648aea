-- Names of signals and children, as `recv.msg` and `in_[0]`.
use Rattle.std.specs.Prelude.{ℕ, ◌&&◌, ◌||◌, Bool, true, not, IsTrue, List, [], ◌∷◌, ◌++◌, codes, decimal, bytes_eq}
use Rattle.std.specs.List.{list_all, starts_with}
use Rattle.std.specs.Prelude.{nat_eq}
use Rattle.pm_syn.specs.Names.{is_proper_name}

-- a name, followed any number of times by a name after a dot or by a number in brackets
pub data IsMemberName : List ℕ → Type 0 where
  plain : (name : List ℕ) → IsTrue (is_proper_name name) → IsMemberName name
  member : (front name : List ℕ) → IsMemberName front → IsTrue (is_proper_name name) → IsMemberName (front ++ codes "." ++ name)
  element : (front : List ℕ) (k : ℕ) → IsMemberName front → IsMemberName (front ++ codes "[" ++ decimal k ++ codes "]")

-- the first name, followed by a dot or a bracket, begins the second
abbrev pub leads_to : List ℕ → List ℕ → Bool
leads_to first second = starts_with nat_eq second (first ++ codes ".") || starts_with nat_eq second (first ++ codes "[")

-- the names differ, and neither leads to the other
abbrev pub are_apart : List ℕ → List ℕ → Bool
are_apart first second = not (bytes_eq first second || (leads_to first second || leads_to second first))

-- each two names of the list are apart
abbrev pub all_apart : List (List ℕ) → Bool
all_apart [] = true
all_apart (name ∷ names) = list_all (are_apart name) names && all_apart names

-- a name neither is the first name nor begins with it
abbrev pub avoids : List ℕ → List ℕ → Bool
avoids first name = not (bytes_eq first name || leads_to first name)

-- each two names of the list differ
abbrev pub all_differ : List (List ℕ) → Bool
all_differ [] = true
all_differ (name ∷ names) = list_all (λ other. not (bytes_eq name other)) names && all_differ names
