-- Connections at fault.
use Rattle.std.specs.Prelude.{ℕ, ◌==◌, ◌<◌, ◌≤◌, ◌≡◌, ◌&&◌, Bool, true, false, not, IsTrue, if◌then◌else◌, List, []}
use Rattle.std.specs.Prelude.{◌∷◌, ◌++◌, length, Contains, Option, None, Some, min}
use Rattle.std.specs.List.{list_any}
use Rattle.pm_bits.specs.Word.{Word}
use Rattle.pm_design.specs.declared.connection.Part.{Part}
use Rattle.pm_design.specs.declared.design.Design.{Design}
use Rattle.pm_design.specs.declared.design.Kind.{Kind}
use Rattle.pm_design.specs.declared.signal.Role.{Role}
use Rattle.pm_design.specs.declared.signal.Role.TheVariants as role
use Rattle.pm_design.specs.Instances.{instances_of}
use Rattle.pm_design.specs.Lookups.{is_input, kind_of, signal_of}
use Rattle.pm_nets.specs.declared.check.Check.{Check}
use Rattle.pm_nets.specs.declared.check.Check.TheVariants as check

-- an output
abbrev pub is_output : Role → Bool
is_output role.Input = false
is_output role.Output = true
is_output role.Inner = false

-- a part that brings values to the nets within a component: an own input, or a child's output
abbrev pub is_source : Design → Kind → Part → Bool
is_source design kind part =
    if part.owner == 0 then is_input (signal_of design kind part).role else is_output
    (signal_of design kind part).role

-- a line is kept if a test says so
abbrev pub kept : Bool → ℕ → List ℕ
kept test line = if test then line ∷ [] else []

-- the lines of those that pass a test, in the order of the list
unfoldable pub lines_where : {X : Type 0} → (X → Bool) → (X → ℕ) → List X → List ℕ
lines_where test line [] = []
lines_where test line (x ∷ xs) = kept (test x) (line x) ++ lines_where test line xs

-- the lines of connections of two sources, and of constants tied to a source
abbrev pub misdirected : Design → Kind → List ℕ
misdirected design kind =
    lines_where (λ j. is_source design kind j.a && is_source design kind j.b) (λ j. j.line) kind.joins
    ++ lines_where (λ t. is_source design kind t.part) (λ t. t.line) kind.ties

-- without a value
abbrev pub is_without : Option Word → Bool
is_without None = true
is_without (Some w) = false

-- the lines of connections of unequal types or names, and of constants that their part can't have
abbrev pub mismatched : Kind → List ℕ
mismatched kind =
    lines_where (λ j. not j.equal_types) (λ j. j.line) kind.joins
    ++ lines_where (λ t. is_without t.value) (λ t. t.line) kind.ties
    ++ lines_where (λ b. not b.equal_types) (λ b. b.line) kind.binds
    ++ kind.mismatched

-- the lines of a kind that a check finds
abbrev pub lines_of : Design → Check → Kind → List ℕ
lines_of design check.Direction kind = misdirected design kind
lines_of design check.Types kind = mismatched kind

-- some instance of a design has a kind
abbrev pub has_instance : Design → ℕ → Bool
has_instance design k = list_any (λ i. i.kind == k) (instances_of design)

-- the least number of a list
pub record IsLeastOf (lines : List ℕ) (line : ℕ) : Type 0 where
  pub listed : Contains lines line
  pub least : (other : ℕ) → Contains lines other → line ≤ other

-- the least line of the first kind that has one, of the kinds of instances
pub record IsFirstLine (design : Design) (check : Check) (line : ℕ) : Type 0 where
  pub kind : ℕ
  pub known : kind < length design.kinds
  pub used : IsTrue (has_instance design kind)
  pub least : IsLeastOf (lines_of design check (kind_of design kind)) line
  pub first : (k : ℕ) → k < kind → IsTrue (has_instance design k) → lines_of design check (kind_of design k) ≡ []

-- no kind of an instance has a line
abbrev pub HasNoLine : Design → Check → Type 0
HasNoLine design check =
    (k : ℕ) → k < length design.kinds → IsTrue (has_instance design k) → lines_of design check (kind_of design k) ≡ []

-- the line that a check names, if any
abbrev pub Finds : Design → Check → Option ℕ → Type 0
Finds design check None = HasNoLine design check
Finds design check (Some line) = IsFirstLine design check line

-- the least number of a list, if any
abbrev pub IsLeastIn : List ℕ → Option ℕ → Type 0
IsLeastIn lines None = lines ≡ []
IsLeastIn lines (Some line) = IsLeastOf lines line

-- a number, or a known one that is less
abbrev pub lesser_of : Option ℕ → ℕ → ℕ
lesser_of None line = line
lesser_of (Some other) line = min other line
