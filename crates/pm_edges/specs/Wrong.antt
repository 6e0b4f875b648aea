-- Terms of the wrong sort, and the line that is named for one.
use Rattle.std.specs.Prelude.{◌≤◌, ◌<◌, ℕ, eqb, min, ◌&&◌, ◌||◌, Bool, true, false, IsTrue, IsFalse, List, length, Option, None, Some, slice_index_or}
use Rattle.std.specs.List.{list_any}
use Rattle.pm_design.specs.declared.body.BlockSort.{BlockSort}
use Rattle.pm_design.specs.declared.body.BlockSort.TheVariants as sort
use Rattle.pm_design.specs.declared.connection.Rule.{Rule}
use Rattle.pm_design.specs.declared.connection.Term.{Term}
use Rattle.pm_design.specs.declared.connection.Term.TheVariants as term
use Rattle.pm_design.specs.declared.design.Design.{Design}
use Rattle.pm_design.specs.declared.design.Kind.{Kind}
use Rattle.pm_design.specs.Lookups.{kind_of}
use Rattle.pm_design.specs.Runnable.{no_block}

-- a block that runs at the clock edge
abbrev pub is_edge : BlockSort → Bool
is_edge sort.Update = false
is_edge sort.Once = false
is_edge sort.Edge = true

-- a term of the wrong sort: a block that runs at the clock edge, or what the design marks as such
abbrev pub is_wrong : Kind → Term → Bool
is_wrong kind (term.Block b) = is_edge (slice_index_or kind.blocks b no_block).sort
is_wrong kind (term.Reads part) = false
is_wrong kind (term.Writes part) = false
is_wrong kind (term.Calls callee) = false
is_wrong kind term.Wrong = true

-- a constraint with such a term
abbrev pub is_wrong_rule : Kind → Rule → Bool
is_wrong_rule kind rule = is_wrong kind rule.before || is_wrong kind rule.after

-- one of a kind's constraints at a line has such a term
abbrev pub is_wrong_at : Kind → List Rule → ℕ → Bool
is_wrong_at kind rules line = list_any (λ r. eqb r.line line && is_wrong_rule kind r) rules

-- the least line that passes a test
pub record IsLeastLine (test : ℕ → Bool) (line : ℕ) : Type 0 where
  pub passes : IsTrue (test line)
  pub least : (other : ℕ) → IsTrue (test other) → line ≤ other

-- the least line that passes a test, if any
abbrev pub IsLeast : (ℕ → Bool) → Option ℕ → Type 0
IsLeast test None = (line : ℕ) → IsFalse (test line)
IsLeast test (Some line) = IsLeastLine test line

-- the least line of a kind's constraints that have such a term, if any
abbrev pub IsLeastWrong : Kind → Option ℕ → Type 0
IsLeastWrong kind found = IsLeast (is_wrong_at kind kind.rules) found

-- no constraint of the first kinds, so many, has such a term
abbrev pub HasNoWrong : Design → ℕ → Type 0
HasNoWrong design count = (k : ℕ) → k < count → IsLeastWrong (kind_of design k) None

-- the least such line of the first kind that has one
pub record IsFirstWrong (design : Design) (line : ℕ) : Type 0 where
  pub kind : ℕ
  pub known : kind < length design.kinds
  pub here : IsLeastWrong (kind_of design kind) (Some line)
  pub earlier : HasNoWrong design kind

-- the line that is named, or none if no kind has one
abbrev pub FindsWrong : Design → Option ℕ → Type 0
FindsWrong design None = HasNoWrong design (length design.kinds)
FindsWrong design (Some line) = IsFirstWrong design line

-- the lesser of a line and a known one, if the line counts
abbrev pub sooner_of : Bool → ℕ → Option ℕ → Option ℕ
sooner_of false line least = least
sooner_of true line None = Some line
sooner_of true line (Some other) = Some (min other line)
