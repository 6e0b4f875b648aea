-- Where an expression stands, and what a name means there.
use Rattle.std.specs.Prelude.{ℕ, ◌++◌, ℤ, Bool, ◌||◌, List, [], ◌∷◌, codes, decimal, if◌then◌else◌, Option, Some, None, find}
use Rattle.std.specs.List.{range_with_len}
use Rattle.std.specs.Option.{option_map}
use Rattle.std.specs.Str.{bytes_eq}
use Rattle.pm_syn.specs.declared.statement.Node.{Node}
use Rattle.pm_values.specs.declared.value.Value.{Value}
use Rattle.pm_values.specs.declared.value.Value.TheVariants as value
use Rattle.pm_values.specs.Tables.{Names, get}
use Rattle.pm_elab.specs.declared.frame.Frame.{Frame}
use Rattle.pm_elab.specs.declared.site.Turn.{Turn}
use Rattle.pm_elab.specs.declared.site.FileScope.{FileScope as LentScope}
use Rattle.pm_elab.specs.declared.site.Site.{Site as LentSite}

-- what every line of a file sees: the file's lines and its names
pub record Scope : Type 0 where
  pub nodes : List Node
  pub names : Names Value

-- where an expression stands, for what its names mean and for the line of its fault
pub record Site : Type 0 where
  pub file : Scope
  -- the run of `construct` in which it stands; none outside of one
  pub frame : Option Frame
  -- the comprehensions around it, the innermost first
  pub turns : List Turn
  pub line : ℕ

-- the scope that the code's references lead to
abbrev pub scope_of : LentScope → Scope
scope_of s = record { nodes = s.nodes.now; names = s.names.now }

-- the site that the code's references lead to
abbrev pub site_of : LentSite → Site
site_of s = record { file = scope_of s.file; frame = option_map (λ f. f.now) s.frame; turns = s.turns.now; line = s.line }

-- outside of any `construct`
abbrev pub outside : Scope → ℕ → Site
outside file line = record { file = file; frame = None; turns = []; line = line }

-- in a run of `construct`
abbrev pub inside : Scope → Frame → ℕ → Site
inside file frame line = record { file = file; frame = Some frame; turns = []; line = line }

-- within a comprehension, at one of its turns
abbrev pub with_turn : Site → List ℕ → ℤ → Site
with_turn site name at = record site { turns = record { name = name; value = at } ∷ site.turns }

-- ---- names

-- the first, or else the second
abbrev pub or : {A : Type 0} → Option A → Option A → Option A
or (Some a) other = Some a
or None other = other

-- the value of a comprehension's name
abbrev pub turn_named : List Turn → List ℕ → Option Value
turn_named [] name = None
turn_named (t ∷ ts) name = if bytes_eq t.name name then Some (value.Int t.value) else turn_named ts name

-- `s` itself
abbrev pub own : List ℕ → Option Value
own name = if bytes_eq name (codes "s") then Some value.Own else None

-- the value of a name of `construct`, which may hide `s`
abbrev pub local_named : Option Frame → List ℕ → Option Value
local_named None name = None
local_named (Some f) name = or (option_map (λ l. l.value) (get f.raw.locals name)) (own name)

-- the name is `BitsN` or `bN` for this N
abbrev pub is_type_name : List ℕ → ℕ → Bool
is_type_name name width = bytes_eq name (codes "Bits" ++ decimal width) || bytes_eq name (codes "b" ++ decimal width)

-- the width that a name of a type names, 1 to 128
unfoldable pub named_width : List ℕ → Option ℕ
named_width name = find (is_type_name name) (range_with_len 1 128)

-- the type of a name, as `Bits8`
abbrev pub type_named : List ℕ → Option Value
type_named name = option_map (λ width. value.Type (record { width = width; shape = None })) (named_width name)

-- what a name means: a comprehension's name, a name of `construct`, a name of the file, or a type
unfoldable pub named : Site → List ℕ → Option Value
named site name = or (turn_named site.turns name) (or (local_named site.frame name) (or (get site.file.names name) (type_named name)))
