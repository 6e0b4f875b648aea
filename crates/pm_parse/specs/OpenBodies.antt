-- The bodies that the next line may be in, as the program keeps them.
use Rattle.std.specs.Prelude.{◌==◌, ◌||◌, ℕ, Bool, false, nat_lt, List, [], ◌∷◌, Option, Some, None, if◌then◌else◌}
use Rattle.pm_parse.specs.Layout.{is_construct}
use Rattle.pm_parse.specs.BodyKinds.{body_of}
use Rattle.pm_parse.specs.declared.body.Body.{Body}
use Rattle.pm_parse.specs.declared.form.LineForm.{LineForm}
use Rattle.pm_parse.specs.declared.body_kind.BodyKind.{BodyKind}
use Rattle.pm_parse.specs.declared.body_kind.BodyKind.TheVariants as kind

-- the innermost body is deeper than this column
abbrev pub is_above : ℕ → List Body → Bool
is_above column [] = false
is_above column (body ∷ outer) = nat_lt column body.column

-- the bodies without the innermost ones that are deeper than this column
abbrev pub leave : ℕ → List Body → List Body
leave column [] = []
leave column (body ∷ outer) = if nat_lt column body.column then leave column outer else body ∷ outer

-- the innermost body, if it is at this column
abbrev pub body_at : ℕ → List Body → Option Body
body_at column [] = None
body_at column (body ∷ outer) = if body.column == column then Some body else None

-- the kind of body that a line at this column is in
abbrev pub kind_at : ℕ → List Body → BodyKind
kind_at column [] = kind.File
kind_at column (body ∷ outer) = if body.column == column then body.kind else body_of body.kind body.last

-- the body has a `construct` already
abbrev pub holds_construct : Option Body → Bool
holds_construct None = false
holds_construct (Some body) = body.has_construct

-- the bodies without the innermost one, if it is at this column
abbrev pub leave_at : ℕ → List Body → List Body
leave_at column [] = []
leave_at column (body ∷ outer) = if body.column == column then outer else body ∷ outer

-- the body of which this line is the last
abbrev pub body_with : LineForm → List Body → Body
body_with line bodies = record {
  column = line.column;
  kind = kind_at line.column bodies;
  last = line.form;
  has_construct = holds_construct (body_at line.column bodies) || is_construct line.form;
}

-- the bodies after one more line, once the deeper ones are closed
abbrev pub with_line : LineForm → List Body → List Body
with_line line bodies = body_with line bodies ∷ leave_at line.column bodies

-- the bodies after some lines, the last one first
abbrev pub bodies_of : List LineForm → List Body
bodies_of [] = []
bodies_of (line ∷ before) = with_line line (leave line.column (bodies_of before))
