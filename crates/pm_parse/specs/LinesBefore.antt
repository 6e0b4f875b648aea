-- The lines before one, as the program keeps them.
use Rattle.std.specs.Prelude.{◌≡◌, List, [], ◌∷◌, Option, Some, None}
use Rattle.std.specs.List.{list_any}
use Rattle.pm_parse.specs.Layout.{is_construct}
use Rattle.pm_parse.specs.OpenBodies.{bodies_of}
use Rattle.pm_parse.specs.declared.body.Body.{Body}
use Rattle.pm_parse.specs.declared.form.LineForm.{LineForm}
use Rattle.pm_parse.specs.declared.layout.Lines.{Lines}

-- the last line, which is listed first
abbrev pub nearest_of : List LineForm → Option LineForm
nearest_of [] = None
nearest_of (line ∷ before) = Some line

-- what is kept of the lines before, the last one first
abbrev pub lines_of : List LineForm → Lines
lines_of before = record { bodies = bodies_of before; nearest = nearest_of before }

-- the body of these lines, the last one first; none if there are no lines
abbrev pub IsBodyOf : List LineForm → Option Body → Type 0
IsBodyOf [] None = Unit {0}
IsBodyOf [] (Some body) = ⊥
IsBodyOf (line ∷ lines) None = ⊥
IsBodyOf (line ∷ lines) (Some body) =
    (body.last ≡ line.form)
    × (body.has_construct ≡ list_any (λ (l : LineForm). is_construct l.form) (line ∷ lines))
