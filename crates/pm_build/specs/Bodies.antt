-- The run of a `construct`, from the frame in which it begins.
use Rattle.std.specs.Prelude.{List}
use Rattle.pm_values.specs.declared.value.Value.{Value}
use Rattle.pm_values.specs.declared.value.Value.TheVariants as value
use Rattle.pm_elab.specs.declared.frame.Frame.{Frame}
use Rattle.pm_elab.specs.Captures.{captured}
use Rattle.pm_elab.specs.Classes.{Class, construct_in}
use Rattle.pm_elab.specs.Constructs.{construct_body, members_of}
use Rattle.pm_elab.specs.Elab.{Elab, ◌>>=◌, ◌>>◌, pure, lift}
use Rattle.pm_elab.specs.Expressions.{Make}
use Rattle.pm_elab.specs.Methods.{headers}
use Rattle.pm_elab.specs.Sites.{Scope}

-- the frame, if no lambda reads a name that was assigned more than once
abbrev pub returned : Frame → Elab Frame
returned f = lift (captured f) >> pure f

-- the frame of a component when its `construct` has returned
unfoldable pub component_body : Make → Make → Scope → Class → Frame → Elab Frame
component_body outer inner file c f =
    headers outer file c.lines f >>= (λ g. construct_body inner file (construct_in c.lines) g) >>= returned

-- an interface when its `construct` has returned
unfoldable pub interface_body : Make → Scope → Class → Frame → Elab Value
interface_body inner file c f =
    construct_body inner file (construct_in c.lines) f >>= (λ g. pure (value.NewInterface (members_of g.raw.attributes)))
