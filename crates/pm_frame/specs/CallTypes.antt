-- What the code's record of a call's types stands for.
use Rattle.pm_frame.specs.declared.types.CallTypes.{CallTypes as Held}
use Rattle.pm_elab.specs.Connections.{CallTypes}

-- the types of a call that the code holds
abbrev pub call_types : Held → CallTypes
call_types t = record { arguments = t.arguments; result = t.result }
