-- What a reference tells of its signal.
use Rattle.std.specs.Prelude.{◌==◌, ◌&&◌, Bool, true, false, if◌then◌else◌}
use Rattle.pm_design.specs.declared.signal.Role.{Role}
use Rattle.pm_design.specs.declared.signal.Role.TheVariants as role
use Rattle.pm_design.specs.declared.signal.Signal.{Signal}
use Rattle.pm_values.specs.declared.reference.Form.{Form}
use Rattle.pm_values.specs.declared.reference.Form.TheVariants as form
use Rattle.pm_values.specs.declared.reference.Reference.{Reference}

-- the roles are one role
abbrev pub same_role : Role → Role → Bool
same_role role.Input role.Input = true
same_role role.Output role.Output = true
same_role role.Inner role.Inner = true
same_role _ _ = false

-- a whole signal or element
abbrev pub is_whole_form : Form → Bool
is_whole_form form.Whole = true
is_whole_form form.Field = false
is_whole_form form.Slice = false
is_whole_form form.Bit = false

-- a reference has its signal's role, and all bits of it where it is spelled as a whole one
abbrev pub is_told_of : Reference → Signal → Bool
is_told_of r s =
    same_role r.role s.role && (if is_whole_form r.form then r.part.lo == 0 && r.part.width == s.width else true)
