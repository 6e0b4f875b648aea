-- Which forms of line are allowed in which body.
use Rattle.std.specs.Prelude.{Bool, true, false, List, [], ◌∷◌}
use Rattle.pm_parse.specs.declared.body_kind.BodyKind.{BodyKind}
use Rattle.pm_parse.specs.declared.body_kind.BodyKind.TheVariants as kind
use Rattle.pm_parse.specs.declared.form.AfterColon.{AfterColon}
use Rattle.pm_parse.specs.declared.form.AfterColon.TheVariants as colon
use Rattle.pm_parse.specs.declared.form.Form.{Form}
use Rattle.pm_parse.specs.declared.form.Form.TheVariants as form
use Rattle.pm_parse.specs.declared.form.LineForm.{LineForm}

-- what is allowed in a file
abbrev pub in_file : Form → Bool
in_file form.Import = true
in_file form.Doc = true
in_file form.NameAssignment = true
in_file form.ComponentClass = true
in_file form.InterfaceClass = true
in_file form.BitstructClass = true
in_file form.BitstructDecorator = true
in_file other = false

-- what is allowed in a component's class
abbrev pub in_component : Form → Bool
in_component form.Doc = true
in_component form.Pass = true
in_component form.Construct = true
in_component form.Method = true
in_component form.Guard = true
in_component other = false

-- what is allowed in an interface's class
abbrev pub in_interface : Form → Bool
in_interface form.Doc = true
in_interface form.Pass = true
in_interface form.Construct = true
in_interface other = false

-- what is allowed in a bitstruct's class
abbrev pub in_bitstruct : Form → Bool
in_bitstruct form.Doc = true
in_bitstruct form.Field = true
in_bitstruct other = false

-- what is allowed in `construct`, in update blocks and in methods
abbrev pub in_function : Form → Bool
in_function form.Doc = true
in_function form.Pass = true
in_function form.NameAssignment = true
in_function form.Assignment = true
in_function form.Call = true
in_function form.If = true
in_function form.Elif = true
in_function form.Else = true
in_function form.For = true
in_function other = false

-- what is allowed in `construct`
abbrev pub in_construct : Form → Bool
in_construct form.Assert = true
in_construct form.Connection = true
in_construct form.State = true
in_construct form.BlockDecorator = true
in_construct form.Block = true
in_construct other = in_function other

-- what is allowed in an update block, and in each `if` and `for` of a method
abbrev pub in_block : Form → Bool
in_block form.SignalAssignment = true
in_block other = in_function other

-- what is allowed in a method
abbrev pub in_method : Form → Bool
in_method form.Return = true
in_method other = in_block other

-- what is allowed in a body of each kind
abbrev pub allows : BodyKind → Form → Bool
allows kind.File = in_file
allows kind.Component = in_component
allows kind.Interface = in_interface
allows kind.Bitstruct = in_bitstruct
allows kind.Construct = in_construct
allows kind.Block = in_block
allows kind.Method = in_method

-- the kind of the body of an `if` or a `for` in such a body: the same, but without `return`
abbrev pub nested : BodyKind → BodyKind
nested kind.Method = kind.Block
nested other = other

-- the kind of the body of a header of this form in such a body
abbrev pub body_of : BodyKind → Form → BodyKind
body_of outer form.ComponentClass = kind.Component
body_of outer form.InterfaceClass = kind.Interface
body_of outer form.BitstructClass = kind.Bitstruct
body_of outer form.Construct = kind.Construct
body_of outer form.Method = kind.Method
body_of outer form.Block = kind.Block
body_of outer other = nested outer

-- the kind of the body inside these headers, innermost first
abbrev pub kind_under : List LineForm → BodyKind
kind_under [] = kind.File
kind_under (header ∷ outer) = body_of (kind_under outer) header.form

-- what follows a header's colon is allowed in its body
abbrev pub allows_after_colon : BodyKind → AfterColon → Bool
allows_after_colon body (colon.Statement form) = allows body form
allows_after_colon body other = true
