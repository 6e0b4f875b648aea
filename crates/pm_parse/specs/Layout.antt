-- Which line is allowed after which lines, and before which.
use Rattle.std.specs.Prelude.{◌&&◌, ◌||◌, ◌==◌, ℕ, Bool, true, false, not, nat_lt, nat_le, List, [], ◌∷◌, Option, Some, None, if◌then◌else◌}
use Rattle.std.specs.List.{list_any}
use Rattle.pm_syn.specs.declared.statement.Stmt.{Stmt}
use Rattle.pm_parse.specs.Enclosing.{enclosing, siblings}
use Rattle.pm_parse.specs.Forms.{form_of}
use Rattle.pm_parse.specs.BodyKinds.{body_of, allows, allows_after_colon, kind_under}
use Rattle.pm_parse.specs.declared.entry.Entry.{Entry}
use Rattle.pm_parse.specs.declared.form.AfterColon.{AfterColon}
use Rattle.pm_parse.specs.declared.form.AfterColon.TheVariants as colon
use Rattle.pm_parse.specs.declared.form.Form.{Form}
use Rattle.pm_parse.specs.declared.form.Form.TheVariants as form
use Rattle.pm_parse.specs.declared.form.LineForm.{LineForm}
use Rattle.pm_parse.specs.declared.body_kind.BodyKind.{BodyKind}

-- a header without a statement after its colon
abbrev pub has_body : AfterColon → Bool
has_body colon.Body = true
has_body other = false

-- a line at this column begins the body of the header directly before it, or the file at column 0
abbrev pub begins_body : ℕ → List LineForm → Bool
begins_body column [] = column == 0
begins_body column (line ∷ before) = nat_lt line.column column && has_body line.after_colon

-- there is a line
abbrev pub is_any : List LineForm → Bool
is_any [] = false
is_any (line ∷ lines) = true

-- the earlier lines of this line's body, the last one first
abbrev pub beside : List LineForm → LineForm → List LineForm
beside before line = siblings (λ (l : LineForm). l.column) line.column before

-- the kind of body that the line is in
abbrev pub kind_of : List LineForm → LineForm → BodyKind
kind_of before line = kind_under (enclosing (λ (l : LineForm). l.column) line.column before)

-- the first of the lines is deeper than this column
abbrev pub goes_deeper : ℕ → List Entry → Bool
goes_deeper column [] = false
goes_deeper column (next ∷ after) = nat_lt column next.column

-- a branch of an `if`, to which another may be added
abbrev pub is_branch : Form → Bool
is_branch form.If = true
is_branch form.Elif = true
is_branch other = false

-- the last of these lines is such a branch
abbrev pub ends_in_branch : List LineForm → Bool
ends_in_branch [] = false
ends_in_branch (nearest ∷ lines) = is_branch nearest.form

-- the form of `construct`
abbrev pub is_construct : Form → Bool
is_construct form.Construct = true
is_construct other = false

-- a line of this form is allowed after the earlier lines of its body: `elif` and `else` follow a branch, and
-- there is one `construct`
abbrev pub may_follow : Form → List LineForm → Bool
may_follow form.Elif lines = ends_in_branch lines
may_follow form.Else lines = ends_in_branch lines
may_follow form.Construct lines = not (list_any (λ (l : LineForm). is_construct l.form) lines)
may_follow other lines = true

-- what a decorator decorates
abbrev pub decorates : Form → Form → Bool
decorates form.BitstructDecorator form.BitstructClass = true
decorates form.BlockDecorator form.Block = true
decorates form.Guard form.Method = true
decorates decorator other = false

-- the line directly before is at the same column, and decorates this line
abbrev pub is_decorated : List LineForm → LineForm → Bool
is_decorated [] line = false
is_decorated (nearest ∷ before) line = (nearest.column == line.column) && decorates nearest.form line.form

-- a line of this form needs no decorator
abbrev pub needs_no_decorator : Form → Bool
needs_no_decorator form.BitstructClass = false
needs_no_decorator form.Block = false
needs_no_decorator other = true

-- a statement is what the decorator decorates; a line that spells no statement is at fault itself
abbrev pub decorates_statement : Form → Option Stmt → Bool
decorates_statement decorator None = true
decorates_statement decorator (Some statement) = decorates decorator (form_of statement)

-- a decorator at this column is allowed before these lines: the next line is no less deep, and its statement is
-- what the decorator decorates
abbrev pub decorates_next : ℕ → Form → List Entry → Bool
decorates_next column decorator [] = false
decorates_next column decorator (next ∷ after) =
    nat_le column next.column && decorates_statement decorator next.statement

-- no line of a body at this column follows: of these lines, the first that is no deeper is less deep, if there is one
abbrev pub is_last : ℕ → List Entry → Bool
is_last column [] = true
is_last column (next ∷ after) =
    if nat_lt column next.column then is_last column after
    else nat_lt next.column column

-- a line of this form, at this column, is allowed before these lines: a decorator before what it decorates, and
-- `return` last in its body
abbrev pub may_precede : ℕ → Form → List Entry → Bool
may_precede column form.BitstructDecorator next = decorates_next column form.BitstructDecorator next
may_precede column form.BlockDecorator next = decorates_next column form.BlockDecorator next
may_precede column form.Guard next = decorates_next column form.Guard next
may_precede column form.OtherDecorator next = decorates_next column form.OtherDecorator next
may_precede column form.Return next = is_last column next
may_precede column other next = true

-- the line begins the body of the header directly before it, or is at the column of an open body
abbrev pub is_aligned : List LineForm → LineForm → Bool
is_aligned before line = begins_body line.column before || is_any (beside before line)

-- a header that needs a body has one
abbrev pub is_complete : LineForm → List Entry → Bool
is_complete line next = not (has_body line.after_colon) || goes_deeper line.column next

-- the line is allowed in its body, and so is what follows its colon in the body that it begins
abbrev pub is_allowed : List LineForm → LineForm → Bool
is_allowed before line =
    allows (kind_of before line) line.form
    && allows_after_colon (body_of (kind_of before line) line.form) line.after_colon

-- the line is allowed between these lines: the list of lines before it has the last line first, and the lines
-- after it are in their order
abbrev pub fits : List LineForm → LineForm → List Entry → Bool
fits before line next =
    is_aligned before line
    && (is_complete line next
    && (is_allowed before line
    && (may_follow line.form (beside before line)
    && ((needs_no_decorator line.form || is_decorated before line)
    && may_precede line.column line.form next))))
