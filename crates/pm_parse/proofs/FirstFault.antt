-- The first fault of a file's lines, from one line to the next.
use Rattle.std.proofs.Common.{◌≡◌, List}
use Rattle.pm_parse.specs.Faults.{fault_after, first_fault}
use Rattle.pm_parse.specs.LinesBefore.{lines_of}
use Rattle.pm_parse.specs.declared.entry.Entry.{Entry}
use Rattle.pm_parse.specs.declared.form.LineForm.{LineForm}
use Rattle.pm_parse.specs.declared.layout.Lines.{Lines}

-- the first fault of all lines is that of the rest, after the lines that are kept
pub record HasFirst (entries : List Entry) (lines : Lines) (rest : List Entry) : Type 0 where
  pub before : List LineForm
  pub kept : lines ≡ lines_of before
  pub same : first_fault entries ≡ fault_after before rest
