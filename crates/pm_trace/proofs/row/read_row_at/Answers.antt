use Rattle.std.proofs.Common.{◌∙◌, sym, ap, ap₂}
use Rattle.pm_trace.specs.Rows.{filled, give_values}
use Rattle.pm_trace.specs.Words.{words_of}
use Rattle.pm_trace.proofs.FilledRows.{no_row, row_read}
use Rattle.pm_trace.proofs.row.read_row_at.Goals as goal

pub returns-then-not-gives_values : goal.returns-then-not-gives_values
returns-then-not-gives_values c =
    let words = words_of c.args.line.now in
    no_row c.args.header.now.port_of c.args.line.now c.args.row.now.values
    (ap₂ (λ row inputs. give_values row inputs words) (sym c.as_slice.ensures) (sym c.as_slice-inputs.ensures)
    ∙ sym c.gives_values.ensures ∙ c.if-not-gives_values.true)

pub returns : goal.returns
returns c =
    let words = words_of c.args.line.now in
    row_read c.args.header.now.port_of c.args.line.now c.args.row.now.values c.fill.new.row
    (ap₂ (λ row inputs. give_values row inputs words) (sym c.as_slice.ensures) (sym c.as_slice-inputs.ensures)
    ∙ sym c.gives_values.ensures ∙ c.if-not-gives_values.false)
    (c.fill.ensures ∙ ap (λ inputs. filled inputs words c.args.row.now.values) c.as_slice-inputs.ensures)
