use Rattle.std.proofs.Common.{◌≡◌, ◌∙◌, ◌-◌, ◌<◌, ◌++◌, List, length, take, drop, ap, sym, subst, arith, length-drop}
use Rattle.std.specs.Prelude.{None, Some}
use Rattle.std.proofs.lemmas.List.{take_rest}
use borrow.Rule.Slice.PartMut.{put_mid}
use Rattle.pm_bits.specs.Word.{Word}
use Rattle.pm_io.specs.Reading.{ahead}
use Rattle.pm_job.specs.declared.row_reader.NextRow.TheVariants as next
use Rattle.pm_job.specs.Progress.{GivesRow}
use Rattle.pm_job.specs.Vectors.{row_of}
use Rattle.pm_job.specs.Values.{value_widths}
use Rattle.pm_job.proofs.Runs.{gives_row, gives_no_row, gives_long_row, gives_row_at_end, drop-written, length-written, kept-written, widths-written, written_back}
use Rattle.pm_job.proofs.row_reader.RowReader.next_row.Goals as goal

pub returns-in-Good-clause-row : goal.returns-in-Good-clause-row
returns-in-Good-clause-row g c =
    let row = c.deref_mut.result.now in
    let read = c.read_row.new.row in
    let written = put_mid 1 (length row - 1) row read in
    let told = ahead c.args.self.now.lines.buffered (g.I.Source.left c.args.input.now) in
    let now = ahead c.next.new.self.buffered (g.I.Source.left c.next.new.source) in
    let same = rw take_rest at c.read_row.auto.row in
    let some : 0 < length row = subst (λ (row : List Word). 0 < length row) (sym c.deref_mut.ensures.value) c.requires.some in
    let count : length read ≡ length row - 1 = omega (arith, same, length-drop 1 row) in
    let good : row_of (value_widths (drop 1 row)) c.line.result.now ≡ Some read = rw take_rest at c.in-Good.ensures.row in
    let given = gives_row (value_widths (drop 1 row)) told now c.args.self.now.lines.limit c.next.new.self.line written c.requires.limit c.in-Line.ensures.line
    (ap (row_of (value_widths (drop 1 row))) (sym c.line.ensures) ∙ (good ∙ ap Some (sym (drop-written row read some count)))) in
    let back = written_back written c.args.self.now.row.items c.args.self.now.row.len (length-written row read some count ∙ c.deref_mut.ensures.len) in
    subst (λ (old : List Word). GivesRow (value_widths (drop 1 old)) told now
    (take c.args.self.now.row.len (written ++ drop (length written) c.args.self.now.row.items)) next.Row) c.deref_mut.ensures.value
    (subst (λ (new : List Word). GivesRow (value_widths (drop 1 row)) told now new next.Row) (sym back) given)

pub returns-in-Bad-clause-row : goal.returns-in-Bad-clause-row
returns-in-Bad-clause-row g c =
    let row = c.deref_mut.result.now in
    let written = put_mid 1 (length row - 1) row c.read_row.new.row in
    let new = take c.args.self.now.row.len (written ++ drop (length written) c.args.self.now.row.items) in
    let told = ahead c.args.self.now.lines.buffered (g.I.Source.left c.args.input.now) in
    let now = ahead c.next.new.self.buffered (g.I.Source.left c.next.new.source) in
    let bad : row_of (value_widths (drop 1 row)) c.line.result.now ≡ None = rw take_rest at c.in-Bad.ensures.row in
    subst (λ (old : List Word). GivesRow (value_widths (drop 1 old)) told now new next.Refused) c.deref_mut.ensures.value
    (gives_no_row (value_widths (drop 1 row)) told now c.args.self.now.lines.limit c.next.new.self.line new c.requires.limit c.in-Line.ensures.line
    (ap (row_of (value_widths (drop 1 row))) (sym c.line.ensures) ∙ bad))

pub returns-in-TooLong-clause-row : goal.returns-in-TooLong-clause-row
returns-in-TooLong-clause-row g c = gives_long_row _ _ _ c.args.self.now.lines.limit c.next.new.self.line _ c.requires.limit c.in-TooLong.ensures.line

pub returns-in-End-clause-row : goal.returns-in-End-clause-row
returns-in-End-clause-row g c = gives_row_at_end _ _ _ c.args.self.now.lines.limit c.next.new.self.line _ c.in-End.ensures.line

pub returns-in-Good-clause-kept : goal.returns-in-Good-clause-kept
returns-in-Good-clause-kept g c =
    let row = c.deref_mut.result.now in
    let read = c.read_row.new.row in
    let written = put_mid 1 (length row - 1) row read in
    let same = rw take_rest at c.read_row.auto.row in
    let some : 0 < length row = subst (λ (row : List Word). 0 < length row) (sym c.deref_mut.ensures.value) c.requires.some in
    let count : length read ≡ length row - 1 = omega (arith, same, length-drop 1 row) in
    let back = written_back written c.args.self.now.row.items c.args.self.now.row.len (length-written row read some count ∙ c.deref_mut.ensures.len) in
    let new = take c.args.self.now.row.len (written ++ drop (length written) c.args.self.now.row.items) in
    subst (λ (old : List Word). new ≡ take 1 old ++ drop 1 new) c.deref_mut.ensures.value
    (subst (λ (new : List Word). new ≡ take 1 row ++ drop 1 new) (sym back) (kept-written row read some))

pub returns-in-Good-clause-widths : goal.returns-in-Good-clause-widths
returns-in-Good-clause-widths g c =
    let row = c.deref_mut.result.now in
    let read = c.read_row.new.row in
    let written = put_mid 1 (length row - 1) row read in
    let same = rw take_rest at c.read_row.auto.row in
    let some : 0 < length row = subst (λ (row : List Word). 0 < length row) (sym c.deref_mut.ensures.value) c.requires.some in
    let count : length read ≡ length row - 1 = omega (arith, same, length-drop 1 row) in
    let wide : value_widths read ≡ value_widths (drop 1 row) = rw take_rest at c.read_row.ensures.widths in
    let back = written_back written c.args.self.now.row.items c.args.self.now.row.len (length-written row read some count ∙ c.deref_mut.ensures.len) in
    ap value_widths back ∙ (widths-written row read some count wide ∙ ap value_widths c.deref_mut.ensures.value)

pub returns-in-Bad-clause-kept : goal.returns-in-Bad-clause-kept
returns-in-Bad-clause-kept g c =
    let row = c.deref_mut.result.now in
    let read = c.read_row.new.row in
    let written = put_mid 1 (length row - 1) row read in
    let same = rw take_rest at c.read_row.auto.row in
    let some : 0 < length row = subst (λ (row : List Word). 0 < length row) (sym c.deref_mut.ensures.value) c.requires.some in
    let count : length read ≡ length row - 1 = omega (arith, same, length-drop 1 row) in
    let back = written_back written c.args.self.now.row.items c.args.self.now.row.len (length-written row read some count ∙ c.deref_mut.ensures.len) in
    let new = take c.args.self.now.row.len (written ++ drop (length written) c.args.self.now.row.items) in
    subst (λ (old : List Word). new ≡ take 1 old ++ drop 1 new) c.deref_mut.ensures.value
    (subst (λ (new : List Word). new ≡ take 1 row ++ drop 1 new) (sym back) (kept-written row read some))

pub returns-in-Bad-clause-widths : goal.returns-in-Bad-clause-widths
returns-in-Bad-clause-widths g c =
    let row = c.deref_mut.result.now in
    let read = c.read_row.new.row in
    let written = put_mid 1 (length row - 1) row read in
    let same = rw take_rest at c.read_row.auto.row in
    let some : 0 < length row = subst (λ (row : List Word). 0 < length row) (sym c.deref_mut.ensures.value) c.requires.some in
    let count : length read ≡ length row - 1 = omega (arith, same, length-drop 1 row) in
    let wide : value_widths read ≡ value_widths (drop 1 row) = rw take_rest at c.read_row.ensures.widths in
    let back = written_back written c.args.self.now.row.items c.args.self.now.row.len (length-written row read some count ∙ c.deref_mut.ensures.len) in
    ap value_widths back ∙ (widths-written row read some count wide ∙ ap value_widths c.deref_mut.ensures.value)
