use Rattle.std.proofs.Common.{◌≡◌, ◌∙◌, ◌+◌, refl, sym, ap, subst, drop, arith, List}
use Rattle.pm_bits.specs.Word.{Word}
use Rattle.pm_io.specs.Known.{Grows, GrowsByFront}
use Rattle.pm_io.specs.Reading.{Reading, ahead}
use Rattle.pm_job.specs.declared.row_reader.TheConstants.{ROW_LIMIT}
use Rattle.pm_job.specs.declared.row_reader.RowReader.{RowReader}
use Rattle.pm_job.specs.declared.schedule.Schedule.{Schedule}
use Rattle.pm_job.specs.Answers.{with_reset}
use Rattle.pm_job.specs.Input.{input_widths}
use Rattle.pm_job.specs.Trace.{row_text}
use Rattle.pm_job.specs.Values.{value_widths}
use Rattle.pm_job.specs.Progress.{CanRun, Fits, GoesOn, scheduled, next_values}
use Rattle.pm_job.proofs.Follows.{fits-inputs, goes_on_row, goes_to_write_fault, goes_to_read_fault, goes_past, goes_empty, begins_kept}
use Rattle.pm_job.proofs.simulate.Simulation.follow_rows.Goals as goal

pub returns-in-Failed-clause-ends : goal.returns-in-Failed-clause-ends
returns-in-Failed-clause-ends g c =
    goes_to_read_fault (scheduled c.args.self.now.schedule) c.args.self.now.values.items c.loop-count.self.values.items c.loop-count.count _ _ _ _ c.loop-count.invariant.goes

pub returns-clause-ends : goal.returns-clause-ends
returns-clause-ends g c =
    let last : c.loop-count.count ≡ ROW_LIMIT = omega (arith, c.loop-count-test.false, c.loop-count.auto.count-end) in
    goes_past (scheduled c.args.self.now.schedule) c.args.self.now.values.items c.loop-count.self.values.items c.loop-count.count _ _ _ _ c.past_last_row.result
    c.loop-count.invariant.goes last c.past_last_row.ensures.past

pub returns-in-End-clause-done : goal.returns-in-End-clause-done
returns-in-End-clause-done g c =
    λ _. goes_empty (scheduled c.args.self.now.schedule) c.args.self.now.values.items c.loop-count.self.values.items c.next_row.new.self.row.items
    (value_widths (drop 1 c.loop-count.self.rows.row.items)) c.loop-count.count c.args.self.now.rows.lines.buffered c.next_row.new.self.lines.buffered
    (g.I.Source.left c.args.input.now) (g.I.Source.left c.next_row.new.input) _ _ _ c.loop-count.invariant.goes c.in-End.ensures.row

pub run_cycle-requires-clause-runs : goal.run_cycle-requires-clause-runs
run_cycle-requires-clause-runs g c = subst CanRun (sym c.loop-count.invariant.same) c.requires.runs

pub run_cycle-requires-clause-fits : goal.run_cycle-requires-clause-fits
run_cycle-requires-clause-fits g c =
    let fits = c.loop-count.invariant.fits in
    subst (λ (schedule : Schedule). Fits (scheduled schedule) c.loop-count.self.values.items c.next_row.new.self.row.items) (sym c.loop-count.invariant.same)
    (record { each_signal = fits.each_signal; each_input = c.next_row.ensures.widths ∙ fits.each_input })

pub returns-in-Failed-run_cycle-clause-ends : goal.returns-in-Failed-run_cycle-clause-ends
returns-in-Failed-run_cycle-clause-ends g c =
    let told = ahead c.args.self.now.rows.lines.buffered (g.I.Source.left c.args.input.now) in
    let mid = ahead c.loop-count.self.rows.lines.buffered (g.I.Source.left c.loop-count.input) in
    let now = ahead c.next_row.new.self.lines.buffered (g.I.Source.left c.next_row.new.input) in
    let start = g.O.Sink.held c.args.output.now in
    let component = scheduled c.args.self.now.schedule in
    let values = c.loop-count.self.values.items in
    let old = c.loop-count.self.rows.row.items in
    let row = c.next_row.new.self.row.items in
    let held = g.O.Sink.held c.loop-count.output in
    let held' = g.O.Sink.held c.run_cycle.new.output in
    let wide : value_widths (drop 1 old) ≡ input_widths component = fits-inputs component values old c.requires.runs.ready c.loop-count.invariant.fits in
    let begins = begins_kept old row c.loop-count.invariant.inputs c.in-Row.ensures.kept in
    let text = subst (λ (schedule : Schedule). GrowsByFront held held' (row_text (scheduled schedule) (c.loop-count.count + 2) (next_values (scheduled schedule) values row)))
    c.loop-count.invariant.same c.in-Failed-run_cycle.ensures.text in
    goes_to_write_fault component c.args.self.now.values.items values row (value_widths (drop 1 old)) c.loop-count.count told mid now start held held'
    c.loop-count.invariant.goes wide c.loop-count-test.true begins c.in-Row.ensures.row text

pub loop-count-preserved : goal.loop-count-preserved
loop-count-preserved g c =
    let told = ahead c.args.self.now.rows.lines.buffered (g.I.Source.left c.args.input.now) in
    let mid = ahead c.loop-count.self.rows.lines.buffered (g.I.Source.left c.loop-count.input) in
    let now = ahead c.next_row.new.self.lines.buffered (g.I.Source.left c.next_row.new.input) in
    let start = g.O.Sink.held c.args.output.now in
    let component = scheduled c.args.self.now.schedule in
    let values = c.loop-count.self.values.items in
    let old = c.loop-count.self.rows.row.items in
    let row = c.next_row.new.self.row.items in
    let held = g.O.Sink.held c.loop-count.output in
    let held' = g.O.Sink.held c.run_cycle.new.output in
    let left' = g.I.Source.left c.next_row.new.input in
    let same = c.loop-count.invariant.same in
    let wide : value_widths (drop 1 old) ≡ input_widths component = fits-inputs component values old c.requires.runs.ready c.loop-count.invariant.fits in
    let begins = begins_kept old row c.loop-count.invariant.inputs c.in-Row.ensures.kept in
    let text = subst (λ (schedule : Schedule). Grows held held' (row_text (scheduled schedule) (c.loop-count.count + 2) (next_values (scheduled schedule) values row)))
    same c.in-All.ensures.text in
    let goes = goes_on_row component c.args.self.now.values.items values row (value_widths (drop 1 old)) c.loop-count.count told mid now start held held'
    c.loop-count.invariant.goes wide c.loop-count-test.true begins c.in-Row.ensures.row text in
    let settled : c.run_cycle.new.self.values.items ≡ next_values component values row = c.run_cycle.ensures.values ∙ ap (λ (schedule : Schedule). next_values (scheduled schedule) values row) same in
    let rows = c.run_cycle.ensures.rows in
    record {
      same = c.run_cycle.ensures.schedule ∙ same;
      live = ap (λ (rows : RowReader). rows.lines.live) rows ∙ c.in-Row.ensures.live refl;
      limit = ap (λ (rows : RowReader). rows.lines.limit) rows ∙ (c.next_row.ensures.limit ∙ c.loop-count.invariant.limit);
      fits = subst (λ (row : List Word). Fits component c.run_cycle.new.self.values.items row) (sym (ap (λ (rows : RowReader). rows.row.items) rows))
          (subst (λ (schedule : Schedule). Fits (scheduled schedule) c.run_cycle.new.self.values.items row) same c.run_cycle.ensures.fits);
      inputs = subst (λ (row : List Word). row ≡ with_reset 0 (drop 1 row)) (sym (ap (λ (rows : RowReader). rows.row.items) rows)) begins;
      none = c.in-All.ensures.empty refl;
      goes = subst (λ (lines : Reading). GoesOn component c.args.self.now.values.items c.run_cycle.new.self.values.items (c.loop-count.count + 1)
          told (ahead lines.buffered left') start held') (sym (ap (λ (rows : RowReader). rows.lines) rows))
          (subst (λ (values : List Word). GoesOn component c.args.self.now.values.items values (c.loop-count.count + 1)
          told now start held') (sym settled) goes);
      read = omega (arith, c.next_row.ensures.cause.later, c.loop-count.invariant.read);
      written = omega (arith, c.run_cycle.ensures.cause.later, c.loop-count.invariant.written);
    }
