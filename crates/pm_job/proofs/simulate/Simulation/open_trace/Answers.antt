use Rattle.std.proofs.Common.{◌≡◌, rules, ◌∙◌, ◌++◌, ap, ap₂, sym, subst, drop, List}
use Rattle.pm_bits.specs.Word.{Word}
use Rattle.pm_io.specs.declared.sink.Put.TheVariants as put
use Rattle.pm_io.specs.Streams.{Puts}
use Rattle.pm_io.proofs.KnownBytes.{grows_in_longer}
use Rattle.pm_job.specs.declared.row_reader.RowReader.{RowReader}
use Rattle.pm_job.specs.declared.schedule.Schedule.{Schedule}
use Rattle.pm_job.specs.Answers.{reset_row, with_reset}
use Rattle.pm_job.specs.Trace.{head_text, row_text}
use Rattle.pm_job.specs.Progress.{scheduled, Fits, next_values, first_values, second_values}
use Rattle.pm_job.proofs.Openings.{first_fits, is_opened, opening_at_first, opening_at_second}
use Rattle.pm_job.proofs.simulate.Simulation.open_trace.Goals as goal

pub returns-clause-text : goal.returns-clause-text
returns-clause-text g c =
    let component = scheduled c.args.self.now.schedule in
    grows_in_longer (g.O.Sink.held c.args.output.now) (g.O.Sink.held c.write_head.new.sink) (head_text component)
    (row_text component 0 (first_values component) ++ row_text component 1 (second_values component)) (search rules)

pub run_cycle-requires-clause-fits : goal.run_cycle-requires-clause-fits
run_cycle-requires-clause-fits g c =
    let component = scheduled c.args.self.now.schedule in
    subst (λ (row : List Word). Fits component c.args.self.now.values.items row) (sym c.requires.row)
    (subst (λ (values : List Word). Fits component values (reset_row component)) (sym c.requires.values) (first_fits component c.requires.runs.ready))

pub returns-2-clause-text : goal.returns-2-clause-text
returns-2-clause-text g c =
    let component = scheduled c.args.self.now.schedule in
    opening_at_first component (next_values component c.args.self.now.values.items c.args.self.now.rows.row.items)
    (g.O.Sink.held c.args.output.now) (g.O.Sink.held c.write_head.new.sink) (g.O.Sink.held c.run_cycle.new.output)
    (ap₂ (next_values component) c.requires.values c.requires.row) (search rules) (search rules)

pub returns-3-clause-text : goal.returns-3-clause-text
returns-3-clause-text g c =
    let component = scheduled c.args.self.now.schedule in
    let values = next_values component c.run_cycle.new.self.values.items c.run_cycle.new.self.rows.row.items in
    let first = ap₂ (next_values component) c.requires.values c.requires.row in
    let row : c.run_cycle.new.self.rows.row.items ≡ reset_row component = ap (λ (rows : RowReader). rows.row.items) c.run_cycle.ensures.rows ∙ c.requires.row in
    let settled : c.run_cycle.new.self.values.items ≡ first_values component = c.run_cycle.ensures.values ∙ first in
    let second = ap₂ (next_values component) settled row in
    let text = subst (λ (schedule : Schedule). Puts (g.O.Sink.held c.run_cycle.new.output) (g.O.Sink.held c.run_cycle-2.new.output)
    (row_text (scheduled schedule) 1 (next_values (scheduled schedule) c.run_cycle.new.self.values.items c.run_cycle.new.self.rows.row.items)) put.Failed)
    c.run_cycle.ensures.schedule (search rules) in
    opening_at_second component (next_values component c.args.self.now.values.items c.args.self.now.rows.row.items) values
    (g.O.Sink.held c.args.output.now) (g.O.Sink.held c.write_head.new.sink) (g.O.Sink.held c.run_cycle.new.output) (g.O.Sink.held c.run_cycle-2.new.output)
    put.Failed first second (search rules) (search rules) text

pub returns-4-clause-text : goal.returns-4-clause-text
returns-4-clause-text g c =
    let component = scheduled c.args.self.now.schedule in
    let values = next_values component c.run_cycle.new.self.values.items c.run_cycle.new.self.rows.row.items in
    let first = ap₂ (next_values component) c.requires.values c.requires.row in
    let row : c.run_cycle.new.self.rows.row.items ≡ reset_row component = ap (λ (rows : RowReader). rows.row.items) c.run_cycle.ensures.rows ∙ c.requires.row in
    let settled : c.run_cycle.new.self.values.items ≡ first_values component = c.run_cycle.ensures.values ∙ first in
    let second = ap₂ (next_values component) settled row in
    let text = subst (λ (schedule : Schedule). Puts (g.O.Sink.held c.run_cycle.new.output) (g.O.Sink.held c.run_cycle-2.new.output)
    (row_text (scheduled schedule) 1 (next_values (scheduled schedule) c.run_cycle.new.self.values.items c.run_cycle.new.self.rows.row.items)) put.All)
    c.run_cycle.ensures.schedule (search rules) in
    opening_at_second component (next_values component c.args.self.now.values.items c.args.self.now.rows.row.items) values
    (g.O.Sink.held c.args.output.now) (g.O.Sink.held c.write_head.new.sink) (g.O.Sink.held c.run_cycle.new.output) (g.O.Sink.held c.run_cycle-2.new.output)
    put.All first second (search rules) (search rules) text

pub returns-4-clause-opened : goal.returns-4-clause-opened
returns-4-clause-opened g c =
    let component = scheduled c.args.self.now.schedule in
    let first = ap₂ (next_values component) c.requires.values c.requires.row in
    let row : c.run_cycle.new.self.rows.row.items ≡ reset_row component = ap (λ (rows : RowReader). rows.row.items) c.run_cycle.ensures.rows ∙ c.requires.row in
    let settled : c.run_cycle.new.self.values.items ≡ first_values component = c.run_cycle.ensures.values ∙ first in
    let second = ap₂ (next_values component) settled row in
    let values : c.run_cycle-2.new.self.values.items ≡ next_values component c.run_cycle.new.self.values.items c.run_cycle.new.self.rows.row.items = c.run_cycle-2.ensures.values
    ∙ ap (λ (schedule : Schedule). next_values (scheduled schedule) c.run_cycle.new.self.values.items c.run_cycle.new.self.rows.row.items) c.run_cycle.ensures.schedule in
    let fits = subst (λ (schedule : Schedule). Fits (scheduled schedule) c.run_cycle-2.new.self.values.items c.run_cycle.new.self.rows.row.items)
    c.run_cycle.ensures.schedule c.run_cycle-2.ensures.fits in
    λ _. is_opened component c.run_cycle-2.new.self.values.items c.run_cycle.new.self.rows.row.items c.end_reset.new.self.row.items c.run_cycle-2.new.self.buffer
    (values ∙ second) row fits (c.end_reset.ensures.row ∙ ap (λ (rows : RowReader). with_reset 0 (drop 1 rows.row.items)) c.run_cycle-2.ensures.rows)
    (search rules)
