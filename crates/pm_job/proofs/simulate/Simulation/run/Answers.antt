use Rattle.std.proofs.Common.{◌∙◌, refl, ap, sym, subst}
use Rattle.pm_io.specs.Reading.{Reading, ahead}
use Rattle.pm_job.specs.declared.row_reader.HeaderGot.TheVariants as header
use Rattle.pm_job.specs.declared.schedule.Schedule.{Schedule}
use Rattle.pm_job.specs.Progress.{scheduled, CanRun, EndsRows, GivesHeader, IsOpened}
use Rattle.pm_job.proofs.Openings.{ends_opened, ends_at_opening, ends_empty, ends_empty_at_opening, ends_without_header, header-arranged, ahead_nothing, empty_input}
use Rattle.pm_job.proofs.simulate.Simulation.run.Goals as goal

pub returns-in-All-clause-ends : goal.returns-in-All-clause-ends
returns-in-All-clause-ends g c =
    let schedule = c.args.self.now.schedule in
    let left = g.I.Source.left c.args.input.now in
    let left' = g.I.Source.left c.read_header.new.input in
    let now = ahead c.read_header.new.self.lines.buffered left' in
    let told = ap (λ (r : Reading). ahead r.buffered left) c.requires.lines ∙ ahead_nothing left in
    let values = c.open_trace.new.self.values.items in
    let held = g.O.Sink.held c.open_trace.new.output in
    let held' = g.O.Sink.held c.follow_rows.new.output in
    let ends = subst (λ (r : Reading). EndsRows (scheduled schedule) values (ahead r.buffered left') held held' c.follow_rows.result) c.open_trace.ensures.lines
    (subst (λ (s : Schedule). EndsRows (scheduled s) values (ahead c.open_trace.new.self.rows.lines.buffered left') held held' c.follow_rows.result) c.open_trace.ensures.schedule
    c.follow_rows.ensures.ends) in
    ends_opened (scheduled schedule) values left now (g.O.Sink.held c.args.output.now) held held' c.follow_rows.result
    (header-arranged schedule.component.now schedule.order.now left now header.Good (subst (λ told. GivesHeader schedule.component.now told now header.Good) told c.in-Good.ensures.header))
    c.in-All.ensures.text (c.in-All.ensures.opened refl).settled ends

pub returns-in-Failed-open_trace-clause-ends : goal.returns-in-Failed-open_trace-clause-ends
returns-in-Failed-open_trace-clause-ends g c =
    let schedule = c.args.self.now.schedule in
    let left = g.I.Source.left c.args.input.now in
    let now = ahead c.read_header.new.self.lines.buffered (g.I.Source.left c.read_header.new.input) in
    let told = ap (λ (r : Reading). ahead r.buffered left) c.requires.lines ∙ ahead_nothing left in
    ends_at_opening (scheduled schedule) left now (g.O.Sink.held c.args.output.now) (g.O.Sink.held c.open_trace.new.output)
    (header-arranged schedule.component.now schedule.order.now left now header.Good (subst (λ told. GivesHeader schedule.component.now told now header.Good) told c.in-Good.ensures.header))
    c.in-Failed-open_trace.ensures.text

pub returns-in-All-open_trace-clause-done : goal.returns-in-All-open_trace-clause-done
returns-in-All-open_trace-clause-done g c =
    let schedule = c.args.self.now.schedule in
    let left = g.I.Source.left c.args.input.now in
    let now = ahead c.read_header.new.self.lines.buffered (g.I.Source.left c.read_header.new.input) in
    let told = ap (λ (r : Reading). ahead r.buffered left) c.requires.lines ∙ ahead_nothing left in
    λ _. empty_input (scheduled schedule) left (g.I.Source.left c.read_header.new.input) c.read_header.new.self.lines.buffered
    (header-arranged schedule.component.now schedule.order.now left now header.Empty (subst (λ told. GivesHeader schedule.component.now told now header.Empty) told c.in-Empty.ensures.header))

pub returns-in-All-open_trace-clause-ends : goal.returns-in-All-open_trace-clause-ends
returns-in-All-open_trace-clause-ends g c =
    let schedule = c.args.self.now.schedule in
    let left = g.I.Source.left c.args.input.now in
    let now = ahead c.read_header.new.self.lines.buffered (g.I.Source.left c.read_header.new.input) in
    let told = ap (λ (r : Reading). ahead r.buffered left) c.requires.lines ∙ ahead_nothing left in
    ends_empty (scheduled schedule) left now (g.O.Sink.held c.args.output.now) (g.O.Sink.held c.open_trace-in-Empty.new.output)
    (header-arranged schedule.component.now schedule.order.now left now header.Empty (subst (λ told. GivesHeader schedule.component.now told now header.Empty) told c.in-Empty.ensures.header))
    c.in-All-open_trace.ensures.text

pub returns-in-Failed-open_trace-2-clause-ends : goal.returns-in-Failed-open_trace-2-clause-ends
returns-in-Failed-open_trace-2-clause-ends g c =
    let schedule = c.args.self.now.schedule in
    let left = g.I.Source.left c.args.input.now in
    let now = ahead c.read_header.new.self.lines.buffered (g.I.Source.left c.read_header.new.input) in
    let told = ap (λ (r : Reading). ahead r.buffered left) c.requires.lines ∙ ahead_nothing left in
    ends_empty_at_opening (scheduled schedule) left now (g.O.Sink.held c.args.output.now) (g.O.Sink.held c.open_trace-in-Empty.new.output)
    (header-arranged schedule.component.now schedule.order.now left now header.Empty (subst (λ told. GivesHeader schedule.component.now told now header.Empty) told c.in-Empty.ensures.header))
    c.in-Failed-open_trace-2.ensures.text

pub returns-in-Bad-clause-ends : goal.returns-in-Bad-clause-ends
returns-in-Bad-clause-ends g c =
    let schedule = c.args.self.now.schedule in
    let left = g.I.Source.left c.args.input.now in
    let now = ahead c.read_header.new.self.lines.buffered (g.I.Source.left c.read_header.new.input) in
    let told = ap (λ (r : Reading). ahead r.buffered left) c.requires.lines ∙ ahead_nothing left in
    ends_without_header (scheduled schedule) left now (g.O.Sink.held c.args.output.now)
    (header-arranged schedule.component.now schedule.order.now left now header.Bad (subst (λ told. GivesHeader schedule.component.now told now header.Bad) told c.in-Bad.ensures.header))

pub read_header-requires-clause-live : goal.read_header-requires-clause-live
read_header-requires-clause-live g c = ap (λ (r : Reading). r.live) c.requires.lines

pub read_header-requires-clause-limit : goal.read_header-requires-clause-limit
read_header-requires-clause-limit g c = ap (λ (r : Reading). r.limit) c.requires.lines

pub open_trace-requires-clause-row : goal.open_trace-requires-clause-row
open_trace-requires-clause-row g c = ap (λ row. row.items) c.read_header.ensures.row ∙ c.requires.row

pub open_trace-requires-in-Empty-clause-row : goal.open_trace-requires-in-Empty-clause-row
open_trace-requires-in-Empty-clause-row g c = ap (λ row. row.items) c.read_header.ensures.row ∙ c.requires.row

pub follow_rows-requires-clause-runs : goal.follow_rows-requires-clause-runs
follow_rows-requires-clause-runs g c = subst CanRun (sym c.open_trace.ensures.schedule) c.requires.runs

pub follow_rows-requires-clause-live : goal.follow_rows-requires-clause-live
follow_rows-requires-clause-live g c = ap (λ (r : Reading). r.live) c.open_trace.ensures.lines ∙ c.in-Good.ensures.live refl

pub follow_rows-requires-clause-limit : goal.follow_rows-requires-clause-limit
follow_rows-requires-clause-limit g c =
    ap (λ (r : Reading). r.limit) c.open_trace.ensures.lines ∙ (c.read_header.ensures.limit ∙ ap (λ (r : Reading). r.limit) c.requires.lines)

pub follow_rows-requires-clause-opened : goal.follow_rows-requires-clause-opened
follow_rows-requires-clause-opened g c =
    subst (λ (schedule : Schedule). IsOpened (scheduled schedule) c.open_trace.new.self.values.items c.open_trace.new.self.rows.row.items c.open_trace.new.self.buffer)
    (sym c.open_trace.ensures.schedule) (c.in-All.ensures.opened refl)
