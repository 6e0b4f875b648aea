use Rattle.std.proofs.Common.{ap}
use Rattle.pm_parse.specs.declared.layout.Lines.{Lines}
use Rattle.pm_parse.proofs.OpenBodies.{body_beside, kind_there}
use Rattle.pm_parse.proofs.layout.Lines.add.Goals as goal

pub returns-clause-fits : goal.returns-clause-fits
returns-clause-fits c =
    λ before kept.
    let nearest = ap (λ (lines : Lines). lines.nearest) kept in
    let body = body_beside before c.args.line c.args.self.now c.leave.new.open_bodies kept c.leave.ensures c.body_at-beside.result c.body_at-beside.ensures in
    let kind = kind_there before c.args.line c.args.self.now c.leave.new.open_bodies kept c.leave.ensures c.kind_at-kind.result c.kind_at-kind.ensures in
    c.fits-fits.ensures before nearest body kind
