use Rattle.std.proofs.Common.{List, ℕ, take, sym, ap}
use Rattle.pm_io.specs.Reading.{Reading}
use Rattle.pm_io.proofs.BufferParts.{drop-between}
use Rattle.pm_io.proofs.lines.Lines.skip.Goals as goal

pub returns : goal.returns
returns c =
    let inside = c.self.inside in
    let with_buffered : List ℕ → Reading = λ buffered. record {
      limit = inside.limit;
      buffered = buffered;
      line = take inside.line_length inside.line.items;
      live = inside.live;
    } in
    rw (← c.self.view_is) (ap with_buffered (sym (drop-between c.args.count inside.start inside.filled inside.buffer.items)))
