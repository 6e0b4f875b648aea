use Rattle.std.proofs.Common.{arith, length-drop, ◌+◌, ◌-◌}
use Rattle.pm_io.proofs.Filling.{IsFilled, length-now, filled-in_order, filled-ahead}
use Rattle.pm_io.proofs.lines.Lines.fill.Given as given
use Rattle.pm_io.proofs.lines.Lines.fill.Goals as goal

-- the buffer after a read that gave bytes
is_filled : (g : given.Over) (c : goal.After-self-in-Bytes-1 g)
    → IsFilled c.self.inside.buffer.len c.self.inside.start c.self.inside.filled c.self.inside.buffer.items c.deref_mut.result.now
    c.read_after-got.new.buffer
is_filled g c = record {
  lent_whole = c.deref_mut.ensures.value;
  room = c.deref_mut.ensures.len;
  kept = c.read_after-got.ensures.kept;
  now_room = c.read_after-got.ensures.len;
}

pub invariant_of-self : goal.invariant_of-self
invariant_of-self g c =
    let inside = c.self.inside in
    let fits = length-drop (inside.filled - inside.start) c.read_after-got.new.buffer in
    filled-in_order (is_filled g c) (inside.filled - inside.start + c.in-Bytes.count) c.self.invariant (omega arith) (
    omega (arith, fits, c.in-Bytes.ensures.bytes.0, c.in-Bytes.ensures.bytes.1))

pub invariant_of-self-in_default : goal.invariant_of-self-in_default
invariant_of-self-in_default g c =
    let inside = c.self.inside in
    let is : IsFilled inside.buffer.len inside.start inside.filled inside.buffer.items c.deref_mut.result.now c.read_after-got.new.buffer =
    record {
      lent_whole = c.deref_mut.ensures.value;
      room = c.deref_mut.ensures.len;
      kept = c.read_after-got.ensures.kept;
      now_room = c.read_after-got.ensures.len;
    } in
    filled-in_order is (inside.filled - inside.start) c.self.invariant (omega arith) (omega (arith, length-now is, c.self.invariant.inside))

pub returns-in-Bytes-clause-ahead : goal.returns-in-Bytes-clause-ahead
returns-in-Bytes-clause-ahead g c =
    let left = g.S.Source.left c.args.source.now in
    let new = g.S.Source.left c.read_after-got.new.source in
    rw (← c.self.view_is) (filled-ahead (is_filled g c) c.in-Bytes.count left new c.in-Bytes.ensures.bytes.2)
