use Rattle.std.proofs.Common.{List, ℕ, subst, ◌+◌, ◌-◌, arith, Some, None}
use Rattle.std.specs.List.{between}
use Rattle.std.proofs.lemmas.List.Edits.{length-between}
use Rattle.memchr.specs.Find.{IsFirstByte, is_byte}
use Rattle.pm_io.specs.LineBuffer.{FindsLineEnd}
use Rattle.pm_io.specs.declared.lines.TheConstants.{LF}
use Rattle.pm_io.proofs.BufferParts.{line_end_found, none_between, some_between, clean_before}
use Rattle.pm_io.proofs.lines.Lines.find_line_end.Goals as goal

-- the line end that was found, seen from the first byte that is buffered
found_some : (c : goal.After-self-1)
    → FindsLineEnd (between c.self.inside.start c.self.inside.filled c.self.inside.buffer.items)
    (Some (c.self.inside.scanned + c.in-Some.place - c.self.inside.start))
found_some c =
    let inside = c.self.inside in
    let holds = c.self.invariant in
    let searched = λ (bytes : List ℕ). IsFirstByte (is_byte LF) (between inside.scanned inside.filled bytes) (Some c.in-Some.place) in
    some_between inside.start inside.scanned inside.filled c.in-Some.place inside.buffer.items
    holds.begun holds.searched holds.inside holds.scanned_clean (
    line_end_found _ (Some c.in-Some.place) (subst searched c.deref.ensures.value c.in-Some.ensures))

-- no line end was found, and none is buffered
found_none : (c : goal.After-self-in-None-1)
    → FindsLineEnd (between c.self.inside.start c.self.inside.filled c.self.inside.buffer.items) None
found_none c =
    let inside = c.self.inside in
    let holds = c.self.invariant in
    let searched = λ (bytes : List ℕ). IsFirstByte (is_byte LF) (between inside.scanned inside.filled bytes) None in
    none_between inside.start inside.scanned inside.filled inside.buffer.items holds.begun holds.searched holds.scanned_clean (
    line_end_found _ None (subst searched c.deref.ensures.value c.in-None.ensures))

pub returns-in-Some-clause-found : goal.returns-in-Some-clause-found
returns-in-Some-clause-found c = rw (← c.self.view_is) (found_some c)

pub returns-in-None-clause-found : goal.returns-in-None-clause-found
returns-in-None-clause-found c = rw (← c.self.view_is) (found_none c)

pub invariant_of-self : goal.invariant_of-self
invariant_of-self c =
    let inside = c.self.inside in
    let holds = c.self.invariant in
    let place : ℕ = inside.scanned + c.in-Some.place in
    let found = found_some c in
    let long = length-between inside.buffer.items inside.start inside.filled holds.inside in
    record {
      room = holds.room;
      begun = omega (arith, holds.begun);
      searched = omega (arith, holds.begun, holds.searched, found.0, long);
      inside = holds.inside;
      scanned_clean =
          clean_before inside.start inside.filled place inside.buffer.items (omega (arith, holds.begun)) found holds.inside;
      line_room = holds.line_room;
      line_inside = holds.line_inside;
    }

pub invariant_of-self-in-None : goal.invariant_of-self-in-None
invariant_of-self-in-None c =
    let holds = c.self.invariant in
    record {
      room = holds.room;
      begun = omega (arith, holds.begun, holds.searched);
      searched = omega arith;
      inside = holds.inside;
      scanned_clean = found_none c;
      line_room = holds.line_room;
      line_inside = holds.line_inside;
    }
