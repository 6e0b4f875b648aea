use Rattle.std.proofs.Common.{◌^◌, ◌<◌, length, sym, ap, arith, length-drop}
use Rattle.std.proofs.lemmas.List.{take_rest}
use Rattle.pm_io.specs.Memory.{first_of}
use Rattle.pm_io.proofs.Pieces.{pieces_from-item, pieces_from-none, within_item}
use Rattle.pm_io.proofs.memory_source.rest_of.Goals as goal

pub slice_bounds-result-count : goal.slice_bounds-result-count
slice_bounds-result-count c =
    let within : c.args.at < length c.as_slice.result.now = rw c.as_slice.ensures (within_item c.args.piece c.args.at c.args.pieces.now c.in-Some.text.now (sym c.in-Some.ensures.value) c.requires) in
    omega arith

pub slice_bounds-result-start : goal.slice_bounds-result-start
slice_bounds-result-start c =
    let within : c.args.at < length c.as_slice.result.now = rw c.as_slice.ensures (within_item c.args.piece c.args.at c.args.pieces.now c.in-Some.text.now (sym c.in-Some.ensures.value) c.requires) in
    omega arith

pub returns-in-Some : goal.returns-in-Some
returns-in-Some c =
    let same = pieces_from-item c.args.piece c.args.at c.args.pieces.now c.in-Some.text.now (sym c.in-Some.ensures.value) in
    let within : c.args.at < length c.as_slice.result.now = rw c.as_slice.ensures (within_item c.args.piece c.args.at c.args.pieces.now c.in-Some.text.now (sym c.in-Some.ensures.value) c.requires) in
    let short : length c.as_slice.result.now < 2 ^ 64 = c.as_slice.type_inv.0 in
    record {
      bytes = rw (take_rest, c.as_slice.ensures) (sym (ap first_of same));
      there = λ _. c.in-Some.ensures.within;
      fits = rw (take_rest, length-drop) (omega arith);
    }

pub returns-in-None : goal.returns-in-None
returns-in-None c = record {
  bytes = sym (ap first_of (pieces_from-none c.args.piece c.args.at c.args.pieces.now (sym c.in-None.ensures.value)));
  there = λ none. absurd (omega arith);
  fits = omega (arith, c.ranges.at.fits);
}
