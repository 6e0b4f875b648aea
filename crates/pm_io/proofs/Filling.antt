-- A buffer whose bytes were moved to its start, and that was filled after them.
use Rattle.std.proofs.Common.{◌≡◌, ◌∙◌, ◌++◌, ◌+◌, ◌-◌, ◌≤◌, ℕ, List, Option, length, take, drop, ap, sym, subst, arith}
use Rattle.std.specs.List.{between}
use Rattle.std.proofs.lemmas.List.{take_at, take-take}
use Rattle.std.proofs.lemmas.Slice.{between_from_start}
use Rattle.std.proofs.Math.Seq.{take-add}
use Rattle.pm_io.specs.Known.{Keeps, Loses}
use Rattle.pm_io.specs.Lines.{HasNoLineEnd}
use Rattle.pm_io.specs.Reading.{ahead}
use Rattle.pm_io.specs.LineBuffer.{IsLineBuffer}
use Rattle.pm_io.proofs.BufferParts.{take-between}
use Rattle.pm_io.proofs.Ahead.{keeps_read}

-- a buffer of `count` bytes that was lent whole for a read, and holds `now` after it
pub record IsFilled (count start filled : ℕ) (buffer lent now : List ℕ) : Type 0 where
  pub lent_whole : lent ≡ buffer
  pub room : length lent ≡ count
  pub kept : take (filled - start) now ≡ between start filled lent
  pub now_room : length now ≡ length lent

module _ {count start filled : ℕ} {buffer lent now : List ℕ} (is : IsFilled count start filled buffer lent now) where
  -- the buffer still has its bytes
  pub length-now : length now ≡ length buffer
  length-now = is.now_room ∙ ap length is.lent_whole

  -- the buffer holds what the read left there
  holds-now : take count (now ++ drop (length now) buffer) ≡ now
  holds-now = take_at now (drop (length now) buffer) count (is.now_room ∙ is.room)

  -- what was buffered is at the start
  start-now : take (filled - start) now ≡ between start filled buffer
  start-now = is.kept ∙ ap (between start filled) is.lent_whole

  -- what was searched before is still without line end
  clean-now : (scanned : ℕ) → start ≤ scanned → scanned ≤ filled → HasNoLineEnd (between start scanned buffer)
      → HasNoLineEnd (between 0 (scanned - start) now)
  clean-now scanned begun searched clean =
      let same : between start scanned buffer ≡ between 0 (scanned - start) now =
      ap (λ (last : ℕ). between start last buffer) (omega arith)
      ∙ sym (take-between (scanned - start) start filled buffer (omega arith))
      ∙ ap (take (scanned - start)) (sym start-now)
      ∙ take-take (scanned - start) (filled - start) now (omega arith)
      ∙ sym (between_from_start now (scanned - start)) in
      subst HasNoLineEnd same clean

  -- the buffer is in order after the read
  pub filled-in_order : {limit scanned line_length : ℕ} {line : List ℕ} (last : ℕ)
      → IsLineBuffer limit buffer start scanned filled line line_length → filled - start ≤ last → last ≤ length now
      → IsLineBuffer limit (take count (now ++ drop (length now) buffer)) 0 (scanned - start) last line line_length
  filled-in_order {limit} {scanned} {line_length} {line} last holds low high =
      subst (λ (bytes : List ℕ). IsLineBuffer limit bytes 0 (scanned - start) last line line_length) (sym holds-now) (
      record {
        room = length-now ∙ holds.room;
        begun = omega arith;
        searched = omega (arith, holds.begun, holds.searched, low);
        inside = high;
        scanned_clean = clean-now scanned holds.begun holds.searched holds.scanned_clean;
        line_room = holds.line_room;
        line_inside = holds.line_inside;
      }
      )

  -- what the read gave comes after what was buffered, and all of it is still ahead
  pub filled-ahead : (taken : ℕ) (left new : Option (List ℕ)) → Loses left new (take taken (drop (filled - start) now))
      → Keeps (ahead (between start filled buffer) left)
      (ahead (between 0 (filled - start + taken) (take count (now ++ drop (length now) buffer))) new)
  filled-ahead taken left new lost =
      let given : List ℕ = take taken (drop (filled - start) now) in
      let same : between start filled buffer ++ given ≡ between 0 (filled - start + taken) (take count (now ++ drop (length now) buffer)) =
      ap (λ (front : List ℕ). front ++ given) (sym start-now)
      ∙ sym (take-add (filled - start) taken now)
      ∙ sym (between_from_start now (filled - start + taken))
      ∙ ap (between 0 (filled - start + taken)) (sym holds-now) in
      subst (λ (bytes : List ℕ). Keeps (ahead (between start filled buffer) left) (ahead bytes new)) same (
      keeps_read left new (between start filled buffer) given lost)
