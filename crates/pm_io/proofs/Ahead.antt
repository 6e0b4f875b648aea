-- What a reader of lines gives of the bytes that are ahead of it.
use Rattle.std.proofs.Common.{◌≡◌, ◌≢◌, ◌∙◌, ◌++◌, ◌<◌, ◌≤◌, ◌+◌, ℕ, true, false, List, [], ◌∷◌, Option, None, Some, length, take, drop, refl, ap, sym, subst, arith, append_assoc, append-nil}
use Rattle.std.proofs.lemmas.List.{append_cancel_left, take-append-drop, drop_more, length-take}
use Rattle.pm_io.specs.Known.{Keeps, Loses, Are}
use Rattle.pm_io.specs.Lines.{lines_of, without_cr, HasNoLineEnd}
use Rattle.pm_io.specs.LineBuffer.{FindsLineEnd, Finishes}
use Rattle.pm_io.specs.Reading.{Reading, Gives, ahead}
use Rattle.pm_io.specs.declared.lines.TheConstants.{LF}
use Rattle.pm_io.specs.declared.lines.LineGot.{LineGot}
use Rattle.pm_io.specs.declared.lines.LineGot.TheVariants as got
use Rattle.pm_io.proofs.LineCuts.{lines_of-line, lines_of-unended, first_too_long}

-- bytes that a read moved from the source to the buffer are still ahead
pub keeps_read : (left new : Option (List ℕ)) (buffered taken : List ℕ) → Loses left new taken
    → Keeps (ahead buffered left) (ahead (buffered ++ taken) new)
keeps_read None new buffered taken lost = tt
keeps_read (Some bytes) new buffered taken lost =
    subst (λ (known : Option (List ℕ)). ahead (buffered ++ taken) known ≡ Some (buffered ++ bytes)) (sym lost.1) (
    ap Some (append_assoc buffered taken lost.0 ∙ ap (λ (rest : List ℕ). buffered ++ rest) (sym lost.2)))

-- ---- each result, by what was told at first, what is buffered now and what the source has left

-- a text with an LF after bytes that have none
split_at : (bytes : List ℕ) (place : ℕ) → FindsLineEnd bytes (Some place) → bytes ≡ take place bytes ++ LF ∷ drop (place + 1) bytes
split_at bytes place found =
    sym (take-append-drop place bytes)
    ∙ ap (λ (rest : List ℕ). take place bytes ++ rest) (
    drop_more bytes place 0 found.0 ∙ ap (λ (byte : ℕ). byte ∷ drop (place + 1) bytes) found.2)

gives_first : (text bytes rest : List ℕ) (place limit : ℕ) → FindsLineEnd bytes (Some place) → place ≤ limit → bytes ++ rest ≡ text
    → Gives (Some text) (Some (drop (place + 1) bytes ++ rest)) limit (without_cr (take place bytes)) got.Line
gives_first text bytes rest place limit found within is = (
  record { bytes = take place bytes; ended = true },
  drop (place + 1) bytes ++ rest,
  ap lines_of (
      sym is
      ∙ ap (λ (whole : List ℕ). whole ++ rest) (split_at bytes place found)
      ∙ append_assoc (take place bytes) (LF ∷ drop (place + 1) bytes) rest
      )
      ∙ lines_of-line (take place bytes) (drop (place + 1) bytes ++ rest) found.1,
  refl,
  omega (arith, length-take place bytes),
  refl,
)

-- the first line of the bytes ahead ends among the buffered ones
gives_line : (told left : Option (List ℕ)) (bytes : List ℕ) (place limit : ℕ) → Keeps told (ahead bytes left)
    → FindsLineEnd bytes (Some place) → place ≤ limit
    → Gives told (ahead (drop (place + 1) bytes) left) limit (without_cr (take place bytes)) got.Line
gives_line None left bytes place limit kept found within = tt
gives_line (Some text) None bytes place limit kept found within = cc
gives_line (Some text) (Some rest) bytes place limit kept found within =
    gives_first text bytes rest place limit found within cc

gives_too_long : (told left now : Option (List ℕ)) (bytes : List ℕ) (limit : ℕ) (given : List ℕ)
    → Keeps told (ahead bytes left) → HasNoLineEnd bytes → limit < length bytes
    → Gives told now limit given got.TooLong
gives_too_long None left now bytes limit given kept clean over = tt
gives_too_long (Some text) None now bytes limit given kept clean over = cc
gives_too_long (Some text) (Some rest) now bytes limit given kept clean over =
    let is : bytes ++ rest ≡ text = cc in
    subst (λ (whole : List ℕ). Gives (Some whole) now limit given got.TooLong) is (first_too_long bytes rest limit clean over)

-- at the end of the source the buffered bytes are all that was ahead
all_buffered : (text bytes : List ℕ) (left : Option (List ℕ)) → Keeps (Some text) (ahead bytes left) → Are left []
    → (left ≡ Some []) × (text ≡ bytes)
all_buffered text bytes None kept none = cc
all_buffered text bytes (Some rest) kept none =
    let is : bytes ++ rest ≡ text = cc in
    (ap Some none, sym is ∙ ap (λ (more : List ℕ). bytes ++ more) none ∙ append-nil bytes)

gives_unended : (told left : Option (List ℕ)) (bytes : List ℕ) (limit : ℕ) → Keeps told (ahead bytes left) → Are left []
    → HasNoLineEnd bytes → bytes ≢ [] → length bytes ≤ limit
    → Gives told (ahead [] left) limit bytes got.Line
gives_unended None left bytes limit kept none clean some within = tt
gives_unended (Some text) left bytes limit kept none clean some within =
    let all = all_buffered text bytes left kept none in (
      record { bytes = bytes; ended = false },
      [],
      ap lines_of all.1 ∙ lines_of-unended bytes some clean,
      ap (ahead []) all.0,
      within,
      refl,
    )

gives_end : (told left : Option (List ℕ)) (bytes : List ℕ) (limit : ℕ) (given : List ℕ) → Keeps told (ahead bytes left) → Are left [] → bytes ≡ []
    → Gives told (ahead bytes left) limit given got.End
gives_end None left bytes limit given kept none empty = tt
gives_end (Some text) left bytes limit given kept none empty =
    let all = all_buffered text bytes left kept none in
    (all.1 ∙ empty, ap (λ (known : Option (List ℕ)). ahead bytes known) all.0 ∙ ap (λ (front : List ℕ). ahead front (Some [])) empty)

-- what is given of a source that is at its end
gives_finished : (told left : Option (List ℕ)) (old new : Reading) (answer : LineGot) → Keeps told (ahead old.buffered left) → Are left []
    → HasNoLineEnd old.buffered → length old.buffered ≤ old.limit → Finishes old new answer
    → Gives told (ahead new.buffered left) old.limit new.line answer
gives_finished told left old new got.Line kept none clean within done =
    subst (λ (r : Reading). Gives told (ahead r.buffered left) old.limit r.line got.Line) (sym done.1) (
    gives_unended told left old.buffered old.limit kept none clean done.0 within)
gives_finished told left old new got.End kept none clean within done =
    subst (λ (r : Reading). Gives told (ahead r.buffered left) old.limit r.line got.End) (sym done.1) (
    gives_end told left old.buffered old.limit old.line kept none done.0)
gives_finished told left old new got.TooLong kept none clean within done = absurd done
gives_finished told left old new got.Failed kept none clean within done = absurd done

-- a source that was at its end has nothing left after the read that said so
none_left : (text bytes : List ℕ) (left now : Option (List ℕ)) → Keeps (Some text) (ahead bytes left) → Are left []
    → Keeps (Some text) (ahead bytes now) → Are now []
none_left text bytes left None before none after = tt
none_left text bytes left (Some rest) before none after =
    let is : bytes ++ rest ≡ text = cc in
    append_cancel_left bytes rest [] (is ∙ (all_buffered text bytes left before none).1 ∙ sym (append-nil bytes))

-- what is given once a read said that the source is at its end
pub gives_last : (told left now : Option (List ℕ)) (old new : Reading) (answer : LineGot) → Keeps told (ahead old.buffered left) → Are left []
    → Keeps told (ahead old.buffered now) → HasNoLineEnd old.buffered → length old.buffered ≤ old.limit → Finishes old new answer
    → Gives told (ahead new.buffered now) old.limit new.line answer
gives_last None left now old new answer before none after clean within done = tt
gives_last (Some text) left now old new answer before none after clean within done =
    gives_finished (Some text) now old new answer after (none_left text old.buffered left now before none after) clean within done

-- what is given where a line end is buffered: `old` is searched and `found` taken from
pub gives_taken : (told left : Option (List ℕ)) (old found new : Reading) (place limit : ℕ) (answer : LineGot) → Keeps told (ahead old.buffered left)
    → FindsLineEnd old.buffered (Some place) → place ≤ limit → found ≡ old
    → new ≡ record found { buffered = drop (place + 1) found.buffered; line = without_cr (take place found.buffered) } → answer ≡ got.Line
    → Gives told (ahead new.buffered left) limit new.line answer
gives_taken told left old found new place limit answer kept ends short same taken is =
    subst (λ (a : LineGot). Gives told (ahead new.buffered left) limit new.line a) (sym is) (
    subst (λ (r : Reading). Gives told (ahead r.buffered left) limit r.line got.Line) (sym taken) (
    subst (λ (r : Reading). Gives told (ahead (drop (place + 1) r.buffered) left) limit (without_cr (take place r.buffered)) got.Line) (sym same) (
    gives_line told left old.buffered place limit kept ends short)))

-- what is given where more is buffered than a line may have
pub gives_over : (told left now : Option (List ℕ)) (bytes : List ℕ) (limit : ℕ) (given : List ℕ) (answer : LineGot) → Keeps told (ahead bytes left)
    → HasNoLineEnd bytes → limit < length bytes → answer ≡ got.TooLong → Gives told now limit given answer
gives_over told left now bytes limit given answer kept clean over is =
    subst (Gives told now limit given) (sym is) (gives_too_long told left now bytes limit given kept clean over)

-- what was ahead before a read is ahead after it
pub keeps_on : (told mid now : Option (List ℕ)) → Keeps told mid → Keeps mid now → Keeps told now
keeps_on None mid now one two = tt
keeps_on (Some text) mid now one two =
    let next : Keeps (Some text) now = subst (λ (known : Option (List ℕ)). Keeps known now) one two in next
