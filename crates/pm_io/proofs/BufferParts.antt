-- Parts of a buffer of bytes, and where their first line end is.
use Rattle.std.proofs.Common.{◌≡◌, ◌≢◌, ◌∙◌, ◌++◌, ◌+◌, ◌-◌, ◌<◌, ◌≤◌, ℕ, List, [], ◌∷◌, Option, None, Some, length, take, drop, get_or, refl, ap, sym, subst, arith}
use Rattle.std.specs.List.{between}
use Rattle.std.proofs.lemmas.Bool.{eqb-true, eq-eqb}
use Rattle.std.proofs.lemmas.List.{take_all, take_at, drop_at, take_more, take-take, length-take, length-append, drop-drop, get_or-take, get_or-append-add}
use Rattle.std.proofs.lemmas.List.Elements.{All-append, All-from_get_or}
use Rattle.std.proofs.lemmas.List.Edits.{length-between}
use Rattle.std.proofs.lemmas.Slice.{between_is}
use Rattle.std.proofs.Math.Seq.{take-add}
use Rattle.memchr.specs.Find.{IsFirstByte, is_byte}
use Rattle.pm_io.specs.Lines.{without_cr, HasNoLineEnd}
use Rattle.pm_io.specs.LineBuffer.{FindsLineEnd}
use Rattle.pm_io.specs.declared.lines.TheConstants.{LF, CR}
use Rattle.pm_io.proofs.LineCuts.{without_cr-cr, without_cr-other}

-- ---- bytes by their last one

by_last : (bytes : List ℕ) → 0 < length bytes → bytes ≡ take (length bytes - 1) bytes ++ get_or bytes (length bytes - 1) 0 ∷ []
by_last bytes some =
    let more = take_more bytes (length bytes - 1) 0 (omega arith) in
    sym (take_all (length bytes - 1 + 1) bytes (omega arith)) ∙ more

-- the bytes end in a CR
pub without_cr-take : (bytes : List ℕ) → 0 < length bytes → get_or bytes (length bytes - 1) 0 ≡ CR
    → without_cr bytes ≡ take (length bytes - 1) bytes
without_cr-take bytes some is =
    ap without_cr (by_last bytes some ∙ ap (λ (last : ℕ). take (length bytes - 1) bytes ++ last ∷ []) is)
    ∙ without_cr-cr (take (length bytes - 1) bytes)

-- the bytes end in another byte
pub without_cr-same : (bytes : List ℕ) → 0 < length bytes → get_or bytes (length bytes - 1) 0 ≢ CR → without_cr bytes ≡ bytes
without_cr-same bytes some other =
    ap without_cr (by_last bytes some)
    ∙ without_cr-other (take (length bytes - 1) bytes) (get_or bytes (length bytes - 1) 0) other
    ∙ sym (by_last bytes some)

-- ---- parts

-- two parts that touch
between-between : (first middle last : ℕ) (bytes : List ℕ) → first ≤ middle → middle ≤ last
    → between first last bytes ≡ between first middle bytes ++ between middle last bytes
between-between first middle last bytes low high =
    ap (λ (count : ℕ). take count (drop first bytes)) (omega arith)
    ∙ take-add (middle - first) (last - middle) (drop first bytes)
    ∙ ap (λ (rest : List ℕ). take (middle - first) (drop first bytes) ++ take (last - middle) rest) (
    drop-drop (middle - first) first bytes ∙ ap (λ (count : ℕ). drop count bytes) (omega arith))

-- a part without its first bytes
pub drop-between : (count first last : ℕ) (bytes : List ℕ) → drop count (between first last bytes) ≡ between (first + count) last bytes
drop-between count first last bytes =
    ap (drop count) (between_is bytes first last) ∙ drop-drop count first (take last bytes) ∙ sym (between_is bytes (first + count) last)

-- the first bytes of a part
pub take-between : (count first last : ℕ) (bytes : List ℕ) → first + count ≤ last
    → take count (between first last bytes) ≡ between first (first + count) bytes
take-between count first last bytes within =
    take-take count (last - first) (drop first bytes) (omega arith) ∙ ap (λ (n : ℕ). take n (drop first bytes)) (omega arith)

-- ---- the first line end

-- what a search for an LF finds
pub line_end_found : (bytes : List ℕ) (found : Option ℕ) → IsFirstByte (is_byte LF) bytes found → FindsLineEnd bytes found
line_end_found bytes None nowhere =
    All-from_get_or (λ byte. byte ≢ LF) bytes 0 (λ place within is. nowhere place (omega arith) within (eq-eqb _ LF is))
line_end_found bytes (Some place) first = (
  first.0.high,
  All-from_get_or (λ byte. byte ≢ LF) (take place bytes) 0 (
      λ at within is.
      let early : at < place = omega (arith, within, length-take place bytes) in
      first.0.before at (omega arith) early (eq-eqb _ LF (sym (get_or-take place bytes at 0 early) ∙ is))
      ),
  eqb-true _ LF first.1,
)

-- the first bytes of two lists, which reach into the second list
take-into : (front back : List ℕ) (count : ℕ) → take (length front + count) (front ++ back) ≡ front ++ take count back
take-into front back count =
    take-add (length front) count (front ++ back)
    ∙ ap (λ (first : List ℕ). first ++ take count (drop (length front) (front ++ back))) (take_at front back (length front) refl)
    ∙ ap (λ (second : List ℕ). front ++ take count second) (drop_at front back (length front) refl)

-- a search that continues after bytes with no line end
none_after : (front back : List ℕ) → HasNoLineEnd front → FindsLineEnd back None → FindsLineEnd (front ++ back) None
none_after front back clean none = All-append (λ byte. byte ≢ LF) front back clean none

some_after : (front back : List ℕ) (place : ℕ) → HasNoLineEnd front → FindsLineEnd back (Some place)
    → FindsLineEnd (front ++ back) (Some (length front + place))
some_after front back place clean found = (
  omega (arith, found.0, length-append front back),
  subst HasNoLineEnd (sym (take-into front back place)) (All-append (λ byte. byte ≢ LF) front (take place back) clean found.1),
  get_or-append-add front back place 0 ∙ found.2,
)

-- a search from `scanned` on, seen from `start`
pub none_between : (start scanned filled : ℕ) (bytes : List ℕ) → start ≤ scanned → scanned ≤ filled → HasNoLineEnd (between start scanned bytes)
    → FindsLineEnd (between scanned filled bytes) None → FindsLineEnd (between start filled bytes) None
none_between start scanned filled bytes begun searched clean none =
    subst (λ (part : List ℕ). FindsLineEnd part None) (sym (between-between start scanned filled bytes begun searched)) (
    none_after (between start scanned bytes) (between scanned filled bytes) clean none)

pub some_between : (start scanned filled place : ℕ) (bytes : List ℕ) → start ≤ scanned → scanned ≤ filled → filled ≤ length bytes
    → HasNoLineEnd (between start scanned bytes) → FindsLineEnd (between scanned filled bytes) (Some place)
    → FindsLineEnd (between start filled bytes) (Some (scanned + place - start))
some_between start scanned filled place bytes begun searched inside clean found =
    let at : length (between start scanned bytes) + place ≡ scanned + place - start =
    omega (arith, length-between bytes start scanned (omega arith)) in
    let behind = some_after (between start scanned bytes) (between scanned filled bytes) place clean found in
    subst (λ (part : List ℕ). FindsLineEnd part (Some (scanned + place - start))) (sym (between-between start scanned filled bytes begun searched)) (
    subst (λ (n : ℕ). FindsLineEnd (between start scanned bytes ++ between scanned filled bytes) (Some n)) at behind)

-- what comes before a line end that was found has no line end
pub clean_before : (start filled place : ℕ) (bytes : List ℕ) → start ≤ place → FindsLineEnd (between start filled bytes) (Some (place - start))
    → filled ≤ length bytes → HasNoLineEnd (between start place bytes)
clean_before start filled place bytes begun found inside =
    let upto : place ≤ filled = omega (arith, found.0, length-between bytes start filled inside) in
    let same : take (place - start) (between start filled bytes) ≡ between start place bytes =
    take-between (place - start) start filled bytes (omega arith) ∙ ap (λ (n : ℕ). between start n bytes) (omega arith) in
    subst HasNoLineEnd same found.1
