-- How an order is read line by line.
use Rattle.std.proofs.Common.{◌≡◌, ◌≢◌, ◌∙◌, ◌+◌, ◌-◌, ◌<◌, ◌++◌, ℕ, true, false, List, [], ◌∷◌, length, take, drop, get_or, map, refl, ap, ap₂, sym, drop-cons, add-one, append_assoc, append-nil}
use Rattle.std.specs.Prelude.{Option, Some, None, unwrap_or}
use Rattle.pm_design.specs.declared.plan.Flat.{Flat}
use Rattle.std.proofs.lemmas.List.{take-append-drop, take_rest}
use Rattle.memchr.specs.Find.{IsFirstByte, is_byte}
use Rattle.name_places.specs.Places.{FindsPlaces}
use Rattle.pm_values.specs.Tables.{Names, get}
use Rattle.pm_io.specs.Lines.{Line, content, lines_of, without_cr}
use Rattle.pm_io.specs.declared.lines.TheConstants.{LF}
use Rattle.pm_io.proofs.LineCuts.{lines_of-line, lines_of-unended}
use Rattle.pm_io.proofs.BufferParts.{line_end_found}
use Rattle.order_file.specs.Orders.{CutsLine, number_of, order_of}

-- the numbers so far, and those of the lines that are left
abbrev pub IsReadSoFar : List Flat → List ℕ → List ℕ → List ℕ → Type 0
IsReadSoFar blocks text rest order = order ++ order_of blocks rest ≡ order_of blocks text

pub line_read : (blocks : List Flat) (text rest after line : List ℕ) (order more : List ℕ) (number : ℕ)
    → IsReadSoFar blocks text rest order → CutsLine rest line after → number ≡ number_of blocks line
    → more ≡ order ++ number ∷ []
    → IsReadSoFar blocks text after more
unfolding order_of
line_read blocks text rest after line order more number so_far cut is grown =
    let next : order_of blocks rest ≡ number ∷ order_of blocks after =
    ap (map (λ (l : Line). number_of blocks (content l))) cut.cut
    ∙ ap (λ (n : ℕ). n ∷ order_of blocks after) (ap (number_of blocks) cut.content_is ∙ sym is) in
    ap (λ (ns : List ℕ). ns ++ order_of blocks after) grown
    ∙ append_assoc order (number ∷ []) (order_of blocks after)
    ∙ ap (λ (ns : List ℕ). order ++ ns) (sym next) ∙ so_far

pub lines_done : (blocks : List Flat) (text rest order : List ℕ) → IsReadSoFar blocks text rest order
    → lines_of rest ≡ []
    → order ≡ order_of blocks text
unfolding order_of
lines_done blocks text rest order so_far none =
    sym (append-nil order)
    ∙ ap (λ (ns : List ℕ). order ++ ns) (sym (ap (map (λ (l : Line). number_of blocks (content l))) none)) ∙ so_far

-- the number that a table gives
pub number_found : (blocks : List Flat) (places : Names ℕ) (line : List ℕ) (number : ℕ)
    → FindsPlaces (λ (block : Flat). block.name) blocks places
    → number ≡ unwrap_or (get places line) (length blocks)
    → number ≡ number_of blocks line
number_found blocks places line number finds is =
    is ∙ ap (λ (place : Option ℕ). unwrap_or place (length blocks)) (finds line)

-- ---- lines

cut_there : (text : List ℕ) (end : ℕ) → end < length text → get_or text end 0 ≡ LF
    → text ≡ take end text ++ LF ∷ drop (end + 1) text
cut_there text end within is =
    sym (take-append-drop end text)
    ∙ ap (λ (rest : List ℕ). take end text ++ rest) (drop-cons text end 0 within
    ∙ ap₂ (λ (b n : ℕ). b ∷ drop n text) is (sym (add-one end)))

-- the first line ends at the first LF
pub ended_line : (text : List ℕ) (end : ℕ) → IsFirstByte (is_byte LF) text (Some end)
    → CutsLine text (without_cr (take end text)) (take (length text - (end + 1)) (drop (end + 1) text))
ended_line text end first =
    let found = line_end_found text (Some end) first in
    record {
      first = record { bytes = take end text; ended = true };
      cut = rw (take_rest text (end + 1))
          (ap lines_of (cut_there text end found.0 found.2)
          ∙ lines_of-line (take end text) (drop (end + 1) text) found.1);
      content_is = refl;
    }

-- the last line may lack its LF
pub last_line : (text : List ℕ) → text ≢ [] → IsFirstByte (is_byte LF) text None → CutsLine text text []
last_line text some none = record {
  first = record { bytes = text; ended = false };
  cut = lines_of-unended text some (line_end_found text None none);
  content_is = refl;
}
