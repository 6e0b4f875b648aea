-- The steps of a run, one after another.
use Rattle.std.proofs.Common.{◌≡◌, ◌∙◌, ◌<◌, ◌≤◌, ◌-◌, ◌+◌, ◌^◌, ◌++◌, ◌&&◌, ◌⊎◌, inl, inr, ℕ, suc, Bool, true, false, List, [], ◌∷◌, length, take, drop, refl, ap, ap₂, sym, subst, append-nil, arith}
use Rattle.std.specs.Prelude.{Option, None, Some, if◌then◌else◌}
use Rattle.std.proofs.lemmas.Bool.{le-leb, lt-leb}
use Rattle.std.proofs.lemmas.List.{take-append-le, take_all}
use Rattle.std.proofs.lemmas.Slice.Eq.{bytes_eq-Decides}
use Rattle.std.specs.Str.{bytes_eq}
use Rattle.std.proofs.Math.ListN.{drop_of_length-le}
use borrow.Rule.Slice.PartMut.{put_mid}
use Rattle.pm_bits.specs.Word.{Word}
use Rattle.pm_io.specs.Lines.{Line, content, lines_of}
use Rattle.pm_io.specs.Known.{Empties}
use Rattle.pm_io.specs.Reading.{Gives, ahead}
use Rattle.pm_io.specs.declared.lines.LineGot.{LineGot}
use Rattle.pm_io.specs.declared.lines.LineGot.TheVariants as got
use Rattle.pm_job.specs.declared.row_reader.TheConstants.{LINE_LIMIT}
use Rattle.pm_job.specs.declared.row_reader.NextRow.TheVariants as next
use Rattle.pm_job.specs.declared.component.Component.{Component}
use Rattle.pm_job.specs.declared.finish.Finish.TheVariants as finish
use Rattle.pm_job.specs.declared.row_reader.HeaderGot.TheVariants as header
use Rattle.pm_job.specs.Values.{value_widths}
use Rattle.pm_job.specs.Vectors.{header_of, row_of}
use Rattle.pm_job.specs.Input.{is_header, line_row}
use Rattle.pm_job.specs.Progress.{GivesHeader, GivesNoRow, GivesRow, HasNoHeader}

-- a list of which all but the first was written
pub drop-written : (xs ys : List Word) → 0 < length xs → length ys ≡ length xs - 1 → drop 1 (put_mid 1 (length xs - 1) xs ys) ≡ ys
drop-written [] ys some count = absurd (omega arith)
drop-written (x ∷ xs) ys some count = ap (λ (zs : List Word). ys ++ zs) (drop_of_length-le xs {i = suc (length xs) - 1} (omega arith)) ∙ append-nil ys

pub length-written : (xs ys : List Word) → 0 < length xs → length ys ≡ length xs - 1 → length (put_mid 1 (length xs - 1) xs ys) ≡ length xs
length-written [] ys some count = absurd (omega arith)
length-written (x ∷ xs) ys some count = ap (λ (zs : List Word). suc (length zs)) (drop-written (x ∷ xs) ys some count) ∙ (omega (arith, count))

pub kept-written : (xs ys : List Word) → 0 < length xs → put_mid 1 (length xs - 1) xs ys ≡ take 1 xs ++ drop 1 (put_mid 1 (length xs - 1) xs ys)
kept-written [] ys some = absurd (omega arith)
kept-written (x ∷ xs) ys some = refl

pub widths-written : (xs ys : List Word) → 0 < length xs → length ys ≡ length xs - 1 → value_widths ys ≡ value_widths (drop 1 xs)
    → value_widths (put_mid 1 (length xs - 1) xs ys) ≡ value_widths xs
widths-written [] ys some count same = absurd (omega arith)
widths-written (x ∷ xs) ys some count same = ap (λ (zs : List Word). x.width ∷ value_widths zs) (drop-written (x ∷ xs) ys some count) ∙ ap (λ (ws : List ℕ). x.width ∷ ws) same

-- a slice that was lent and written stands in its `Vec` again
pub written_back : (new old : List Word) (len : ℕ) → length new ≡ len → take len (new ++ drop (length new) old) ≡ new
written_back new old len is =
    let whole : take (length new) (new ++ drop (length new) old) ≡ new =
    take-append-le (length new) new (drop (length new) old) (omega arith) ∙ take_all (length new) new (omega arith) in
    subst (λ (n : ℕ). take n (new ++ drop (length new) old) ≡ new) is whole

-- a line within the limit is a row where its content is one
pub line_row-content : (widths : List ℕ) (line : Line) → length line.bytes ≤ LINE_LIMIT → line_row widths line ≡ row_of widths (content line)
line_row-content widths line short =
    ap (λ (b : Bool). if b then row_of widths (content line) else None) (le-leb (length line.bytes) LINE_LIMIT short)

-- a line that was given is a row where it was read as one
pub gives_row : (widths : List ℕ) (told now : Option (List ℕ)) (limit : ℕ) (given : List ℕ) (row : List Word) → limit ≡ LINE_LIMIT
    → Gives told now limit given got.Line → row_of widths given ≡ Some (drop 1 row) → GivesRow widths told now row next.Row
gives_row widths None now limit given row is line good = tt
gives_row widths (Some text) now limit given row is line good =
    let short : length line.0.bytes ≤ LINE_LIMIT = omega (arith, line.4, is) in
    (line.0, line.1, line.2, line.3, line_row-content widths line.0 short ∙ (ap (row_of widths) (sym line.5) ∙ good))

-- a line that was given is no row where it was read as none
pub gives_no_row : (widths : List ℕ) (told now : Option (List ℕ)) (limit : ℕ) (given : List ℕ) (row : List Word) → limit ≡ LINE_LIMIT
    → Gives told now limit given got.Line → row_of widths given ≡ None → GivesRow widths told now row next.Refused
gives_no_row widths None now limit given row is line bad = tt
gives_no_row widths (Some text) now limit given row is line bad =
    let short : length line.0.bytes ≤ LINE_LIMIT = omega (arith, line.4, is) in
    (line.0, lines_of line.1, line.2, line_row-content widths line.0 short ∙ (ap (row_of widths) (sym line.5) ∙ bad))

-- a line that is too long is no row
pub gives_long_row : (widths : List ℕ) (told now : Option (List ℕ)) (limit : ℕ) (given : List ℕ) (row : List Word) → limit ≡ LINE_LIMIT
    → Gives told now limit given got.TooLong → GivesRow widths told now row next.Refused
gives_long_row widths None now limit given row is line = tt
gives_long_row widths (Some text) now limit given row is line =
    let long : LINE_LIMIT < length line.0.bytes = omega (arith, line.3, is) in
    (line.0, line.1, line.2, ap (λ (b : Bool). if b then row_of widths (content line.0) else None) (lt-leb (length line.0.bytes) LINE_LIMIT long))

-- at the end there is no row
pub gives_row_at_end : (widths : List ℕ) (told now : Option (List ℕ)) (limit : ℕ) (given : List ℕ) (row : List Word)
    → Gives told now limit given got.End → GivesRow widths told now row next.End
gives_row_at_end widths None now limit given row ends = tt
gives_row_at_end widths (Some text) now limit given row ends = ends

-- the first line is the header, or isn't
header_test : (component : Component) (line : Line) (b : Bool) → length line.bytes ≤ LINE_LIMIT → bytes_eq (content line) (header_of component) ≡ b → is_header component line ≡ b
header_test component line b short is = ap₂ (λ (p q : Bool). p && q) (le-leb (length line.bytes) LINE_LIMIT short) is

differs : (xs ys : List ℕ) → (xs ≡ ys → ⊥) → bytes_eq xs ys ≡ false
differs xs ys none = not_true (bytes_eq xs ys) (λ is. none ((bytes_eq-Decides xs ys).0 is)) where
  not_true : (b : Bool) → (b ≡ true → ⊥) → b ≡ false
  not_true true never = absurd (never refl)
  not_true false never = refl

pub gives_header : (component : Component) (told now : Option (List ℕ)) (limit : ℕ) (given : List ℕ) → limit ≡ LINE_LIMIT
    → Gives told now limit given got.Line → given ≡ header_of component → GivesHeader component told now header.Good
gives_header component None now limit given is line same = tt
gives_header component (Some text) now limit given is line same =
    let short : length line.0.bytes ≤ LINE_LIMIT = omega (arith, line.4, is) in
    (line.0, line.1, line.2, line.3, header_test component line.0 true short ((bytes_eq-Decides (content line.0) (header_of component)).1 (sym line.5 ∙ same)))

pub gives_no_header : (component : Component) (told now : Option (List ℕ)) (limit : ℕ) (given : List ℕ) → limit ≡ LINE_LIMIT
    → Gives told now limit given got.Line → (given ≡ header_of component → ⊥) → GivesHeader component told now header.Bad
gives_no_header component None now limit given is line other = tt
gives_no_header component (Some text) now limit given is line other =
    let short : length line.0.bytes ≤ LINE_LIMIT = omega (arith, line.4, is) in
    subst (HasNoHeader component) (sym line.2)
    (header_test component line.0 false short (differs (content line.0) (header_of component) (λ same. other (line.5 ∙ same))))

pub gives_long_header : (component : Component) (told now : Option (List ℕ)) (limit : ℕ) (given : List ℕ) → limit ≡ LINE_LIMIT
    → Gives told now limit given got.TooLong → GivesHeader component told now header.Bad
gives_long_header component None now limit given is line = tt
gives_long_header component (Some text) now limit given is line =
    let long : LINE_LIMIT < length line.0.bytes = omega (arith, line.3, is) in
    subst (HasNoHeader component) (sym line.2)
    (ap (λ (b : Bool). b && bytes_eq (content line.0) (header_of component)) (lt-leb (length line.0.bytes) LINE_LIMIT long))

-- there is no line: the header is empty, or it isn't
pub gives_empty_header : (component : Component) (told now : Option (List ℕ)) (limit : ℕ) (given : List ℕ)
    → Gives told now limit given got.End → [] ≡ header_of component → GivesHeader component told now header.Empty
gives_empty_header component None now limit given ends same = tt
gives_empty_header component (Some text) now limit given ends same = (ends.0, ends.1, sym same)

pub gives_no_line : (component : Component) (told now : Option (List ℕ)) (limit : ℕ) (given : List ℕ)
    → Gives told now limit given got.End → ([] ≡ header_of component → ⊥) → GivesHeader component told now header.Bad
gives_no_line component None now limit given ends other = tt
gives_no_line component (Some text) now limit given ends other =
    subst (λ (text : List ℕ). HasNoHeader component (lines_of text)) (sym ends.0) (differs [] (header_of component) other)

-- after the greatest number of rows one more line is refused
pub gives_one_more : (told now : Option (List ℕ)) (limit : ℕ) (given : List ℕ) (answer : LineGot) → (answer ≡ got.Line) ⊎ (answer ≡ got.TooLong)
    → Gives told now limit given answer → GivesNoRow told (finish.Refused (2 ^ 20 + 2))
gives_one_more None now limit given answer is gives = tt
gives_one_more (Some text) now limit given answer (inl is) gives =
    let line = subst (Gives (Some text) now limit given) is gives in
    (line.0, lines_of line.1, line.2, refl)
gives_one_more (Some text) now limit given answer (inr is) gives =
    let line = subst (Gives (Some text) now limit given) is gives in
    (line.0, line.1, line.2, refl)

pub gives_no_more : (told now : Option (List ℕ)) (limit : ℕ) (given : List ℕ) → Gives told now limit given got.End → GivesNoRow told finish.Done
gives_no_more None now limit given ends = tt
gives_no_more (Some text) now limit given ends = ends.0

-- at the end nothing is left of the source
pub gives_end : (buffered buffered' : List ℕ) (left left' : Option (List ℕ)) (limit : ℕ) (given : List ℕ)
    → Gives (ahead buffered left) (ahead buffered' left') limit given got.End → Empties left left'
gives_end buffered buffered' None left' limit given ends = tt
gives_end buffered buffered' (Some text) None limit given ends = absurd (cc)
gives_end buffered buffered' (Some text) (Some rest) limit given ends = ap Some (all_of buffered' rest (some_nil (buffered' ++ rest) ends.1)) where
  some_nil : (xs : List ℕ) → ◌≡◌ {A = Option (List ℕ)} (Some xs) (Some []) → xs ≡ []
  some_nil xs is = cc

  all_of : (xs ys : List ℕ) → xs ++ ys ≡ [] → ys ≡ []
  all_of [] ys is = is
  all_of (x ∷ xs) ys is = absurd (cc)
