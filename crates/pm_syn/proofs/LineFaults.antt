-- The first fault of logical lines, found with the columns to which a line may return.
use Rattle.std.proofs.Common.{◌≡◌, ◌∙◌, ◌<◌, ◌≤◌, ◌++◌, ℕ, suc, Bool, true, false, List, [], ◌∷◌, length, drop, get_or, arith, refl, ap, sym, drop-cons}
use Rattle.std.specs.Prelude.{nat_lt, if◌then◌else◌, All, Option, Some, None, slice_get}
use Rattle.std.proofs.lemmas.Bool.Decides.{nat_tests}
use Rattle.std.proofs.lemmas.List.{drop_all}
use Rattle.std.proofs.lemmas.List.Elements.{All-nil, All-cons}
use Rattle.pm_syn.specs.Indentation.{is_column, is_allowed, columns_with}
use Rattle.pm_syn.specs.ColumnStack.{after_column, after_line}
use Rattle.pm_syn.specs.Faults.{faults_of_lines, faults_of_line, line_faults, length_of}
use Rattle.pm_syn.specs.LogicalLines.{column_of}
use Rattle.pm_syn.specs.declared.draft.Draft.{Draft}
use Rattle.pm_syn.specs.declared.draft.Indentation.{Indentation}
use Rattle.pm_syn.specs.declared.draft.Indentation.TheVariants as indentation
use Rattle.pm_syn.specs.declared.fault.TextFault.{TextFault}
use Rattle.pm_syn.specs.declared.fault.TextFault.TheVariants as fault
use Rattle.pm_syn.proofs.StackedColumns.{StandsFor, is_allowed-same, stands_after_line, stands_for_itself}

-- the first fault of these lines, after lines that may be returned to at these columns
abbrev pub first_after : List ℕ → List Draft → Option TextFault
first_after columns [] = None
first_after columns (draft ∷ drafts) =
    if is_allowed draft.indentation columns
    then (if nat_lt 4096 (length_of draft.tokens) then Some (fault.LineTooLong draft.number) else first_after (after_line draft.indentation columns) drafts)
    else Some (fault.BadIndent draft.number)

-- the faults of a line, then those of others
abbrev faults_then : Bool → Bool → ℕ → List TextFault → List TextFault
faults_then allowed long number others =
    ((if allowed then [] else fault.BadIndent number ∷ []) ++ (if long then fault.LineTooLong number ∷ [] else [])) ++ others

slice_get-faults_then : (allowed long : Bool) (number : ℕ) (others : List TextFault) (first : Option TextFault) → (allowed ≡ true → slice_get others 0 ≡ first)
    → slice_get (faults_then allowed long number others) 0 ≡ (if allowed then (if long then Some (fault.LineTooLong number) else first) else Some (fault.BadIndent number))
slice_get-faults_then true true number others first is = refl
slice_get-faults_then true false number others first is = is refl
slice_get-faults_then false long number others first is = refl

-- the columns lead to the first of all faults
slice_get-faults_of_lines : (drafts : List Draft) (columns earlier : List ℕ) → StandsFor columns earlier
    → slice_get (faults_of_lines earlier drafts) 0 ≡ first_after columns drafts
slice_get-faults_of_lines [] columns earlier stands = refl
slice_get-faults_of_lines (draft ∷ drafts) columns earlier stands =
    let long = nat_lt 4096 (length_of draft.tokens) in
    let next = after_line draft.indentation columns in
    let later = columns_with draft.indentation earlier in
    let others = faults_of_lines later drafts in
    let same = is_allowed-same stands draft.indentation in
    let first = λ (allowed : is_allowed draft.indentation columns ≡ true). slice_get-faults_of_lines drafts next later (stands_after_line stands draft.indentation allowed) in
    ap (λ (allowed : Bool). slice_get (faults_then allowed long draft.number others) 0) (sym same)
    ∙ slice_get-faults_then (is_allowed draft.indentation columns) long draft.number others (first_after next drafts) first

-- the first line is allowed where it would be after column 0
pub first_after-start : (drafts : List Draft) → first_after (0 ∷ []) drafts ≡ slice_get (line_faults drafts) 0
first_after-start drafts = sym (slice_get-faults_of_lines drafts (0 ∷ []) (0 ∷ []) (stands_for_itself (0 ∷ [])))

-- after the last line there is no fault
pub first_after-end : (columns : List ℕ) (drafts : List Draft) (count : ℕ) → length drafts ≤ count → first_after columns (drop count drafts) ≡ None
first_after-end columns drafts count done = ap (first_after columns) (drop_all count drafts done)

-- the first fault of a line that has one is the first of all
found_here : (allowed long : Bool) (number : ℕ) (first : Option TextFault) (found : TextFault)
    → Some found ≡ slice_get ((if allowed then [] else fault.BadIndent number ∷ []) ++ (if long then fault.LineTooLong number ∷ [] else [])) 0
    → (if allowed then (if long then Some (fault.LineTooLong number) else first) else Some (fault.BadIndent number)) ≡ Some found
found_here true true number first found is = sym is
found_here true false number first found is = absurd (cc)
found_here false long number first found is = sym is

-- after a line without a fault the first fault is that of the lines after it
found_later : (allowed long : Bool) (number : ℕ) (first : Option TextFault)
    → None ≡ slice_get ((if allowed then [] else fault.BadIndent number ∷ []) ++ (if long then fault.LineTooLong number ∷ [] else [])) 0
    → (if allowed then (if long then Some (fault.LineTooLong number) else first) else Some (fault.BadIndent number)) ≡ first
found_later true true number first is = absurd (cc)
found_later true false number first is = refl
found_later false long number first is = absurd (cc)

-- the faults of the next line
module _ (columns : List ℕ) (drafts : List Draft) (count : ℕ) (draft : Draft) (within : count < length drafts) (read : draft ≡ get_or drafts count draft) where
  next_is : first_after columns (drop count drafts) ≡ first_after columns (draft ∷ drop (suc count) drafts)
  next_is = ap (first_after columns) (drop-cons drafts count draft within ∙ ap (λ (first : Draft). first ∷ drop (suc count) drafts) (sym read))

  pub first_after-found : (found : TextFault) → Some found ≡ slice_get (faults_of_line columns draft) 0 → first_after columns (drop count drafts) ≡ Some found
  first_after-found found is =
      next_is
      ∙ found_here (is_allowed draft.indentation columns) (nat_lt 4096 (length_of draft.tokens)) draft.number (first_after (after_line draft.indentation columns) (drop (suc count) drafts)) found is

  pub first_after-later : None ≡ slice_get (faults_of_line columns draft) 0
      → first_after columns (drop count drafts) ≡ first_after (after_line draft.indentation columns) (drop (suc count) drafts)
  first_after-later none =
      next_is
      ∙ found_later (is_allowed draft.indentation columns) (nat_lt 4096 (length_of draft.tokens)) draft.number (first_after (after_line draft.indentation columns) (drop (suc count) drafts)) none

-- ---- lines without faults

-- no tab indents the line, and it is not too long
pub record IsFaultless (draft : Draft) : Type 0 where
  pub indentation : draft.indentation ≡ indentation.Blanks (column_of draft.indentation)
  pub short : length_of draft.tokens ≤ 4096

-- the line is faultless and is allowed at its column, and no line after it has a fault
pub record AreFaultless (columns : List ℕ) (draft : Draft) (drafts : List Draft) : Type 0 where
  pub itself : IsFaultless draft
  pub allowed : is_column (column_of draft.indentation) columns ≡ true
  pub later : first_after (after_column (column_of draft.indentation) columns) drafts ≡ None

-- no tab indents a line that is allowed there
blanks_allowed : (indent : Indentation) (columns : List ℕ) → is_allowed indent columns ≡ true → indent ≡ indentation.Blanks (column_of indent)
blanks_allowed (indentation.Blanks column) columns allowed = refl
blanks_allowed indentation.Tabbed columns allowed = absurd (cc)

-- there is no fault of a line, nor of those after it
none_first : (allowed long : Bool) (number : ℕ) (first : Option TextFault)
    → (if allowed then (if long then Some (fault.LineTooLong number) else first) else Some (fault.BadIndent number)) ≡ None
    → (allowed ≡ true) × (long ≡ false) × (first ≡ None)
none_first true true number first none = absurd (cc)
none_first true false number first none = (refl, refl, none)
none_first false long number first none = absurd (cc)

-- when no line has a fault, the next one has none, nor have those after it
pub first_after-none : (columns : List ℕ) (draft : Draft) (drafts : List Draft) → first_after columns (draft ∷ drafts) ≡ None
    → AreFaultless columns draft drafts
first_after-none columns draft drafts none =
    let long = nat_lt 4096 (length_of draft.tokens) in
    let rest = first_after (after_line draft.indentation columns) drafts in
    let parts = none_first (is_allowed draft.indentation columns) long draft.number rest none in
    let blanks = blanks_allowed draft.indentation columns parts.0 in
    let within : nat_lt 4096 (length_of draft.tokens) ≡ false = parts.1 in
    record {
      itself = record { indentation = blanks; short = grind (arith, nat_tests) };
      allowed = ap (λ (indent : Indentation). is_allowed indent columns) (sym blanks) ∙ parts.0;
      later = ap (λ (indent : Indentation). first_after (after_line indent columns) drafts) (sym blanks) ∙ parts.2;
    }

-- when no line has a fault, each is faultless
pub all_faultless : (columns : List ℕ) (drafts : List Draft) → first_after columns drafts ≡ None → All IsFaultless drafts
all_faultless columns [] none = All-nil IsFaultless
all_faultless columns (draft ∷ drafts) none =
    let are = first_after-none columns draft drafts none in
    All-cons IsFaultless draft drafts are.itself (all_faultless (after_column (column_of draft.indentation) columns) drafts are.later)

-- no first fault is found where there are no line faults
pub first_after-faultless : (drafts : List Draft) → line_faults drafts ≡ [] → first_after (0 ∷ []) drafts ≡ None
first_after-faultless drafts none = first_after-start drafts ∙ ap (λ (faults : List TextFault). slice_get faults 0) none
