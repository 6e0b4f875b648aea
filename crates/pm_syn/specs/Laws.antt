-- The laws of reading.
use Rattle.std.specs.Prelude.{◌≡◌, ◌⊎◌, ◌<◌, ◌≤◌, ◌^◌, ℕ, List, [], ◌∷◌, length, Result, ◌++◌, map}
use Rattle.std.specs.List.{flat_map}
use Rattle.pm_syn.specs.Answers.{HasFault, HasLines, IsAnswer}
use Rattle.pm_syn.specs.BadTokens.{HasBadToken}
use Rattle.pm_syn.specs.CutLines.{AreCutFrom, AreSeparated}
use Rattle.pm_syn.specs.IndentedLines.{Allows, AreIndented, AreStacked, IsColumnAfter}
use Rattle.pm_syn.specs.Spaces.{AreSpacedIn}
use Rattle.pm_syn.specs.Faults.{length_of, line_named}
use Rattle.pm_syn.specs.declared.fault.TextFault.{TextFault}
use Rattle.pm_syn.specs.declared.fault.TextFault.TheVariants as fault
use Rattle.pm_syn.specs.declared.token.Line.{Line}

-- the lines are cut from the text and spaced in it, with no name directly after a number, whatever their columns and lengths
pub record AreLinesIn (text : List ℕ) (lines : List Line) : Type 0 where
  pub fits : length text ≤ 2 ^ 20
  pub cut : AreCutFrom text lines
  pub separated : AreSeparated (flat_map (λ line. line.tokens) lines)
  pub spaced : AreSpacedIn text lines

-- the same, and they are indented and short
pub record AreLinesOf (text : List ℕ) (lines : List Line) : Type 0 where
  pub lines_in : AreLinesIn text lines
  pub indented : AreIndented lines

-- a text has at most one answer: one list of lines, or one fault
abbrev pub TextsHaveOneAnswer : Type 0
TextsHaveOneAnswer = (text : List ℕ) (one other : Result (List Line) TextFault) → IsAnswer text one → IsAnswer text other → one ≡ other

-- a text has an answer
abbrev pub EveryTextHasAnAnswer : Type 0
EveryTextHasAnAnswer = (text : List ℕ) → (answer : Result (List Line) TextFault) × IsAnswer text answer

-- the logical lines of a text are cut from it
abbrev pub LinesAreCutFromTheText : Type 0
LinesAreCutFromTheText = (text : List ℕ) (lines : List Line) → HasLines text lines → AreCutFrom text lines

-- gaps and line ends are between the tokens of a text, and with the brackets they make its logical lines
abbrev pub GapsAndLineEndsStandBetweenTokens : Type 0
GapsAndLineEndsStandBetweenTokens = (text : List ℕ) (lines : List Line) → HasLines text lines → AreSpacedIn text lines

-- the columns of the logical lines of a text are those of a stack, and no line is too long
abbrev pub LinesAreIndented : Type 0
LinesAreIndented = (text : List ℕ) (lines : List Line) → HasLines text lines → AreIndented lines

-- the logical lines of a text are those that are cut from it, spaced in it and indented, with no name directly after a number
abbrev pub LinesAreExactlyThese : Type 0
LinesAreExactlyThese = (text : List ℕ) (lines : List Line) → (HasLines text lines → AreLinesOf text lines) × (AreLinesOf text lines → HasLines text lines)

-- after lines at columns of a stack, the stack allows a column if and only if the earlier lines do
abbrev pub ColumnsAreThoseOfAStack : Type 0
ColumnsAreThoseOfAStack = (columns : List ℕ) (column : ℕ) → AreStacked (0 ∷ []) columns → (IsColumnAfter columns column → Allows columns column) × (Allows columns column → IsColumnAfter columns column)

-- a text has at most one bad token
abbrev pub TextsHaveOneBadToken : Type 0
TextsHaveOneBadToken = (text : List ℕ) (line other : ℕ) → HasBadToken text line → HasBadToken text other → line ≡ other

-- a bad token is named only if the text has it; a text that has it has this fault, or one that names an earlier line
abbrev pub BadTokensAreNamed : Type 0
BadTokensAreNamed = (text : List ℕ) (line : ℕ) → (HasFault text (fault.BadToken line) → HasBadToken text line) × (length text ≤ 2 ^ 20 → HasBadToken text line → HasFault text (fault.BadToken line) ⊎ ((first : TextFault) × HasFault text first × (line_named first < line)))

-- of such lines, the first that is misplaced or too long is named: those before it are indented and short
abbrev pub FirstFaultyLinesAreNamed : Type 0
FirstFaultyLinesAreNamed = (text : List ℕ) (prefix back : List Line) (line : Line) → AreLinesIn text (prefix ++ line ∷ back) → AreIndented prefix
    → ((Allows (map (λ line. line.column) prefix) line.column → ⊥) → HasFault text (fault.BadIndent line.number))
    × (Allows (map (λ line. line.column) prefix) line.column → 4096 < length_of line.tokens → HasFault text (fault.LineTooLong line.number))
