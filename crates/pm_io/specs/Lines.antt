-- The lines of a text. An LF ends a line; the last line may lack it.
use Rattle.std.specs.Prelude.{◌≡◌, ◌≢◌, ◌==◌, ◌++◌, ◌⊎◌, ℕ, Bool, true, false, List, [], ◌∷◌, All, if◌then◌else◌}
use Rattle.std.specs.List.{flat_map}
use Rattle.pm_io.specs.declared.lines.TheConstants.{LF, CR}

-- a line of a text: the bytes before its line end, and whether an LF ends it
pub record Line : Type 0 where
  pub bytes : List ℕ
  pub ended : Bool

-- a byte other than LF is the first byte of the first line of what follows it
abbrev pub put_before : ℕ → List Line → List Line
put_before byte [] = record { bytes = byte ∷ []; ended = false } ∷ []
put_before byte (line ∷ lines) = record { bytes = byte ∷ line.bytes; ended = line.ended } ∷ lines

-- the lines of a text, in order
abbrev pub lines_of : List ℕ → List Line
lines_of [] = []
lines_of (byte ∷ text) =
    if byte == LF then record { bytes = []; ended = true } ∷ lines_of text else put_before byte (lines_of text)

-- the bytes without a CR at their end
abbrev pub without_cr : List ℕ → List ℕ
without_cr [] = []
without_cr (byte ∷ []) = if byte == CR then [] else byte ∷ []
without_cr (byte ∷ next ∷ bytes) = byte ∷ without_cr (next ∷ bytes)

-- the content of a line: its bytes, without a CR directly before its LF
abbrev pub content : Line → List ℕ
content line = if line.ended then without_cr line.bytes else line.bytes

-- ---- the law: a text is cut in one way only

-- a line with its line end, as the text has it
abbrev pub spelled : Line → List ℕ
spelled line = if line.ended then line.bytes ++ LF ∷ [] else line.bytes

-- none of the bytes is a line end
abbrev pub HasNoLineEnd : List ℕ → Type 0
HasNoLineEnd bytes = All (λ byte. byte ≢ LF) bytes

-- each line but the last has a line end, and the last has one or isn't empty
abbrev pub AreEnded : List Line → Type 0
AreEnded [] = Unit {0}
AreEnded (line ∷ []) = (line.ended ≡ true) ⊎ (line.bytes ≢ [])
AreEnded (line ∷ next ∷ lines) = (line.ended ≡ true) × AreEnded (next ∷ lines)

-- the text is these lines, one after the other, and no line has a line end inside
pub record IsCutInto (text : List ℕ) (lines : List Line) : Type 0 where
  pub joined : flat_map spelled lines ≡ text
  pub inside : All (λ line. HasNoLineEnd line.bytes) lines
  pub ended : AreEnded lines

-- a text is cut into its lines, and into no other list of lines
abbrev pub LinesCutTheText : Type 0
LinesCutTheText =
    (text : List ℕ) → IsCutInto text (lines_of text) × ((lines : List Line) → IsCutInto text lines → lines ≡ lines_of text)

-- the bytes of line ends are the line feed and the carriage return of ASCII
abbrev pub LineEndsAreAscii : Type 0
LineEndsAreAscii = (LF ≡ 10) × (CR ≡ 13)
