-- What a text is: its logical lines, or its first fault.
use Rattle.std.specs.Prelude.{◌≡◌, ◌<◌, ◌≤◌, ◌^◌, ℕ, List, [], ◌++◌, map, length, Option, None, Result, Ok, Err}
use Rattle.pm_syn.specs.Lexemes.{Lexeme}
use Rattle.pm_syn.specs.Reading.{Reads, Stops}
use Rattle.pm_syn.specs.LogicalLines.{drafts_of, line_from}
use Rattle.pm_syn.specs.Faults.{IsFirst, line_faults, token_fault}
use Rattle.pm_syn.specs.declared.fault.TextFault.{TextFault}
use Rattle.pm_syn.specs.declared.fault.TextFault.TheVariants as fault
use Rattle.pm_syn.specs.declared.token.Line.{Line}

-- the text can be read to its end, no line has a fault, and these are its logical lines
pub record HasLines (text : List ℕ) (lines : List Line) : Type 0 where
  pub fits : length text ≤ 2 ^ 20
  pub lexemes : List Lexeme
  pub read : Reads text lexemes []
  pub closed : Stops lexemes [] None
  pub faultless : line_faults (drafts_of lexemes) ≡ []
  pub made : lines ≡ map line_from (drafts_of lexemes)

-- the text is read as far as it can be, and this is the first of its faults
pub record HasFault (text : List ℕ) (first : TextFault) : Type 0 where
  pub fits : length text ≤ 2 ^ 20
  pub lexemes : List Lexeme
  pub rest : List ℕ
  pub bad_token : Option ℕ
  pub read : Reads text lexemes rest
  pub stopped : Stops lexemes rest bad_token
  pub named : IsFirst first (token_fault bad_token ++ line_faults (drafts_of lexemes))

-- the answer for a text
abbrev pub IsAnswer : List ℕ → Result (List Line) TextFault → Type 0
IsAnswer text (Ok lines) = HasLines text lines
IsAnswer text (Err fault.FileTooLong) = 2 ^ 20 < length text
IsAnswer text (Err (fault.BadToken line)) = HasFault text (fault.BadToken line)
IsAnswer text (Err (fault.BadIndent line)) = HasFault text (fault.BadIndent line)
IsAnswer text (Err (fault.LineTooLong line)) = HasFault text (fault.LineTooLong line)
IsAnswer text (Err fault.NoMemory) = ⊥
