-- The faults of a text, and which of them is named.
use Rattle.std.specs.Prelude.{◌≡◌, ◌⊎◌, ◌<◌, ◌≤◌, ◌+◌, ℕ, Bool, false, nat_lt, if◌then◌else◌, List, [], ◌∷◌, ◌++◌, All, length, Option, Some, None}
use Rattle.std.specs.List.{Contains}
use Rattle.pm_syn.specs.Indentation.{is_allowed, columns_with}
use Rattle.pm_syn.specs.declared.draft.Draft.{Draft}
use Rattle.pm_syn.specs.declared.fault.TextFault.{TextFault}
use Rattle.pm_syn.specs.declared.fault.TextFault.TheVariants as fault
use Rattle.pm_syn.specs.declared.token.Token.{Token}
use Rattle.pm_syn.specs.declared.token.TokenKind.{TokenKind}
use Rattle.pm_syn.specs.declared.token.TokenKind.TheVariants as kind

-- how many bytes of a token count for the length of its line: none of a string's
abbrev pub counted : TokenKind → ℕ → ℕ
counted kind.Str bytes = 0
counted kind.Name bytes = bytes
counted (kind.Int number) bytes = bytes
counted kind.Op bytes = bytes

-- the length of a logical line: the bytes of its tokens other than strings
abbrev pub length_of : List Token → ℕ
length_of [] = 0
length_of (token ∷ tokens) = counted token.kind (length token.text) + length_of tokens

-- the faults of a logical line after lines at these columns
abbrev pub faults_of_line : List ℕ → Draft → List TextFault
faults_of_line earlier draft =
    (if is_allowed draft.indentation earlier then [] else fault.BadIndent draft.number ∷ []) ++
    (if nat_lt 4096 (length_of draft.tokens) then fault.LineTooLong draft.number ∷ [] else [])

-- the faults of logical lines, in their order
abbrev pub faults_of_lines : List ℕ → List Draft → List TextFault
faults_of_lines earlier [] = []
faults_of_lines earlier (draft ∷ drafts) =
    faults_of_line earlier draft ++ faults_of_lines (columns_with draft.indentation earlier) drafts

-- the faults of all logical lines of a text; the first line is indented as if a line at column 0 were before it
abbrev pub line_faults : List Draft → List TextFault
line_faults drafts = faults_of_lines (0 ∷ []) drafts

-- the bad token's fault, if there is one
abbrev pub token_fault : Option ℕ → List TextFault
token_fault None = []
token_fault (Some line) = fault.BadToken line ∷ []

-- the line that a fault names
abbrev pub line_named : TextFault → ℕ
line_named (fault.BadToken line) = line
line_named (fault.BadIndent line) = line
line_named (fault.LineTooLong line) = line
line_named fault.FileTooLong = 0
line_named fault.NoMemory = 0

-- it names a line before this one
abbrev pub is_before : TextFault → ℕ → Bool
is_before (fault.BadToken named) line = nat_lt named line
is_before (fault.BadIndent named) line = nat_lt named line
is_before (fault.LineTooLong named) line = nat_lt named line
is_before fault.FileTooLong line = false
is_before fault.NoMemory line = false

-- which of two faults of one line is named: a bad token, else a bad indentation, else a line that is too long
abbrev pub rank_of : TextFault → ℕ
rank_of (fault.BadToken line) = 0
rank_of (fault.BadIndent line) = 1
rank_of (fault.LineTooLong line) = 2
rank_of fault.FileTooLong = 3
rank_of fault.NoMemory = 4

-- a fault comes before another, or is the same
abbrev pub ComesBy : TextFault → TextFault → Type 0
ComesBy first second = (line_named first < line_named second) ⊎ ((line_named first ≡ line_named second) × (rank_of first ≤ rank_of second))

-- the fault is one of these, and comes before each other one
pub record IsFirst (first : TextFault) (faults : List TextFault) : Type 0 where
  pub one : Contains faults first
  pub least : All (ComesBy first) faults
