-- What the program prints for its words, the files and the input, and how it ends.
use Rattle.std.specs.Prelude.{◌≡◌, ℕ, ◌⊎◌, List, [], ◌∷◌, ◌++◌, map, Option, None, Some, codes, decimal}
use Rattle.pm_bits.specs.Word.{Word}
use Rattle.pm_io.specs.Causes.{Rose}
use Rattle.pm_io.specs.Known.{Grows, GrowsByFront}
use Rattle.pm_io.specs.Lines.{lines_of}
use Rattle.pm_io.specs.Stores.{Call, Files, MayHold, told_among}
use Rattle.pm_io.specs.declared.store.StoreCall.TheVariants as StoreCall
use Rattle.pm_io.specs.declared.lines.TheConstants.{LF}
use Rattle.pm_job.specs.declared.component.Component.{Component}
use Rattle.pm_job.specs.declared.status.Status.{Status}
use Rattle.pm_job.specs.declared.status.Status.TheVariants as status
use Rattle.pm_job.specs.Form.{component_of}
use Rattle.pm_job.specs.Input.{Vectors, vectors_of, input_widths}
use Rattle.pm_job.specs.Precedence.{HasLoop}
use Rattle.pm_job.specs.Trace.{IsTrace, initial_values, trace_text}
use Rattle.pm_job.specs.CommandLine.{Target}

-- ---- what is printed, and what is refused

-- the output, and the line that is refused after it, if there is one
pub record Outcome : Type 0 where
  pub output : List ℕ
  pub refused : Option ℕ

-- nothing is printed, and this line is refused
abbrev pub refused_at : ℕ → Outcome
refused_at line = record { output = []; refused = Some line }

-- a row of values in which `reset` has this value
abbrev pub with_reset : ℕ → List Word → List Word
with_reset reset inputs = record { width = 1; value = reset } ∷ inputs

-- a zero of each width
abbrev pub zeros_of : List ℕ → List Word
zeros_of = map (λ width. record { width = width; value = 0 })

-- a row with `reset` at 1 and the other inputs at 0
abbrev pub reset_row : Component → List Word
reset_row component = with_reset 1 (zeros_of (input_widths component))

-- the rows of a run: two rows of reset, and then the rows of the input
abbrev pub rows_of : Component → Vectors → List (List Word)
rows_of component vectors = reset_row component ∷ reset_row component ∷ map (with_reset 0) vectors.rows

-- the trace of the vectors is printed, up to a refused line
abbrev pub Simulates : Component → Option Vectors → Outcome → Type 0
Simulates component None outcome = outcome ≡ refused_at 1
Simulates component (Some vectors) outcome = (cycles : List (List Word))
    × IsTrace component (initial_values component.signals) (rows_of component vectors) cycles
    × (outcome ≡ record { output = trace_text component cycles; refused = vectors.refused })

-- a component whose blocks have a loop is refused; any other is simulated with the vectors of the input
abbrev pub SimulatesWith : Component → List ℕ → Outcome → Type 0
SimulatesWith component input outcome =
    (HasLoop component.blocks × (outcome ≡ refused_at 1))
    ⊎ ((¬ HasLoop component.blocks) × Simulates component (vectors_of component (lines_of input)) outcome)

-- the component in the file is simulated; a file without one is refused
abbrev pub SimulatesIn : Option Component → List ℕ → Outcome → Type 0
SimulatesIn None input outcome = outcome ≡ refused_at 1
SimulatesIn (Some component) input outcome = SimulatesWith component input outcome

-- ---- how the program ends

-- a status, the output, and the message
pub record Ending : Type 0 where
  pub status : Status
  pub output : List ℕ
  pub message : List ℕ

-- the message for words that mean no job
abbrev pub usage_line : List ℕ
usage_line = codes "pymtl: usage: pymtl check|order|sim|translate FILE TOP [name=value].. [options] | pymtl gen N" ++ LF ∷ []

-- the message of a refusal
abbrev pub refusal_line : ℕ → List ℕ
refusal_line line = codes "pymtl: 99 NotBuilt line " ++ decimal line ++ LF ∷ []

-- the message of a fault
abbrev pub fault_line : Status → List ℕ
fault_line status.Done = []
fault_line status.Refused = []
fault_line status.Usage = []
fault_line status.ReadFault = codes "pymtl: read fault" ++ LF ∷ []
fault_line status.WriteFault = codes "pymtl: write fault" ++ LF ∷ []
fault_line status.NoMemory = codes "pymtl: out of memory" ++ LF ∷ []

-- the message belongs to the status
abbrev pub IsMessageOf : Status → List ℕ → Type 0
IsMessageOf status.Done message = message ≡ []
IsMessageOf status.Refused message = (line : ℕ) × (message ≡ refusal_line line)
IsMessageOf status.Usage message = message ≡ usage_line
IsMessageOf status.ReadFault message = message ≡ fault_line status.ReadFault
IsMessageOf status.WriteFault message = message ≡ fault_line status.WriteFault
IsMessageOf status.NoMemory message = message ≡ fault_line status.NoMemory

-- the end for words that mean no job
abbrev pub usage_ending : Ending
usage_ending = record { status = status.Usage; output = []; message = usage_line }

-- the end of a whole run: all of the output is printed, and the message names the refused line
abbrev pub whole_ending : List ℕ → Option ℕ → Ending
whole_ending output None = record { status = status.Done; output = output; message = [] }
whole_ending output (Some line) = record { status = status.Refused; output = output; message = refusal_line line }

-- a run is cut short by a fault, or when memory runs out
abbrev pub IsCut : Status → Type 0
IsCut status.Done = ⊥
IsCut status.Refused = ⊥
IsCut status.Usage = ⊥
IsCut status.ReadFault = Unit {0}
IsCut status.WriteFault = Unit {0}
IsCut status.NoMemory = Unit {0}

-- a run was cut short: a prefix of its output is printed, and the message of the status
pub record IsCutShort (outcome : Outcome) (ending : Ending) : Type 0 where
  pub cut : IsCut ending.status
  pub prefix : (rest : List ℕ) × (outcome.output ≡ ending.output ++ rest)
  pub line : ending.message ≡ fault_line ending.status

-- a simulation of the file and the input is allowed to end like this: whole, or cut short
abbrev pub MayEnd : Target → Option Files → List ℕ → Ending → Type 0
MayEnd target files input ending =
    (file : List ℕ) × MayHold (told_among files target.file) file
    × ((outcome : Outcome) × SimulatesIn (component_of target.class file) input outcome
    × ((ending ≡ whole_ending outcome.output outcome.refused) ⊎ IsCutShort outcome ending))

-- ---- what the caller sees

-- a message was written, or a prefix of it and a write failed
abbrev pub Says : Option (List ℕ) → Option (List ℕ) → ℕ → ℕ → List ℕ → Type 0
Says errors errors' faults faults' message = Grows errors errors' message ⊎ (Rose faults faults' × GrowsByFront errors errors' message)

-- the program ended like this: it returned the status, and printed the output and the message
pub record Shows (result : Status) (output output' errors errors' : Option (List ℕ)) (faults faults' : ℕ) (ending : Ending) : Type 0 where
  pub status : result ≡ ending.status
  pub printed : Grows output output' ending.output
  pub said : Says errors errors' faults faults' ending.message

-- if the input tells its bytes, the program ended in a way that the words, the files and the input allow
abbrev pub Answers : Option Target → Option Files → Option (List ℕ) → (Ending → Type 0) → Type 0
Answers None files input Shown = Shown usage_ending
Answers (Some target) files None Shown = Unit {0}
Answers (Some target) files (Some input) Shown = (ending : Ending) × MayEnd target files input ending × Shown ending

-- a read of the input failed, or the load of the design file
abbrev pub HasReadCause : ℕ → ℕ → ℕ → ℕ → Option Call → List ℕ → Type 0
HasReadCause input input' store store' last file = Rose input input' ⊎ (Rose store store' × (last ≡ Some (file, StoreCall.Load)))
