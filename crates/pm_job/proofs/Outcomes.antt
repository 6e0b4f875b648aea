-- Every file and input has an outcome, and how it ends.
use Rattle.std.proofs.Common.{◌≡◌, ◌<◌, ℕ, false, List, [], length, refl, ap, sym, subst, inl, inr, ◌⊎◌, append-nil, arith}
use Rattle.std.specs.Prelude.{Option, None, Some, nat_le}
use Rattle.std.proofs.lemmas.Bool.Decides.{nat_tests}
use Rattle.pm_io.specs.Causes.{Rose}
use Rattle.pm_io.specs.Known.{Grows, GrowsByFront}
use Rattle.pm_io.specs.Lines.{lines_of}
use Rattle.pm_io.specs.Stores.{Files, Told, nothing, content, missing_or_empty, MayHold, MayPass, told_among}
use Rattle.pm_io.specs.Streams.{Puts}
use Rattle.pm_io.specs.declared.sink.Put.{Put}
use Rattle.pm_io.specs.declared.sink.Put.TheVariants as put
use Rattle.pm_job.specs.declared.component.Component.{Component}
use Rattle.pm_job.specs.declared.form.TheConstants.{MAX_TEXT}
use Rattle.pm_job.specs.declared.finish.Finish.{Finish}
use Rattle.pm_job.specs.declared.finish.Finish.TheVariants as finish
use Rattle.pm_job.specs.declared.status.Status.TheVariants as status
use Rattle.pm_job.specs.Answers.{Outcome, refused_at, SimulatesIn, SimulatesWith, Ending, Says, Shows, IsCutShort, IsMessageOf, Answers, whole_ending, fault_line, refusal_line}
use Rattle.pm_job.specs.CommandLine.{Target}
use Rattle.pm_job.specs.Endings.{EndsAs, EndsTarget, status_of, message_of}
use Rattle.pm_job.specs.Form.{component_of, form_lines, after_head}
use Rattle.pm_job.specs.Precedence.{HasLoop, IsArrangement}
use Rattle.pm_job.specs.Progress.{IsRead, Ends, EndsRun, arranged, simulated}
use Rattle.pm_job.proofs.Components.{is_read}
use Rattle.pm_job.proofs.Existence.{arrangement_or_loop}
use Rattle.pm_job.proofs.Ranks.{ordered_has_no_loop}
use Rattle.pm_job.proofs.Rearranged.{arranged_traces}

-- a simulation with the blocks in an arrangement ended as one of the component
pub ends_arranged : (component : Component) (indices : List ℕ) (told old new : Option (List ℕ)) (answer : Finish) → IsRead component → IsArrangement component.blocks indices
    → EndsRun (arranged component indices) told old new answer → EndsAs (Some component) told old new answer
ends_arranged component indices None old new answer read order ends = tt
ends_arranged component indices (Some input) old new answer read order ends = (
  simulated (arranged component indices) (lines_of input),
  inr (ordered_has_no_loop component.blocks indices order, arranged_traces component indices (lines_of input) read order),
  ends,
)

-- what stays as it is has grown by no bytes
grows_by_none : (held : Option (List ℕ)) → Grows held held []
grows_by_none None = tt
grows_by_none (Some bytes) = ap Some (sym (append-nil bytes))

-- a loop is refused
pub ends_looped : (component : Component) (told held : Option (List ℕ)) → HasLoop component.blocks → EndsAs (Some component) told held held (finish.Refused 1)
ends_looped component None held loop = tt
ends_looped component (Some input) held loop = (refused_at 1, inl (loop, refl), (refl, grows_by_none held))

-- a file without a component is refused
pub ends_refused : (found : Option Component) (told held : Option (List ℕ)) → found ≡ None → EndsAs found told held held (finish.Refused 1)
ends_refused found None held is = tt
ends_refused found (Some input) held is =
    (refused_at 1, subst (λ (f : Option Component). SimulatesIn f input (refused_at 1)) (sym is) refl, (refl, grows_by_none held))

-- each component that was read has an outcome
component_outcome : (component : Component) (input : List ℕ) → IsRead component → (outcome : Outcome) × SimulatesWith component input outcome
component_outcome component input read = elim (arrangement_or_loop component.blocks) [
  | inl loop ↦ (refused_at 1, inl (loop, refl))
  | inr order ↦
      (simulated (arranged component order.0) (lines_of input), inr (ordered_has_no_loop component.blocks order.0 order.1, arranged_traces component order.0 (lines_of input) read order.1))
]

-- nothing was printed yet, whatever the file holds
some_outcome : (class text input : List ℕ) (found : Option Component) → component_of class text ≡ found → (outcome : Outcome) × SimulatesIn (component_of class text) input outcome
some_outcome class text input None is = (refused_at 1, subst (λ (f : Option Component). SimulatesIn f input (refused_at 1)) (sym is) refl)
some_outcome class text input (Some component) is =
    let any = component_outcome component input (is_read class text component is) in
    (any.0, subst (λ (f : Option Component). SimulatesIn f input any.0) (sym is) any.1)

grows_by_no_prefix : (held : Option (List ℕ)) (whole : List ℕ) → GrowsByFront held held whole
grows_by_no_prefix None whole = ([], whole, refl, tt)
grows_by_no_prefix (Some bytes) whole = ([], whole, refl, ap Some (sym (append-nil bytes)))

pub ends_at_once : (class text : List ℕ) (told held : Option (List ℕ)) (answer : Finish) → (answer ≡ finish.ReadFault) ⊎ (answer ≡ finish.NoMemory)
    → EndsAs (component_of class text) told held held answer
ends_at_once class text None held answer cut = tt
ends_at_once class text (Some input) held answer cut =
    let any = some_outcome class text input (component_of class text) refl in (
      any.0,
      any.1,
      elim cut [
        | inl is ↦ subst (λ (a : Finish). Ends any.0 held held a) (sym is) (grows_by_no_prefix held any.0.output)
        | inr is ↦ subst (λ (a : Finish). Ends any.0 held held a) (sym is) (grows_by_no_prefix held any.0.output)
      ],
    )

pub ends_read_at_once : (component : Component) (told held : Option (List ℕ)) → IsRead component → EndsAs (Some component) told held held finish.NoMemory
ends_read_at_once component None held read = tt
ends_read_at_once component (Some input) held read =
    let any = component_outcome component input read in (any.0, any.1, grows_by_no_prefix held any.0.output)

-- some file may be there, whatever is told
some_file : (told : Told) → (file : List ℕ) × MayHold told file
some_file nothing = ([], tt)
some_file (content bytes) = (bytes, refl)
some_file missing_or_empty = ([], refl)

pub target_at_once : (target : Target) (files : Option Files) (told held : Option (List ℕ)) (answer : Finish) → (answer ≡ finish.ReadFault) ⊎ (answer ≡ finish.NoMemory)
    → EndsTarget target files told held held answer
target_at_once target files None held answer cut = tt
target_at_once target files (Some input) held answer cut =
    let any = some_file (told_among files target.file) in
    (any.0, any.1, ends_at_once target.class any.0 (Some input) held answer cut)

-- a text that is too long spells no component, and neither does one without a line
too_long : (class text : List ℕ) → MAX_TEXT < length text → component_of class text ≡ None
unfolding component_of
too_long class text long =
    let is : nat_le (length text) MAX_TEXT ≡ false = grind (arith, nat_tests) in
    rw is

no_lines : (class : List ℕ) → component_of class [] ≡ None
unfolding component_of form_lines after_head
no_lines class = refl

-- a file over the limit may be there only where it spells no component
pub target_too_large : (target : Target) (files : Option Files) (told held : Option (List ℕ)) → MayPass (told_among files target.file) MAX_TEXT
    → EndsTarget target files told held held (finish.Refused 1)
target_too_large target files None held passes = tt
target_too_large target files (Some input) held passes = at (told_among files target.file) refl passes where
  at : (known : Told) → told_among files target.file ≡ known → MayPass known MAX_TEXT → EndsTarget target files (Some input) held held (finish.Refused 1)
  at nothing is passes = ([], subst (λ (t : Told). MayHold t []) (sym is) tt, ends_refused (component_of target.class []) (Some input) held (no_lines target.class))
  at (content bytes) is passes = (bytes, subst (λ (t : Told). MayHold t bytes) (sym is) refl, ends_refused (component_of target.class bytes) (Some input) held (too_long target.class bytes passes))
  at missing_or_empty is passes = absurd passes

-- ---- the program's answer

-- a message was put, or a prefix of it where the writing failed
pub says : (errors errors' : Option (List ℕ)) (faults faults' : ℕ) (message : List ℕ) (result : Put) → (result ≡ put.Failed → Rose faults faults') → Puts errors errors' message result
    → Says errors errors' faults faults' message
says errors errors' faults faults' message put.All cause puts = inl puts
says errors errors' faults faults' message put.Failed cause puts = inr (cause refl, puts)

-- an ending of an outcome that is seen
abbrev Seen : Outcome → Finish → Option (List ℕ) → Option (List ℕ) → Option (List ℕ) → Option (List ℕ) → ℕ → ℕ → Type 0
Seen outcome answer old new errors errors' faults faults' =
    (ending : Ending) × ((ending ≡ whole_ending outcome.output outcome.refused) ⊎ IsCutShort outcome ending) × Shows (status_of answer) old new errors errors' faults faults' ending

seen : (outcome : Outcome) (answer : Finish) (old new errors errors' : Option (List ℕ)) (faults faults' : ℕ) → Ends outcome old new answer → Says errors errors' faults faults' (message_of answer)
    → Seen outcome answer old new errors errors' faults faults'
seen outcome finish.Done old new errors errors' faults faults' ends said =
    (record { status = status.Done; output = outcome.output; message = [] }, inl (ap (whole_ending outcome.output) (sym ends.0)), record { status = refl; printed = ends.1; said = said })
seen outcome (finish.Refused line) old new errors errors' faults faults' ends said =
    (record { status = status.Refused; output = outcome.output; message = refusal_line line }, inl (ap (whole_ending outcome.output) (sym ends.0)), record { status = refl; printed = ends.1; said = said })
seen outcome finish.ReadFault old new errors errors' faults faults' ends said =
    (record { status = status.ReadFault; output = ends.0; message = fault_line status.ReadFault }, inr (record { cut = tt; prefix = (ends.1, ends.2); line = refl }), record { status = refl; printed = ends.3; said = said })
seen outcome finish.WriteFault old new errors errors' faults faults' ends said =
    (record { status = status.WriteFault; output = ends.0; message = fault_line status.WriteFault }, inr (record { cut = tt; prefix = (ends.1, ends.2); line = refl }), record { status = refl; printed = ends.3; said = said })
seen outcome finish.NoMemory old new errors errors' faults faults' ends said =
    (record { status = status.NoMemory; output = ends.0; message = fault_line status.NoMemory }, inr (record { cut = tt; prefix = (ends.1, ends.2); line = refl }), record { status = refl; printed = ends.3; said = said })

-- what a simulation of a target did answers the words
pub answers_target : (target : Target) (files : Option Files) (told old new errors errors' : Option (List ℕ)) (faults faults' : ℕ) (answer : Finish)
    → EndsTarget target files told old new answer → Says errors errors' faults faults' (message_of answer)
    → Answers (Some target) files told (Shows (status_of answer) old new errors errors' faults faults')
answers_target target files None old new errors errors' faults faults' answer ends said = tt
answers_target target files (Some input) old new errors errors' faults faults' answer ends said =
    let outcome = ends.2 in
    let shown = seen outcome.0 answer old new errors errors' faults faults' outcome.2 said in
    (shown.0, (ends.0, ends.1, (outcome.0, outcome.1, shown.1)), shown.2)

-- the message that a simulation leaves is one of its status
pub is_message : (answer : Finish) → IsMessageOf (status_of answer) (message_of answer)
is_message finish.Done = refl
is_message (finish.Refused line) = (line, refl)
is_message finish.ReadFault = refl
is_message finish.WriteFault = refl
is_message finish.NoMemory = refl
