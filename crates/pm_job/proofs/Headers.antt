-- How a header line lists the inputs of a component.
use Rattle.std.proofs.Common.{◌≡◌, ◌≢◌, ◌+◌, ◌<◌, ◌++◌, ℕ, Bool, true, false, List, [], ◌∷◌, length, take, drop, get_or, map, refl, ap, sym, ◌∙◌, inl, inr}
use Rattle.std.specs.Prelude.{None, Some, filter, if◌then◌else◌}
use Rattle.std.specs.List.{join_with_byte}
use Rattle.std.proofs.lemmas.Bool.{cases_Bool}
use Rattle.std.proofs.lemmas.Slice.Eq.{bytes_eq-Decides}
use Rattle.std.proofs.lemmas.List.{append-nil, append_cancel_left, take-append-drop, take_at, drop_at, drop_more}
use Rattle.pm_design.specs.declared.signal.Signal.{Signal}
use Rattle.pm_job.specs.Words.{blank, without_prefix}
use Rattle.pm_job.specs.declared.component.Component.{Component}
use Rattle.pm_job.specs.Trace.{is_input}
use Rattle.pm_job.specs.Vectors.{header_of}

without_prefix_cases : (same : Bool) (start prefix text rest : List ℕ) → (same ≡ true → start ≡ prefix) → start ++ rest ≡ text
    → (found : List ℕ) → (if same then Some rest else None) ≡ Some found → text ≡ prefix ++ found
without_prefix_cases true start prefix text rest says whole found is =
    let found_is : rest ≡ found = cc in
    sym whole ∙ ap (λ t. t ++ rest) (says refl) ∙ ap (λ t. prefix ++ t) found_is
without_prefix_cases false start prefix text rest says whole found is = cc

-- a text with a prefix is the prefix and what stands after it
pub without_prefix_some : (prefix text found : List ℕ) → without_prefix prefix text ≡ Some found → text ≡ prefix ++ found
without_prefix_some prefix text found is =
    without_prefix_cases _ (take (length prefix) text) prefix text _ (bytes_eq-Decides (take (length prefix) text) prefix).0 (take-append-drop (length prefix) text) found is

-- a text that begins with a prefix has it
pub without_prefix_append : (prefix rest : List ℕ) → without_prefix prefix (prefix ++ rest) ≡ Some rest
without_prefix_append prefix rest =
    rw (take_at prefix rest (length prefix) refl, drop_at prefix rest (length prefix) refl, (bytes_eq-Decides prefix prefix).1 refl)

-- the inputs of these signals, each after a blank but for the first one, which has a separator of its own
abbrev pub listed : List ℕ → List Signal → List ℕ
listed separator [] = []
listed separator (signal ∷ signals) =
    if is_input signal.role then separator ++ (signal.name ++ listed (blank ∷ []) signals) else listed separator signals

abbrev names_of : List Signal → List (List ℕ)
names_of signals = map (λ signal. signal.name) (filter (λ signal. is_input signal.role) signals)

listed_after : (name : List ℕ) (signals : List Signal) → name ++ listed (blank ∷ []) signals ≡ join_with_byte blank (name ∷ names_of signals)
listed_after name [] = append-nil name
listed_after name (signal ∷ signals) =
    elim (cases_Bool (is_input signal.role)) [
      | inl input ↦ rw input (ap (λ text. name ++ (blank ∷ text)) (listed_after signal.name signals))
      | inr other ↦ rw other (listed_after name signals)
    ]

-- the inputs with no separator before the first one are the header's text
pub listed_all : (signals : List Signal) → listed [] signals ≡ join_with_byte blank (map (λ signal. signal.name) (filter (λ signal. is_input signal.role) signals))
listed_all [] = refl
listed_all (signal ∷ signals) =
    elim (cases_Bool (is_input signal.role)) [
      | inl input ↦ rw input (listed_after signal.name signals)
      | inr other ↦ rw other (listed_all signals)
    ]

-- an input at an index
pub listed_input : (separator : List ℕ) (signals : List Signal) (index : ℕ) (signal : Signal) → index < length signals → signal ≡ get_or signals index signal
    → is_input signal.role ≡ true
    → listed separator (drop index signals) ≡ separator ++ (signal.name ++ listed (blank ∷ []) (drop (index + 1) signals))
listed_input separator signals index signal inside is input =
    rw (drop_more signals index signal inside, ← is, input) refl

-- a signal at an index that is no input
pub listed_other : (separator : List ℕ) (signals : List Signal) (index : ℕ) (signal : Signal) → index < length signals → signal ≡ get_or signals index signal
    → is_input signal.role ≡ false → listed separator (drop index signals) ≡ listed separator (drop (index + 1) signals)
listed_other separator signals index signal inside is other = rw (drop_more signals index signal inside, ← is, other) refl

-- a line is the header just where its rest is the text that is left of the header
pub record Follows (line header rest left : List ℕ) : Type 0 where
  pub there : line ≡ header → rest ≡ left
  pub back : rest ≡ left → line ≡ header

-- the same rest and the same text
pub follows_same : (line header rest next left after : List ℕ) → Follows line header rest left → next ≡ rest → after ≡ left → Follows line header next after
follows_same line header rest next left after follows one two =
    record { there = λ same. one ∙ follows.there same ∙ sym two; back = λ same. follows.back (sym one ∙ same ∙ two) }

-- at first the header is what its inputs are listed to
pub follows_start : (component : Component) (line separator : List ℕ) (signals : List Signal) → separator ≡ [] → signals ≡ component.signals
    → Follows line (header_of component) line (listed separator (drop 1 signals))
unfolding header_of
follows_start component line separator signals nothing same =
    let whole : listed separator (drop 1 signals) ≡ join_with_byte blank (names_of (drop 1 component.signals)) = rw (nothing, same) (listed_all (drop 1 component.signals)) in
    record { there = λ is. is ∙ sym whole; back = λ is. is ∙ whole }

-- a separator and a name were taken off both
pub follows_after : (line header rest separator name left at more : List ℕ) → Follows line header rest (separator ++ (name ++ left))
    → without_prefix separator rest ≡ Some at → without_prefix name at ≡ Some more → Follows line header more left
follows_after line header rest separator name left at more follows first second =
    let one : rest ≡ separator ++ at = without_prefix_some separator rest at first in
    let two : at ≡ name ++ more = without_prefix_some name at more second in
    let whole : rest ≡ separator ++ (name ++ more) = one ∙ ap (λ t. separator ++ t) two in
    record {
      there = λ same. append_cancel_left name more left (append_cancel_left separator (name ++ more) (name ++ left) (sym whole ∙ follows.there same));
      back = λ same. follows.back (whole ∙ ap (λ t. separator ++ (name ++ t)) same);
    }

-- a separator is missing
pub follows_no_separator : (line header rest separator left : List ℕ) → Follows line header rest (separator ++ left) → without_prefix separator rest ≡ None → line ≢ header
follows_no_separator line header rest separator left follows none same =
    let found : without_prefix separator rest ≡ Some left = ap (without_prefix separator) (follows.there same) ∙ without_prefix_append separator left in
    cc

-- a name is missing
pub follows_no_name : (line header rest separator name left at : List ℕ) → Follows line header rest (separator ++ (name ++ left))
    → without_prefix separator rest ≡ Some at → without_prefix name at ≡ None → line ≢ header
follows_no_name line header rest separator name left at follows first none same =
    let one : rest ≡ separator ++ at = without_prefix_some separator rest at first in
    let at_is : at ≡ name ++ left = append_cancel_left separator at (name ++ left) (sym one ∙ follows.there same) in
    let found : without_prefix name at ≡ Some left = ap (without_prefix name) at_is ∙ without_prefix_append name left in
    cc
