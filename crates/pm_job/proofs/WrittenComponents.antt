-- The components that are read are those that the text is written for.
use Rattle.std.proofs.Common.{◌≡◌, ◌^◌, ◌++◌, ℕ, zero, suc, true, not, List, [], ◌∷◌, All, length, map, refl, ap, sym, subst, ◌∙◌}
use Rattle.std.specs.Prelude.{Some, codes, nat_le, slice_get}
use Rattle.std.specs.List.{list_all}
use Rattle.std.specs.Str.{bytes_eq}
use Rattle.std.proofs.lemmas.Bool.{and_parts, not-false, leb-true, le-leb}
use Rattle.std.proofs.lemmas.List.Folds.{list_all-map}
use Rattle.std.proofs.lemmas.List.Sums.{AllPass-from_list_all}
use Rattle.std.proofs.lemmas.Option.{option_and_then_some, get_or_from_slice_get, slice_get_within}
use Rattle.std.proofs.lemmas.Slice.Eq.{bytes_eq-Decides}
use Rattle.pm_design.specs.declared.signal.Signal.{Signal}
use Rattle.pm_job.specs.declared.component.Component.{Component}
use Rattle.pm_job.specs.declared.component.Assignment.{Assignment}
use Rattle.pm_job.specs.Words.{is_blank, without_prefix}
use Rattle.pm_job.specs.Sound.{is_typed, is_width, widths_of, assignment_fits}
use Rattle.pm_job.specs.Spelling.{◌and_then◌, is_name}
use Rattle.pm_job.specs.Form.{component_of, component_in, after_head, after_line, after_class_line, is_class_line, is_head_of, form_lines, is_sound, is_counted, signals_differ, names_differ, targets_differ, has_target, reset, declared, blocks_of, after_declared}
use Rattle.pm_job.specs.WrittenForm.{declaration_line, IsDeclared, AreBlocksLines, AreComponentLines}
use Rattle.pm_job.specs.Laws.{Writes}
use Rattle.pm_job.proofs.Headers.{without_prefix_some, without_prefix_append}
use Rattle.pm_job.proofs.Loops.{some_of}
use Rattle.pm_job.proofs.WrittenParts.{HasNoBlank, option_map_some, where_true, where_false, no_blanks, new_name_has_no_blank}
use Rattle.pm_job.proofs.WrittenSignals.{declared_lines, declared-lines}
use Rattle.pm_job.proofs.WrittenValues.{AreReadable}
use Rattle.pm_job.proofs.WrittenBlocks.{blocks_of_some, blocks_of-lines, blocks_declare_none}

-- ---- the head

after_line_some : (wanted : List ℕ) (lines rest : List (List ℕ)) → after_line wanted lines ≡ Some rest → lines ≡ wanted ∷ rest
after_line_some wanted [] rest is = absurd (cc)
after_line_some wanted (line ∷ lines) rest is =
    let found = where_true (bytes_eq line wanted) (Some lines) rest is in
    let same : line ≡ wanted = (bytes_eq-Decides line wanted).0 found.0 in
    let others : lines ≡ rest = cc in
    rw (same, others) refl

-- the line of a class is written for it
class_line_is : (class line : List ℕ) → is_class_line class line ≡ true
    → (is_name class ≡ true) × (line ≡ codes "class " ++ class ++ codes "( Component ):")
unfolding is_class_line
class_line_is class line is =
    let parts = and_parts (is_name class) (is_head_of class line) is in
    let end = some_of (λ text. bytes_eq text (codes "( Component ):")) (without_prefix (codes "class ") line and_then without_prefix class) parts.1 in (
      parts.0,
      option_and_then_some _ (without_prefix (codes "class ") line) end.0 end.1 (λ text one two.
          without_prefix_some (codes "class ") line text one ∙ ap (λ (t : List ℕ). codes "class " ++ t)
          (without_prefix_some class text end.0 two ∙ ap (λ (t : List ℕ). class ++ t) ((bytes_eq-Decides end.0 (codes "( Component ):")).0 end.2))),
    )

is_class_line-line : (class : List ℕ) → is_name class ≡ true → is_class_line class (codes "class " ++ class ++ codes "( Component ):") ≡ true
unfolding is_class_line
is_class_line-line class name = rw (name, without_prefix_append class (codes "( Component ):")) refl

after_class_line_some : (class : List ℕ) (lines rest : List (List ℕ)) → after_class_line class lines ≡ Some rest
    → (is_name class ≡ true) × (lines ≡ (codes "class " ++ class ++ codes "( Component ):") ∷ rest)
after_class_line_some class [] rest is = absurd (cc)
after_class_line_some class (line ∷ lines) rest is =
    let found = where_true (is_class_line class line) (Some lines) rest is in
    let head = class_line_is class line found.0 in
    let others : lines ≡ rest = cc in
    (head.0, rw (head.1, others) refl)

-- the first three lines of a component of this class, and others after them
abbrev with_head : List ℕ → List (List ℕ) → List (List ℕ)
with_head class lines = codes "from pymtl3 import *" ∷ (codes "class " ++ class ++ codes "( Component ):") ∷ codes "  def construct( s ):" ∷ lines

-- a head that is read is written in three lines
after_head_some : (class : List ℕ) (lines rest : List (List ℕ)) → after_head class lines ≡ Some rest
    → (is_name class ≡ true) × (lines ≡ with_head class rest)
unfolding after_head
after_head_some class lines rest is =
    option_and_then_some _ (after_line (codes "from pymtl3 import *") lines) rest is (λ second one more.
    option_and_then_some _ (after_class_line class second) rest more (λ third two last.
    let head = after_class_line_some class second third two in (
      head.0,
      after_line_some (codes "from pymtl3 import *") lines second one ∙ ap (λ (ls : List (List ℕ)). codes "from pymtl3 import *" ∷ ls)
          (head.1 ∙ ap (λ (ls : List (List ℕ)). (codes "class " ++ class ++ codes "( Component ):") ∷ ls)
          (after_line_some (codes "  def construct( s ):") third rest last)),
    )))

-- the head that is written is read
after_head-lines : (class : List ℕ) (lines : List (List ℕ)) → is_name class ≡ true → after_head class (with_head class lines) ≡ Some lines
unfolding after_head
after_head-lines class lines name = rw (is_class_line-line class name) refl

-- ---- signals and blocks

-- what holds of one that stands at an index
holds_at : (P : Signal → Type 0) (signals : List Signal) → All P signals → (index : ℕ) (read : Signal) → slice_get signals index ≡ Some read → P read
holds_at P signals all index read there =
    subst P (get_or_from_slice_get signals index read read there) (all index read (slice_get_within signals index read there))

name_at : (signals : List Signal) → All IsDeclared signals → (index : ℕ) (read : Signal)
    → slice_get (reset ∷ signals) index ≡ Some read → HasNoBlank read.name
name_at signals each zero read there =
    let same : reset ≡ read = cc in
    subst (λ (s : Signal). HasNoBlank s.name) same (no_blanks (λ byte. not (is_blank byte)) refl (codes "reset") refl)
name_at signals each (suc index) read there = new_name_has_no_blank read.name (holds_at IsDeclared signals each index read there).name

readable : (signals : List Signal) → All IsDeclared signals → signals_differ (reset ∷ signals) ≡ true
    → list_all is_width (widths_of (reset ∷ signals)) ≡ true → AreReadable (reset ∷ signals)
readable signals each differ wide =
    let all = AllPass-from_list_all (λ (s : Signal). is_width s.width) (reset ∷ signals)
    (sym (list_all-map is_width (λ (s : Signal). s.width) (reset ∷ signals)) ∙ wide) in
    record { differ = differ; named = name_at signals each; wide = holds_at (λ (s : Signal). is_width s.width ≡ true) (reset ∷ signals) all }

-- a component that is read has the signals and the blocks of its lines
component_in_some : (lines : List (List ℕ)) (component : Component) → component_in lines ≡ Some component
    → (component.signals ≡ reset ∷ declared lines) × (blocks_of component.signals (after_declared lines) ≡ Some component.blocks)
unfolding component_in
component_in_some lines component is =
    let few = where_false (not (nat_le (length (reset ∷ declared lines)) 65)) _ component is in
    option_map_some _ (blocks_of (reset ∷ declared lines) (after_declared lines)) component few.1 (λ blocks found same.
    subst (λ (c : Component). (c.signals ≡ reset ∷ declared lines) × (blocks_of c.signals (after_declared lines) ≡ Some c.blocks)) same
    (refl, found))

-- what is written for signals and blocks is read as them
component_in-lines : (signals : List Signal) (blocks : List Assignment) (others : List (List ℕ)) → All IsDeclared signals
    → nat_le (length (reset ∷ signals)) 65 ≡ true → signals_differ (reset ∷ signals) ≡ true → list_all is_width (widths_of (reset ∷ signals)) ≡ true
    → AreBlocksLines (reset ∷ signals) blocks others
    → component_in (map declaration_line signals ++ others) ≡ Some (record { signals = reset ∷ signals; blocks = blocks })
unfolding component_in
component_in-lines signals blocks others each few differ wide written =
    let none = blocks_declare_none (reset ∷ signals) blocks others written in
    let widths = and_parts (is_width 1) (list_all is_width (widths_of signals)) wide in
    let read = declared-lines signals others each widths.1 none.0 none.1 in
    rw (read.0, read.1, few, blocks_of-lines (reset ∷ signals) blocks others (readable signals each differ wide) written) refl

-- ---- the whole

-- the tests that a sound component passes
pub record PassesTests (component : Component) : Type 0 where
  pub few : nat_le (length component.signals) 65 ≡ true
  pub signals : signals_differ component.signals ≡ true
  pub targets : targets_differ component.blocks ≡ true
  pub typed : is_typed component ≡ true

-- a sound component passes them
pub passes_tests : (component : Component) → is_sound component ≡ true → PassesTests component
unfolding is_sound
passes_tests component sound =
    let counted = and_parts (is_counted component) _ sound in
    let signals = and_parts (signals_differ component.signals) _ counted.1 in
    let names = and_parts (names_differ component.signals component.blocks) _ signals.1 in
    let targets = and_parts (targets_differ component.blocks) _ names.1 in
    let driven = and_parts (list_all (has_target component.signals) component.blocks) _ targets.1 in
    let counts = and_parts _ (nat_le (length component.blocks) 64) counted.0 in
    let signal_counts = and_parts (nat_le 2 (length component.signals)) (nat_le (length component.signals) 65) counts.0 in
    record { few = signal_counts.1; signals = signals.0; targets = targets.0; typed = driven.1 }

-- a component that is read is written in the lines of the text
pub component_of_some : (class text : List ℕ) (component : Component) → component_of class text ≡ Some component → Writes class text component
unfolding component_of
component_of_some class text component is =
    let short = where_false (not (nat_le (length text) (2 ^ 20))) _ component is in
    option_and_then_some _ (after_head class (form_lines text)) component short.1 (λ lines head more.
    option_and_then_some _ (component_in lines) component more (λ found inside rest.
    let sound = where_true (is_sound found) (Some found) component rest in
    let same : found ≡ component = cc in
    let parts = component_in_some lines found inside in
    let start = after_head_some class (form_lines text) lines head in
    let all = declared_lines lines in
    subst (Writes class text) same (
      leb-true (length text) (2 ^ 20) (not-false _ short.0),
      record {
        name = start.0;
        declared = declared lines;
        signals = parts.0;
        each = all.each;
        blocks = after_declared lines;
        written = blocks_of_some found.signals (after_declared lines) found.blocks parts.1;
        whole = start.1 ∙ ap (with_head class) all.whole;
      },
      sound.0,
    )))

component_in-written : (class : List ℕ) (component : Component) (lines : List (List ℕ)) (written : AreComponentLines class component lines)
    → is_sound component ≡ true → component_in (map declaration_line written.declared ++ written.blocks) ≡ Some component
component_in-written class component lines written sound =
    let tests = passes_tests component sound in
    let typed = and_parts (list_all is_width (widths_of component.signals))
    (list_all (assignment_fits (widths_of component.signals)) component.blocks) tests.typed in
    component_in-lines written.declared component.blocks written.blocks written.each
    (subst (λ (s : List Signal). nat_le (length s) 65 ≡ true) written.signals tests.few)
    (subst (λ (s : List Signal). signals_differ s ≡ true) written.signals tests.signals)
    (subst (λ (s : List Signal). list_all is_width (widths_of s) ≡ true) written.signals typed.0)
    (subst (λ (s : List Signal). AreBlocksLines s component.blocks written.blocks) written.signals written.written)
    ∙ ap (λ (s : List Signal). Some (record { signals = s; blocks = component.blocks })) (sym written.signals)

-- what is written for a sound component is read as it
pub component_of-written : (class text : List ℕ) (component : Component) → Writes class text component → component_of class text ≡ Some component
unfolding component_of
component_of-written class text component writes =
    let written = writes.1 in
    rw (
      le-leb (length text) (2 ^ 20) writes.0,
      written.whole,
      after_head-lines class (map declaration_line written.declared ++ written.blocks) written.name,
      component_in-written class component (form_lines text) written writes.2,
      writes.2,
    ) refl
