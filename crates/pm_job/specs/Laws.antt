-- Laws of the equations of a cycle and of the narrow form. Blocks that run in order solve the equations, and nothing else
-- does; the order of writing changes no solution; a component is read from the lines that write it.
use Rattle.std.specs.Prelude.{◌≡◌, ◌≤◌, ◌^◌, ℕ, true, IsTrue, List, length, All, Contains, Some}
use Rattle.pm_bits.specs.Word.{Word}
use Rattle.pm_job.specs.declared.component.Assignment.{Assignment}
use Rattle.pm_job.specs.declared.component.Component.{Component}
use Rattle.pm_job.specs.Form.{component_of, form_lines, is_sound, targets_differ}
use Rattle.pm_job.specs.Precedence.{HasLoop}
use Rattle.pm_job.specs.Progress.{after_blocks}
use Rattle.pm_job.specs.Reads.{is_ordered, AssignWithin}
use Rattle.pm_job.specs.Settled.{IsSettled}
use Rattle.pm_job.specs.WrittenForm.{AreComponentLines}

-- the values after blocks that ran in order solve the equations
abbrev pub OrderedSettles : Type 0
OrderedSettles = (blocks : List Assignment) (start : List Word) → is_ordered blocks ≡ true → targets_differ blocks ≡ true
    → AssignWithin (length start) blocks → IsSettled blocks start (after_blocks blocks start)

-- the equations of blocks without a loop have exactly one solution, in whatever order the blocks are written
abbrev pub OneSolution : Type 0
OneSolution = (blocks : List Assignment) (start : List Word) → (HasLoop blocks → ⊥) → targets_differ blocks ≡ true → AssignWithin (length start) blocks
    → (settled : List Word) × IsSettled blocks start settled × ((other : List Word) → IsSettled blocks start other → other ≡ settled)

-- each block of one list is in the other
abbrev pub HaveSameBlocks : List Assignment → List Assignment → Type 0
HaveSameBlocks blocks blocks' = All (Contains blocks') blocks × All (Contains blocks) blocks'

-- the same blocks in another order have the same solutions
abbrev pub SettledPermuted : Type 0
SettledPermuted = (blocks blocks' : List Assignment) (start settled : List Word) → HaveSameBlocks blocks blocks'
    → IsSettled blocks start settled → IsSettled blocks' start settled

-- a text of at most 2 to the 20 bytes has the lines of a sound component, without the empty ones
abbrev pub Writes : List ℕ → List ℕ → Component → Type 0
Writes class text component = (length text ≤ 2 ^ 20) × AreComponentLines class component (form_lines text) × IsTrue (is_sound component)

-- a component is read from the texts that write it, and from no others
abbrev pub ReadAsWritten : Type 0
ReadAsWritten = (class text : List ℕ) (component : Component)
    → (component_of class text ≡ Some component → Writes class text component)
    × (Writes class text component → component_of class text ≡ Some component)
