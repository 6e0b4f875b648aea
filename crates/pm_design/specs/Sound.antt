-- A sound design: what elaboration gives, with sound bodies.
use Rattle.std.specs.Prelude.{ℕ, ◌&&◌, Bool, true, false, IsTrue, bytes_eq, List, [], map, take, length, Option, None, Some}
use Rattle.std.specs.List.{list_all}
use Rattle.pm_design.specs.declared.body.Block.{Block}
use Rattle.pm_design.specs.declared.body.BlockSort.{BlockSort}
use Rattle.pm_design.specs.declared.body.BlockSort.TheVariants as sort
use Rattle.pm_design.specs.declared.body.Ex.{Ex}
use Rattle.pm_design.specs.declared.body.Method.{Method}
use Rattle.pm_design.specs.declared.connection.Part.{Part}
use Rattle.pm_design.specs.declared.design.Design.{Design}
use Rattle.pm_design.specs.declared.design.Kind.{Kind}
use Rattle.pm_design.specs.Elaborated.{IsElaborated}
use Rattle.pm_design.specs.Lookups.{is_readable, is_writable, is_whole, signature_of}
use Rattle.pm_design.specs.Settings.{Progress, progress_of, reads_assigned}
use Rattle.pm_design.specs.Typing.{Holding, Sight, has_width, is_sound}

-- what the bodies of a kind know of its states
abbrev pub holdings_of : Kind → List Holding
holdings_of kind = map (λ s. record { width = s.width; maxlen = s.maxlen }) kind.states

-- a part that a block of a sort may write: at the clock edge whole signals only
abbrev pub may_write : Design → Kind → BlockSort → Part → Bool
may_write design kind sort.Update part = is_writable design kind part
may_write design kind sort.Once part = is_writable design kind part
may_write design kind sort.Edge part = is_writable design kind part && is_whole design kind part

-- blocks that may change states
abbrev pub may_change : BlockSort → Bool
may_change sort.Update = false
may_change sort.Once = true
may_change sort.Edge = false

-- what a block may name
abbrev pub block_sight : Design → Kind → Block → Sight
block_sight design kind block = record {
  reads = is_readable design kind;
  writes = may_write design kind block.sort;
  states = holdings_of kind;
  changes = may_change block.sort;
  calls = signature_of design kind;
  temps = block.temps;
}

-- a block with a sound body
abbrev pub is_sound_block : Design → Kind → Block → Bool
is_sound_block design kind block =
    list_all (is_sound (block_sight design kind block)) block.body && (progress_of 0 block.body).fine

-- what a method may name, with the given temporaries
abbrev pub method_sight : Design → Kind → List ℕ → Sight
method_sight design kind temps = record {
  reads = is_readable design kind;
  writes = λ part. false;
  states = holdings_of kind;
  changes = true;
  calls = signature_of design kind;
  temps = temps;
}

-- a guard of one bit that reads no temporary, or none
abbrev pub is_sound_guard : Design → Kind → Option Ex → Bool
is_sound_guard design kind None = true
is_sound_guard design kind (Some e) = has_width (method_sight design kind []) 1 e

-- an answer of the result's width, and none without a result
abbrev pub is_sound_answer : Sight → Progress → Option ℕ → Option Ex → Bool
is_sound_answer s p None None = true
is_sound_answer s p None (Some e) = false
is_sound_answer s p (Some width) None = false
is_sound_answer s p (Some width) (Some e) = has_width s width e && reads_assigned p.assigned e

-- a method with a sound guard, body and answer, whose arguments are its first temporaries
abbrev pub is_sound_method : Design → Kind → Method → Bool
is_sound_method design kind method =
    let s = method_sight design kind method.temps in
    let p = progress_of (length method.arguments) method.body in
    bytes_eq (take (length method.arguments) method.temps) method.arguments
    && (list_all (is_sound s) method.body && (p.fine
    && (is_sound_guard design kind method.guard && is_sound_answer s p method.result method.answer)))

-- a design whose bodies are sound too
pub record IsSound (design : Design) : Type 0 where
  pub elaborated : IsElaborated design
  pub blocks : IsTrue (list_all (λ kind. list_all (is_sound_block design kind) kind.blocks) design.kinds)
  pub methods : IsTrue (list_all (λ kind. list_all (is_sound_method design kind) kind.methods) design.kinds)
