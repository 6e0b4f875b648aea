-- Bodies of a design that is given, and the design with all of them.
use Rattle.std.specs.Prelude.{ℕ, ◌≡◌, IsTrue, bytes_eq, List, length, slice_get, take, Option, Some, Ok}
use Rattle.std.specs.List.{list_all}
use Rattle.pm_design.specs.declared.body.Block.{Block}
use Rattle.pm_design.specs.declared.body.Ex.{Ex}
use Rattle.pm_design.specs.declared.body.Method.{Method}
use Rattle.pm_design.specs.declared.body.St.{St}
use Rattle.pm_design.specs.declared.design.Design.{Design}
use Rattle.pm_design.specs.declared.design.Kind.{Kind}
use Rattle.pm_design.specs.Settings.{progress_of}
use Rattle.pm_design.specs.Sound.{IsSound, is_sound_answer, is_sound_block, is_sound_guard, method_sight}
use Rattle.pm_design.specs.Typing.{is_sound}
use Rattle.pm_design.specs.Widths.{is_width}
use Rattle.pm_syn.specs.declared.statement.Node.{Node}
use Rattle.pm_elab.specs.declared.body.RawBody.{RawBody}
use Rattle.pm_elab.specs.declared.elaboration.RawDesign.{RawDesign}
use Rattle.pm_elab.specs.declared.elaboration.RawKind.{RawKind}
use Rattle.pm_elab.specs.declared.parameter.Param.{Param}
use Rattle.pm_elab.specs.Files.{build}
use Rattle.pm_elab_laws.specs.Soundness.{are_good_params, declares_proper_names}
use Rattle.pm_typing.specs.declared.tally.Tally.{Tally}
use Rattle.pm_types.specs.declared.bodies.TypedBody.{TypedBody}
use Rattle.pm_types.specs.declared.bodies.TypedBody.TheVariants as typed
use Rattle.pm_types.specs.Bodies.{whole_body}
use Rattle.pm_types.specs.Designs.{typed_design}

-- a method with a sound body and answer, whose arguments are its first temporaries, which have 1 to 128 bits
pub record HasSoundLines (design : Design) (kind : Kind) (method : Method) (body : List St) (temps : List ℕ) (returned : Option Ex) : Type 0 where
  pub arguments : IsTrue (bytes_eq (take (length method.arguments) temps) method.arguments)
  pub sound : IsTrue (list_all (is_sound (method_sight design kind temps)) body)
  pub fine : IsTrue (progress_of (length method.arguments) body).fine
  pub answer : IsTrue (is_sound_answer (method_sight design kind temps) (progress_of (length method.arguments) body) method.result returned)
  pub wide : IsTrue (list_all is_width temps)

-- a typed body is sound for the block or the method of its number; temporaries have 1 to 128 bits
abbrev pub IsSoundFor : Design → Kind → TypedBody → Type 0
IsSoundFor design kind (typed.Block b body temps) =
    (block : Block) → slice_get kind.blocks b ≡ Some block
    → IsTrue (is_sound_block design kind (record block { body = body; temps = temps })) × IsTrue (list_all is_width temps)
IsSoundFor design kind (typed.Method m body temps answer) =
    (method : Method) → slice_get kind.methods m ≡ Some method → HasSoundLines design kind method body temps answer
IsSoundFor design kind (typed.Guard m e) = IsTrue (is_sound_guard design kind (Some e))

-- each body of a design that is given is sound once it is typed: of a block, a lambda, a method or a guard
abbrev pub BodiesOfDesignsAreSound : Type 0
BodiesOfDesignsAreSound =
    (nodes : List Node) (name : List ℕ) (params : List Param) (given : RawDesign)
    → IsTrue (declares_proper_names nodes)
    → IsTrue (are_good_params params)
    → build nodes name params ≡ Ok given
    → (k i : ℕ) (kind : Kind) (raw : RawKind) (body : RawBody) (before after : Tally) (made : TypedBody)
    → slice_get given.design.kinds k ≡ Some kind
    → slice_get given.kinds k ≡ Some raw
    → slice_get raw.bodies i ≡ Some body
    → whole_body given kind raw body before ≡ Ok (made, after)
    → IsSoundFor given.design kind made

-- a design with typed bodies is sound
abbrev pub TypedDesignsAreSound : Type 0
TypedDesignsAreSound =
    (nodes : List Node) (name : List ℕ) (params : List Param) (given : RawDesign) (design : Design)
    → IsTrue (declares_proper_names nodes)
    → IsTrue (are_good_params params)
    → build nodes name params ≡ Ok given
    → typed_design given ≡ Ok design
    → IsSound design
