-- What a body may do, as elaboration has made its component.
use Rattle.std.specs.Prelude.{ℕ, ◌≡◌, Bool, false, Ok, IsTrue, List, [], map, Some}
use Rattle.std.specs.List.{list_all}
use Rattle.std.specs.Option.{option_map}
use Rattle.pm_design.specs.declared.connection.Callee.{Callee}
use Rattle.pm_design.specs.Settings.{progress_of}
use Rattle.pm_design.specs.Typing.{Sight, is_sound}
use Rattle.pm_design.specs.Widths.{is_width}
use Rattle.pm_values.specs.declared.reference.Reference.{Reference}
use Rattle.pm_values.specs.declared.reference.ValueType.{ValueType}
use Rattle.pm_typing.specs.Sites.{Scope}
use Rattle.pm_types.specs.declared.bodies.TypedBody.{TypedBody}
use Rattle.pm_types.specs.declared.bodies.TypedBody.TheVariants as typed
use Rattle.pm_types.specs.declared.effects.CallTypes.{CallTypes}
use Rattle.pm_design.specs.declared.body.BlockSort.{BlockSort}
use Rattle.pm_design.specs.declared.body.St.{St}
use Rattle.pm_design.specs.Lookups.{is_readable, signature_of}
use Rattle.pm_design.specs.Sound.{is_sound_block}
use Rattle.pm_syn.specs.declared.statement.Node.{Node}
use Rattle.pm_typing.specs.declared.tally.Tally.{Tally}
use Rattle.pm_types.specs.Bodies.{block_body, sort_at}
use Rattle.pm_types.specs.Effects.{call_types, may_change}
use Rattle.pm_types.specs.Targets.{is_edge, is_whole, may_write}
use Rattle.pm_type_laws.specs.Good.{IsMade, is_reference, is_type}
use Rattle.pm_type_laws.specs.Views.{Sees}

-- a method or caller port takes and answers these types
pub record IsCalled (s : Sight) (scope : Scope) (c : Callee) (types : CallTypes) : Type 0 where
  pub there : IsTrue (s.calls c).there
  pub arguments : (s.calls c).arguments ≡ map (λ t. t.width) types.arguments
  pub answer : (s.calls c).answer ≡ option_map (λ t. t.width) types.result
  pub typed : IsTrue (list_all (is_type scope.design.design.shapes) types.arguments)
  pub result : (ty : ValueType) → types.result ≡ Some ty → IsTrue (is_type scope.design.design.shapes ty)

-- what a body's sight lets it do
pub record Allows (s : Sight) (scope : Scope) : Type 0 where
  pub sees : (assigned : ℕ → Bool) → Sees (record { sight = s; assigned = assigned }) scope
  pub writes : (r : Reference) → IsTrue (is_reference scope r) → IsTrue (may_write scope.sort r)
      → (IsTrue (is_edge scope.sort) → IsTrue (is_whole r)) → IsTrue (s.writes r.part)
  pub changes : IsTrue (may_change scope.sort) → IsTrue s.changes
  pub calls : (c : Callee) (types : CallTypes) → call_types scope c ≡ Some types → IsTrue (s.calls c).there
      → IsCalled s scope c types

-- the body of a block is sound where its temporaries, of 1 to 128 bits, are those of the sight
abbrev pub IsSoundBody : Sight → TypedBody → Type 0
IsSoundBody s (typed.Block b body temps) = s.temps ≡ temps
    → IsTrue (list_all (is_sound s) body) × IsTrue (progress_of 0 body).fine × IsTrue (list_all is_width temps)
IsSoundBody s _ = Unit {0}

-- each method and caller port that is there takes and answers the types that elaboration kept of it
abbrev pub AreCalled : Scope → Type 0
AreCalled scope =
    (c : Callee) (types : CallTypes) → call_types scope c ≡ Some types → IsTrue (signature_of scope.design.design scope.kind c).there
    → IsCalled (record {
      reads = is_readable scope.design.design scope.kind;
      writes = λ part. false;
      states = [];
      changes = false;
      calls = signature_of scope.design.design scope.kind;
      temps = [];
    }) scope c types

-- each block that is typed is sound, where its component is as elaboration makes it
abbrev pub BlocksAreSound : Type 0
BlocksAreSound =
    (scope : Scope) (of : BlockSort) (name : List ℕ) (number line : ℕ) (nodes : List Node) (before after : Tally) (body : List St) (temps : List ℕ)
    → IsMade scope → AreCalled scope → scope.sort ≡ sort_at of
    → block_body scope number nodes before ≡ Ok (typed.Block number body temps, after)
    → IsTrue (is_sound_block scope.design.design scope.kind (record { name = name; sort = of; body = body; temps = temps }))
