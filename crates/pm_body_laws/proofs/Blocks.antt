-- What a block's sight allows, and that its body is sound in it.
use Rattle.std.proofs.Common.{◌≡◌, ◌==◌, ◌&&◌, ℕ, Bool, true, List, refl, sym, subst}
use Rattle.std.specs.Prelude.{IsTrue, if◌then◌else◌, not}
use Rattle.std.specs.List.{list_all}
use Rattle.std.proofs.lemmas.Bool.{and_parts, false≢true}
use Rattle.pm_design.specs.declared.body.BlockSort.{BlockSort}
use Rattle.pm_design.specs.declared.body.BlockSort.TheVariants as block_sort
use Rattle.pm_design.specs.declared.body.St.{St}
use Rattle.pm_design.specs.declared.signal.Role.{Role}
use Rattle.pm_design.specs.declared.signal.Role.TheVariants as role
use Rattle.pm_design.specs.Lookups.{is_input, is_readable, is_writable, lies_within, signal_of}
use Rattle.pm_design.specs.Lookups as lookups
use Rattle.pm_design.specs.Sound.{block_sight, is_sound_block}
use Rattle.pm_design.specs.Sound as sounds
use Rattle.pm_design.specs.Typing.{Sight, is_sound}
use Rattle.pm_values.specs.declared.reference.Reference.{Reference}
use Rattle.pm_typing.specs.declared.scope.BodySort.{BodySort}
use Rattle.pm_typing.specs.declared.tally.Tally.{Tally}
use Rattle.pm_typing.specs.Sites.{Scope}
use Rattle.pm_types.specs.declared.bodies.TypedBody.{TypedBody}
use Rattle.pm_types.specs.declared.bodies.TypedBody.TheVariants as typed
use Rattle.pm_types.specs.Bodies.{sort_at}
use Rattle.pm_types.specs.Effects.{may_change}
use Rattle.pm_values.specs.declared.reference.Form.{Form}
use Rattle.pm_values.specs.declared.reference.Form.TheVariants as form
use Rattle.pm_types.specs.Targets as targets
use Rattle.pm_types.specs.Targets.{assigns_signals, is_edge, is_whole, may_write}
use Rattle.pm_type_laws.specs.Good.{IsMade, is_reference, is_told}
use Rattle.pm_elab_laws.specs.Told.{is_whole_form, same_role}
use Rattle.pm_type_laws.proofs.Yields.{On}
use Rattle.pm_type_laws.proofs.Values.{both}
use Rattle.pm_body_laws.specs.Premises.{Allows, AreCalled, BlocksAreSound, IsSoundBody}
use Rattle.pm_body_laws.proofs.Bodies.{block_is}

same_input : (a b : Role) → IsTrue (same_role a b) → is_input a ≡ is_input b
same_input role.Input role.Input same = refl
same_input role.Input role.Output same = absurd (false≢true same)
same_input role.Input role.Inner same = absurd (false≢true same)
same_input role.Output role.Input same = absurd (false≢true same)
same_input role.Output role.Output same = refl
same_input role.Output role.Inner same = absurd (false≢true same)
same_input role.Inner role.Input same = absurd (false≢true same)
same_input role.Inner role.Output same = absurd (false≢true same)
same_input role.Inner role.Inner same = refl

same_form : (f : Form) → IsTrue (targets.is_whole_form f) → is_whole_form f ≡ true
same_form form.Whole whole = refl
same_form form.Field whole = absurd (false≢true whole)
same_form form.Slice whole = absurd (false≢true whole)
same_form form.Bit whole = absurd (false≢true whole)

-- a block of a sort, which is a body's
abbrev IsSort : BlockSort → BodySort → Type 0
IsSort of s = s ≡ sort_at of

module _ (scope : Scope) (name : List ℕ) (body : List St) (temps : List ℕ) (made : IsMade scope) where
  writable_is : (r : Reference) → IsTrue (is_reference scope r) → IsTrue (may_write scope.sort r)
      → IsTrue (is_writable scope.design.design scope.kind r.part)
  writable_is r is may =
      let parts = and_parts (is_readable scope.design.design scope.kind r.part && is_told scope r) _ is in
      let known = and_parts (is_readable scope.design.design scope.kind r.part) (is_told scope r) parts.0 in
      let seen = and_parts (lies_within scope.design.design scope.kind r.part) _ known.0 in
      let told = and_parts (same_role r.role (signal_of scope.design.design scope.kind r.part).role) _ known.1 in
      let input = same_input r.role (signal_of scope.design.design scope.kind r.part).role told.0 in
      let write = and_parts (assigns_signals scope.sort) _ may in
      both (lies_within scope.design.design scope.kind r.part) _ seen.0
      (subst (λ (input : Bool). IsTrue (if r.part.owner == 0 then not input else input)) input write.1)

  whole_is : (r : Reference) → IsTrue (is_reference scope r) → IsTrue (is_whole r) → IsTrue (lookups.is_whole scope.design.design scope.kind r.part)
  whole_is r is whole =
      let parts = and_parts (is_readable scope.design.design scope.kind r.part && is_told scope r) _ is in
      let known = and_parts (is_readable scope.design.design scope.kind r.part) (is_told scope r) parts.0 in
      let told = and_parts (same_role r.role (signal_of scope.design.design scope.kind r.part).role) _ known.1 in
      subst (λ (b : Bool). IsTrue (if b then lookups.is_whole scope.design.design scope.kind r.part else true)) (same_form r.form whole) told.1

  unfoldable pub sight_of : BlockSort → Sight
  sight_of of = block_sight scope.design.design scope.kind (record { name = name; sort = of; body = body; temps = temps })

  writes_is : (of : BlockSort) → scope.sort ≡ sort_at of → (r : Reference) → IsTrue (is_reference scope r) → IsTrue (may_write scope.sort r)
      → (IsTrue (is_edge scope.sort) → IsTrue (is_whole r)) → IsTrue (sounds.may_write scope.design.design scope.kind of r.part)
  writes_is block_sort.Update same r is may whole = writable_is r is may
  writes_is block_sort.Once same r is may whole = writable_is r is may
  writes_is block_sort.Edge same r is may whole =
      both (is_writable scope.design.design scope.kind r.part) _ (writable_is r is may)
      (whole_is r is (whole (subst (λ (b : BodySort). IsTrue (is_edge b)) (sym same) refl)))

  changes_is : (of : BlockSort) → scope.sort ≡ sort_at of → IsTrue (may_change scope.sort) → IsTrue (sounds.may_change of)
  changes_is block_sort.Update same may = subst (λ (b : BodySort). IsTrue (may_change b)) same may
  changes_is block_sort.Once same may = refl
  changes_is block_sort.Edge same may = subst (λ (b : BodySort). IsTrue (may_change b)) same may

  pub allows_block : AreCalled scope → (of : BlockSort) → scope.sort ≡ sort_at of → Allows (sight_of of) scope
  unfolding sight_of
  allows_block called of same = record {
    sees = λ assigned. record { made = made; reads = λ p is. is; states = refl; calls = refl };
    writes = λ r is may whole. writes_is of same r is may whole;
    changes = λ may. changes_is of same may;
    calls = λ c types at there.
        let is = called c types at there in
        record { there = is.there; arguments = is.arguments; answer = is.answer; typed = is.typed; result = is.result };
  }

-- each block that is typed is sound
pub blocks_are_sound : BlocksAreSound
unfolding sight_of
blocks_are_sound scope of name number line nodes before after body temps made called same is =
    let block = sight_of scope name body temps made of in
    let sound : IsSoundBody block (typed.Block number body temps) =
    subst (On (λ (r : TypedBody × Tally). IsSoundBody block r.0)) is (block_is block scope (allows_block scope name body temps made called of same) number nodes before) in
    let parts = sound refl in
    both (list_all (is_sound block) body) _ parts.0 parts.1
