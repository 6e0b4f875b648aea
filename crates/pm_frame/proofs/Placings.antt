-- What taking a value does, at each form of a value.
use Rattle.std.proofs.Common.{◌≡◌, ◌∙◌, ℕ, List, [], map, sym, ap}
use Rattle.std.specs.Prelude.{ℤ, Ok}
use Rattle.pm_bits.specs.Word.{Word}
use Rattle.pm_design.specs.declared.connection.Term.{Term}
use Rattle.pm_values.specs.declared.reference.ValueType.{ValueType}
use Rattle.pm_values.specs.declared.value.Member.{Member, fold_out-Member}
use Rattle.pm_values.specs.declared.value.New.{New}
use Rattle.pm_values.specs.declared.value.Taken.{Taken}
use Rattle.pm_values.specs.declared.value.Value.{Value, Value-F, fold-roll-Value}
use Rattle.pm_values.specs.declared.value.Value.TheVariants as value
use Rattle.pm_elab.specs.Elab.{and_then}
use Rattle.pm_elab.specs.Placing.{Placing, MemberPlacing, place, place_member, placing_of, member_placing, place_new, place_items, place_members, unplaced, member_name}

pub placed_int : (n : ℤ) → place (value.Int n) ≡ unplaced (value.Int n)
unfolding place place_member
placed_int n = ap place (sym (value.rolls-Int n)) ∙ fold-roll-Value Placing MemberPlacing placing_of member_placing (Value-F.Int n)

pub placed_type : (t : ValueType) → place (value.Type t) ≡ unplaced (value.Type t)
unfolding place place_member
placed_type t = ap place (sym (value.rolls-Type t)) ∙ fold-roll-Value Placing MemberPlacing placing_of member_placing (Value-F.Type t)

pub placed_const : (w : Word) → place (value.Const w) ≡ unplaced (value.Const w)
unfolding place place_member
placed_const w = ap place (sym (value.rolls-Const w)) ∙ fold-roll-Value Placing MemberPlacing placing_of member_placing (Value-F.Const w)

pub placed_class : (n : List ℕ) → place (value.Class n) ≡ unplaced (value.Class n)
unfolding place place_member
placed_class n = ap place (sym (value.rolls-Class n)) ∙ fold-roll-Value Placing MemberPlacing placing_of member_placing (Value-F.Class n)

pub placed_items : (vs : List Value) → place (value.Items vs) ≡ place_items 0 [] (map place vs)
unfolding place place_member
placed_items vs = ap place (sym (value.rolls-Items vs)) ∙ fold-roll-Value Placing MemberPlacing placing_of member_placing (Value-F.Items vs)

pub placed_own : place (value.Own) ≡ unplaced value.Own
unfolding place place_member
placed_own = ap place (sym value.rolls-Own) ∙ fold-roll-Value Placing MemberPlacing placing_of member_placing Value-F.Own

pub placed_new : (n : New) → place (value.New n) ≡ (λ kinds. place_new kinds n)
unfolding place place_member
placed_new n = ap place (sym (value.rolls-New n)) ∙ fold-roll-Value Placing MemberPlacing placing_of member_placing (Value-F.New n)

pub placed_newinterface : (ms : List Member) → place (value.NewInterface ms) ≡ place_members [] (map place_member ms)
unfolding place place_member
placed_newinterface ms = ap place (sym (value.rolls-NewInterface ms)) ∙ fold-roll-Value Placing MemberPlacing placing_of member_placing (Value-F.NewInterface ms)

pub placed_taken : (t : Taken) → place (value.Taken t) ≡ unplaced (value.Taken t)
unfolding place place_member
placed_taken t = ap place (sym (value.rolls-Taken t)) ∙ fold-roll-Value Placing MemberPlacing placing_of member_placing (Value-F.Taken t)

pub placed_interface : (ms : List Member) → place (value.Interface ms) ≡ place_members [] (map place_member ms)
unfolding place place_member
placed_interface ms = ap place (sym (value.rolls-Interface ms)) ∙ fold-roll-Value Placing MemberPlacing placing_of member_placing (Value-F.Interface ms)

pub placed_term : (t : Term) → place (value.Term t) ≡ unplaced (value.Term t)
unfolding place place_member
placed_term t = ap place (sym (value.rolls-Term t)) ∙ fold-roll-Value Placing MemberPlacing placing_of member_placing (Value-F.Term t)

pub placed_rule : (t u : Term) → place (value.Rule t u) ≡ unplaced (value.Rule t u)
unfolding place place_member
placed_rule t u = ap place (sym (value.rolls-Rule t u)) ∙ fold-roll-Value Placing MemberPlacing placing_of member_placing (Value-F.Rule t u)

pub place_of_member : (m : Member) → place_member m
    ≡ (λ kinds name line f. and_then (place m.value kinds (member_name name m.name) line f) (λ r. Ok (r.0, record { name = m.name; value = r.1 })))
unfolding place place_member
place_of_member m = fold_out-Member Placing MemberPlacing placing_of member_placing m

pub ruleset forms = (placed_int, placed_type, placed_const, placed_class, placed_items, placed_own, placed_new, placed_newinterface, placed_taken, placed_interface, placed_term, placed_rule, place_of_member)
