-- What each sort of value is at each form of a value.
use Rattle.std.proofs.Common.{◌≡◌, ◌∙◌, ℕ, List, map, sym, ap, Bool, true, false}
use Rattle.std.specs.Prelude.{ℤ}
use Rattle.std.specs.List.{list_all}
use Rattle.pm_bits.specs.Word.{Word}
use Rattle.pm_design.specs.declared.connection.Term.{Term}
use Rattle.pm_values.specs.declared.reference.ValueType.{ValueType}
use Rattle.pm_values.specs.declared.value.Member.{Member}
use Rattle.pm_values.specs.declared.value.New.{New}
use Rattle.pm_values.specs.declared.value.Taken.{Taken}
use Rattle.pm_values.specs.declared.value.Value.{Value, Value-F, fold-roll-Value}
use Rattle.pm_values.specs.declared.value.Value.TheVariants as value
use Rattle.pm_elab.specs.Values.{is_member, member_of, member_sort, new_member}

pub member_int : (n : ℤ) → is_member (value.Int n) ≡ true
unfolding is_member
member_int n = ap is_member (sym (value.rolls-Int n)) ∙ fold-roll-Value Bool Bool member_of member_sort (Value-F.Int n)

pub member_type : (t : ValueType) → is_member (value.Type t) ≡ false
unfolding is_member
member_type t = ap is_member (sym (value.rolls-Type t)) ∙ fold-roll-Value Bool Bool member_of member_sort (Value-F.Type t)

pub member_const : (w : Word) → is_member (value.Const w) ≡ false
unfolding is_member
member_const w = ap is_member (sym (value.rolls-Const w)) ∙ fold-roll-Value Bool Bool member_of member_sort (Value-F.Const w)

pub member_class : (n : List ℕ) → is_member (value.Class n) ≡ false
unfolding is_member
member_class n = ap is_member (sym (value.rolls-Class n)) ∙ fold-roll-Value Bool Bool member_of member_sort (Value-F.Class n)

pub member_items : (vs : List Value) → is_member (value.Items vs) ≡ list_all (λ b. b) (map is_member vs)
unfolding is_member
member_items vs = ap is_member (sym (value.rolls-Items vs)) ∙ fold-roll-Value Bool Bool member_of member_sort (Value-F.Items vs)

pub member_own : is_member value.Own ≡ false
unfolding is_member
member_own = ap is_member (sym value.rolls-Own) ∙ fold-roll-Value Bool Bool member_of member_sort Value-F.Own

pub member_new : (n : New) → is_member (value.New n) ≡ new_member n
unfolding is_member
member_new n = ap is_member (sym (value.rolls-New n)) ∙ fold-roll-Value Bool Bool member_of member_sort (Value-F.New n)

pub member_newinterface : (ms : List Member) → is_member (value.NewInterface ms) ≡ true
unfolding is_member
member_newinterface ms = ap is_member (sym (value.rolls-NewInterface ms)) ∙ fold-roll-Value Bool Bool member_of member_sort (Value-F.NewInterface ms)

pub member_taken : (t : Taken) → is_member (value.Taken t) ≡ false
unfolding is_member
member_taken t = ap is_member (sym (value.rolls-Taken t)) ∙ fold-roll-Value Bool Bool member_of member_sort (Value-F.Taken t)

pub member_interface : (ms : List Member) → is_member (value.Interface ms) ≡ false
unfolding is_member
member_interface ms = ap is_member (sym (value.rolls-Interface ms)) ∙ fold-roll-Value Bool Bool member_of member_sort (Value-F.Interface ms)

pub member_term : (t : Term) → is_member (value.Term t) ≡ false
unfolding is_member
member_term t = ap is_member (sym (value.rolls-Term t)) ∙ fold-roll-Value Bool Bool member_of member_sort (Value-F.Term t)

pub member_rule : (t u : Term) → is_member (value.Rule t u) ≡ false
unfolding is_member
member_rule t u = ap is_member (sym (value.rolls-Rule t u)) ∙ fold-roll-Value Bool Bool member_of member_sort (Value-F.Rule t u)

pub ruleset forms = (member_int, member_type, member_const, member_class, member_items, member_own, member_new, member_newinterface, member_taken, member_interface, member_term, member_rule)
