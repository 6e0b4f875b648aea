-- What each sort of value is at each form of a value.
use Rattle.std.proofs.Common.{◌≡◌, ◌∙◌, ℕ, List, map, sym, ap, Bool, true, false}
use Rattle.std.specs.Prelude.{ℤ}
use Rattle.std.specs.List.{list_all}
use Rattle.pm_bits.specs.Word.{Word}
use Rattle.pm_design.specs.declared.connection.Term.{Term}
use Rattle.pm_values.specs.declared.reference.ValueType.{ValueType}
use Rattle.pm_values.specs.declared.value.Member.{Member}
use Rattle.pm_values.specs.declared.value.New.{New}
use Rattle.pm_values.specs.declared.value.Taken.{Taken}
use Rattle.pm_values.specs.declared.value.Value.{Value, Value-F, fold-roll-Value}
use Rattle.pm_values.specs.declared.value.Value.TheVariants as value
use Rattle.pm_elab.specs.Values.{is_settled, settled_of, member_sort}

pub settled_int : (n : ℤ) → is_settled (value.Int n) ≡ true
unfolding is_settled
settled_int n = ap is_settled (sym (value.rolls-Int n)) ∙ fold-roll-Value Bool Bool settled_of member_sort (Value-F.Int n)

pub settled_type : (t : ValueType) → is_settled (value.Type t) ≡ true
unfolding is_settled
settled_type t = ap is_settled (sym (value.rolls-Type t)) ∙ fold-roll-Value Bool Bool settled_of member_sort (Value-F.Type t)

pub settled_const : (w : Word) → is_settled (value.Const w) ≡ true
unfolding is_settled
settled_const w = ap is_settled (sym (value.rolls-Const w)) ∙ fold-roll-Value Bool Bool settled_of member_sort (Value-F.Const w)

pub settled_class : (n : List ℕ) → is_settled (value.Class n) ≡ true
unfolding is_settled
settled_class n = ap is_settled (sym (value.rolls-Class n)) ∙ fold-roll-Value Bool Bool settled_of member_sort (Value-F.Class n)

pub settled_items : (vs : List Value) → is_settled (value.Items vs) ≡ list_all (λ b. b) (map is_settled vs)
unfolding is_settled
settled_items vs = ap is_settled (sym (value.rolls-Items vs)) ∙ fold-roll-Value Bool Bool settled_of member_sort (Value-F.Items vs)

pub settled_own : is_settled value.Own ≡ true
unfolding is_settled
settled_own = ap is_settled (sym value.rolls-Own) ∙ fold-roll-Value Bool Bool settled_of member_sort Value-F.Own

pub settled_new : (n : New) → is_settled (value.New n) ≡ false
unfolding is_settled
settled_new n = ap is_settled (sym (value.rolls-New n)) ∙ fold-roll-Value Bool Bool settled_of member_sort (Value-F.New n)

pub settled_newinterface : (ms : List Member) → is_settled (value.NewInterface ms) ≡ false
unfolding is_settled
settled_newinterface ms = ap is_settled (sym (value.rolls-NewInterface ms)) ∙ fold-roll-Value Bool Bool settled_of member_sort (Value-F.NewInterface ms)

pub settled_taken : (t : Taken) → is_settled (value.Taken t) ≡ true
unfolding is_settled
settled_taken t = ap is_settled (sym (value.rolls-Taken t)) ∙ fold-roll-Value Bool Bool settled_of member_sort (Value-F.Taken t)

pub settled_interface : (ms : List Member) → is_settled (value.Interface ms) ≡ true
unfolding is_settled
settled_interface ms = ap is_settled (sym (value.rolls-Interface ms)) ∙ fold-roll-Value Bool Bool settled_of member_sort (Value-F.Interface ms)

pub settled_term : (t : Term) → is_settled (value.Term t) ≡ false
unfolding is_settled
settled_term t = ap is_settled (sym (value.rolls-Term t)) ∙ fold-roll-Value Bool Bool settled_of member_sort (Value-F.Term t)

pub settled_rule : (t u : Term) → is_settled (value.Rule t u) ≡ false
unfolding is_settled
settled_rule t u = ap is_settled (sym (value.rolls-Rule t u)) ∙ fold-roll-Value Bool Bool settled_of member_sort (Value-F.Rule t u)

pub ruleset forms = (settled_int, settled_type, settled_const, settled_class, settled_items, settled_own, settled_new, settled_newinterface, settled_taken, settled_interface, settled_term, settled_rule)
