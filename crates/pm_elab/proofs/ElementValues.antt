-- What each sort of value is at each form of a value.
use Rattle.std.proofs.Common.{◌≡◌, ◌∙◌, ℕ, List, map, sym, ap, Bool, true, false}
use Rattle.std.specs.Prelude.{ℤ}
use Rattle.std.specs.List.{list_all}
use Rattle.pm_bits.specs.Word.{Word}
use Rattle.pm_design.specs.declared.connection.Term.{Term}
use Rattle.pm_values.specs.declared.reference.ValueType.{ValueType}
use Rattle.pm_values.specs.declared.value.Member.{Member}
use Rattle.pm_values.specs.declared.value.New.{New}
use Rattle.pm_values.specs.declared.value.Taken.{Taken}
use Rattle.pm_values.specs.declared.value.Value.{Value, Value-F, fold-roll-Value}
use Rattle.pm_values.specs.declared.value.Value.TheVariants as value
use Rattle.pm_elab.specs.Values.{is_element, element_of, member_sort, new_element}

pub element_int : (n : ℤ) → is_element (value.Int n) ≡ true
unfolding is_element
element_int n = ap is_element (sym (value.rolls-Int n)) ∙ fold-roll-Value Bool Bool element_of member_sort (Value-F.Int n)

pub element_type : (t : ValueType) → is_element (value.Type t) ≡ true
unfolding is_element
element_type t = ap is_element (sym (value.rolls-Type t)) ∙ fold-roll-Value Bool Bool element_of member_sort (Value-F.Type t)

pub element_const : (w : Word) → is_element (value.Const w) ≡ true
unfolding is_element
element_const w = ap is_element (sym (value.rolls-Const w)) ∙ fold-roll-Value Bool Bool element_of member_sort (Value-F.Const w)

pub element_class : (n : List ℕ) → is_element (value.Class n) ≡ true
unfolding is_element
element_class n = ap is_element (sym (value.rolls-Class n)) ∙ fold-roll-Value Bool Bool element_of member_sort (Value-F.Class n)

pub element_items : (vs : List Value) → is_element (value.Items vs) ≡ list_all (λ b. b) (map is_element vs)
unfolding is_element
element_items vs = ap is_element (sym (value.rolls-Items vs)) ∙ fold-roll-Value Bool Bool element_of member_sort (Value-F.Items vs)

pub element_own : is_element value.Own ≡ false
unfolding is_element
element_own = ap is_element (sym value.rolls-Own) ∙ fold-roll-Value Bool Bool element_of member_sort Value-F.Own

pub element_new : (n : New) → is_element (value.New n) ≡ new_element n
unfolding is_element
element_new n = ap is_element (sym (value.rolls-New n)) ∙ fold-roll-Value Bool Bool element_of member_sort (Value-F.New n)

pub element_newinterface : (ms : List Member) → is_element (value.NewInterface ms) ≡ true
unfolding is_element
element_newinterface ms = ap is_element (sym (value.rolls-NewInterface ms)) ∙ fold-roll-Value Bool Bool element_of member_sort (Value-F.NewInterface ms)

pub element_taken : (t : Taken) → is_element (value.Taken t) ≡ true
unfolding is_element
element_taken t = ap is_element (sym (value.rolls-Taken t)) ∙ fold-roll-Value Bool Bool element_of member_sort (Value-F.Taken t)

pub element_interface : (ms : List Member) → is_element (value.Interface ms) ≡ true
unfolding is_element
element_interface ms = ap is_element (sym (value.rolls-Interface ms)) ∙ fold-roll-Value Bool Bool element_of member_sort (Value-F.Interface ms)

pub element_term : (t : Term) → is_element (value.Term t) ≡ false
unfolding is_element
element_term t = ap is_element (sym (value.rolls-Term t)) ∙ fold-roll-Value Bool Bool element_of member_sort (Value-F.Term t)

pub element_rule : (t u : Term) → is_element (value.Rule t u) ≡ false
unfolding is_element
element_rule t u = ap is_element (sym (value.rolls-Rule t u)) ∙ fold-roll-Value Bool Bool element_of member_sort (Value-F.Rule t u)

pub ruleset forms = (element_int, element_type, element_const, element_class, element_items, element_own, element_new, element_newinterface, element_taken, element_interface, element_term, element_rule)
