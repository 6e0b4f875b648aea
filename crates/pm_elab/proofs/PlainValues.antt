-- What each sort of value is at each form of a value.
use Rattle.std.proofs.Common.{◌≡◌, ◌∙◌, ℕ, List, map, sym, ap, Bool, true, false}
use Rattle.std.specs.Prelude.{ℤ}
use Rattle.std.specs.List.{list_all}
use Rattle.pm_bits.specs.Word.{Word}
use Rattle.pm_design.specs.declared.connection.Term.{Term}
use Rattle.pm_values.specs.declared.reference.ValueType.{ValueType}
use Rattle.pm_values.specs.declared.value.Member.{Member}
use Rattle.pm_values.specs.declared.value.New.{New}
use Rattle.pm_values.specs.declared.value.Taken.{Taken}
use Rattle.pm_values.specs.declared.value.Value.{Value, Value-F, fold-roll-Value}
use Rattle.pm_values.specs.declared.value.Value.TheVariants as value
use Rattle.pm_elab.specs.Values.{is_plain, plain_of, member_sort}

pub plain_int : (n : ℤ) → is_plain (value.Int n) ≡ true
unfolding is_plain
plain_int n = ap is_plain (sym (value.rolls-Int n)) ∙ fold-roll-Value Bool Bool plain_of member_sort (Value-F.Int n)

pub plain_type : (t : ValueType) → is_plain (value.Type t) ≡ true
unfolding is_plain
plain_type t = ap is_plain (sym (value.rolls-Type t)) ∙ fold-roll-Value Bool Bool plain_of member_sort (Value-F.Type t)

pub plain_const : (w : Word) → is_plain (value.Const w) ≡ true
unfolding is_plain
plain_const w = ap is_plain (sym (value.rolls-Const w)) ∙ fold-roll-Value Bool Bool plain_of member_sort (Value-F.Const w)

pub plain_class : (n : List ℕ) → is_plain (value.Class n) ≡ true
unfolding is_plain
plain_class n = ap is_plain (sym (value.rolls-Class n)) ∙ fold-roll-Value Bool Bool plain_of member_sort (Value-F.Class n)

pub plain_items : (vs : List Value) → is_plain (value.Items vs) ≡ list_all (λ b. b) (map is_plain vs)
unfolding is_plain
plain_items vs = ap is_plain (sym (value.rolls-Items vs)) ∙ fold-roll-Value Bool Bool plain_of member_sort (Value-F.Items vs)

pub plain_own : is_plain value.Own ≡ false
unfolding is_plain
plain_own = ap is_plain (sym value.rolls-Own) ∙ fold-roll-Value Bool Bool plain_of member_sort Value-F.Own

pub plain_new : (n : New) → is_plain (value.New n) ≡ false
unfolding is_plain
plain_new n = ap is_plain (sym (value.rolls-New n)) ∙ fold-roll-Value Bool Bool plain_of member_sort (Value-F.New n)

pub plain_newinterface : (ms : List Member) → is_plain (value.NewInterface ms) ≡ false
unfolding is_plain
plain_newinterface ms = ap is_plain (sym (value.rolls-NewInterface ms)) ∙ fold-roll-Value Bool Bool plain_of member_sort (Value-F.NewInterface ms)

pub plain_taken : (t : Taken) → is_plain (value.Taken t) ≡ false
unfolding is_plain
plain_taken t = ap is_plain (sym (value.rolls-Taken t)) ∙ fold-roll-Value Bool Bool plain_of member_sort (Value-F.Taken t)

pub plain_interface : (ms : List Member) → is_plain (value.Interface ms) ≡ false
unfolding is_plain
plain_interface ms = ap is_plain (sym (value.rolls-Interface ms)) ∙ fold-roll-Value Bool Bool plain_of member_sort (Value-F.Interface ms)

pub plain_term : (t : Term) → is_plain (value.Term t) ≡ false
unfolding is_plain
plain_term t = ap is_plain (sym (value.rolls-Term t)) ∙ fold-roll-Value Bool Bool plain_of member_sort (Value-F.Term t)

pub plain_rule : (t u : Term) → is_plain (value.Rule t u) ≡ false
unfolding is_plain
plain_rule t u = ap is_plain (sym (value.rolls-Rule t u)) ∙ fold-roll-Value Bool Bool plain_of member_sort (Value-F.Rule t u)

pub ruleset forms = (plain_int, plain_type, plain_const, plain_class, plain_items, plain_own, plain_new, plain_newinterface, plain_taken, plain_interface, plain_term, plain_rule)
