-- What equals an argument, at each form of it.
use Rattle.std.proofs.Common.{◌≡◌, ◌∙◌, ℕ, List, false, map, sym, ap}
use Rattle.std.specs.Prelude.{ℤ}
use Rattle.pm_bits.specs.Word.{Word}
use Rattle.pm_design.specs.declared.connection.Term.{Term}
use Rattle.pm_values.specs.declared.reference.ValueType.{ValueType}
use Rattle.pm_values.specs.declared.value.Member.{Member}
use Rattle.pm_values.specs.declared.value.New.{New}
use Rattle.pm_values.specs.declared.value.Taken.{Taken}
use Rattle.pm_values.specs.declared.value.Value.{Value, Value-F, out-Value, fold-roll-Value}
use Rattle.pm_values.specs.declared.value.Value.TheVariants as value
use Rattle.pm_elab.specs.Equality.{Test, same, same_of, member_test, int_same, type_same, constant_same, class_same, list_same}

-- what nothing equals
abbrev pub never : Test
never v = false

pub same_int : (n : ℤ) → same (value.Int n) ≡ (λ v. int_same n (out-Value v))
unfolding same
same_int n = ap same (sym (value.rolls-Int n)) ∙ fold-roll-Value Test Test same_of member_test (Value-F.Int n)

pub same_type : (t : ValueType) → same (value.Type t) ≡ (λ v. type_same t (out-Value v))
unfolding same
same_type t = ap same (sym (value.rolls-Type t)) ∙ fold-roll-Value Test Test same_of member_test (Value-F.Type t)

pub same_const : (w : Word) → same (value.Const w) ≡ (λ v. constant_same w (out-Value v))
unfolding same
same_const w = ap same (sym (value.rolls-Const w)) ∙ fold-roll-Value Test Test same_of member_test (Value-F.Const w)

pub same_class : (n : List ℕ) → same (value.Class n) ≡ (λ v. class_same n (out-Value v))
unfolding same
same_class n = ap same (sym (value.rolls-Class n)) ∙ fold-roll-Value Test Test same_of member_test (Value-F.Class n)

pub same_list : (vs : List Value) → same (value.Items vs) ≡ (λ v. list_same (map same vs) (out-Value v))
unfolding same
same_list vs = ap same (sym (value.rolls-Items vs)) ∙ fold-roll-Value Test Test same_of member_test (Value-F.Items vs)

pub same_own : same value.Own ≡ never
unfolding same
same_own = ap same (sym value.rolls-Own) ∙ fold-roll-Value Test Test same_of member_test Value-F.Own

pub same_new : (n : New) → same (value.New n) ≡ never
unfolding same
same_new n = ap same (sym (value.rolls-New n)) ∙ fold-roll-Value Test Test same_of member_test (Value-F.New n)

pub same_newinterface : (ms : List Member) → same (value.NewInterface ms) ≡ never
unfolding same
same_newinterface ms = ap same (sym (value.rolls-NewInterface ms)) ∙ fold-roll-Value Test Test same_of member_test (Value-F.NewInterface ms)

pub same_taken : (t : Taken) → same (value.Taken t) ≡ never
unfolding same
same_taken t = ap same (sym (value.rolls-Taken t)) ∙ fold-roll-Value Test Test same_of member_test (Value-F.Taken t)

pub same_interface : (ms : List Member) → same (value.Interface ms) ≡ never
unfolding same
same_interface ms = ap same (sym (value.rolls-Interface ms)) ∙ fold-roll-Value Test Test same_of member_test (Value-F.Interface ms)

pub same_term : (t : Term) → same (value.Term t) ≡ never
unfolding same
same_term t = ap same (sym (value.rolls-Term t)) ∙ fold-roll-Value Test Test same_of member_test (Value-F.Term t)

pub same_rule : (t u : Term) → same (value.Rule t u) ≡ never
unfolding same
same_rule t u = ap same (sym (value.rolls-Rule t u)) ∙ fold-roll-Value Test Test same_of member_test (Value-F.Rule t u)

pub ruleset forms = (same_int, same_type, same_const, same_class, same_list, same_own, same_new, same_newinterface, same_taken, same_interface, same_term, same_rule)
