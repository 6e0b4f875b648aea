-- Which values match a value, at each form of it.
use Rattle.std.proofs.Common.{◌≡◌, ◌∙◌, ℕ, List, map, sym, ap}
use Rattle.std.specs.Prelude.{ℤ, Bool}
use Rattle.pm_bits.specs.Word.{Word}
use Rattle.pm_design.specs.declared.connection.Term.{Term}
use Rattle.pm_values.specs.declared.reference.ValueType.{ValueType}
use Rattle.pm_values.specs.declared.value.Member.{Member, fold_out-Member}
use Rattle.pm_values.specs.declared.value.New.{New}
use Rattle.pm_values.specs.declared.value.Taken.{Taken}
use Rattle.pm_values.specs.declared.value.Value.{Value, Value-F, fold-roll-Value}
use Rattle.pm_values.specs.declared.value.Value.TheVariants as value
use Rattle.pm_elab.specs.Attributes.{member_named}
use Rattle.pm_elab.specs.Connections.{MemberMatch, match_in, matches_named, matching, member_match, matching_of, member_matching, interface_matches, list_matches, is_single}

pub matches_int : (n : ℤ) → matching (value.Int n) ≡ is_single
unfolding matching member_match
matches_int n = ap matching (sym (value.rolls-Int n)) ∙ fold-roll-Value (Value → Bool) MemberMatch matching_of member_matching (Value-F.Int n)

pub matches_type : (t : ValueType) → matching (value.Type t) ≡ is_single
unfolding matching member_match
matches_type t = ap matching (sym (value.rolls-Type t)) ∙ fold-roll-Value (Value → Bool) MemberMatch matching_of member_matching (Value-F.Type t)

pub matches_const : (w : Word) → matching (value.Const w) ≡ is_single
unfolding matching member_match
matches_const w = ap matching (sym (value.rolls-Const w)) ∙ fold-roll-Value (Value → Bool) MemberMatch matching_of member_matching (Value-F.Const w)

pub matches_class : (n : List ℕ) → matching (value.Class n) ≡ is_single
unfolding matching member_match
matches_class n = ap matching (sym (value.rolls-Class n)) ∙ fold-roll-Value (Value → Bool) MemberMatch matching_of member_matching (Value-F.Class n)

pub matches_items : (vs : List Value) → matching (value.Items vs) ≡ list_matches (map matching vs)
unfolding matching member_match
matches_items vs = ap matching (sym (value.rolls-Items vs)) ∙ fold-roll-Value (Value → Bool) MemberMatch matching_of member_matching (Value-F.Items vs)

pub matches_own : matching (value.Own) ≡ is_single
unfolding matching member_match
matches_own = ap matching (sym value.rolls-Own) ∙ fold-roll-Value (Value → Bool) MemberMatch matching_of member_matching Value-F.Own

pub matches_new : (n : New) → matching (value.New n) ≡ is_single
unfolding matching member_match
matches_new n = ap matching (sym (value.rolls-New n)) ∙ fold-roll-Value (Value → Bool) MemberMatch matching_of member_matching (Value-F.New n)

pub matches_newinterface : (ms : List Member) → matching (value.NewInterface ms) ≡ is_single
unfolding matching member_match
matches_newinterface ms = ap matching (sym (value.rolls-NewInterface ms)) ∙ fold-roll-Value (Value → Bool) MemberMatch matching_of member_matching (Value-F.NewInterface ms)

pub matches_taken : (t : Taken) → matching (value.Taken t) ≡ is_single
unfolding matching member_match
matches_taken t = ap matching (sym (value.rolls-Taken t)) ∙ fold-roll-Value (Value → Bool) MemberMatch matching_of member_matching (Value-F.Taken t)

pub matches_interface : (ms : List Member) → matching (value.Interface ms) ≡ interface_matches (map member_match ms)
unfolding matching member_match
matches_interface ms = ap matching (sym (value.rolls-Interface ms)) ∙ fold-roll-Value (Value → Bool) MemberMatch matching_of member_matching (Value-F.Interface ms)

pub matches_term : (t : Term) → matching (value.Term t) ≡ is_single
unfolding matching member_match
matches_term t = ap matching (sym (value.rolls-Term t)) ∙ fold-roll-Value (Value → Bool) MemberMatch matching_of member_matching (Value-F.Term t)

pub matches_rule : (t u : Term) → matching (value.Rule t u) ≡ is_single
unfolding matching member_match
matches_rule t u = ap matching (sym (value.rolls-Rule t u)) ∙ fold-roll-Value (Value → Bool) MemberMatch matching_of member_matching (Value-F.Rule t u)

pub matches_member : (m : Member) → member_match m ≡ record { name = m.name; matches = matching m.value }
unfolding matching member_match
matches_member m = fold_out-Member (Value → Bool) MemberMatch matching_of member_matching m

pub matches_in : (others : List Member) (m : Member) → match_in others (member_match m) ≡ matches_named (matching m.value) (member_named others m.name)
unfolding match_in
matches_in others m = ap (λ (p : MemberMatch). matches_named p.matches (member_named others p.name)) (matches_member m)

pub ruleset forms = (matches_int, matches_type, matches_const, matches_class, matches_items, matches_own, matches_new, matches_newinterface, matches_taken, matches_interface, matches_term, matches_rule, matches_in)
