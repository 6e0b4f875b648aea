-- What connecting a value does, at each form of it.
use Rattle.std.proofs.Common.{◌≡◌, ◌∙◌, ℕ, List, map, sym, ap}
use Rattle.std.specs.Prelude.{ℤ, Err}
use Rattle.pm_bits.specs.Word.{Word}
use Rattle.pm_design.specs.declared.connection.Callee.{Callee}
use Rattle.pm_design.specs.declared.connection.Term.{Term}
use Rattle.pm_values.specs.declared.fault.BuildFault.TheVariants.{WrongKind}
use Rattle.pm_values.specs.declared.reference.Reference.{Reference}
use Rattle.pm_values.specs.declared.reference.ValueType.{ValueType}
use Rattle.pm_values.specs.declared.value.Member.{Member, fold_out-Member}
use Rattle.pm_values.specs.declared.value.New.{New}
use Rattle.pm_values.specs.declared.value.Taken.TheVariants as taken
use Rattle.pm_values.specs.declared.value.Value.{Value, Value-F, fold-roll-Value}
use Rattle.pm_values.specs.declared.value.Value.TheVariants as value
use Rattle.pm_elab.specs.declared.elaboration.MadeKind.{MadeKind}
use Rattle.pm_elab.specs.declared.frame.Frame.{Frame}
use Rattle.pm_elab.specs.Attributes.{member_named}
use Rattle.pm_elab.specs.Connections.{Joining, MemberJoining, join_member, named_joining, joining_of, member_joining, join_interface, join_list, join_int, join_in, join_named, signal_end, constant_end, method_end}

-- what connecting one of these does
abbrev pub wrong : Joining
wrong kinds v line f = Err (WrongKind line)

pub joins_int : (n : ℤ) → join_member (value.Int n) ≡ join_int n
unfolding join_member named_joining
joins_int n = ap join_member (sym (value.rolls-Int n)) ∙ fold-roll-Value Joining MemberJoining joining_of member_joining (Value-F.Int n)

pub joins_type : (t : ValueType) → join_member (value.Type t) ≡ wrong
unfolding join_member named_joining
joins_type t = ap join_member (sym (value.rolls-Type t)) ∙ fold-roll-Value Joining MemberJoining joining_of member_joining (Value-F.Type t)

pub joins_const : (w : Word) → join_member (value.Const w) ≡ (λ kinds v line f. constant_end w v line f)
unfolding join_member named_joining
joins_const w = ap join_member (sym (value.rolls-Const w)) ∙ fold-roll-Value Joining MemberJoining joining_of member_joining (Value-F.Const w)

pub joins_class : (n : List ℕ) → join_member (value.Class n) ≡ wrong
unfolding join_member named_joining
joins_class n = ap join_member (sym (value.rolls-Class n)) ∙ fold-roll-Value Joining MemberJoining joining_of member_joining (Value-F.Class n)

pub joins_items : (vs : List Value) → join_member (value.Items vs) ≡ join_list (map join_member vs)
unfolding join_member named_joining
joins_items vs = ap join_member (sym (value.rolls-Items vs)) ∙ fold-roll-Value Joining MemberJoining joining_of member_joining (Value-F.Items vs)

pub joins_own : join_member (value.Own) ≡ wrong
unfolding join_member named_joining
joins_own = ap join_member (sym value.rolls-Own) ∙ fold-roll-Value Joining MemberJoining joining_of member_joining Value-F.Own

pub joins_new : (n : New) → join_member (value.New n) ≡ wrong
unfolding join_member named_joining
joins_new n = ap join_member (sym (value.rolls-New n)) ∙ fold-roll-Value Joining MemberJoining joining_of member_joining (Value-F.New n)

pub joins_newinterface : (ms : List Member) → join_member (value.NewInterface ms) ≡ wrong
unfolding join_member named_joining
joins_newinterface ms = ap join_member (sym (value.rolls-NewInterface ms)) ∙ fold-roll-Value Joining MemberJoining joining_of member_joining (Value-F.NewInterface ms)

pub joins_interface : (ms : List Member) → join_member (value.Interface ms) ≡ join_interface (map named_joining ms)
unfolding join_member named_joining
joins_interface ms = ap join_member (sym (value.rolls-Interface ms)) ∙ fold-roll-Value Joining MemberJoining joining_of member_joining (Value-F.Interface ms)

pub joins_term : (t : Term) → join_member (value.Term t) ≡ wrong
unfolding join_member named_joining
joins_term t = ap join_member (sym (value.rolls-Term t)) ∙ fold-roll-Value Joining MemberJoining joining_of member_joining (Value-F.Term t)

pub joins_rule : (t u : Term) → join_member (value.Rule t u) ≡ wrong
unfolding join_member named_joining
joins_rule t u = ap join_member (sym (value.rolls-Rule t u)) ∙ fold-roll-Value Joining MemberJoining joining_of member_joining (Value-F.Rule t u)

pub joins_taken_signal : (r : Reference) → join_member (value.Taken (taken.Signal r)) ≡ (λ kinds v line f. signal_end r v line f)
unfolding join_member named_joining
joins_taken_signal r = ap join_member (sym (value.rolls-Taken (taken.Signal r))) ∙ fold-roll-Value Joining MemberJoining joining_of member_joining (Value-F.Taken (taken.Signal r))

pub joins_taken_child : (k : ℕ) → join_member (value.Taken (taken.Child k)) ≡ wrong
unfolding join_member named_joining
joins_taken_child k = ap join_member (sym (value.rolls-Taken (taken.Child k))) ∙ fold-roll-Value Joining MemberJoining joining_of member_joining (Value-F.Taken (taken.Child k))

pub joins_taken_state : (k : ℕ) → join_member (value.Taken (taken.State k)) ≡ wrong
unfolding join_member named_joining
joins_taken_state k = ap join_member (sym (value.rolls-Taken (taken.State k))) ∙ fold-roll-Value Joining MemberJoining joining_of member_joining (Value-F.Taken (taken.State k))

pub joins_taken_method : (c : Callee) → join_member (value.Taken (taken.Method c)) ≡ (λ kinds v line f. method_end kinds c v line f)
unfolding join_member named_joining
joins_taken_method c = ap join_member (sym (value.rolls-Taken (taken.Method c))) ∙ fold-roll-Value Joining MemberJoining joining_of member_joining (Value-F.Taken (taken.Method c))

pub joins_taken_descendant : (k : ℕ) → join_member (value.Taken (taken.Descendant k)) ≡ wrong
unfolding join_member named_joining
joins_taken_descendant k = ap join_member (sym (value.rolls-Taken (taken.Descendant k))) ∙ fold-roll-Value Joining MemberJoining joining_of member_joining (Value-F.Taken (taken.Descendant k))

pub joins_taken_farsignal : (r : Reference) → join_member (value.Taken (taken.FarSignal r)) ≡ wrong
unfolding join_member named_joining
joins_taken_farsignal r = ap join_member (sym (value.rolls-Taken (taken.FarSignal r))) ∙ fold-roll-Value Joining MemberJoining joining_of member_joining (Value-F.Taken (taken.FarSignal r))

pub joins_taken_farstate : join_member (value.Taken taken.FarState) ≡ wrong
unfolding join_member named_joining
joins_taken_farstate = ap join_member (sym (value.rolls-Taken taken.FarState)) ∙ fold-roll-Value Joining MemberJoining joining_of member_joining (Value-F.Taken taken.FarState)

pub joins_taken_farmethod : join_member (value.Taken taken.FarMethod) ≡ wrong
unfolding join_member named_joining
joins_taken_farmethod = ap join_member (sym (value.rolls-Taken taken.FarMethod)) ∙ fold-roll-Value Joining MemberJoining joining_of member_joining (Value-F.Taken taken.FarMethod)

joins_member : (m : Member) → named_joining m ≡ record { name = m.name; joins = join_member m.value }
unfolding join_member named_joining
joins_member m = fold_out-Member Joining MemberJoining joining_of member_joining m

pub joins_in : (m : Member) (kinds : List MadeKind) (others : List Member) (line : ℕ) (f : Frame)
    → join_in (named_joining m) kinds others line f ≡ join_named (join_member m.value) kinds (member_named others m.name) line f
unfolding join_in
joins_in m kinds others line f = ap (λ (p : MemberJoining). join_named p.joins kinds (member_named others p.name) line f) (joins_member m)

pub ruleset forms = (joins_int, joins_type, joins_const, joins_class, joins_items, joins_own, joins_new, joins_newinterface, joins_interface, joins_term, joins_rule, joins_taken_signal, joins_taken_child, joins_taken_state, joins_taken_method, joins_taken_descendant, joins_taken_farsignal, joins_taken_farstate, joins_taken_farmethod, joins_in)
