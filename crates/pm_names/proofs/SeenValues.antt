-- Each form of a member's value, as its interface's own `construct` sees it.
use Rattle.std.proofs.Common.{◌≡◌, ◌∙◌, ℕ, List, [], ◌∷◌, map, refl, sym, ap, ap₂}
use Rattle.std.specs.Prelude.{ℤ}
use Rattle.pm_bits.specs.Word.{Word}
use Rattle.pm_design.specs.declared.connection.Term.{Term}
use Rattle.pm_values.specs.declared.reference.ValueType.{ValueType}
use Rattle.pm_values.specs.declared.value.Member.{Member, fold-Member, fold_out-Member, roll-Member}
use Rattle.pm_values.specs.declared.value.New.{New}
use Rattle.pm_values.specs.declared.value.Taken.{Taken}
use Rattle.pm_values.specs.declared.value.Value.{Value, Value-F, fold-roll-Value}
use Rattle.pm_values.specs.declared.value.Value.TheVariants as value
use Rattle.pm_elab.specs.Views.{member_seen, member_seen_of, new_seen}
use Rattle.pm_names.specs.Views.{seen_member}

fold_members : (ms : List Member) → map (fold-Member Value Member member_seen_of roll-Member) ms ≡ map seen_member ms
unfolding member_seen
fold_members [] = refl
fold_members (m ∷ ms) = ap₂ (λ (a : Member) (b : List Member). a ∷ b) (fold_out-Member Value Member member_seen_of roll-Member m) (fold_members ms)

pub seen_int : (n : ℤ) → member_seen (value.Int n) ≡ value.Int n
unfolding member_seen
seen_int n =
    ap member_seen (sym (value.rolls-Int n)) ∙ (fold-roll-Value Value Member member_seen_of roll-Member (Value-F.Int n) ∙ value.rolls-Int n)

pub seen_type : (t : ValueType) → member_seen (value.Type t) ≡ value.Type t
unfolding member_seen
seen_type t =
    ap member_seen (sym (value.rolls-Type t)) ∙ (fold-roll-Value Value Member member_seen_of roll-Member (Value-F.Type t) ∙ value.rolls-Type t)

pub seen_const : (w : Word) → member_seen (value.Const w) ≡ value.Const w
unfolding member_seen
seen_const w =
    ap member_seen (sym (value.rolls-Const w)) ∙ (fold-roll-Value Value Member member_seen_of roll-Member (Value-F.Const w) ∙ value.rolls-Const w)

pub seen_class : (n : List ℕ) → member_seen (value.Class n) ≡ value.Class n
unfolding member_seen
seen_class n =
    ap member_seen (sym (value.rolls-Class n)) ∙ (fold-roll-Value Value Member member_seen_of roll-Member (Value-F.Class n) ∙ value.rolls-Class n)

pub seen_items : (vs : List Value) → member_seen (value.Items vs) ≡ value.Items (map member_seen vs)
unfolding member_seen
seen_items vs =
    ap member_seen (sym (value.rolls-Items vs)) ∙ (fold-roll-Value Value Member member_seen_of roll-Member (Value-F.Items vs) ∙ value.rolls-Items _)

pub seen_own : member_seen value.Own ≡ value.Own
unfolding member_seen
seen_own =
    ap member_seen (sym value.rolls-Own) ∙ (fold-roll-Value Value Member member_seen_of roll-Member Value-F.Own ∙ value.rolls-Own)

pub seen_new : (n : New) → member_seen (value.New n) ≡ new_seen n
unfolding member_seen
seen_new n =
    ap member_seen (sym (value.rolls-New n)) ∙ fold-roll-Value Value Member member_seen_of roll-Member (Value-F.New n)

pub seen_newinterface : (ms : List Member) → member_seen (value.NewInterface ms) ≡ value.Interface (map seen_member ms)
unfolding member_seen
seen_newinterface ms =
    ap member_seen (sym (value.rolls-NewInterface ms)) ∙ (fold-roll-Value Value Member member_seen_of roll-Member (Value-F.NewInterface ms) ∙ ap value.Interface (fold_members ms))

pub seen_taken : (t : Taken) → member_seen (value.Taken t) ≡ value.Taken t
unfolding member_seen
seen_taken t =
    ap member_seen (sym (value.rolls-Taken t)) ∙ (fold-roll-Value Value Member member_seen_of roll-Member (Value-F.Taken t) ∙ value.rolls-Taken t)

pub seen_interface : (ms : List Member) → member_seen (value.Interface ms) ≡ value.Interface (map seen_member ms)
unfolding member_seen
seen_interface ms =
    ap member_seen (sym (value.rolls-Interface ms)) ∙ (fold-roll-Value Value Member member_seen_of roll-Member (Value-F.Interface ms) ∙ (value.rolls-Interface _ ∙ ap value.Interface (fold_members ms)))

pub seen_term : (t : Term) → member_seen (value.Term t) ≡ value.Term t
unfolding member_seen
seen_term t =
    ap member_seen (sym (value.rolls-Term t)) ∙ (fold-roll-Value Value Member member_seen_of roll-Member (Value-F.Term t) ∙ value.rolls-Term t)

pub seen_rule : (t u : Term) → member_seen (value.Rule t u) ≡ value.Rule t u
unfolding member_seen
seen_rule t u =
    ap member_seen (sym (value.rolls-Rule t u)) ∙ (fold-roll-Value Value Member member_seen_of roll-Member (Value-F.Rule t u) ∙ value.rolls-Rule t u)

pub ruleset forms = (seen_int, seen_type, seen_const, seen_class, seen_items, seen_own, seen_new, seen_newinterface, seen_taken, seen_interface, seen_term, seen_rule)
