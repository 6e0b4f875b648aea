-- Each form of a value, as the component above sees it.
use Rattle.std.proofs.Common.{◌≡◌, ◌∙◌, ℕ, List, [], ◌∷◌, map, refl, sym, ap, ap₂}
use Rattle.std.specs.Prelude.{ℤ}
use Rattle.pm_bits.specs.Word.{Word}
use Rattle.pm_design.specs.declared.connection.Term.{Term}
use Rattle.pm_values.specs.declared.reference.ValueType.{ValueType}
use Rattle.pm_values.specs.declared.value.Member.{Member, fold-Member, fold_out-Member, roll-Member}
use Rattle.pm_values.specs.declared.value.New.{New}
use Rattle.pm_values.specs.declared.value.Taken.{Taken}
use Rattle.pm_values.specs.declared.value.Value.{Value, Value-F, fold-roll-Value}
use Rattle.pm_values.specs.declared.value.Value.TheVariants as value
use Rattle.pm_elab.specs.Views.{View, viewed, viewed_of, taken_viewed}
use Rattle.pm_names.specs.Views.{viewed_member}

fold_members : (view : View) (ms : List Member) → map (fold-Member Value Member (viewed_of view) roll-Member) ms ≡ map (viewed_member view) ms
unfolding viewed
fold_members view [] = refl
fold_members view (m ∷ ms) = ap₂ (λ (a : Member) (b : List Member). a ∷ b) (fold_out-Member Value Member (viewed_of view) roll-Member m) (fold_members view ms)

pub viewed_int : (view : View) (n : ℤ) → viewed view (value.Int n) ≡ value.Int n
unfolding viewed
viewed_int view n =
    ap (viewed view) (sym (value.rolls-Int n)) ∙ (fold-roll-Value Value Member (viewed_of view) roll-Member (Value-F.Int n) ∙ value.rolls-Int n)

pub viewed_type : (view : View) (t : ValueType) → viewed view (value.Type t) ≡ value.Type t
unfolding viewed
viewed_type view t =
    ap (viewed view) (sym (value.rolls-Type t)) ∙ (fold-roll-Value Value Member (viewed_of view) roll-Member (Value-F.Type t) ∙ value.rolls-Type t)

pub viewed_const : (view : View) (w : Word) → viewed view (value.Const w) ≡ value.Const w
unfolding viewed
viewed_const view w =
    ap (viewed view) (sym (value.rolls-Const w)) ∙ (fold-roll-Value Value Member (viewed_of view) roll-Member (Value-F.Const w) ∙ value.rolls-Const w)

pub viewed_class : (view : View) (n : List ℕ) → viewed view (value.Class n) ≡ value.Class n
unfolding viewed
viewed_class view n =
    ap (viewed view) (sym (value.rolls-Class n)) ∙ (fold-roll-Value Value Member (viewed_of view) roll-Member (Value-F.Class n) ∙ value.rolls-Class n)

pub viewed_items : (view : View) (vs : List Value) → viewed view (value.Items vs) ≡ value.Items (map (viewed view) vs)
unfolding viewed
viewed_items view vs =
    ap (viewed view) (sym (value.rolls-Items vs)) ∙ (fold-roll-Value Value Member (viewed_of view) roll-Member (Value-F.Items vs) ∙ value.rolls-Items _)

pub viewed_own : (view : View) → viewed view value.Own ≡ value.Own
unfolding viewed
viewed_own view =
    ap (viewed view) (sym value.rolls-Own) ∙ (fold-roll-Value Value Member (viewed_of view) roll-Member Value-F.Own ∙ value.rolls-Own)

pub viewed_new : (view : View) (n : New) → viewed view (value.New n) ≡ value.New n
unfolding viewed
viewed_new view n =
    ap (viewed view) (sym (value.rolls-New n)) ∙ (fold-roll-Value Value Member (viewed_of view) roll-Member (Value-F.New n) ∙ value.rolls-New n)

pub viewed_newinterface : (view : View) (ms : List Member) → viewed view (value.NewInterface ms) ≡ value.NewInterface (map (viewed_member view) ms)
unfolding viewed
viewed_newinterface view ms =
    ap (viewed view) (sym (value.rolls-NewInterface ms)) ∙ (fold-roll-Value Value Member (viewed_of view) roll-Member (Value-F.NewInterface ms) ∙ (value.rolls-NewInterface _ ∙ ap value.NewInterface (fold_members view ms)))

pub viewed_taken : (view : View) (t : Taken) → viewed view (value.Taken t) ≡ value.Taken (taken_viewed view t)
unfolding viewed
viewed_taken view t =
    ap (viewed view) (sym (value.rolls-Taken t)) ∙ fold-roll-Value Value Member (viewed_of view) roll-Member (Value-F.Taken t)

pub viewed_interface : (view : View) (ms : List Member) → viewed view (value.Interface ms) ≡ value.Interface (map (viewed_member view) ms)
unfolding viewed
viewed_interface view ms =
    ap (viewed view) (sym (value.rolls-Interface ms)) ∙ (fold-roll-Value Value Member (viewed_of view) roll-Member (Value-F.Interface ms) ∙ (value.rolls-Interface _ ∙ ap value.Interface (fold_members view ms)))

pub viewed_term : (view : View) (t : Term) → viewed view (value.Term t) ≡ value.Term t
unfolding viewed
viewed_term view t =
    ap (viewed view) (sym (value.rolls-Term t)) ∙ (fold-roll-Value Value Member (viewed_of view) roll-Member (Value-F.Term t) ∙ value.rolls-Term t)

pub viewed_rule : (view : View) (t u : Term) → viewed view (value.Rule t u) ≡ value.Rule t u
unfolding viewed
viewed_rule view t u =
    ap (viewed view) (sym (value.rolls-Rule t u)) ∙ (fold-roll-Value Value Member (viewed_of view) roll-Member (Value-F.Rule t u) ∙ value.rolls-Rule t u)

pub ruleset forms = (viewed_int, viewed_type, viewed_const, viewed_class, viewed_items, viewed_own, viewed_new, viewed_newinterface, viewed_taken, viewed_interface, viewed_term, viewed_rule)
