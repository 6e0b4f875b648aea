-- What is made of each instance in turn.
use Rattle.std.proofs.Common.{◌≡◌, ◌∙◌, ◌+◌, ◌<◌, ℕ, zero, suc, List, [], ◌∷◌, ◌++◌, length, drop, arith, ap, refl, subst, sym, add-one, map, ap₂, nat_lt, Bool, true, false, ◌&&◌, ltb-true}
use Rattle.std.specs.Prelude.{IsTrue, slice_index_or, Option, None, Some}
use Rattle.std.specs.List.{list_all}
use Rattle.std.proofs.lemmas.Bool.{ltb-false}
use Rattle.pm_bits.specs.Word.{Word}
use Rattle.pm_design.specs.declared.connection.Tie.{Tie}
use Rattle.pm_design.specs.declared.design.Kind.{Kind}
use Rattle.pm_design.specs.declared.design.State.{State}
use Rattle.pm_design.specs.Elaborated.{IsElaborated, is_good_state}
use Rattle.pm_design.specs.Runnable.{IsRunnable, is_tied_well, ties_well}
use Rattle.pm_block.specs.First.{held_at_first, held_first, is_tied_at, put_tied, tied_from, tied_in}
use Rattle.pm_block.specs.Places.{Held, Valuation}
use Rattle.pm_block.proofs.Tabled.{past}
use Rattle.std.proofs.lemmas.List.{append_assoc}
use Rattle.pm_design.specs.declared.design.Design.{Design}
use Rattle.pm_design.specs.declared.plan.FlatPart.{FlatPart}
use Rattle.pm_design.specs.declared.plan.Instance.{Instance}
use Rattle.pm_design.specs.declared.plan.Plan.{Plan}
use Rattle.pm_design.specs.Layout.{Layout, instance_of, layout_of, no_instance, scope_of, signals_from, signals_of}
use Rattle.pm_design.specs.Lookups.{kind_of, no_kind}

-- the elements from one on
pub drop_at : {X : Type 0} (xs : List X) (i : ℕ) (d : X) → i < length xs → drop i xs ≡ slice_index_or xs i d ∷ drop (i + 1) xs
drop_at [] i d lt = absurd (omega arith)
drop_at (x ∷ xs) zero d lt = refl
drop_at (x ∷ xs) (suc i) d lt = rw (add-one) (rw (add-one) at (drop_at xs i d (omega arith)))

-- the instances from one on
pub instances_from : (plan : Plan) (i : ℕ) → i < length plan.instances → drop i plan.instances ≡ instance_of plan i ∷ drop (i + 1) plan.instances
instances_from plan i lt = drop_at plan.instances i (no_instance plan) lt

-- the signals of one more instance
pub one_more_signals : (plan : Plan) (list : List FlatPart) (i : ℕ) → i < length plan.instances
    → list ++ signals_of plan.design (drop i plan.instances) ≡ (list ++ signals_from (instance_of plan i).first_bit (kind_of plan.design (instance_of plan i).kind).signals) ++ signals_of plan.design (drop (i + 1) plan.instances)
one_more_signals plan list i lt =
    ap (λ (xs : List Instance). list ++ signals_of plan.design xs) (instances_from plan i lt)
    ∙ sym (append_assoc list (signals_from (instance_of plan i).first_bit (kind_of plan.design (instance_of plan i).kind).signals) (signals_of plan.design (drop (i + 1) plan.instances)))

-- what is held of one more state
pub one_more_held : (list : List Held) (states : List State) (i : ℕ) (x : State) → i < length states → x ≡ slice_index_or states i x → list ++ map held_first (drop i states) ≡ (list ++ held_first x ∷ []) ++ map held_first (drop (i + 1) states)
one_more_held list states i x lt is =
    let split : drop i states ≡ x ∷ drop (i + 1) states = drop_at states i x lt ∙ ap (λ (y : State). y ∷ drop (i + 1) states) (sym is) in
    ap (λ (xs : List State). list ++ map held_first xs) split ∙ sym (append_assoc list (held_first x ∷ []) (map held_first (drop (i + 1) states)))

-- what is held of the states of one more instance
pub one_more_states : (plan : Plan) (list : List Held) (i : ℕ) → i < length plan.instances
    → list ++ held_at_first plan.design (drop i plan.instances) ≡ (list ++ map held_first (kind_of plan.design (instance_of plan i).kind).states) ++ held_at_first plan.design (drop (i + 1) plan.instances)
one_more_states plan list i lt =
    ap (λ (xs : List Instance). list ++ held_at_first plan.design xs) (instances_from plan i lt)
    ∙ sym (append_assoc list (map held_first (kind_of plan.design (instance_of plan i).kind).states) (held_at_first plan.design (drop (i + 1) plan.instances)))

good_states : (design : Design) (k : ℕ) → IsElaborated design → IsTrue (list_all is_good_state (kind_of design k).states)
good_states design k elaborated = by (nat_lt k (length design.kinds)) refl
  where
    by : (b : Bool) → nat_lt k (length design.kinds) ≡ b → IsTrue (list_all is_good_state (kind_of design k).states)
    by true e = (elaborated.kinds k (ltb-true _ _ e)).states
    by false e = subst (λ (x : Kind). IsTrue (list_all is_good_state x.states)) (sym (past design.kinds k no_kind (ltb-false _ _ e))) refl

-- the states of an instance are good
pub states_are_good : (plan : Plan) (i : ℕ) → IsRunnable plan → IsTrue (list_all is_good_state (kind_of plan.design (instance_of plan i).kind).states)
states_are_good plan i runnable = good_states plan.design (instance_of plan i).kind runnable.sound.elaborated

-- one more tie
pub one_more_tie : (scope : List (List ℕ)) (layout : Layout) (ties : List Tie) (i : ℕ) (t : Tie) (v : Valuation) → i < length ties → t ≡ slice_index_or ties i t → tied_in scope layout (drop i ties) v ≡ tied_in scope layout (drop (i + 1) ties) (put_tied scope layout t t.value v)
one_more_tie scope layout ties i t v lt is =
    let split : drop i ties ≡ t ∷ drop (i + 1) ties = drop_at ties i t lt ∙ ap (λ (y : Tie). y ∷ drop (i + 1) ties) (sym is) in
    ap (λ (ts : List Tie). tied_in scope layout ts v) split

-- the ties of one more instance
pub one_more_ties : (plan : Plan) (i : ℕ) (v : Valuation) → i < length plan.instances → tied_from plan i (drop i plan.instances) v ≡ tied_from plan (i + 1) (drop (i + 1) plan.instances) (tied_in (scope_of plan i) (layout_of plan) (kind_of plan.design (instance_of plan i).kind).ties v)
one_more_ties plan i v lt = ap (λ (xs : List Instance). tied_from plan i xs v) (instances_from plan i lt)

same_test : (plan : Plan) (i : ℕ) (t : Tie) (o : Option Word) → is_tied_well plan i t o ≡ is_tied_at (scope_of plan i) (layout_of plan) t o
same_test plan i t None = refl
same_test plan i t (Some w) = refl

same_tests : (plan : Plan) (i : ℕ) (ts : List Tie) → list_all (ties_well plan i) ts ≡ list_all (λ t. is_tied_at (scope_of plan i) (layout_of plan) t t.value) ts
same_tests plan i [] = refl
same_tests plan i (t ∷ ts) = ap₂ (λ (a : Bool) (b : Bool). a && b) (same_test plan i t t.value) (same_tests plan i ts)

-- the ties of an instance are good
pub ties_are_good : (plan : Plan) (i : ℕ) → IsRunnable plan → i < length plan.instances → IsTrue (list_all (λ t. is_tied_at (scope_of plan i) (layout_of plan) t t.value) (kind_of plan.design (instance_of plan i).kind).ties)
ties_are_good plan i runnable lt = sym (same_tests plan i (kind_of plan.design (instance_of plan i).kind).ties) ∙ runnable.ties i lt
