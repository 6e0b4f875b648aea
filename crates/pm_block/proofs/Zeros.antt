-- Values at first.
use std.Path.{fun_ext}
use Rattle.std.proofs.Common.{◌≡◌, ◌∙◌, ◌+◌, ◌<◌, ◌==◌, ℕ, zero, suc, Bool, true, false, List, [], ◌∷◌, ◌++◌, length, drop, replicate, map, nat_lt, ap, refl, sym, ltb-true}
use Rattle.std.specs.Prelude.{IsTrue, if◌then◌else◌, slice_index_or}
use Rattle.std.specs.List.{list_all}
use Rattle.std.proofs.lemmas.Bool.{and_from}
use Rattle.std.proofs.lemmas.List.{append_assoc}
use Rattle.pm_design.specs.declared.design.Design.{Design}
use Rattle.pm_design.specs.declared.design.State.{State}
use Rattle.pm_design.specs.declared.plan.Instance.{Instance}
use Rattle.pm_design.specs.declared.plan.Plan.{Plan}
use Rattle.pm_design.specs.Lookups.{kind_of}
use Rattle.pm_design.specs.Runnable.{IsRunnable}
use Rattle.pm_block.specs.First.{held_at_first, held_first, no_values}
use Rattle.pm_block.specs.Places.{Held, is_tidy}
use Rattle.pm_block.specs.Stored.{at_of}
use Rattle.pm_block.specs.Value.{zero_word}
use Rattle.pm_design.proofs.Elements.{element_passes}
use Rattle.pm_block.proofs.Firsts.{drop_at}

none_set : (n i : ℕ) → slice_index_or (replicate n false) i false ≡ false
none_set zero i = refl
none_set (suc n) zero = refl
none_set (suc n) (suc i) = none_set n i

at_zeros : (n : ℕ) → at_of (replicate n false) ≡ no_values
at_zeros n = fun_ext (λ i. ap (λ (b : Bool). if b then 1 else 0) (none_set n i))

-- bits that are all 0
pub zeros_at : (bits : List Bool) (n : ℕ) → bits ≡ replicate n false → at_of bits ≡ no_values
zeros_at bits n all = ap at_of all ∙ at_zeros n

-- each flat bit's net is there
pub nets_are_there : (plan : Plan) (i : ℕ) → IsRunnable plan → i < length plan.nets.net_of → slice_index_or plan.nets.net_of i 0 < plan.nets.count
nets_are_there plan i runnable lt = ltb-true _ _ (element_passes (λ (n : ℕ). nat_lt n plan.nets.count) plan.nets.net_of i 0 runnable.nets_there lt)

zeros_are_zero : (n width : ℕ) → list_all (λ w. w.value == 0) (replicate n (zero_word width)) ≡ true
zeros_are_zero zero width = refl
zeros_are_zero (suc n) width = zeros_are_zero n width

is_clear : Held → Bool
is_clear held = list_all (λ w. w.value == 0) (drop held.count held.slots)

number_at_first : State → Held
number_at_first state = record { count = 1; slots = state.start ∷ [] }

deque_at_first : State → Held
deque_at_first state = record { count = 0; slots = replicate state.maxlen (zero_word state.width) }

first_is_clear : (state : State) → is_clear (held_first state) ≡ true
unfolding is_clear number_at_first deque_at_first
first_is_clear state = by (state.maxlen == 0)
  where
    by : (b : Bool) → is_clear (if b then number_at_first state else deque_at_first state) ≡ true
    by true = refl
    by false = zeros_are_zero state.maxlen state.width

all_clear : (states : List State) (rest : List Held) → list_all is_clear rest ≡ true → list_all is_clear (map held_first states ++ rest) ≡ true
all_clear [] rest clear = clear
all_clear (s ∷ ss) rest clear = and_from (is_clear (held_first s)) (list_all is_clear (map held_first ss ++ rest)) (first_is_clear s) (all_clear ss rest clear)

all_tidy : (design : Design) (xs : List Instance) → list_all is_clear (held_at_first design xs) ≡ true
all_tidy design [] = refl
all_tidy design (x ∷ xs) = all_clear (kind_of design x.kind).states (held_at_first design xs) (all_tidy design xs)

-- what is held at first is tidy
pub first_is_tidy : (design : Design) (xs : List Instance) → IsTrue (is_tidy (held_at_first design xs))
unfolding is_clear
first_is_tidy design xs = all_tidy design xs

-- one more copy
pub one_more_copy : (list objects : List Held) (i : ℕ) (x : Held) → i < length objects → x ≡ slice_index_or objects i x → list ++ drop i objects ≡ (list ++ x ∷ []) ++ drop (i + 1) objects
one_more_copy list objects i x lt is =
    let split : drop i objects ≡ x ∷ drop (i + 1) objects = drop_at objects i x lt ∙ ap (λ (y : Held). y ∷ drop (i + 1) objects) (sym is) in
    ap (λ (hs : List Held). list ++ hs) split ∙ sym (append_assoc list (x ∷ []) (drop (i + 1) objects))
