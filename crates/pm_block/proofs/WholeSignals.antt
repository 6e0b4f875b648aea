-- The flat bits of whole signals.
use Rattle.std.proofs.Common.{◌≡◌, ◌+◌, ◌<◌, ◌≤◌, ◌^◌, ◌⊎◌, inl, inr, ℕ, zero, suc, List, [], ◌∷◌, ◌++◌, Bool, length, codes, arith, refl, sym, subst, leb-true, nat_lt, nat_le}
use Rattle.std.specs.Prelude.{IsTrue, slice_index_or, None}
use Rattle.std.specs.List.{list_all, list_any}
use Rattle.std.proofs.lemmas.Bool.{and_parts, and_from, or_left, or_right, lt-ltb, le-leb, cases_lt}
use Rattle.std.proofs.lemmas.List.{get_or_past}
use Rattle.pm_design.specs.declared.design.Kind.{Kind}
use Rattle.pm_design.specs.declared.design.Design.{Design}
use Rattle.pm_design.specs.declared.plan.FlatPart.{FlatPart}
use Rattle.pm_design.specs.declared.plan.Instance.{Instance}
use Rattle.pm_design.specs.declared.plan.Plan.{Plan}
use Rattle.pm_design.specs.declared.signal.Signal.{Signal}
use Rattle.pm_design.specs.Elaborated.{IsElaborated, is_good_signal, is_shape_or_none}
use Rattle.pm_design.specs.Instances.{instances_at}
use Rattle.pm_design.specs.Layout.{Layout, is_part, is_within, layout_of, signals_from, signals_of}
use Rattle.pm_design.specs.Lookups.{kind_of, no_kind, no_signal}
use Rattle.pm_design.specs.Ports.{top_signal, top_signals}
use Rattle.pm_design.specs.Runnable.{IsRunnable}
use Rattle.pm_design.specs.Widths.{is_width}
use Rattle.pm_design.proofs.Elements.{element_passes}
use Rattle.pm_block.specs.Signals.{signal_part}

widths_from : (design : Design) (bit : ℕ) (ss : List Signal) → IsTrue (list_all (is_good_signal design) ss) → IsTrue (list_all (λ p. is_width p.width) (signals_from bit ss))
widths_from design bit [] all = refl
widths_from design bit (s ∷ ss) all =
    let parts = and_parts (is_good_signal design s) (list_all (is_good_signal design) ss) all in
    and_from (is_width s.width) (list_all (λ p. is_width p.width) (signals_from (bit + s.width) ss))
    (and_parts (is_width s.width) (is_shape_or_none design s.shape) parts.0).0 (widths_from design (bit + s.width) ss parts.1)

all_both : (test : FlatPart → Bool) (xs ys : List FlatPart) → IsTrue (list_all test xs) → IsTrue (list_all test ys) → IsTrue (list_all test (xs ++ ys))
all_both test [] ys first second = second
all_both test (x ∷ xs) ys first second =
    let parts = and_parts (test x) (list_all test xs) first in
    and_from (test x) (list_all test (xs ++ ys)) parts.0 (all_both test xs ys parts.1 second)

kind_is_good : (design : Design) (k : ℕ) → IsElaborated design → IsTrue (list_all (is_good_signal design) (kind_of design k).signals)
kind_is_good design k elaborated = by (cases_lt k (length design.kinds))
  where
    by : (k < length design.kinds) ⊎ (length design.kinds ≤ k) → IsTrue (list_all (is_good_signal design) (kind_of design k).signals)
    by (inl lt) = (elaborated.kinds k lt).signals
    by (inr past) = subst (λ (kind : Kind). IsTrue (list_all (is_good_signal design) kind.signals)) (sym (get_or_past design.kinds k no_kind past)) refl

all_have_widths : (design : Design) (is : List Instance) → IsElaborated design → IsTrue (list_all (λ p. is_width p.width) (signals_of design is))
all_have_widths design [] elaborated = refl
all_have_widths design (i ∷ is) elaborated =
    all_both (λ p. is_width p.width) (signals_from i.first_bit (kind_of design i.kind).signals) (signals_of design is)
    (widths_from design i.first_bit (kind_of design i.kind).signals (kind_is_good design i.kind elaborated))
    (all_have_widths design is elaborated)

any_at : (test : FlatPart → Bool) (xs : List FlatPart) (i : ℕ) (d : FlatPart) → i < length xs → IsTrue (test (slice_index_or xs i d)) → IsTrue (list_any test xs)
any_at test [] i d lt holds = absurd (omega (arith, lt))
any_at test (x ∷ xs) zero d lt holds = or_left (test x) (list_any test xs) holds
any_at test (x ∷ xs) (suc i) d lt holds = or_right (test x) (list_any test xs) (any_at test xs i d (omega (arith, lt)) holds)

within_itself : (p : FlatPart) → IsTrue (is_within p p)
within_itself p = and_from (nat_le p.bit p.bit) (nat_le (p.bit + p.width) (p.bit + p.width)) (le-leb p.bit p.bit (omega arith)) (le-leb (p.bit + p.width) (p.bit + p.width) (omega arith))

-- the flat bits of a signal are a part
pub signal_is_part : (plan : Plan) (n : ℕ) → IsRunnable plan → n < length (layout_of plan).signals → IsTrue (is_part (layout_of plan) (signal_part (layout_of plan) n))
signal_is_part plan n runnable lt =
    and_from (is_width p.width) _ (element_passes (λ q. is_width q.width) layout.signals n none (all_have_widths plan.design plan.instances runnable.sound.elaborated) lt)
    (and_from (nat_lt (p.bit + p.width) (2 ^ 32)) _ (lt-ltb (p.bit + p.width) (2 ^ 32) (omega (arith, ends, runnable.nets, runnable.few_bits)))
    (and_from (nat_le (p.bit + p.width) (length layout.net_of)) _ (le-leb (p.bit + p.width) (length layout.net_of) ends)
    (any_at (is_within p) layout.signals n none lt (within_itself p))))
  where
    layout : Layout
    layout = layout_of plan

    none : FlatPart
    none = record { bit = 0; width = 0 }

    p : FlatPart
    p = signal_part (layout_of plan) n

    ends : (signal_part (layout_of plan) n).bit + (signal_part (layout_of plan) n).width ≤ length plan.nets.net_of
    ends = leb-true _ _ (element_passes (λ s. nat_le (s.bit + s.width) (length plan.nets.net_of)) (layout_of plan).signals n (record { bit = 0; width = 0 }) runnable.signals_there lt)

width_at : (bit : ℕ) (ss : List Signal) (rest : List FlatPart) (n : ℕ) → n < length ss → (slice_index_or (signals_from bit ss ++ rest) n (record { bit = 0; width = 0 })).width ≡ (slice_index_or ss n no_signal).width
width_at bit [] rest n lt = absurd (omega (arith, lt))
width_at bit (s ∷ ss) rest zero lt = refl
width_at bit (s ∷ ss) rest (suc n) lt = width_at (bit + s.width) ss rest n (omega (arith, lt))

within_both : (bit : ℕ) (ss : List Signal) (rest : List FlatPart) (n : ℕ) → n < length ss → n < length (signals_from bit ss ++ rest)
within_both bit [] rest n lt = absurd (omega (arith, lt))
within_both bit (s ∷ ss) rest zero lt = omega arith
within_both bit (s ∷ ss) rest (suc n) lt = omega (arith, within_both (bit + s.width) ss rest n (omega (arith, lt)))

IsOfTop : Design → ℕ → List Instance → Type 0
IsOfTop design n is =
    (n < length (signals_of design is))
    × ((slice_index_or (signals_of design is) n (record { bit = 0; width = 0 })).width ≡ (slice_index_or (kind_of design design.top).signals n no_signal).width)

of_top : (design : Design) (levels n : ℕ) → 0 < levels → n < length (kind_of design design.top).signals → IsOfTop design n (instances_at levels design None (codes "s") (record { instance = 0; bit = 0; state = 0 }) design.top)
unfolding IsOfTop
of_top design zero n some lt = absurd (omega (arith, some))
of_top design (suc levels) n some lt = (within_both 0 (kind_of design design.top).signals _ n lt, width_at 0 (kind_of design design.top).signals _ n lt)

-- a signal of the top has its number among all signals, and its width
pub top_signal_is : (plan : Plan) (n : ℕ) → IsRunnable plan → n < length (top_signals plan) → (n < length (layout_of plan).signals) × ((signal_part (layout_of plan) n).width ≡ (top_signal plan n).width)
unfolding IsOfTop
top_signal_is plan n runnable lt =
    subst (IsOfTop plan.design n) (sym runnable.instances) (of_top plan.design (length plan.design.kinds) n (omega (arith, runnable.sound.elaborated.top)) lt)
