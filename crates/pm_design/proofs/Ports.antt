-- A runnable plan has its ports.
use Rattle.std.proofs.Common.{◌≡◌, ◌∙◌, ◌+◌, ◌<◌, ◌≤◌, ◌^◌, ◌==◌, ◌&&◌, ap, map, ℕ, List, [], ◌∷◌, Bool, true, false, length, arith, refl, sym, subst}
use Rattle.std.specs.Prelude.{IsTrue, nat_lt, not, if◌then◌else◌}
use Rattle.std.specs.List.{list_all}
use Rattle.std.proofs.lemmas.Bool.{and_parts, and_from, lt-ltb}
use Rattle.pm_design.specs.declared.plan.Plan.{Plan}
use Rattle.pm_design.specs.declared.signal.Signal.{Signal}
use Rattle.pm_design.specs.Elaborated.{is_good_signal, is_shape_or_none}
use Rattle.pm_design.specs.Lookups.{is_input, is_port, no_signal}
use Rattle.pm_bits.specs.Word.{Word}
use Rattle.pm_design.specs.Ports.{HasPorts, IsRowOf, is_top_signal, top_signal, top_signals, zero_for, zero_row}
use Rattle.pm_design.specs.Runnable.{IsRunnable, numbers_where}
use Rattle.pm_design.specs.Widths.{is_width}
use Rattle.pm_design.proofs.Elements.{element_passes}

one_more : (good : ℕ → Bool) (n : ℕ) (ns : List ℕ) (b : Bool) → IsTrue (good n) → IsTrue (list_all good ns) → IsTrue (list_all good (if b then n ∷ ns else ns))
one_more good n ns true first rest = and_from (good n) (list_all good ns) first rest
one_more good n ns false first rest = rest

all_where : (good : ℕ → Bool) (test : Signal → Bool) (n : ℕ) (ss : List Signal) → ((i : ℕ) → n ≤ i → i < n + length ss → IsTrue (good i)) → IsTrue (list_all good (numbers_where test n ss))
all_where good test n [] each = refl
all_where good test n (s ∷ ss) each =
    one_more good n (numbers_where test (n + 1) ss) (not (n == 0) && test s) (each n (omega arith) (omega arith))
    (all_where good test (n + 1) ss (λ i above below. each i (omega (arith, above)) (omega (arith, below))))

one_more_of : (n : ℕ) (ns : List ℕ) (b : Bool) → length (if b then n ∷ ns else ns) ≤ 1 + length ns
one_more_of n ns true = omega arith
one_more_of n ns false = omega arith

few_where : (test : Signal → Bool) (n : ℕ) (ss : List Signal) → length (numbers_where test n ss) ≤ length ss
few_where test n [] = omega arith
few_where test n (s ∷ ss) =
    omega (arith, one_more_of n (numbers_where test (n + 1) ss) (not (n == 0) && test s), few_where test (n + 1) ss)

top_signal_is_good : (plan : Plan) → IsRunnable plan → (i : ℕ) → i < length (top_signals plan) → IsTrue (is_top_signal plan i)
top_signal_is_good plan runnable i lt =
    let kind = runnable.sound.elaborated.kinds plan.design.top runnable.sound.elaborated.top in
    let good : IsTrue (is_good_signal plan.design (top_signal plan i)) = element_passes (is_good_signal plan.design) (top_signals plan) i no_signal kind.signals lt in
    let parts = and_parts (is_width (top_signal plan i).width) (is_shape_or_none plan.design (top_signal plan i).shape) good in
    and_from (nat_lt i (length (top_signals plan))) (is_width (top_signal plan i).width) (lt-ltb i (length (top_signals plan)) lt) parts.0

-- a runnable plan has its ports
pub runnable_has_ports : (plan : Plan) → IsRunnable plan → HasPorts plan
runnable_has_ports plan runnable = record {
  top = runnable.sound.elaborated.top;
  few_inputs = few;
  inputs = subst (λ (ns : List ℕ). IsTrue (list_all (is_top_signal plan) ns)) (sym runnable.inputs) (all_where (is_top_signal plan) (λ s. is_input s.role) 0 (top_signals plan) (λ i above below. top_signal_is_good plan runnable i (omega (arith, below))));
  ports = subst (λ (ns : List ℕ). IsTrue (list_all (is_top_signal plan) ns)) (sym runnable.ports) (all_where (is_top_signal plan) (λ s. is_port s.role) 0 (top_signals plan) (λ i above below. top_signal_is_good plan runnable i (omega (arith, below))));
}
  where
    sized : length (top_signals plan) ≤ 2 ^ 21
    sized = (runnable.sound.elaborated.kinds plan.design.top runnable.sound.elaborated.top).sized.signals

    few : length plan.inputs < 2 ^ 32
    few = subst (λ (ns : List ℕ). length ns < 2 ^ 32) (sym runnable.inputs) (omega (arith, sized, few_where (λ s. is_input s.role) 0 (top_signals plan)))

zeros_fit : (plan : Plan) (numbers : List ℕ) → map (λ w. w.width) (map (zero_for plan) numbers) ≡ map (λ n. (top_signal plan n).width) numbers
zeros_fit plan [] = refl
zeros_fit plan (n ∷ ns) = ap (λ (widths : List ℕ). (top_signal plan n).width ∷ widths) (zeros_fit plan ns)

-- a value of 0 for each input has the inputs' widths
pub zero_row_fits : (plan : Plan) (row : List Word) → row ≡ zero_row plan → IsRowOf plan row
zero_row_fits plan row is = ap (map (λ w. w.width)) is ∙ zeros_fit plan plan.inputs
