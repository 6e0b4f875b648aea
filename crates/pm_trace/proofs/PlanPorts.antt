-- The signals that the trace of a runnable plan reads.
use Rattle.std.proofs.Common.{◌≡◌, ◌∙◌, ◌+◌, ◌<◌, ℕ, List, [], ◌∷◌, ◌++◌, length, drop, map, ap, subst, sym, drop-cons, add-one, arith, ltb-true}
use Rattle.std.specs.Prelude.{IsTrue, slice_index_or}
use Rattle.std.specs.List.{list_all}
use Rattle.std.proofs.lemmas.Bool.{and_parts}
use Rattle.pm_bits.specs.Word.{Word}
use Rattle.pm_block.proofs.WholeSignals.{top_signal_is}
use Rattle.pm_design.specs.declared.plan.Plan.{Plan}
use Rattle.pm_design.specs.declared.signal.Signal.{Signal}
use Rattle.pm_design.specs.Elaborated.{is_reset}
use Rattle.pm_design.specs.Layout.{layout_of}
use Rattle.pm_design.specs.Lookups.{no_signal}
use Rattle.pm_design.specs.Ports.{HasPorts, is_top_signal, top_signals}
use Rattle.pm_design.specs.Runnable.{IsRunnable}
use Rattle.pm_design.proofs.Elements.{element_passes}
use Rattle.pm_design.proofs.Ports.{runnable_has_ports}
use Rattle.pm_trace.specs.Trace.{name_text, names_text, value_text, values_text}

-- a port is a signal of the top's kind
pub port_of_top : (plan : Plan) (ports : List ℕ) (i : ℕ) → HasPorts plan → ports ≡ plan.ports → i < length ports
    → slice_index_or ports i 0 < length (top_signals plan)
port_of_top plan ports i has same within =
    let all : IsTrue (list_all (is_top_signal plan) ports) = subst (λ (ns : List ℕ). IsTrue (list_all (is_top_signal plan) ns)) (sym same) has.ports in
    ltb-true _ _ (and_parts _ _ (element_passes (is_top_signal plan) ports i 0 all within)).0

-- and of the plan
pub port_there : (plan : Plan) (ports : List ℕ) (i : ℕ) → IsRunnable plan → ports ≡ plan.ports → i < length ports
    → slice_index_or ports i 0 < length (layout_of plan).signals
port_there plan ports i runnable same within =
    (top_signal_is plan (slice_index_or ports i 0) runnable
    (port_of_top plan ports i (runnable_has_ports plan runnable) same within)).0

some_signal : (signals : List Signal) → IsTrue (is_reset (slice_index_or signals 0 no_signal)) → 0 < length signals
some_signal [] is = absurd (cc)
some_signal (signal ∷ signals) is = omega arith

-- `reset` is the first signal of the plan
pub reset_there : (plan : Plan) → IsRunnable plan → 0 < length (layout_of plan).signals
reset_there plan runnable =
    let elaborated = runnable.sound.elaborated in
    (top_signal_is plan 0 runnable
    (some_signal (top_signals plan) (elaborated.kinds plan.design.top elaborated.top).reset)).0

-- the names of ports from one index on begin with that one's
pub port_names-drop : (name : ℕ → List ℕ) (ports : List ℕ) (index : ℕ) → index < length ports
    → names_text (map name (drop index ports))
    ≡ name_text (name (slice_index_or ports index 0)) ++ names_text (map name (drop (index + 1) ports))
port_names-drop name ports index within =
    ap (λ (ns : List ℕ). names_text (map name ns)) (drop-cons ports index 0 within)
    ∙ ap (λ (k : ℕ). name_text (name (slice_index_or ports index 0)) ++ names_text (map name (drop k ports))) (sym (add-one index))

-- so do the values
pub port_values-drop : (word : ℕ → Word) (ports : List ℕ) (index : ℕ) → index < length ports
    → values_text (map word (drop index ports))
    ≡ value_text (word (slice_index_or ports index 0)) ++ values_text (map word (drop (index + 1) ports))
port_values-drop word ports index within =
    ap (λ (ns : List ℕ). values_text (map word ns)) (drop-cons ports index 0 within)
    ∙ ap (λ (k : ℕ). value_text (word (slice_index_or ports index 0)) ++ values_text (map word (drop k ports))) (sym (add-one index))
