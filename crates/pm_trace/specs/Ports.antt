-- The vectors and the trace of a plan.
use Rattle.std.specs.Prelude.{ℕ, ◌==◌, Bool, List, map}
use Rattle.pm_bits.specs.Word.{Word}
use Rattle.pm_block.specs.Places.{Valuation}
use Rattle.pm_block.specs.Signals.{signal_word}
use Rattle.pm_design.specs.declared.plan.Plan.{Plan}
use Rattle.pm_design.specs.Layout.{layout_of}
use Rattle.pm_design.specs.Ports.{top_signal}
use Rattle.pm_trace.specs.Trace.{head_text, row_text}

-- the names of the inputs
abbrev pub input_names : Plan → List (List ℕ)
input_names plan = map (λ n. (top_signal plan n).name) plan.inputs

-- the names of the ports
abbrev pub port_names : Plan → List (List ℕ)
port_names plan = map (λ n. (top_signal plan n).name) plan.ports

-- the values of the ports, where the nets have these
abbrev pub port_words : Plan → Valuation → List Word
port_words plan at = map (signal_word (layout_of plan) at) plan.ports

-- whether the top's first signal, `reset`, is 1
abbrev pub is_reset : Plan → Valuation → Bool
is_reset plan at = (signal_word (layout_of plan) at 0).value == 1

-- the line of names
abbrev pub head_of : Plan → List ℕ
head_of plan = head_text (port_names plan)

-- the line of a cycle
abbrev pub row_of : Plan → ℕ → Valuation → List ℕ
row_of plan cycle at = row_text cycle (is_reset plan at) (port_words plan at)
