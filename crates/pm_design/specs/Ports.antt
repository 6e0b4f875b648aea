-- The ports of a plan: the signals of the top's kind that vectors and traces name.
use Rattle.std.specs.Prelude.{ℕ, ◌^◌, ◌≡◌, ◌<◌, ◌&&◌, Bool, nat_lt, IsTrue, List, length, map, slice_index_or}
use Rattle.std.specs.List.{list_all}
use Rattle.pm_bits.specs.Word.{Word}
use Rattle.pm_design.specs.declared.plan.Plan.{Plan}
use Rattle.pm_design.specs.declared.signal.Signal.{Signal}
use Rattle.pm_design.specs.Lookups.{kind_of, no_signal}
use Rattle.pm_design.specs.Runnable.{IsRunnable}
use Rattle.pm_design.specs.Widths.{is_width}

-- the signals of the top's kind
abbrev pub top_signals : Plan → List Signal
top_signals plan = (kind_of plan.design plan.design.top).signals

-- a signal of the top's kind, and one without bits past the end
abbrev pub top_signal : Plan → ℕ → Signal
top_signal plan n = slice_index_or (top_signals plan) n no_signal

-- a number of a signal of the top's kind, which has 1 to 128 bits
abbrev pub is_top_signal : Plan → ℕ → Bool
is_top_signal plan n = nat_lt n (length (top_signals plan)) && is_width (top_signal plan n).width

-- a plan whose inputs and ports are signals of the top's kind
pub record HasPorts (plan : Plan) : Type 0 where
  pub top : plan.design.top < length plan.design.kinds
  pub few_inputs : length plan.inputs < 2 ^ 32
  pub inputs : IsTrue (list_all (is_top_signal plan) plan.inputs)
  pub ports : IsTrue (list_all (is_top_signal plan) plan.ports)

-- each runnable plan is such a plan
abbrev pub RunnablePlansHavePorts : Type 0
RunnablePlansHavePorts = (plan : Plan) → IsRunnable plan → HasPorts plan

-- the value 0 of the width of a signal
abbrev pub zero_for : Plan → ℕ → Word
zero_for plan n = record { width = (top_signal plan n).width; value = 0 }

-- a value of 0 for each input
abbrev pub zero_row : Plan → List Word
zero_row plan = map (zero_for plan) plan.inputs

-- one value for each input, of its width
abbrev pub IsRowOf : Plan → List Word → Type 0
IsRowOf plan row = map (λ w. w.width) row ≡ map (λ n. (top_signal plan n).width) plan.inputs
