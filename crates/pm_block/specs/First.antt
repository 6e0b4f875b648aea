-- The values of a plan's places before the first cycle.
use Rattle.std.specs.Prelude.{ℕ, ◌+◌, ◌==◌, ◌&&◌, Bool, false, if◌then◌else◌, List, [], ◌∷◌, ◌++◌, map, replicate, Option, None, Some}
use Rattle.pm_bits.specs.Word.{Word}
use Rattle.pm_design.specs.declared.connection.Tie.{Tie}
use Rattle.pm_design.specs.declared.design.Design.{Design}
use Rattle.pm_design.specs.declared.design.State.{State}
use Rattle.pm_design.specs.declared.plan.Instance.{Instance}
use Rattle.pm_design.specs.declared.plan.Plan.{Plan}
use Rattle.pm_design.specs.Layout.{Layout, flat_part, is_put, layout_of, net_from, scope_of}
use Rattle.pm_design.specs.Lookups.{kind_of}
use Rattle.pm_block.specs.Places.{Held, Valuation, put_at}
use Rattle.pm_block.specs.Value.{zero_word}

-- what is held of a state at first: a number's start, or room for a deque's items
abbrev pub held_first : State → Held
held_first state =
    if state.maxlen == 0
    then record { count = 1; slots = state.start ∷ [] }
    else record { count = 0; slots = replicate state.maxlen (zero_word state.width) }

-- what is held of the states of instances
abbrev pub held_at_first : Design → List Instance → List Held
held_at_first design [] = []
held_at_first design (x ∷ xs) = map held_first (kind_of design x.kind).states ++ held_at_first design xs

-- a constant of its part's width, for bits that are of different nets
abbrev pub is_tied_at : List (List ℕ) → Layout → Tie → Option Word → Bool
is_tied_at scope layout tie None = false
is_tied_at scope layout tie (Some w) = w.width == tie.part.width && is_put layout (flat_part scope tie.part)

-- a constant put into the bits that it is tied to
abbrev pub put_tied : List (List ℕ) → Layout → Tie → Option Word → Valuation → Valuation
put_tied scope layout tie None v = v
put_tied scope layout tie (Some w) v = put_at (net_from layout (flat_part scope tie.part).bit) tie.part.width w v

-- the constants of an instance's ties put into their bits
abbrev pub tied_in : List (List ℕ) → Layout → List Tie → Valuation → Valuation
tied_in scope layout [] v = v
tied_in scope layout (t ∷ ts) v = tied_in scope layout ts (put_tied scope layout t t.value v)

-- the constants of the ties of instances, from one with the given number on, put into their bits
abbrev pub tied_from : Plan → ℕ → List Instance → Valuation → Valuation
tied_from plan i [] v = v
tied_from plan i (x ∷ xs) v =
    tied_from plan (i + 1) xs (tied_in (scope_of plan i) (layout_of plan) (kind_of plan.design x.kind).ties v)

-- all values 0
abbrev pub no_values : Valuation
no_values net = 0

-- tied bits have their constants, and all others are 0
abbrev pub first_values : Plan → Valuation
first_values plan = tied_from plan 0 plan.instances no_values
