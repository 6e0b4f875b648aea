-- The numbered calls of an object in memory: how many there were, which of them fail, and how many did.
use Rattle.std.specs.Prelude.{ℕ, ◌+◌, ◌-◌, ◌^◌, ◌==◌, min, Bool, List, if◌then◌else◌}
use Rattle.std.specs.List.{list_any}

-- how many calls were made, the numbers of those that fail, counted from 1, and how many failed
pub record Calls : Type 0 where
  pub made : ℕ
  pub fails : List ℕ
  pub faults : ℕ

-- one more, in a counter of 64 bits that stops at its greatest value
abbrev pub one_more : ℕ → ℕ
one_more count = min (count + 1) (2 ^ 64 - 1)

-- no call was made
abbrev pub no_calls : List ℕ → Calls
no_calls fails = record { made = 0; fails = fails; faults = 0 }

-- whether the next call is to fail
abbrev pub next_fails : Calls → Bool
next_fails calls = list_any (λ number. number == one_more calls.made) calls.fails

-- after one more call
abbrev pub counted : Calls → Calls
counted calls = record calls { made = one_more calls.made }

-- after a fault in the call that is being made
abbrev pub faulted : Calls → Calls
faulted calls = record calls { faults = one_more calls.faults }

-- after one more call, which failed or not
abbrev pub called : Bool → Calls → Calls
called failed calls = if failed then faulted (counted calls) else counted calls
