-- Which blocks run before which, loops of such blocks, and arrangements of blocks without one.
use Rattle.std.specs.Prelude.{◌≡◌, ◌≢◌, ◌==◌, ◌&&◌, ℕ, Bool, true, false, not, Some, List, length, slice_get}
use Rattle.std.specs.List.{filter_map, list_any, range_with_len}
use Rattle.std.specs.List.Sorted.{IsPermutation}
use Rattle.std.specs.Option.{option_map_or}
use Rattle.pm_job.specs.declared.component.Assignment.{Assignment}
use Rattle.pm_job.specs.Reads.{reads, is_ordered}

-- the block at index `first` assigns what another block, at index `second`, reads
pub record Precedes (blocks : List Assignment) (first second : ℕ) : Type 0 where
  pub differ : first ≢ second
  pub writer : Assignment
  pub reader : Assignment
  pub writes : slice_get blocks first ≡ Some writer
  pub hears : slice_get blocks second ≡ Some reader
  pub reads_it : reads writer.target reader.value ≡ true

-- one or more steps of precedence lead from one block to another
pub data Leads (blocks : List Assignment) : ℕ → ℕ → Type 0 where
  one_step : (first second : ℕ) → Precedes blocks first second → Leads blocks first second
  more_steps : (first second third : ℕ) → Precedes blocks first second → Leads blocks second third → Leads blocks first third

-- a block leads back to itself
abbrev pub HasLoop : List Assignment → Type 0
HasLoop blocks = (index : ℕ) × Leads blocks index index

-- the blocks at these indices
abbrev pub blocks_at : List Assignment → List ℕ → List Assignment
blocks_at blocks = filter_map (slice_get blocks)

-- the indices of `count` blocks
abbrev pub indices_of : ℕ → List ℕ
indices_of = range_with_len 0

-- each block appears once, and no block reads what a later one assigns
pub record IsArrangement (blocks : List Assignment) (indices : List ℕ) : Type 0 where
  pub each_once : IsPermutation (indices_of (length blocks)) indices
  pub ordered : is_ordered (blocks_at blocks indices) ≡ true

-- the test for `Precedes`
abbrev pub precedes : List Assignment → ℕ → ℕ → Bool
precedes blocks first second =
    not (first == second)
    && option_map_or (λ writer. option_map_or (λ reader. reads writer.target reader.value) (slice_get blocks second) false) (slice_get blocks first) false

-- no block at one of the indices precedes the block at this one
abbrev pub is_free : List Assignment → List ℕ → ℕ → Bool
is_free blocks indices index = not (list_any (λ other. precedes blocks other index) indices)
