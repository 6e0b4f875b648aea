-- What drives nets.
use Rattle.std.specs.Prelude.{ℕ, ◌+◌, ◌≡◌, ◌≤◌, ◌<◌, Bool, true, false, if◌then◌else◌, List, [], ◌∷◌, ◌++◌, length}
use Rattle.std.specs.Prelude.{map, flat_map, get_or, Contains, Option, None, Some}
use Rattle.std.specs.List.{range_with_len}
use Rattle.pm_design.specs.declared.body.Block.{Block}
use Rattle.pm_design.specs.declared.connection.Part.{Part}
use Rattle.pm_design.specs.declared.design.Kind.{Kind}
use Rattle.pm_design.specs.declared.plan.Plan.{Plan}
use Rattle.pm_design.specs.declared.signal.Signal.{Signal}
use Rattle.pm_design.specs.Lookups.{is_input}
use Rattle.pm_design.specs.Runnable.{kind_at}
use Rattle.pm_nets.specs.Links.{AreOneNet}
use Rattle.pm_nets.specs.Sites.{first_of}
use Rattle.pm_nets.specs.Written.{written_in}

-- so many flat bits from one on
abbrev pub bits_from : ℕ → ℕ → List ℕ
bits_from first width = map (λ t. first + t) (range_with_len 0 width)

-- the flat bits of a part of an instance's kind
abbrev pub part_bits : Plan → ℕ → Part → List ℕ
part_bits plan i part = bits_from (first_of plan i part) part.width

-- all bits of an own signal of a number and a width
abbrev pub whole_part : ℕ → ℕ → Part
whole_part n width = record { owner = 0; signal = n; lo = 0; width = width }

-- all bits of a signal of a number, if it is an input
abbrev pub input_part : ℕ → Signal → List Part
input_part n s = if is_input s.role then whole_part n s.width ∷ [] else []

-- the inputs among signals, each whole, of which the first has the given number
abbrev pub inputs_from : ℕ → List Signal → List Part
inputs_from n [] = []
inputs_from n (s ∷ ss) = input_part n s ++ inputs_from (n + 1) ss

-- the parts that blocks may write
abbrev pub written_by : List Block → List Part
written_by blocks = flat_map (λ b. written_in b.body) blocks

-- the parts that the ties and the blocks of a kind drive
abbrev pub driven_parts : Kind → List Part
driven_parts kind = map (λ t. t.part) kind.ties ++ written_by kind.blocks

-- the flat bits that the ties and the blocks of an instance drive
abbrev pub drivers_in : Plan → ℕ → List ℕ
drivers_in plan i = flat_map (part_bits plan i) (driven_parts (kind_at plan i))

-- the flat bits that have a driver of their own: the top's inputs, and what ties and blocks of all instances drive
abbrev pub drivers_of : Plan → List ℕ
drivers_of plan =
    flat_map (part_bits plan 0) (inputs_from 0 (kind_at plan 0).signals)
    ++ flat_map (drivers_in plan) (range_with_len 0 (length plan.instances))

-- a flat bit that is of one net with another one, and with none that has a driver
pub record IsUndriven (plan : Plan) (x : ℕ) : Type 0 where
  pub other : ℕ
  pub differ : x ≡ other → ⊥
  pub joined : AreOneNet plan x other
  pub none : (d : ℕ) → Contains (drivers_of plan) d → AreOneNet plan x d → ⊥

-- the least of them
pub record IsLeastUndriven (plan : Plan) (x : ℕ) : Type 0 where
  pub undriven : IsUndriven plan x
  pub least : (y : ℕ) → IsUndriven plan y → x ≤ y

-- each flat bit that is of one net with another one has a driver
abbrev pub HasNoUndriven : Plan → Type 0
HasNoUndriven plan = (x : ℕ) → IsUndriven plan x → ⊥

-- the least undriven flat bit, if any
abbrev pub FindsUndriven : Plan → Option ℕ → Type 0
FindsUndriven plan None = HasNoUndriven plan
FindsUndriven plan (Some x) = IsLeastUndriven plan x

-- a mark at the least bit of each set that has a driver
pub record AreDriven (leasts drivers : List ℕ) (driven : List Bool) : Type 0 where
  pub size : length driven ≡ length leasts
  pub below : (d : ℕ) → Contains drivers d → d < length leasts
  pub marked : (d : ℕ) → Contains drivers d → get_or driven (get_or leasts d 0) false ≡ true
  pub meant : (r : ℕ) → r < length driven → get_or driven r false ≡ true →
      (d : ℕ) × Contains drivers d × (get_or leasts d 0 ≡ r)

-- some drivers more are marked
pub record Marks (leasts : List ℕ) (old new : List Bool) (more : List ℕ) : Type 0 where
  pub size : length new ≡ length old
  pub driven : (drivers : List ℕ) → AreDriven leasts drivers old → AreDriven leasts (drivers ++ more) new

-- a known number is at most another one
abbrev pub IsLow : Option ℕ → ℕ → Type 0
IsLow found r = (l : ℕ) × (found ≡ Some l) × (l ≤ r)

-- the least number of a set of two or more without a mark, among the sets of the numbers below a bound
pub record IsFirstBelow (leasts : List ℕ) (driven : List Bool) (bound : ℕ) (found : Option ℕ) : Type 0 where
  pub some : (l : ℕ) → found ≡ Some l →
      (x : ℕ) × (x < bound) × (get_or leasts x 0 ≡ l) × (l ≡ x → ⊥) × (get_or driven l false ≡ false)
  pub each : (x : ℕ) → x < bound → (get_or leasts x 0 ≡ x → ⊥) → get_or driven (get_or leasts x 0) false ≡ false →
      IsLow found (get_or leasts x 0)
