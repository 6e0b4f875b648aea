-- What gives values to the nets within components, and nets to which two give.
use Rattle.std.specs.Prelude.{ℕ, ◌+◌, ◌≡◌, ◌<◌, ◌≤◌, ◌⊎◌, if◌then◌else◌, List, [], ◌∷◌, ◌++◌, length, map}
use Rattle.std.specs.Prelude.{flat_map, get_or, Contains, Option, None, Some}
use Rattle.std.specs.List.{range_with_len}
use Rattle.disjoint_sets.specs.Connected.{Connected}
use Rattle.pm_design.specs.declared.body.Block.{Block}
use Rattle.pm_design.specs.declared.connection.Part.{Part}
use Rattle.pm_design.specs.declared.connection.Tie.{Tie}
use Rattle.pm_design.specs.declared.design.Child.{Child}
use Rattle.pm_design.specs.declared.design.Design.{Design}
use Rattle.pm_design.specs.declared.design.Kind.{Kind}
use Rattle.pm_design.specs.declared.plan.Plan.{Plan}
use Rattle.pm_design.specs.declared.signal.Signal.{Signal}
use Rattle.pm_design.specs.Lookups.{kind_of}
use Rattle.pm_design.specs.Runnable.{kind_at}
use Rattle.pm_nets.specs.declared.giver.Gift.{Gift}
use Rattle.pm_nets.specs.declared.giver.Giver.{Giver}
use Rattle.pm_nets.specs.declared.giver.Source.{Source}
use Rattle.pm_nets.specs.declared.naming.SignalBit.{SignalBit}
use Rattle.pm_nets.specs.declared.giver.Source.TheVariants as source
use Rattle.pm_nets.specs.Drivers.{IsLow, inputs_from}
use Rattle.pm_nets.specs.Ends.{end_at, end_of, ends_joined}
use Rattle.pm_nets.specs.Faults.{is_output}
use Rattle.pm_nets.specs.SignalBits.{IsBitOf}
use Rattle.pm_nets.specs.Written.{written_in}

-- all bits of a signal of an owner, if it is an output
abbrev pub output_part : ℕ → ℕ → Signal → List Part
output_part owner n s =
    if is_output s.role then (record { owner = owner; signal = n; lo = 0; width = s.width }) ∷ [] else []

-- the outputs among an owner's signals, each whole, of which the first has the given number
abbrev pub outputs_from : ℕ → ℕ → List Signal → List Part
outputs_from owner n [] = []
outputs_from owner n (s ∷ ss) = output_part owner n s ++ outputs_from owner (n + 1) ss

-- the outputs of children, of which the first is the given owner
abbrev pub child_outputs : Design → ℕ → List Child → List Part
child_outputs design owner [] = []
child_outputs design owner (c ∷ cs) =
    outputs_from owner 0 (kind_of design c.kind).signals ++ child_outputs design (owner + 1) cs

-- the own inputs of a kind and the outputs of its children
abbrev pub source_parts : Design → Kind → List Part
source_parts design kind = inputs_from 0 kind.signals ++ child_outputs design 1 kind.children

-- parts that one source gives to
abbrev pub given_by : Source → List Part → List Gift
given_by from parts = map (λ part. record { source = from; part = part }) parts

-- what ties give, of which the first has the given number
abbrev pub tie_gifts : ℕ → List Tie → List Gift
tie_gifts n [] = []
tie_gifts n (t ∷ ts) = record { source = source.Tie n; part = t.part } ∷ tie_gifts (n + 1) ts

-- what blocks give, of which the first has the given number
abbrev pub block_gifts : ℕ → List Block → List Gift
block_gifts n [] = []
block_gifts n (b ∷ bs) = given_by (source.Block n) (written_in b.body) ++ block_gifts (n + 1) bs

-- what the ports, the ties and the blocks of a kind give
abbrev pub gifts_of : Design → Kind → List Gift
gifts_of design kind =
    given_by source.Port (source_parts design kind) ++ tie_gifts 0 kind.ties ++ block_gifts 0 kind.blocks

-- a giver for each end of a gift
abbrev pub gift_givers : Plan → ℕ → Gift → List Giver
gift_givers plan i gift =
    map (λ t. record { source = gift.source; end = end_of plan i gift.part t }) (range_with_len 0 gift.part.width)

-- the givers of an instance
abbrev pub givers_in : Plan → ℕ → List Giver
givers_in plan i = flat_map (gift_givers plan i) (gifts_of plan.design (kind_at plan i))

-- the givers of all instances
abbrev pub givers_of : Plan → List Giver
givers_of plan = flat_map (givers_in plan) (range_with_len 0 (length plan.instances))

-- a number whose set has two or more givers
pub record HasTwo (links : List (ℕ × ℕ)) (givers : List Giver) (x : ℕ) : Type 0 where
  pub first : Giver
  pub second : Giver
  pub differ : first ≡ second → ⊥
  pub one : Contains givers first
  pub other : Contains givers second
  pub first_in : Connected links x first.end
  pub second_in : Connected links x second.end

-- the least number of a set with two or more givers
pub record IsLeastTwo (links : List (ℕ × ℕ)) (givers : List Giver) (x : ℕ) : Type 0 where
  pub two : HasTwo links givers x
  pub least : (y : ℕ) → HasTwo links givers y → x ≤ y

-- a flat bit with an end in a net of a component to which two or more give
abbrev pub IsDouble : Plan → ℕ → Type 0
IsDouble plan x = (owner : ℕ) × HasTwo (ends_joined plan) (givers_of plan) (end_at owner x)

-- the least of them
pub record IsLeastDouble (plan : Plan) (x : ℕ) : Type 0 where
  pub double : IsDouble plan x
  pub least : (y : ℕ) → IsDouble plan y → x ≤ y

-- no net of a component has two givers
abbrev pub HasNoDouble : Plan → Type 0
HasNoDouble plan = (x : ℕ) → IsDouble plan x → ⊥

-- the least of them, if any
abbrev pub FindsDouble : Plan → Option ℕ → Type 0
FindsDouble plan None = HasNoDouble plan
FindsDouble plan (Some x) = IsLeastDouble plan x

-- the name of the least of them, if any
abbrev pub NamesDouble : Plan → Option SignalBit → Type 0
NamesDouble plan None = HasNoDouble plan
NamesDouble plan (Some named) = (x : ℕ) × IsLeastDouble plan x × IsBitOf plan x named

-- two that differ give to sets of one least number
pub record Two (leasts : List ℕ) (givers : List Giver) (root : ℕ) : Type 0 where
  pub first : Giver
  pub second : Giver
  pub differ : first ≡ second → ⊥
  pub one : Contains givers first
  pub other : Contains givers second
  pub first_at : get_or leasts first.end 0 ≡ root
  pub second_at : get_or leasts second.end 0 ≡ root

-- what is known of the givers so far: the first one of each set, and the least number of a set with two
pub record AreGiven (leasts : List ℕ) (givers : List Giver) (first : List (Option Giver))
    (least : Option ℕ) : Type 0 where
  pub size : length first ≡ length leasts
  pub below : (g : Giver) → Contains givers g → g.end < length leasts
  pub held : (r : ℕ) (g : Giver) → r < length first → get_or first r None ≡ Some g →
      Contains givers g × (get_or leasts g.end 0 ≡ r)
  pub each : (g : Giver) → Contains givers g → (h : Giver) × (get_or first (get_or leasts g.end 0) None ≡ Some h)
      × ((g ≡ h) ⊎ IsLow least (get_or leasts g.end 0))
  pub two : (l : ℕ) → least ≡ Some l → Two leasts givers l

-- some givers more are looked at
pub record Gives (leasts : List ℕ) (first now : List (Option Giver)) (least found : Option ℕ)
    (more : List Giver) : Type 0 where
  pub size : length now ≡ length first
  pub given : (givers : List Giver) → AreGiven leasts givers first least → AreGiven leasts (givers ++ more) now found
