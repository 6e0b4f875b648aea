-- A runnable plan: a sound design laid out, so that its bodies can run.
use Rattle.std.specs.Prelude.{ℕ, zero, suc, ◌+◌, ◌^◌, ◌≡◌, ◌≤◌, ◌<◌, ◌==◌, ◌&&◌, Bool, true, false, not, nat_lt, nat_le, IsTrue, if◌then◌else◌, List, [], ◌∷◌, ◌++◌, length, slice_index_or, Option, None, Some}
use Rattle.std.specs.List.{list_all}
use Rattle.pm_bits.specs.Word.{Word}
use Rattle.pm_design.specs.declared.body.Block.{Block}
use Rattle.pm_design.specs.declared.body.BlockSort.TheVariants as sort
use Rattle.pm_design.specs.declared.connection.Tie.{Tie}
use Rattle.pm_design.specs.declared.design.Kind.{Kind}
use Rattle.pm_design.specs.declared.plan.Flat.{Flat}
use Rattle.pm_design.specs.declared.plan.Instance.{Instance}
use Rattle.pm_design.specs.declared.plan.Plan.{Plan}
use Rattle.pm_design.specs.declared.signal.Signal.{Signal}
use Rattle.pm_design.specs.Instances.{flat_bits, instances_of}
use Rattle.pm_design.specs.Layout.{flat_part, instance_of, is_part, is_put, layout_of, net_from, scope_of}
use Rattle.pm_design.specs.Lookups.{is_input, is_port, kind_of, signature_of}
use Rattle.pm_design.specs.Sound.{IsSound, holdings_of, may_change}
use Rattle.pm_design.specs.Typing.{Sight, is_sound}

-- the kind of an instance
abbrev pub kind_at : Plan → ℕ → Kind
kind_at plan i = kind_of plan.design (instance_of plan i).kind

-- a block that is nowhere
abbrev pub no_block : Block
no_block = record { name = []; sort = sort.Update; body = []; temps = [] }

-- the block that a plan names, and one that does nothing past the end
abbrev pub block_at : Plan → Flat → Block
block_at plan flat = slice_index_or (kind_at plan flat.instance).blocks flat.block no_block

-- a block that is there
abbrev pub is_there : Plan → Flat → Bool
is_there plan flat = nat_lt flat.instance (length plan.instances) && nat_lt flat.block (length (kind_at plan flat.instance).blocks)

-- the numbers of the signals behind `reset` that pass a test, from one with the given number on
abbrev pub numbers_where : (Signal → Bool) → ℕ → List Signal → List ℕ
numbers_where test n [] = []
numbers_where test n (s ∷ ss) =
    if not (n == 0) && test s then n ∷ numbers_where test (n + 1) ss else numbers_where test (n + 1) ss

-- what a block may name where it runs: flat bits of one signal, to write only if no two are of one net
abbrev pub flat_sight : Plan → ℕ → Block → Sight
flat_sight plan i block = record {
  reads = λ p. is_part (layout_of plan) (flat_part (scope_of plan i) p);
  writes = λ p. is_put (layout_of plan) (flat_part (scope_of plan i) p);
  states = holdings_of (kind_at plan i);
  changes = may_change block.sort;
  calls = signature_of plan.design (kind_at plan i);
  temps = block.temps;
}

-- a block whose parts are each of one signal, and that writes no part with two bits of one net
abbrev pub fits_there : Plan → Flat → Bool
fits_there plan flat =
    list_all (is_sound (flat_sight plan flat.instance (block_at plan flat))) (block_at plan flat).body

-- a value of a tie's width, for bits that are of different nets
abbrev pub is_tied_well : Plan → ℕ → Tie → Option Word → Bool
is_tied_well plan i tie None = false
is_tied_well plan i tie (Some w) =
    w.width == tie.part.width && is_put (layout_of plan) (flat_part (scope_of plan i) tie.part)

-- a tie with such a value
abbrev pub ties_well : Plan → ℕ → Tie → Bool
ties_well plan i tie = is_tied_well plan i tie tie.value

-- the first n places, the last of them first
abbrev pub places_below : (ℕ → ℕ) → ℕ → List ℕ
places_below place zero = []
places_below place (suc n) = place n ∷ places_below place n

-- the nets that ties of an instance tie
abbrev pub tied_nets : Plan → ℕ → List Tie → List ℕ
tied_nets plan i [] = []
tied_nets plan i (t ∷ ts) =
    places_below (net_from (layout_of plan) (flat_part (scope_of plan i) t.part).bit) t.part.width ++ tied_nets plan i ts

-- the nets that the ties of instances tie, of which the first has the given number
abbrev pub tied_nets_from : Plan → ℕ → List Instance → List ℕ
tied_nets_from plan i [] = []
tied_nets_from plan i (x ∷ xs) = tied_nets plan i (kind_of plan.design x.kind).ties ++ tied_nets_from plan (i + 1) xs

-- each two numbers of the list differ
abbrev pub each_once : List ℕ → Bool
each_once [] = true
each_once (n ∷ ns) = list_all (λ m. not (n == m)) ns && each_once ns

-- a design laid out
pub record IsRunnable (plan : Plan) : Type 0 where
  pub sound : IsSound plan.design
  pub few_bits : flat_bits plan.design ≤ 2 ^ 18
  pub instances : plan.instances ≡ instances_of plan.design
  pub inputs : plan.inputs ≡ numbers_where (λ s. is_input s.role) 0 (kind_of plan.design plan.design.top).signals
  pub ports : plan.ports ≡ numbers_where (λ s. is_port s.role) 0 (kind_of plan.design plan.design.top).signals
  pub nets : length plan.nets.net_of ≡ flat_bits plan.design
  pub nets_there : IsTrue (list_all (λ n. nat_lt n plan.nets.count) plan.nets.net_of)
  pub signals_there : IsTrue (list_all (λ s. nat_le (s.bit + s.width) (length plan.nets.net_of)) (layout_of plan).signals)
  pub scheduled : IsTrue (list_all (is_there plan) plan.scheduled)
  pub edge_blocks : IsTrue (list_all (is_there plan) plan.edge_blocks)
  pub scheduled_fit : IsTrue (list_all (fits_there plan) plan.scheduled)
  pub edge_blocks_fit : IsTrue (list_all (fits_there plan) plan.edge_blocks)
  pub ties : (i : ℕ) → i < length plan.instances → IsTrue (list_all (ties_well plan i) (kind_at plan i).ties)
  pub ties_apart : IsTrue (each_once (tied_nets_from plan 0 plan.instances))
