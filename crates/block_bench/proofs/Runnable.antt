-- The plan is runnable.
use Rattle.std.proofs.Common.{◌≡◌, ◌<◌, ◌≤◌, ℕ, zero, suc, List, [], ◌∷◌, length, refl, arith, true, codes}
use Rattle.std.specs.Prelude.{IsTrue}
use Rattle.std.specs.List.{list_all}
use Rattle.std.proofs.lemmas.List.Elements.{All-cons, All-nil}
use Rattle.pm_syn.specs.Names.{is_keyword}
use Rattle.pm_design.specs.Elaborated.{IsElaboratedKind, IsWellNamed}
use Rattle.pm_design.specs.Layout.{are_apart, is_other, is_part, is_put, layout_of}
use Rattle.pm_design.specs.Lookups.{kind_of}
use Rattle.pm_design.specs.Names.{IsMemberName}
use Rattle.pm_design.specs.Nodes.{inside_of}
use Rattle.pm_design.specs.Runnable.{IsRunnable, fits_there, kind_at, ties_well}
use Rattle.pm_design.specs.Settings.{progress, reads_assigned}
use Rattle.pm_design.specs.Sound.{IsSound}
use Rattle.pm_design.proofs.Counts.{nodes_of_set, nodes_bin, nodes_get}
use Rattle.pm_design.proofs.Progressing.{reads_get, reads_bin, progress_set}
use Rattle.pm_design.proofs.Soundness.{sound_set}
use Rattle.pm_design.proofs.Typings.{typing_get, typing_bin}
use Rattle.pm_block.specs.Tables.{is_plain, nodes_in}
use Rattle.block_bench.specs.Sample.{body, kind, nets, plan, signals}

kind_named : IsWellNamed kind
unfolding is_keyword signals
kind_named = record {
  class = refl;
  blocks = refl;
  blocks_differ = refl;
  members = All-cons IsMemberName (codes "reset") (codes "acc" ∷ codes "in_" ∷ codes "k" ∷ codes "out" ∷ []) (IsMemberName.plain (codes "reset") refl) (All-cons IsMemberName (codes "acc") (codes "in_" ∷ codes "k" ∷ codes "out" ∷ []) (IsMemberName.plain (codes "acc") refl) (All-cons IsMemberName (codes "in_") (codes "k" ∷ codes "out" ∷ []) (IsMemberName.plain (codes "in_") refl) (All-cons IsMemberName (codes "k") (codes "out" ∷ []) (IsMemberName.plain (codes "k") refl) (All-cons IsMemberName (codes "out") [] (IsMemberName.plain (codes "out") refl) (All-nil IsMemberName)))));
  members_apart = refl;
  no_clock = refl;
  one_reset = refl;
}

kind_elaborated : IsElaboratedKind plan.design 0 kind
unfolding signals
kind_elaborated = record {
  named = kind_named;
  sized = record { signals = omega arith; states = omega arith; blocks = omega arith; instances = refl; few_instances = omega arith };
  reset = refl;
  signals = refl;
  states = refl;
  children = refl;
  methods = refl;
  callers = refl;
  joins = refl;
  ties = refl;
  binds = refl;
  blocks = refl;
  rules = refl;
}

kinds_elaborated : (k : ℕ) → k < length plan.design.kinds → IsElaboratedKind plan.design k (kind_of plan.design k)
kinds_elaborated zero lt = kind_elaborated
kinds_elaborated (suc k) lt = absurd (omega arith)

design_sound : IsSound plan.design
unfolding signals body
design_sound = record {
  elaborated = record { top = omega arith; shapes = refl; kinds = kinds_elaborated };
  blocks = simp (sound_set, typing_get, typing_bin, progress_set, reads_get, reads_bin) refl;
  methods = refl;
}

block_fits : IsTrue (list_all (fits_there plan) plan.scheduled)
unfolding signals body nets is_other are_apart
block_fits = simp (sound_set, typing_get, typing_bin) refl

no_ties : (i : ℕ) → i < length plan.instances → IsTrue (list_all (ties_well plan i) (kind_at plan i).ties)
no_ties zero lt = refl
no_ties (suc i) lt = absurd (omega arith)

-- the plan is runnable
pub sample_runnable : IsRunnable plan
unfolding signals nets
sample_runnable = record {
  sound = design_sound;
  few_bits = omega arith;
  instances = refl;
  inputs = refl;
  ports = refl;
  nets = refl;
  nets_there = refl;
  signals_there = refl;
  scheduled = refl;
  edge_blocks = refl;
  scheduled_fit = block_fits;
  edge_blocks_fit = refl;
  ties = no_ties;
  ties_apart = refl;
}

-- its block has neither states nor methods
pub block_is_plain : IsTrue (is_plain plan (record { instance = 0; block = 0; name = codes "s.up" }))
unfolding signals body nets is_other are_apart
block_is_plain = simp (sound_set, typing_get, typing_bin) refl

-- the block has 6 nodes
pub nodes_of_block : nodes_in plan (record { instance = 0; block = 0; name = codes "s.up" }) ≡ 6
unfolding body
nodes_of_block = simp (nodes_of_set, nodes_bin, nodes_get) refl

-- `s.acc`
pub acc_is_put : IsTrue (is_put (layout_of plan) (record { bit = 1; width = 32 }))
unfolding signals nets is_other are_apart
acc_is_put = refl

-- `s.in_`
pub in_is_put : IsTrue (is_put (layout_of plan) (record { bit = 33; width = 32 }))
unfolding signals nets is_other are_apart
in_is_put = refl

-- `s.k`
pub k_is_put : IsTrue (is_put (layout_of plan) (record { bit = 65; width = 32 }))
unfolding signals nets is_other are_apart
k_is_put = refl

-- `s.out`
pub out_is_part : IsTrue (is_part (layout_of plan) (record { bit = 97; width = 32 }))
unfolding signals nets
out_is_part = refl
