-- The plan of the small design is runnable.
use Rattle.std.proofs.Common.{◌<◌, ℕ, zero, suc, length, refl, arith}
use Rattle.std.specs.Prelude.{IsTrue}
use Rattle.std.specs.List.{list_all}
use Rattle.pm_design.specs.Layout.{is_other, are_apart}
use Rattle.pm_design.specs.Runnable.{IsRunnable, fits_there, kind_at, ties_well}
use Rattle.pm_design.specs.Sample.{sample_plan}
use Rattle.pm_design.proofs.Samples.{sample_sound}
use Rattle.pm_design.proofs.Soundness.{sound_set, sound_set_temp, sound_if}
use Rattle.pm_design.proofs.Typings.{typing_const, typing_get, typing_temp, typing_bin}

adding_fits : IsTrue (list_all (fits_there sample_plan) sample_plan.scheduled)
unfolding is_other are_apart
adding_fits = simp (sound_set, sound_set_temp, typing_const, typing_get, typing_temp, typing_bin) refl

keeping_fits : IsTrue (list_all (fits_there sample_plan) sample_plan.edge_blocks)
unfolding is_other are_apart
keeping_fits = simp (sound_set, sound_if, typing_const, typing_get) refl

no_ties : (i : ℕ) → i < length sample_plan.instances → IsTrue (list_all (ties_well sample_plan i) (kind_at sample_plan i).ties)
no_ties zero lt = refl
no_ties (suc zero) lt = refl
no_ties (suc (suc i)) lt = absurd (omega arith)

-- the plan is runnable
pub sample_runnable : IsRunnable sample_plan
sample_runnable = record {
  sound = sample_sound;
  few_bits = omega arith;
  instances = refl;
  inputs = refl;
  ports = refl;
  nets = refl;
  nets_there = refl;
  signals_there = refl;
  scheduled = refl;
  edge_blocks = refl;
  scheduled_fit = adding_fits;
  edge_blocks_fit = keeping_fits;
  ties = no_ties;
  ties_apart = refl;
}
