-- The small design is sound.
use Rattle.std.proofs.Common.{◌≡◌, ◌<◌, ℕ, zero, suc, [], ◌∷◌, length, refl, arith, codes}
use Rattle.std.specs.Prelude.{slice_index_or}
use Rattle.std.proofs.lemmas.List.Elements.{All-cons, All-nil}
use Rattle.pm_syn.specs.Names.{is_keyword}
use Rattle.pm_design.specs.Elaborated.{IsElaboratedKind, IsWellNamed}
use Rattle.pm_design.specs.Instances.{instances_of}
use Rattle.pm_design.specs.Lookups.{no_kind}
use Rattle.pm_design.specs.Names.{IsMemberName}
use Rattle.pm_design.specs.Sample.{adder, keeper, sample, sample_instances}
use Rattle.pm_design.specs.Sound.{IsSound}
use Rattle.pm_design.proofs.Progressing.{reads_get, reads_const, reads_temp, reads_bin, progress_set, progress_set_temp, progress_if}
use Rattle.pm_design.proofs.Soundness.{sound_set, sound_set_temp, sound_if}
use Rattle.pm_design.proofs.Typings.{typing_const, typing_get, typing_temp, typing_bin}

adder_named : IsWellNamed adder
unfolding is_keyword
adder_named = record {
  class = refl;
  blocks = refl;
  blocks_differ = refl;
  members = All-cons IsMemberName (codes "reset") (codes "in_" ∷ codes "out" ∷ []) (IsMemberName.plain (codes "reset") refl) (All-cons IsMemberName (codes "in_") (codes "out" ∷ []) (IsMemberName.plain (codes "in_") refl) (All-cons IsMemberName (codes "out") [] (IsMemberName.plain (codes "out") refl) (All-nil IsMemberName)));
  members_apart = refl;
  no_clock = refl;
  one_reset = refl;
}

keeper_named : IsWellNamed keeper
unfolding is_keyword
keeper_named = record {
  class = refl;
  blocks = refl;
  blocks_differ = refl;
  members = All-cons IsMemberName (codes "reset") (codes "in_" ∷ codes "out" ∷ codes "add" ∷ []) (IsMemberName.plain (codes "reset") refl) (All-cons IsMemberName (codes "in_") (codes "out" ∷ codes "add" ∷ []) (IsMemberName.plain (codes "in_") refl) (All-cons IsMemberName (codes "out") (codes "add" ∷ []) (IsMemberName.plain (codes "out") refl) (All-cons IsMemberName (codes "add") [] (IsMemberName.plain (codes "add") refl) (All-nil IsMemberName))));
  members_apart = refl;
  no_clock = refl;
  one_reset = refl;
}

adder_elaborated : IsElaboratedKind sample 0 adder
adder_elaborated = record {
  named = adder_named;
  sized = record { signals = omega arith; states = omega arith; blocks = omega arith; instances = refl; few_instances = omega arith };
  reset = refl;
  signals = refl;
  states = refl;
  children = refl;
  methods = refl;
  callers = refl;
  joins = refl;
  ties = refl;
  binds = refl;
  blocks = refl;
  rules = refl;
}

keeper_elaborated : IsElaboratedKind sample 1 keeper
keeper_elaborated = record {
  named = keeper_named;
  sized = record { signals = omega arith; states = omega arith; blocks = omega arith; instances = refl; few_instances = omega arith };
  reset = refl;
  signals = refl;
  states = refl;
  children = refl;
  methods = refl;
  callers = refl;
  joins = refl;
  ties = refl;
  binds = refl;
  blocks = refl;
  rules = refl;
}

sample_kinds : (k : ℕ) → k < length sample.kinds → IsElaboratedKind sample k (slice_index_or sample.kinds k no_kind)
sample_kinds zero lt = adder_elaborated
sample_kinds (suc zero) lt = keeper_elaborated
sample_kinds (suc (suc k)) lt = absurd (omega arith)

-- the small design is sound
pub sample_sound : IsSound sample
sample_sound = record {
  elaborated = record { top = omega arith; shapes = refl; kinds = sample_kinds };
  blocks = simp (sound_set, sound_set_temp, sound_if, typing_const, typing_get, typing_temp, typing_bin, progress_set, progress_set_temp, progress_if, reads_get, reads_const, reads_temp, reads_bin) refl;
  methods = refl;
}

-- the small design has its two instances
pub instances_of_sample : instances_of sample ≡ sample_instances
instances_of_sample = refl
