-- The smallest design is sound.
use Rattle.std.proofs.Common.{◌<◌, ℕ, zero, suc, [], length, codes, refl, arith}
use Rattle.std.specs.Prelude.{slice_index_or}
use Rattle.std.proofs.lemmas.List.Elements.{All-cons, All-nil}
use Rattle.pm_syn.specs.Names.{is_keyword}
use Rattle.pm_design.specs.Elaborated.{IsElaboratedKind, IsWellNamed}
use Rattle.pm_design.specs.Lookups.{no_kind}
use Rattle.pm_design.specs.Names.{IsMemberName}
use Rattle.pm_design.specs.Sound.{IsSound}
use Rattle.nets_tests.specs.Smallest.{smallest, smallest_kind}

smallest_named : IsWellNamed smallest_kind
unfolding is_keyword
smallest_named = record {
  class = refl;
  blocks = refl;
  blocks_differ = refl;
  members = All-cons IsMemberName (codes "reset") [] (IsMemberName.plain (codes "reset") refl) (All-nil IsMemberName);
  members_apart = refl;
  no_clock = refl;
  one_reset = refl;
}

smallest_elaborated : IsElaboratedKind smallest 0 smallest_kind
smallest_elaborated = record {
  named = smallest_named;
  sized = record {
    signals = omega arith;
    states = omega arith;
    blocks = omega arith;
    instances = refl;
    few_instances = omega arith;
  };
  reset = refl;
  signals = refl;
  states = refl;
  children = refl;
  methods = refl;
  callers = refl;
  joins = refl;
  ties = refl;
  binds = refl;
  blocks = refl;
  rules = refl;
}

smallest_kinds : (k : ℕ) → k < length smallest.kinds →
    IsElaboratedKind smallest k (slice_index_or smallest.kinds k no_kind)
smallest_kinds zero lt = smallest_elaborated
smallest_kinds (suc k) lt = absurd (omega arith)

pub smallest_sound : IsSound smallest
smallest_sound = record {
  elaborated = record { top = omega arith; shapes = refl; kinds = smallest_kinds };
  blocks = refl;
  methods = refl;
}
