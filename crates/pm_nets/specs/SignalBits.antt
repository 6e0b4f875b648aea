-- Names of flat bits.
use Rattle.std.specs.Prelude.{ℕ, ◌≡◌, ◌<◌, ◌++◌, length, codes, slice_index_or, Option, None, Some}
use Rattle.pm_design.specs.declared.plan.Plan.{Plan}
use Rattle.pm_design.specs.declared.signal.Signal.{Signal}
use Rattle.pm_design.specs.Instances.{flat_bit}
use Rattle.pm_design.specs.Layout.{instance_of}
use Rattle.pm_design.specs.Lookups.{no_signal}
use Rattle.pm_design.specs.Runnable.{kind_at}
use Rattle.pm_nets.specs.declared.naming.SignalBit.{SignalBit}
use Rattle.pm_nets.specs.Drivers.{HasNoUndriven, IsLeastUndriven}

-- a signal of an instance's kind
abbrev pub signal_at : Plan → ℕ → ℕ → Signal
signal_at plan i s = slice_index_or (kind_at plan i).signals s no_signal

-- a flat bit is a bit of a signal of an instance, and has its name
pub record IsBitOf (plan : Plan) (x : ℕ) (named : SignalBit) : Type 0 where
  pub instance : ℕ
  pub signal : ℕ
  pub there : instance < length plan.instances
  pub listed : signal < length (kind_at plan instance).signals
  pub name : named.signal ≡ (instance_of plan instance).path ++ codes "." ++ (signal_at plan instance signal).name
  pub within : named.bit < (signal_at plan instance signal).width
  pub place : x ≡ flat_bit plan.design (instance_of plan instance) signal named.bit

-- the name of the least undriven flat bit, if any
abbrev pub NamesUndriven : Plan → Option SignalBit → Type 0
NamesUndriven plan None = HasNoUndriven plan
NamesUndriven plan (Some named) = (x : ℕ) × IsLeastUndriven plan x × IsBitOf plan x named
