-- Numbers for the methods and caller ports of all instances.
use Rattle.std.specs.Prelude.{ℕ, ◌+◌, ◌^◌, ◌≡◌, ◌<◌, Bool, true, false, length, map, take}
use Rattle.std.specs.List.{range_with_len}
use Rattle.pm_callees.specs.declared.site.Site.{Site}
use Rattle.pm_design.specs.declared.design.Design.{Design}
use Rattle.pm_design.specs.declared.design.Kind.{Kind}
use Rattle.pm_design.specs.declared.plan.Instance.{Instance}
use Rattle.pm_design.specs.declared.plan.Plan.{Plan}
use Rattle.pm_design.specs.Calls.{End, Link}
use Rattle.pm_design.specs.Instances.{instances_of}
use Rattle.pm_design.specs.Lookups.{kind_of}
use Rattle.pm_design.specs.Runnable.{kind_at}
use Rattle.pm_design.specs.Widths.{total}
use Rattle.pm_instances.specs.Laid.{laid_out}

-- a method, or a caller port, of an instance
abbrev pub end_at : ℕ → Bool → ℕ → End
end_at i port n = record { instance = i; port = port; number = n }

-- how many methods and caller ports an instance has
abbrev pub ends_in : Design → Instance → ℕ
ends_in design x = length (kind_of design x.kind).methods + length (kind_of design x.kind).callers

-- how many of them the instances before one have
abbrev pub first_of : Plan → ℕ → ℕ
first_of plan i = total (map (ends_in plan.design) (take i plan.instances))

-- how many of its own stand before the methods, or before the caller ports
abbrev pub offset_of : Kind → Bool → ℕ
offset_of kind false = 0
offset_of kind true = length kind.methods

-- the number of a method or caller port: by instance, methods before ports
abbrev pub number_of : Plan → End → ℕ
number_of plan e = first_of plan e.instance + offset_of (kind_at plan e.instance) e.port + e.number

-- the numbers of two ends that are joined
abbrev pub numbered : Plan → Link → ℕ × ℕ
numbered plan l = (number_of plan l.a, number_of plan l.b)

-- what is kept of a design
pub record IsSite (design : Design) (site : Site) : Type 0 where
  pub instances : site.instances ≡ instances_of design
  pub firsts : site.firsts ≡ map (first_of (laid_out design)) (range_with_len 0 (length (instances_of design)))
  pub count : site.count ≡ first_of (laid_out design) (length (instances_of design))
  pub few : site.count < 2 ^ 32
