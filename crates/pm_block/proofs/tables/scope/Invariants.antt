use Rattle.std.proofs.Common.{◌≡◌, ◌++◌, ◌∷◌, map, drop}
use Rattle.pm_design.specs.Instances.{first_bits_of}
use Rattle.pm_design.specs.Layout.{instance_of}
use Rattle.pm_block.proofs.tables.scope.Given as goal

-- the scope of the instance and of the children so far
abbrev pub invariant-loop-child : goal.invariant-loop-child
invariant-loop-child l = l.scope ++ map (λ owner. first_bits_of l.plan.design (instance_of l.plan owner)) (drop l.child-index l.child-items) ≡ map (λ owner. first_bits_of l.plan.design (instance_of l.plan owner)) (l.instance ∷ l.child-items)
