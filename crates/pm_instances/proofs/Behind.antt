-- The place behind some instances.
use Rattle.std.proofs.Common.{◌≡◌, ◌+◌, ◌*◌, ◌≤◌, ◌^◌, ◌++◌, List, [], ◌∷◌, length, map, refl}
use Rattle.std.proofs.Common.{arith}
use Rattle.pm_design.specs.declared.design.Design.{Design}
use Rattle.pm_design.specs.declared.plan.Instance.{Instance}
use Rattle.pm_design.specs.Elaborated.{IsElaborated}
use Rattle.pm_design.specs.Instances.{Place, behind, behind_one, own_bits}
use Rattle.pm_design.specs.Lookups.{kind_of}
use Rattle.pm_design.specs.Widths.{total}
use Rattle.pm_instances.proofs.EachKind.{few_states}

pub behind-append : (design : Design) (some more : List Instance) (at : Place) →
    behind design (some ++ more) at ≡ behind design more (behind design some at)
behind-append design [] more at = refl
behind-append design (i ∷ is) more at = behind-append design is more (behind_one (kind_of design i.kind) at)

pub bit-behind : (design : Design) (is : List Instance) (at : Place) →
    (behind design is at).bit ≡ at.bit + total (map (λ i. own_bits (kind_of design i.kind)) is)
bit-behind design [] at = omega arith
bit-behind design (i ∷ is) at =
    let e : (behind design is (behind_one (kind_of design i.kind) at)).bit
    ≡ at.bit + own_bits (kind_of design i.kind) + total (map (λ i. own_bits (kind_of design i.kind)) is) =
    bit-behind design is (behind_one (kind_of design i.kind) at) in
    omega arith

pub instance-behind : (design : Design) (is : List Instance) (at : Place) →
    (behind design is at).instance ≡ at.instance + length is
instance-behind design [] at = omega arith
instance-behind design (i ∷ is) at =
    let e : (behind design is (behind_one (kind_of design i.kind) at)).instance ≡ at.instance + 1 + length is =
    instance-behind design is (behind_one (kind_of design i.kind) at) in
    omega arith

-- each instance has few states
pub states-behind : (design : Design) → IsElaborated design → (is : List Instance) (at : Place) →
    at.state ≤ at.instance * 2 ^ 20 → (behind design is at).state ≤ (behind design is at).instance * 2 ^ 20
states-behind design elaborated [] at few = few
states-behind design elaborated (i ∷ is) at few =
    let more : length (kind_of design i.kind).states ≤ 2 ^ 20 = few_states design elaborated i.kind in
    states-behind design elaborated is (behind_one (kind_of design i.kind) at) (omega arith)
