-- Blocks that are there.
use Rattle.std.proofs.Common.{◌≡◌, ◌∙◌, ◌<◌, ℕ, zero, suc, List, [], ◌∷◌, length, nat_lt, arith, ltb-true, ap, sym}
use Rattle.std.specs.Prelude.{IsTrue, slice_get, slice_index_or, unwrap_or, Option, None, Some}
use Rattle.std.proofs.lemmas.Option.{get_or_from_slice_get, unwrap_or-slice_get}
use Rattle.std.proofs.lemmas.Bool.{and_parts}
use Rattle.pm_design.specs.declared.design.Kind.{Kind}
use Rattle.pm_design.specs.declared.plan.Flat.{Flat}
use Rattle.pm_design.specs.declared.plan.Plan.{Plan}
use Rattle.pm_design.specs.Layout.{instance_of}
use Rattle.pm_design.specs.Lookups.{no_kind}
use Rattle.pm_design.specs.Runnable.{is_there, kind_at}

-- its instance is there
pub is_instance : (plan : Plan) (flat : Flat) → IsTrue (is_there plan flat) → flat.instance < length plan.instances
is_instance plan flat there = ltb-true _ _ (and_parts (nat_lt flat.instance (length plan.instances)) (nat_lt flat.block (length (kind_at plan flat.instance).blocks)) there).0

-- it is a block of its instance's kind
pub is_block : (plan : Plan) (flat : Flat) → IsTrue (is_there plan flat) → flat.block < length (kind_at plan flat.instance).blocks
is_block plan flat there = ltb-true _ _ (and_parts (nat_lt flat.instance (length plan.instances)) (nat_lt flat.block (length (kind_at plan flat.instance).blocks)) there).1

kind_with_blocks : (kinds : List Kind) (k b : ℕ) → b < length (slice_index_or kinds k no_kind).blocks → k < length kinds
kind_with_blocks [] k b lt = absurd (omega arith)
kind_with_blocks (x ∷ xs) zero b lt = omega arith
kind_with_blocks (x ∷ xs) (suc k) b lt = let there : k < length xs = kind_with_blocks xs k b lt in omega arith

-- its instance's kind is there
pub has_kind : (plan : Plan) (flat : Flat) → IsTrue (is_there plan flat) → (instance_of plan flat.instance).kind < length plan.design.kinds
has_kind plan flat there = kind_with_blocks plan.design.kinds (instance_of plan flat.instance).kind flat.block (is_block plan flat there)

-- a kind that is found
pub kind_found : (kinds : List Kind) (k : ℕ) (x : Kind) → slice_get kinds k ≡ Some x → slice_index_or kinds k no_kind ≡ x
kind_found kinds k x at = get_or_from_slice_get kinds k x no_kind at

-- a kind that is missing
pub kind_missing : (kinds : List Kind) (k : ℕ) → slice_get kinds k ≡ None → slice_index_or kinds k no_kind ≡ no_kind
kind_missing kinds k at = sym (unwrap_or-slice_get kinds k no_kind) ∙ ap (λ (o : Option Kind). unwrap_or o no_kind) at
