-- A design with its bodies: each block and method with what was typed for its number.
use Rattle.std.specs.Prelude.{ℕ, zero, suc, ◌+◌, ◌==◌, if◌then◌else◌, List, [], ◌∷◌, length, drop, slice_set, Option, Some, None}
use Rattle.pm_design.specs.declared.body.Block.{Block}
use Rattle.pm_design.specs.declared.body.Ex.{Ex}
use Rattle.pm_design.specs.declared.body.Method.{Method}
use Rattle.pm_design.specs.declared.design.Design.{Design}
use Rattle.pm_design.specs.declared.design.Kind.{Kind}
use Rattle.pm_types.specs.declared.bodies.TypedBody.{TypedBody}
use Rattle.pm_types.specs.declared.bodies.TypedBody.TheVariants as typed
use Rattle.pm_types.specs.declared.filling.Filling.{Filling}
use Rattle.pm_types.specs.declared.filling.Slots.{Slots}

-- ---- what was typed for a number: the first body of that number

-- this body, if it is of the block, or else another one
abbrev pub block_or : ℕ → TypedBody → Option Filling → Option Filling
block_or k (typed.Block b out temps) other = if b == k then Some (record { out = out; temps = temps; answer = None }) else other
block_or k _ other = other

-- the body of a block
unfoldable pub block_in : List TypedBody → ℕ → Option Filling
block_in [] k = None
block_in (t ∷ ts) k = block_or k t (block_in ts k)

-- this body, if it is of the method, or else another one
abbrev pub method_or : ℕ → TypedBody → Option Filling → Option Filling
method_or k (typed.Method m out temps answer) other =
    if m == k then Some (record { out = out; temps = temps; answer = answer }) else other
method_or k _ other = other

-- the body of a method
unfoldable pub method_in : List TypedBody → ℕ → Option Filling
method_in [] k = None
method_in (t ∷ ts) k = method_or k t (method_in ts k)

-- this guard, if it is of the method, or else another one
abbrev pub guard_or : ℕ → TypedBody → Option Ex → Option Ex
guard_or k (typed.Guard m e) other = if m == k then Some e else other
guard_or k _ other = other

-- the guard of a method
unfoldable pub guard_in : List TypedBody → ℕ → Option Ex
guard_in [] k = None
guard_in (t ∷ ts) k = guard_or k t (guard_in ts k)

-- what there is for each of so many numbers, from one on
unfoldable pub found : {A : Type 0} → (ℕ → Option A) → ℕ → ℕ → List (Option A)
found at k zero = []
found at k (suc n) = at k ∷ found at (k + 1) n

-- what there is for each block and method of a kind that has so many
unfoldable pub slots_of : ℕ → ℕ → List TypedBody → Slots
slots_of blocks methods ts =
    record { blocks = found (block_in ts) 0 blocks; methods = found (method_in ts) 0 methods; guards = found (guard_in ts) 0 methods }

-- ---- one body more

-- what there is with a body more, which counts before others of its number
abbrev pub with_body : TypedBody → Slots → Slots
with_body (typed.Block b out temps) s =
    record s { blocks = slice_set s.blocks b (Some (record { out = out; temps = temps; answer = None })) }
with_body (typed.Method m out temps answer) s =
    record s { methods = slice_set s.methods m (Some (record { out = out; temps = temps; answer = answer })) }
with_body (typed.Guard m e) s = record s { guards = slice_set s.guards m (Some e) }

-- ---- blocks and methods with their bodies

-- the first, if there is one
abbrev pub first : {A : Type 0} → List (Option A) → Option A
first [] = None
first (a ∷ as') = a

-- a block with its body
abbrev pub filled_block : Block → Option Filling → Block
filled_block b (Some f) = record b { body = f.out; temps = f.temps }
filled_block b None = b

-- blocks with their bodies
unfoldable pub filled_blocks : List Block → List (Option Filling) → List Block
filled_blocks [] fs = []
filled_blocks (b ∷ bs) fs = filled_block b (first fs) ∷ filled_blocks bs (drop 1 fs)

-- a method with its body
abbrev pub with_filling : Method → Option Filling → Method
with_filling m (Some f) = record m { body = f.out; temps = f.temps; answer = f.answer }
with_filling m None = m

-- a method with its guard
abbrev pub with_guard : Method → Option Ex → Method
with_guard m (Some e) = record m { guard = Some e }
with_guard m None = m

-- methods with their bodies and guards
unfoldable pub filled_methods : List Method → List (Option Filling) → List (Option Ex) → List Method
filled_methods [] fs gs = []
filled_methods (m ∷ ms) fs gs = with_guard (with_filling m (first fs)) (first gs) ∷ filled_methods ms (drop 1 fs) (drop 1 gs)

-- a kind with what there is for its blocks and methods
abbrev pub kind_by : Kind → Slots → Kind
kind_by kind s = record kind { blocks = filled_blocks kind.blocks s.blocks; methods = filled_methods kind.methods s.methods s.guards }

-- a kind with its bodies
unfoldable pub filled_kind : Kind → List TypedBody → Kind
filled_kind kind ts = kind_by kind (slots_of (length kind.blocks) (length kind.methods) ts)

-- a kind with its bodies, if there are any
abbrev pub kind_with : Kind → Option (List TypedBody) → Kind
kind_with kind (Some ts) = filled_kind kind ts
kind_with kind None = kind

-- kinds with their bodies
unfoldable pub filled_kinds : List Kind → List (List TypedBody) → List Kind
filled_kinds [] bodies = []
filled_kinds (kind ∷ kinds) [] = kind_with kind None ∷ filled_kinds kinds []
filled_kinds (kind ∷ kinds) (ts ∷ rest) = kind_with kind (Some ts) ∷ filled_kinds kinds rest

-- a design with its bodies
abbrev pub filled : Design → List (List TypedBody) → Design
filled design bodies = record design { kinds = filled_kinds design.kinds bodies }
