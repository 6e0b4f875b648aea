-- Running ordered blocks solves the equations, the equations have one solution, and no other order changes it.
use Rattle.std.proofs.Common.{◌≡◌, ◌≢◌, ◌∙◌, ◌<◌, ◌==◌, not, ℕ, zero, suc, Bool, true, false, List, [], ◌∷◌, length, refl, ap, ap₂, sym, subst, arith, get_or-set_same, get_or-set_other}
use Rattle.std.specs.Prelude.{All, Contains, if◌then◌else◌, slice_index_or}
use Rattle.std.specs.List.{list_all, list_any}
use Rattle.std.proofs.lemmas.List.{length-set, ext_get_or}
use Rattle.std.proofs.lemmas.Bool.{eqb-true, eqb-false, eq-eqb, not-true, both_ways, or_left, or_right, or_parts}
use Rattle.pm_bits.specs.Word.{Word}
use Rattle.pm_bits.specs.Operator.{result_of}
use Rattle.pm_job.specs.declared.component.Assignment.{Assignment}
use Rattle.pm_job.specs.declared.component.Expression.{Expression}
use Rattle.pm_job.specs.declared.component.Expression.TheVariants as expression
use Rattle.pm_job.specs.declared.component.Operand.{Operand}
use Rattle.pm_job.specs.declared.component.Operand.TheVariants as operand
use Rattle.pm_job.specs.Form.{targets_differ}
use Rattle.pm_job.specs.Laws.{HaveSameBlocks}
use Rattle.pm_job.specs.Progress.{after_block, after_blocks}
use Rattle.pm_job.specs.Reads.{operand_is, reads, is_ordered, AssignWithin}
use Rattle.pm_job.specs.Settled.{IsSettled, value_at, seen_by, operand_value, expression_value}
use Rattle.pm_job.proofs.Widths.{both}

-- an expression's value hangs on the signals that it reads alone
operand_value-agree : (f g : ℕ → Word) (a : Operand) → ((index : ℕ) → operand_is index a ≡ true → f index ≡ g index) → operand_value f a ≡ operand_value g a
operand_value-agree f g (operand.Signal index) same = same index (eq-eqb index index refl)
operand_value-agree f g (operand.Constant bits) same = refl

pub expression_value-agree : (f g : ℕ → Word) (e : Expression) → ((index : ℕ) → reads index e ≡ true → f index ≡ g index) → expression_value f e ≡ expression_value g e
expression_value-agree f g (expression.Just a) same = operand_value-agree f g a same
expression_value-agree f g (expression.Both o a b) same =
    ap₂ (result_of o)
    (operand_value-agree f g a (λ index here. same index (or_left (operand_is index a) (operand_is index b) here)))
    (operand_value-agree f g b (λ index here. same index (or_right (operand_is index a) (operand_is index b) here)))

-- what is read, no later block assigns
unassigned_later : (blocks : List Assignment) (e : Expression) (index : ℕ) → list_all (λ later. not (reads later.target e)) blocks ≡ true → reads index e ≡ true
    → All (λ later. later.target ≢ index) blocks
unassigned_later [] e index none read k d within = absurd (omega arith)
unassigned_later (later ∷ blocks) e index none read zero d within = λ (same : later.target ≡ index).
    let parts = both (not (reads later.target e)) (list_all (λ (other : Assignment). not (reads other.target e)) blocks) none in
    both_ways (reads later.target e) (not-true (reads later.target e) parts.0) (ap (λ (p : ℕ). reads p e) same ∙ read)
unassigned_later (later ∷ blocks) e index none read (suc k) d within =
    let parts = both (not (reads later.target e)) (list_all (λ (other : Assignment). not (reads other.target e)) blocks) none in
    unassigned_later blocks e index parts.1 read k d (omega (arith, within))

-- a target that is not found among blocks is none of theirs
pub other_targets : (blocks : List Assignment) (target : ℕ) → not (list_any (λ other. other.target == target) blocks) ≡ true → All (λ other. other.target ≢ target) blocks
other_targets [] target none k d within = absurd (omega arith)
other_targets (block ∷ blocks) target none zero d within = λ (same : block.target ≡ target).
    let parts = or_parts (block.target == target) (list_any (λ (other : Assignment). other.target == target) blocks) (not-true _ none) in
    both_ways (block.target == target) parts.0 (eq-eqb block.target target same)
other_targets (block ∷ blocks) target none (suc k) d within =
    let parts = or_parts (block.target == target) (list_any (λ (other : Assignment). other.target == target) blocks) (not-true _ none) in
    other_targets blocks target (ap not parts.1) k d (omega (arith, within))

-- an index that neither the first block nor a later one assigns
unassigned_both : (block : Assignment) (blocks : List Assignment) (index : ℕ) → index ≢ block.target → All (λ later. later.target ≢ index) blocks
    → All (λ other. other.target ≢ index) (block ∷ blocks)
unassigned_both block blocks index first rest zero d within = λ (same : block.target ≡ index). first (sym same)
unassigned_both block blocks index first rest (suc k) d within = rest k d (omega (arith, within))

-- a block changes its target alone
after_block-other : (block : Assignment) (start : List Word) (index : ℕ) → index ≢ block.target → value_at (after_block block start) index ≡ value_at start index
after_block-other block start index other = get_or-set_other start block.target index (expression_value (value_at start) block.value) (record { width = 1; value = 0 }) other

after_block-target : (block : Assignment) (start : List Word) → block.target < length start → value_at (after_block block start) block.target ≡ expression_value (value_at start) block.value
after_block-target block start within = get_or-set_same start block.target (expression_value (value_at start) block.value) (record { width = 1; value = 0 }) within

length-after_block : (block : Assignment) (start : List Word) → length (after_block block start) ≡ length start
length-after_block block start = length-set start block.target (expression_value (value_at start) block.value)

-- what a block sees is the same after one with another target
seen_by-after_block : (block later : Assignment) (start settled : List Word) → later.target ≢ block.target → (index : ℕ)
    → seen_by later (after_block block start) settled index ≡ seen_by later start settled index
seen_by-after_block block later start settled other index = pick (index == later.target) refl where
  pick : (here : Bool) → (index == later.target) ≡ here
      → (if here then value_at (after_block block start) index else value_at settled index) ≡ (if here then value_at start index else value_at settled index)
  pick true is = after_block-other block start index (λ (same : index ≡ block.target). other (sym (eqb-true index later.target is) ∙ same))
  pick false is = refl

-- the first block sees what it reads as it was at the start
seen_by-first : (block : Assignment) (blocks : List Assignment) (start settled : List Word) → list_all (λ later. not (reads later.target block.value)) blocks ≡ true
    → ((index : ℕ) → index ≢ block.target → All (λ later. later.target ≢ index) blocks → value_at settled index ≡ value_at start index)
    → (index : ℕ) → reads index block.value ≡ true → seen_by block start settled index ≡ value_at start index
seen_by-first block blocks start settled unread stays index read = pick (index == block.target) refl where
  pick : (here : Bool) → (index == block.target) ≡ here → (if here then value_at start index else value_at settled index) ≡ value_at start index
  pick true is = refl
  pick false is = stays index (eqb-false index block.target is) (unassigned_later blocks block.value index unread read)

-- values that solve the equations of the later blocks, after the first one ran, solve them all
settled_from_later : (block : Assignment) (blocks : List Assignment) (start settled : List Word) → list_all (λ later. not (reads later.target block.value)) blocks ≡ true
    → All (λ other. other.target ≢ block.target) blocks → block.target < length start → IsSettled blocks (after_block block start) settled → IsSettled (block ∷ blocks) start settled
settled_from_later block blocks start settled unread others within later = record {
  one_each = later.one_each ∙ length-after_block block start;
  unassigned = λ index none. stays index (λ (same : index ≡ block.target). none 0 block (omega arith) (sym same)) (λ k d in_range. none (suc k) d (omega (arith, in_range)));
  assigned = each;
} where
  stays : (index : ℕ) → index ≢ block.target → All (λ other. other.target ≢ index) blocks → value_at settled index ≡ value_at start index
  stays index other none = later.unassigned index none ∙ after_block-other block start index other

  each : All (λ b. value_at settled b.target ≡ expression_value (seen_by b start settled) b.value) (block ∷ blocks)
  each zero d in_range =
      later.unassigned block.target others ∙ after_block-target block start within
      ∙ sym (expression_value-agree (seen_by block start settled) (value_at start) block.value (seen_by-first block blocks start settled unread stays))
  each (suc k) d in_range =
      let b = slice_index_or blocks k d in
      let inside : k < length blocks = omega (arith, in_range) in
      later.assigned k d inside
      ∙ expression_value-agree (seen_by b (after_block block start) settled) (seen_by b start settled) b.value
      (λ index read. seen_by-after_block block b start settled (others k d inside) index)

-- values that solve the equations of all blocks solve those of the later ones, after the first one ran
later_from_settled : (block : Assignment) (blocks : List Assignment) (start settled : List Word) → list_all (λ later. not (reads later.target block.value)) blocks ≡ true
    → All (λ other. other.target ≢ block.target) blocks → block.target < length start → IsSettled (block ∷ blocks) start settled → IsSettled blocks (after_block block start) settled
later_from_settled block blocks start settled unread others within all = record {
  one_each = all.one_each ∙ sym (length-after_block block start);
  unassigned = λ index none. pick index none (index == block.target) refl;
  assigned = each;
} where
  stays : (index : ℕ) → index ≢ block.target → All (λ other. other.target ≢ index) blocks → value_at settled index ≡ value_at start index
  stays index other none = all.unassigned index (unassigned_both block blocks index other none)

  first : value_at settled block.target ≡ value_at (after_block block start) block.target
  first =
      all.assigned 0 block (omega arith)
      ∙ expression_value-agree (seen_by block start settled) (value_at start) block.value (seen_by-first block blocks start settled unread stays)
      ∙ sym (after_block-target block start within)

  pick : (index : ℕ) → All (λ other. other.target ≢ index) blocks → (here : Bool) → (index == block.target) ≡ here → value_at settled index ≡ value_at (after_block block start) index
  pick index none true is =
      subst (λ (p : ℕ). value_at settled p ≡ value_at (after_block block start) p) (sym (eqb-true index block.target is)) first
  pick index none false is =
      let other = eqb-false index block.target is in stays index other none ∙ sym (after_block-other block start index other)

  each : All (λ b. value_at settled b.target ≡ expression_value (seen_by b (after_block block start) settled) b.value) blocks
  each k d in_range =
      let b = slice_index_or blocks k d in
      all.assigned (suc k) d (omega (arith, in_range))
      ∙ sym (expression_value-agree (seen_by b (after_block block start) settled) (seen_by b start settled) b.value
      (λ index read. seen_by-after_block block b start settled (others k d in_range) index))

-- the later blocks assign values that are there after the first one ran
within_later : (block : Assignment) (blocks : List Assignment) (start : List Word) → AssignWithin (length start) (block ∷ blocks) → AssignWithin (length (after_block block start)) blocks
within_later block blocks start within k d in_range =
    let inside = within (suc k) d (omega (arith, in_range)) in omega (arith, inside, length-after_block block start)

-- running ordered blocks solves the equations
pub ordered_settles : (blocks : List Assignment) (start : List Word) → is_ordered blocks ≡ true → targets_differ blocks ≡ true → AssignWithin (length start) blocks
    → IsSettled blocks start (after_blocks blocks start)
ordered_settles [] start ordered differ within = record {
  one_each = refl;
  unassigned = λ index none. refl;
  assigned = λ k d out. absurd (omega arith);
}
ordered_settles (block ∷ blocks) start ordered differ within =
    let order = both (list_all (λ (later : Assignment). not (reads later.target block.value)) blocks) (is_ordered blocks) ordered in
    let targets = both (not (list_any (λ (other : Assignment). other.target == block.target) blocks)) (targets_differ blocks) differ in
    settled_from_later block blocks start (after_blocks blocks (after_block block start)) order.0 (other_targets blocks block.target targets.0) (within 0 block (omega arith))
    (ordered_settles blocks (after_block block start) order.1 targets.1 (within_later block blocks start within))

-- the values that solve the equations are those after the blocks ran in order
pub settled_values : (blocks : List Assignment) (start settled : List Word) → is_ordered blocks ≡ true → targets_differ blocks ≡ true → AssignWithin (length start) blocks
    → IsSettled blocks start settled → settled ≡ after_blocks blocks start
settled_values [] start settled ordered differ within all =
    ext_get_or (record { width = 1; value = 0 }) settled start all.one_each (λ index in_range. all.unassigned index (λ k d out. absurd (omega arith)))
settled_values (block ∷ blocks) start settled ordered differ within all =
    let order = both (list_all (λ (later : Assignment). not (reads later.target block.value)) blocks) (is_ordered blocks) ordered in
    let targets = both (not (list_any (λ (other : Assignment). other.target == block.target) blocks)) (targets_differ blocks) differ in
    settled_values blocks (after_block block start) settled order.1 targets.1 (within_later block blocks start within)
    (later_from_settled block blocks start settled order.0 (other_targets blocks block.target targets.0) (within 0 block (omega arith)) all)

-- the equations of ordered blocks have one solution
pub one_solution_ordered : (blocks : List Assignment) (start a b : List Word) → is_ordered blocks ≡ true → targets_differ blocks ≡ true → AssignWithin (length start) blocks
    → IsSettled blocks start a → IsSettled blocks start b → a ≡ b
one_solution_ordered blocks start a b ordered differ within first second =
    settled_values blocks start a ordered differ within first ∙ sym (settled_values blocks start b ordered differ within second)

-- the same blocks in another order have the same solutions
pub settled_permuted : (blocks blocks' : List Assignment) (start settled : List Word) → HaveSameBlocks blocks blocks' → IsSettled blocks start settled → IsSettled blocks' start settled
settled_permuted blocks blocks' start settled same all = record {
  one_each = all.one_each;
  unassigned = λ index none. all.unassigned index (moved (λ (b : Assignment). b.target ≢ index) blocks' blocks same.0 none);
  assigned = moved (λ (b : Assignment). value_at settled b.target ≡ expression_value (seen_by b start settled) b.value) blocks blocks' same.1 all.assigned;
} where
  moved : (P : Assignment → Type 0) (xs ys : List Assignment) → All (Contains xs) ys → All P xs → All P ys
  moved P xs ys among each k d in_range =
      let found = among k d in_range in subst P found.2 (each found.0 (slice_index_or ys k d) found.1)

-- running an arrangement in order solves the equations of the blocks
pub arranged_settles : (blocks arranged : List Assignment) (start : List Word) → HaveSameBlocks arranged blocks → is_ordered arranged ≡ true → targets_differ arranged ≡ true
    → AssignWithin (length start) arranged → IsSettled blocks start (after_blocks arranged start)
arranged_settles blocks arranged start same ordered differ within =
    settled_permuted arranged blocks start (after_blocks arranged start) same (ordered_settles arranged start ordered differ within)

-- the equations of blocks with an ordered arrangement have one solution
pub one_solution_arranged : (blocks arranged : List Assignment) (start a b : List Word) → HaveSameBlocks blocks arranged → is_ordered arranged ≡ true → targets_differ arranged ≡ true
    → AssignWithin (length start) arranged → IsSettled blocks start a → IsSettled blocks start b → a ≡ b
one_solution_arranged blocks arranged start a b same ordered differ within first second =
    one_solution_ordered arranged start a b ordered differ within (settled_permuted blocks arranged start a same first) (settled_permuted blocks arranged start b same second)
