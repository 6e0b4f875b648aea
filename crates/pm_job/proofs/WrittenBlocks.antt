-- The blocks that are read are those that the lines are written for.
use Rattle.std.proofs.Common.{◌≡◌, ◌++◌, ℕ, true, not, List, [], ◌∷◌, refl, ap, sym, subst, ◌∙◌}
use Rattle.std.specs.Prelude.{Some, option_map, codes, slice_get}
use Rattle.std.specs.Str.{bytes_eq}
use Rattle.std.proofs.lemmas.Bool.{not-false}
use Rattle.std.proofs.lemmas.List.{append_assoc}
use Rattle.std.proofs.lemmas.Option.{option_and_then_some}
use Rattle.std.proofs.lemmas.Slice.Eq.{bytes_eq-Decides}
use Rattle.pm_design.specs.declared.signal.Signal.{Signal}
use Rattle.pm_job.specs.declared.component.Assignment.{Assignment}
use Rattle.pm_job.specs.declared.component.Expression.{Expression}
use Rattle.pm_job.specs.Words.{blank, without_prefix, without_ending}
use Rattle.pm_job.specs.Spelling.{cut, is_new_name}
use Rattle.pm_job.specs.Form.{index_of, expression_of, width_at, assignment_of, block_name, block_of, blocks_of, declared, after_declared}
use Rattle.pm_job.specs.WrittenForm.{IsValue, AreBlockLines, AreBlocksLines}
use Rattle.pm_job.specs.WrittenForm.AreBlocksLines.{nothing as no_block, more as more_blocks}
use Rattle.pm_job.proofs.FormReads.{declared_none, after_none, declared_end, after_end}
use Rattle.pm_job.proofs.Headers.{without_prefix_some}
use Rattle.pm_job.proofs.WrittenParts.{option_map_some, where_true, where_false, without_ending_some, without_ending-append, cut_some, cut-append}
use Rattle.pm_job.proofs.WrittenSignals.{declaration_of-decorator}
use Rattle.pm_job.proofs.WrittenValues.{AreReadable, index_of_some, index_of-name, expression_of_some, expression_of-value}

-- ---- assignments

-- a line is `s.TARGET @= VALUE`
record IsAssigned (signals : List Signal) (line : List ℕ) (index : ℕ) (e : Expression) : Type 0 where
  pub target : Signal
  pub there : slice_get signals index ≡ Some target
  pub value : List ℕ
  pub written : IsValue signals target.width e value
  pub whole : line ≡ codes "      s." ++ target.name ++ codes " @= " ++ value

assignment_joined : (name value : List ℕ)
    → codes "      s." ++ name ++ codes " @= " ++ value ≡ codes "      s." ++ (name ++ blank ∷ (codes "@= " ++ value))
assignment_joined name value = simp append_assoc

-- an assignment that is read is written for its target and its value
assignment_of_some : (signals : List Signal) (line : List ℕ) (assigned : ℕ × Expression) → assignment_of signals line ≡ Some assigned
    → IsAssigned signals line assigned.0 assigned.1
unfolding assignment_of
assignment_of_some signals line assigned is =
    option_and_then_some _ (without_prefix (codes "      s.") line) assigned is (λ text one at_text.
    option_and_then_some _ (cut text) assigned at_text (λ name two at_name.
    option_and_then_some _ (without_prefix (codes "@= ") name.1) assigned at_name (λ value three at_value.
    option_and_then_some _ (index_of signals name.0) assigned at_value (λ index found at_place.
    option_and_then_some _ (width_at signals index) assigned at_place (λ width wide rest.
    option_map_some _ (expression_of signals width value) assigned rest (λ e read same.
    let here = index_of_some signals name.0 index found in
    let known : width_at signals index ≡ Some here.read.width = ap (option_map (λ (s : Signal). s.width)) here.there in
    let width_is : width ≡ here.read.width = cc in
    let parts : line ≡ codes "      s." ++ (name.0 ++ blank ∷ (codes "@= " ++ value)) =
    without_prefix_some (codes "      s.") line text one ∙ ap (λ (t : List ℕ). codes "      s." ++ t)
    (cut_some text name two ∙ ap (λ (t : List ℕ). name.0 ++ blank ∷ t) (without_prefix_some (codes "@= ") name.1 value three)) in
    subst (λ (a : ℕ × Expression). IsAssigned signals line a.0 a.1) same (record {
      target = here.read;
      there = here.there;
      value = value;
      written = subst (λ (w : ℕ). IsValue signals w e value) width_is (expression_of_some signals width value e read);
      whole = parts
          ∙ ap (λ (n : List ℕ). codes "      s." ++ (n ++ blank ∷ (codes "@= " ++ value))) here.named ∙ sym (assignment_joined here.read.name value);
    })))))))

assignment_of-parts : (signals : List Signal) (index : ℕ) (target : Signal) (e : Expression) (value : List ℕ) → AreReadable signals
    → slice_get signals index ≡ Some target → IsValue signals target.width e value
    → assignment_of signals (codes "      s." ++ (target.name ++ blank ∷ (codes "@= " ++ value))) ≡ Some (index, e)
unfolding assignment_of
assignment_of-parts signals index target e value readable there written =
    rw (
      cut-append target.name (codes "@= " ++ value) (readable.named index target there),
      index_of-name signals index target readable.differ there,
      there,
      expression_of-value signals target.width e value readable (readable.wide index target there) written,
    ) refl

-- what is written for a target and a value assigns it
assignment_of-line : (signals : List Signal) (index : ℕ) (target : Signal) (e : Expression) (value : List ℕ) → AreReadable signals
    → slice_get signals index ≡ Some target → IsValue signals target.width e value
    → assignment_of signals (codes "      s." ++ target.name ++ codes " @= " ++ value) ≡ Some (index, e)
assignment_of-line signals index target e value readable there written =
    ap (assignment_of signals) (assignment_joined target.name value) ∙ assignment_of-parts signals index target e value readable there written

-- ---- one block

-- a name that is read is written in its line
block_name_some : (line name : List ℕ) → block_name line ≡ Some name → (line ≡ codes "    def " ++ name ++ codes "():") × (is_new_name name ≡ true)
unfolding block_name
block_name_some line name is =
    option_and_then_some _ (without_prefix (codes "    def ") line) name is (λ text one more.
    option_and_then_some _ (without_ending (codes "():") text) name more (λ found two rest.
    let new = where_true (is_new_name found) (Some found) name rest in
    let same : found ≡ name = cc in (
      without_prefix_some (codes "    def ") line text one
          ∙ ap (λ (t : List ℕ). codes "    def " ++ t) (without_ending_some (codes "():") text found two ∙ ap (λ (n : List ℕ). n ++ codes "():") same),
      ap is_new_name (sym same) ∙ new.0,
    )))

-- the name of a block is read from what is written for it
block_name-line : (name : List ℕ) → is_new_name name ≡ true → block_name (codes "    def " ++ name ++ codes "():") ≡ Some name
unfolding block_name
block_name-line name new = rw (without_ending-append name (codes "():"), new) refl

same_lines : (first second third one two three : List ℕ) → first ≡ one → second ≡ two → third ≡ three
    → first ∷ second ∷ third ∷ [] ≡ one ∷ two ∷ three ∷ []
same_lines first second third one two three a b c = rw (a, b, c) refl

-- a block that is read is written in its lines
block_of_some : (signals : List Signal) (decorator head line : List ℕ) (block : Assignment) → block_of signals decorator head line ≡ Some block
    → AreBlockLines signals block (decorator ∷ head ∷ line ∷ [])
unfolding block_of
block_of_some signals decorator head line block is =
    let marked = where_false (not (bytes_eq decorator (codes "    @update"))) _ block is in
    option_and_then_some _ (block_name head) block marked.1 (λ name at_head rest.
    option_map_some _ (assignment_of signals line) block rest (λ assigned at_line same.
    let named = block_name_some head name at_head in
    let sets = assignment_of_some signals line assigned at_line in
    let mark_is : decorator ≡ codes "    @update" = (bytes_eq-Decides decorator (codes "    @update")).0 (not-false _ marked.0) in
    subst (λ (b : Assignment). AreBlockLines signals b (decorator ∷ head ∷ line ∷ [])) same (record {
      name = named.1;
      target = sets.target;
      index = sets.there;
      value = sets.value;
      written = sets.written;
      whole = same_lines decorator head line _ _ _ mark_is named.0 sets.whole;
    })))

-- what is written for a block is read as it
block_of-lines : (signals : List Signal) (block : Assignment) (lines : List (List ℕ)) (written : AreBlockLines signals block lines)
    → AreReadable signals
    → block_of signals (codes "    @update") (codes "    def " ++ block.name ++ codes "():")
    (codes "      s." ++ written.target.name ++ codes " @= " ++ written.value) ≡ Some block
unfolding block_of
block_of-lines signals block lines written readable =
    rw (
      block_name-line block.name written.name,
      assignment_of-line signals block.target written.target block.value written.value readable written.index written.written,
    ) refl

-- ---- all blocks

-- blocks that are read are written in their lines
pub blocks_of_some : (signals : List Signal) (lines : List (List ℕ)) (blocks : List Assignment) → blocks_of signals lines ≡ Some blocks
    → AreBlocksLines signals blocks lines
unfolding blocks_of
blocks_of_some signals [] blocks is =
    let same : [] ≡ blocks = cc in
    subst (λ (b : List Assignment). AreBlocksLines signals b []) same no_block
blocks_of_some signals (decorator ∷ []) blocks is = absurd (cc)
blocks_of_some signals (decorator ∷ head ∷ []) blocks is = absurd (cc)
blocks_of_some signals (decorator ∷ head ∷ line ∷ lines) blocks is =
    option_and_then_some _ (block_of signals decorator head line) blocks is (λ block one rest.
    option_map_some _ (blocks_of signals lines) blocks rest (λ others more same.
    subst (λ (b : List Assignment). AreBlocksLines signals b (decorator ∷ head ∷ line ∷ lines)) same
    (more_blocks block others (decorator ∷ head ∷ line ∷ []) lines
    (block_of_some signals decorator head line block one) (blocks_of_some signals lines others more))))

-- what is written for blocks is read as them
pub blocks_of-lines : (signals : List Signal) (blocks : List Assignment) (lines : List (List ℕ)) → AreReadable signals
    → AreBlocksLines signals blocks lines → blocks_of signals lines ≡ Some blocks
unfolding blocks_of
blocks_of-lines signals blocks lines readable no_block = refl
blocks_of-lines signals blocks lines readable (more_blocks block others here after one rest) =
    rw (one.whole, block_of-lines signals block here one readable, blocks_of-lines signals others after readable rest) refl

-- the lines of blocks declare no signal
pub blocks_declare_none : (signals : List Signal) (blocks : List Assignment) (lines : List (List ℕ)) → AreBlocksLines signals blocks lines
    → (declared lines ≡ []) × (after_declared lines ≡ lines)
blocks_declare_none signals blocks lines no_block = (declared_end [] refl, after_end [] refl)
blocks_declare_none signals blocks lines (more_blocks block others here after one rest) =
    rw one.whole (declared_none _ _ (codes "    @update") refl declaration_of-decorator, after_none _ _ (codes "    @update") refl declaration_of-decorator)
