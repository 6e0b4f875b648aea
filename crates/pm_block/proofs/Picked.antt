-- What an index picks.
use Rattle.std.proofs.Common.{◌≡◌, ◌∙◌, ◌<◌, ℕ, List, sym, ap, Bool, length}
use Rattle.std.specs.Prelude.{if◌then◌else◌, slice_index_or}
use Rattle.std.proofs.lemmas.Bool.{lt-ltb}
use Rattle.pm_bits.specs.Word.{Word}
use Rattle.pm_design.specs.declared.connection.Part.{Part}
use Rattle.pm_block.specs.Run.{State, assigned, put_part, picked_put}
use Rattle.pm_block.specs.Value.{Names, no_part}

picked_here : (k : Bool) (n : Names) (ps : List Part) (i : ℕ) (w : Word) (s : State) → i < length ps → assigned k (put_part n (slice_index_or ps i no_part) w) s ≡ picked_put k n ps i w s
picked_here k n ps i w s lt = ap (λ (b : Bool). if b then assigned k (put_part n (slice_index_or ps i no_part) w) s else s) (sym (lt-ltb i (length ps) lt))

-- an index below the length picks its part
pub picked_there : (k : Bool) (n : Names) (ps : List Part) (i j : ℕ) (p : Part) (w : Word) (s now : State) → j ≡ i → i < length ps → p ≡ slice_index_or ps j no_part → now ≡ assigned k (put_part n p w) s → now ≡ picked_put k n ps i w s
picked_there k n ps i j p w s now same lt is e = e ∙ (ap (λ (q : Part). assigned k (put_part n q w) s) (is ∙ ap (λ (x : ℕ). slice_index_or ps x no_part) same) ∙ picked_here k n ps i w s lt)
