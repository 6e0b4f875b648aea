-- The blocks at the indices of an order, one after another.
use Rattle.std.proofs.Common.{◌≡◌, ◌∙◌, ◌<◌, ◌+◌, ℕ, List, ◌∷◌, length, drop, get_or, refl, ap, sym, drop-cons, add-one}
use Rattle.std.specs.List.{cons_option}
use Rattle.std.proofs.lemmas.Option.{slice_get_read}
use Rattle.pm_job.specs.declared.component.Assignment.{Assignment}
use Rattle.pm_job.specs.declared.component.Component.{Component}
use Rattle.pm_job.specs.Precedence.{blocks_at}
use Rattle.pm_job.specs.Progress.{arranged}
use Rattle.pm_job.specs.Vectors.{header_of}

-- the blocks from one index of the order on begin with that block
pub blocks_at-drop : (blocks : List Assignment) (order : List ℕ) (index : ℕ) (block : Assignment) → index < length order → get_or order index 0 < length blocks
    → block ≡ get_or blocks (get_or order index 0) block → blocks_at blocks (drop index order) ≡ block ∷ blocks_at blocks (drop (index + 1) order)
blocks_at-drop blocks order index block within inside is =
    ap (blocks_at blocks) (drop-cons order index 0 within ∙ ap (λ (n : ℕ). get_or order index 0 ∷ drop n order) (sym (add-one index)))
    ∙ ap (λ found. cons_option found (blocks_at blocks (drop (index + 1) order))) (slice_get_read blocks (length blocks) (get_or order index 0) block refl inside is)

-- the header hangs on the signals alone
pub header_of-arranged : (component : Component) (order : List ℕ) → header_of (arranged component order) ≡ header_of component
unfolding header_of
header_of-arranged component order = refl
