-- The greatest number of blocks.
use Rattle.std.proofs.Common.{◌≡◌, ◌+◌, ◌<◌, ℕ, suc, List, ◌∷◌, length, drop, max, ap, sym, add-one, drop-cons}
use Rattle.std.specs.Prelude.{slice_index_or}
use Rattle.pm_design.specs.declared.plan.Flat.{Flat}
use Rattle.pm_design.specs.Nodes.{Inside}
use Rattle.pm_block.specs.Tables.{most}

-- one more block
pub most_behind : (number : Flat → ℕ) (xs : List Flat) (i : ℕ) (x : Flat) → i < length xs → x ≡ slice_index_or xs i x → most number (drop i xs) ≡ max (number x) (most number (drop (i + 1) xs))
most_behind number xs i x lt is =
    let split : drop i xs ≡ x ∷ drop (i + 1) xs = rw (add-one, drop-cons xs i x) (ap (λ (y : Flat). y ∷ drop (suc i) xs) (sym is)) in
    ap (most number) split

-- nothing is put in
pub no_inside : Inside
no_inside = record { guard = λ m. 0; body = λ m. 0 }
