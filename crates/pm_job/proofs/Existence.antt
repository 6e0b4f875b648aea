-- Every list of blocks has an arrangement or a loop.
use Rattle.std.proofs.Common.{◌≡◌, ◌++◌, ◌⊎◌, inl, inr, ℕ, zero, suc, List, [], ◌∷◌, true, length, get_or, refl, sym, arith}
use Rattle.std.specs.Prelude.{Option, None, Some}
use Rattle.std.specs.List.{position, remove}
use Rattle.std.specs.List.Sorted.{IsPermutation}
use Rattle.std.proofs.lemmas.List.{get_or_default}
use Rattle.std.proofs.lemmas.List.Quantifiers.{position-Some}
use Rattle.pm_job.specs.declared.component.Assignment.{Assignment}
use Rattle.pm_job.specs.Precedence.{HasLoop, IsArrangement, indices_of, is_free}
use Rattle.pm_job.proofs.Arrangements.{is_arranged, IsArrangement-from_arranged, all_left, one_placed}
use Rattle.pm_job.proofs.Loops.{HasLoop-from_none_free}

abbrev Settles : List Assignment → Type 0
Settles blocks = HasLoop blocks ⊎ ((indices : List ℕ) × IsArrangement blocks indices)

-- the first free index is taken, as long as indices are left
take_free : (blocks : List Assignment) (count : ℕ) (placed left : List ℕ) → length left ≡ count → IsPermutation (indices_of (length blocks)) (placed ++ left)
    → is_arranged blocks placed left ≡ true → Settles blocks
take_free blocks zero placed left none each arranged = inr (placed, IsArrangement-from_arranged blocks placed left none each arranged)
take_free blocks (suc count) placed left some each arranged =
    pick (position (is_free blocks left) left) refl (λ (pushed rest : List ℕ) (fewer : length rest ≡ count). take_free blocks count pushed rest fewer) where
      pick : (first : Option ℕ) → position (is_free blocks left) left ≡ first
          → ((pushed rest : List ℕ) → length rest ≡ count → IsPermutation (indices_of (length blocks)) (pushed ++ rest) → is_arranged blocks pushed rest ≡ true → Settles blocks) → Settles blocks
      pick None is more = inl (HasLoop-from_none_free blocks left (omega (arith, some)) is)
      pick (Some slot) is more =
          let index = get_or left slot 0 in
          let within = (position-Some (is_free blocks left) left slot 0 is).0 in
          let next = one_placed blocks placed left (placed ++ index ∷ []) (remove left slot) slot index (sym is) (get_or_default left slot 0 index within) refl refl each arranged in
          more (placed ++ index ∷ []) (remove left slot) (omega (arith, next.0, some)) next.1 next.2

pub arrangement_or_loop : (blocks : List Assignment) → HasLoop blocks ⊎ ((indices : List ℕ) × IsArrangement blocks indices)
arrangement_or_loop blocks =
    let all = all_left blocks [] (indices_of (length blocks)) refl refl in
    take_free blocks (length blocks) [] (indices_of (length blocks)) all.0 all.1 all.2
