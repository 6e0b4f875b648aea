-- Temporaries of sound bodies.
use Rattle.std.proofs.Common.{◌≡◌, ◌∙◌, ◌+◌, ◌<◌, ◌≤◌, ◌&&◌, ℕ, zero, suc, List, [], ◌∷◌, refl, ap, subst, length, nat_lt, nat_le, arith, ltb-true, leb-true}
use Rattle.std.specs.Prelude.{IsTrue, slice_index_or}
use Rattle.std.proofs.lemmas.Bool.{and_parts}
use Rattle.std.proofs.lemmas.List.{length-map}
use Rattle.pm_bits.specs.Word.{Word}
use Rattle.pm_design.specs.declared.body.Ex.{Ex}
use Rattle.pm_design.specs.declared.body.Ex.TheVariants as ex
use Rattle.pm_design.specs.Layout.{Layout}
use Rattle.pm_design.specs.Typing.{Typing, typing}
use Rattle.pm_design.proofs.Typings.{typing_temp}
use Rattle.pm_block.specs.Plans.{plain_sight, widths_of}
use Rattle.pm_block.specs.Run.{temps_of}

-- the width of a temporary
pub width_of_temp : (ws : List Word) (t : ℕ) → (temps_of ws t).width ≡ slice_index_or (widths_of ws) t 0
width_of_temp [] t = refl
width_of_temp (w ∷ ws) zero = refl
width_of_temp (w ∷ ws) (suc t) = width_of_temp ws t

-- as many widths as words
pub length_of_widths : (ws : List Word) → length (widths_of ws) ≡ length ws
length_of_widths ws = length-map ws (λ w. w.width)

-- a temporary that is read is there, and the bits are its own
pub read_temp : (scope : List (List ℕ)) (layout : Layout) (ws : List Word) (x : Ex) (t lo n : ℕ) → x ≡ ex.Temp t lo n → IsTrue (typing (plain_sight scope layout (widths_of ws)) x).fine
    → (t < length ws) × ((0 < n) × (lo + n ≤ (temps_of ws t).width))
read_temp scope layout ws x t lo n is h =
    let widths : List ℕ = widths_of ws in
    let fine : IsTrue (nat_lt t (length widths) && (nat_lt 0 n && nat_le (lo + n) (slice_index_or widths t 0))) =
    subst (λ (y : Typing). IsTrue y.fine) (ap (typing (plain_sight scope layout widths)) is ∙ typing_temp (plain_sight scope layout widths) t lo n) h in
    let p = and_parts _ _ fine in
    let q = and_parts _ _ p.1 in
    let there : t < length widths = ltb-true _ _ p.0 in
    let within : lo + n ≤ slice_index_or widths t 0 = leb-true _ _ q.1 in
    (omega (arith, there, length_of_widths ws), (ltb-true _ _ q.0, omega (arith, within, width_of_temp ws t)))
