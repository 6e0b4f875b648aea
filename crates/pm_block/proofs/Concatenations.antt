-- The parts of a concatenation.
use Rattle.std.proofs.Common.{◌≡◌, ◌∙◌, ◌+◌, ◌<◌, ◌≤◌, ◌&&◌, ℕ, List, map, ap, sym, subst, length, nat_lt, nat_le, ltb-true, leb-true, arith}
use Rattle.std.specs.Prelude.{IsTrue}
use Rattle.std.specs.List.{list_all}
use Rattle.std.proofs.lemmas.Bool.{and_parts}
use Rattle.std.proofs.lemmas.List.{length-map}
use Rattle.pm_design.specs.declared.body.Ex.{Ex}
use Rattle.pm_design.specs.declared.body.Ex.TheVariants as ex
use Rattle.pm_design.specs.declared.connection.Callee.{Callee}
use Rattle.pm_design.specs.Nodes.{nodes}
use Rattle.pm_design.specs.Typing.{Sight, Typing, typing}
use Rattle.pm_design.specs.Widths.{total}
use Rattle.pm_design.proofs.Counts.{nodes_cat}
use Rattle.pm_design.proofs.Typings.{typing_cat}

-- the parts of a sound concatenation are sound, at least one, and at most 128 bits in all
pub parts_of_cat : (s : Sight) (x : Ex) (es ps : List Ex) → x ≡ ex.Cat es → ps ≡ es → IsTrue (typing s x).fine
    → (0 < length ps) × (IsTrue (list_all (λ t. t.fine) (map (typing s) ps)) × (total (map (λ t. t.width) (map (typing s) ps)) ≤ 128))
parts_of_cat s x es ps is same h =
    let there : x ≡ ex.Cat ps = is ∙ ap (λ (qs : List Ex). ex.Cat qs) (sym same) in
    let ts : List Typing = map (typing s) ps in
    let fine : IsTrue (list_all (λ t. t.fine) ts && (nat_lt 0 (length ts) && nat_le (total (map (λ t. t.width) ts)) 128)) =
    subst (λ (y : Typing). IsTrue y.fine) (ap (typing s) there ∙ typing_cat s ps) h in
    let p = and_parts _ _ fine in
    let q = and_parts _ _ p.1 in
    let some : 0 < length ts = ltb-true _ _ q.0 in
    (omega (arith, some, length-map ps (typing s)), (p.0, leb-true _ _ q.1))

-- a concatenation is one node more than its parts
pub nodes_over_cat : (guard : Callee → ℕ) (x : Ex) (es ps : List Ex) → x ≡ ex.Cat es → ps ≡ es → nodes guard x ≡ 1 + total (map (nodes guard) ps)
nodes_over_cat guard x es ps is same =
    ap (nodes guard) (is ∙ ap (λ (qs : List Ex). ex.Cat qs) (sym same)) ∙ nodes_cat guard ps
