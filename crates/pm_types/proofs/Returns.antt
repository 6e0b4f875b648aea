-- The last line of some that are there.
use Rattle.std.proofs.Common.{◌≡◌, ◌<◌, ◌+◌, ◌-◌, ℕ, zero, suc, List, [], ◌∷◌, length, slice_index_or, Some, ◌∙◌, refl, sym, ap, arith}
use Rattle.pm_syn.specs.declared.statement.Node.{Node, out-Node}
use Rattle.pm_syn.specs.declared.statement.Stmt.{Stmt, out-Stmt}
use Rattle.pm_syn.specs.declared.statement.Stmt.TheVariants as stmt
use Rattle.pm_syn.specs.declared.expression.Expr.{Expr}
use Rattle.pm_types.specs.Bodies.{last_return, return_in}

pub last_return_at : (ns : List Node) (i : ℕ) (d : Node) → length ns ≡ i + 1
    → last_return ns ≡ return_in (out-Node (slice_index_or ns i d)).line (out-Stmt (out-Node (slice_index_or ns i d)).stmt)
last_return_at [] i d here = absurd (omega (arith, here))
last_return_at (n ∷ []) zero d here = refl
last_return_at (n ∷ []) (suc i) d here = absurd (omega (arith, here))
last_return_at (n ∷ m ∷ ns) zero d here = absurd (omega (arith, here))
last_return_at (n ∷ m ∷ ns) (suc i) d here = last_return_at (m ∷ ns) i d (omega (arith, here))

-- the last line, by what it is
pub last_return_is : (ns : List Node) (n : Node) → 0 < length ns → n ≡ slice_index_or ns (length ns - 1) n
    → last_return ns ≡ return_in (out-Node n).line (out-Stmt (out-Node n).stmt)
last_return_is ns n some is =
    last_return_at ns (length ns - 1) n (omega (arith, some)) ∙ ap (λ m. return_in (out-Node m).line (out-Stmt (out-Node m).stmt)) (sym is)

pub returned : (line : ℕ) (s : Stmt) (e : Expr) → s ≡ stmt.Return e → return_in line (out-Stmt s) ≡ Some (record { line = line; expression = e })
unfolding out-Stmt denote.Hole.Carrier.out
returned line s e is = ap (λ s. return_in line (out-Stmt s)) is
