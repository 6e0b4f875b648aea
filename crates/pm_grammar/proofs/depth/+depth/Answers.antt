use Rattle.std.proofs.Common.{◌≡◌, ◌-◌, ◌∙◌, max, nat_le, ap}
use Rattle.pm_syn.specs.declared.expression.Expr.{Expr}
use Rattle.pm_grammar.specs.Depths.{depth_of}
use Rattle.pm_grammar.proofs.DepthTests.{both_else, both_then, deeper, three_within}
use Rattle.pm_grammar.proofs.depth.+depth.Goals.{is_within-else-is_within-3, is_within-then-is_within-3}
use Rattle.pm_grammar.proofs.depth.+depth.Goals as goal

pub is_within-returns-then-is_within-4 : goal.is_within-returns-then-is_within-4
is_within-returns-then-is_within-4 t c =
    let m = c.args.limit - 1 in
    let first = c.is_within-in-Cond.ensures ∙ ap (λ (e : Expr). nat_le (depth_of e) m) c.get-in-Cond.ensures in
    let third = c.is_within-then-is_within-4.ensures ∙ ap (λ (e : Expr). nat_le (depth_of e) m) c.get-then-is_within-4.ensures in
    let both : c.if-is_within-3.value ≡ nat_le (max (depth_of c.in-Cond.a) (depth_of c.in-Cond.b)) m = elim c.if-is_within-3.branch [
      | is_within-then-is_within-3 w ↦ w.value-is ∙ both_then _ _ m _ _ first w.if-is_within-3.true (w.is_within-then-is_within-3.ensures ∙ ap (λ (e : Expr). nat_le (depth_of e) m) w.get-then-is_within-3.ensures)
      | is_within-else-is_within-3 w ↦ w.value-is ∙ both_else _ _ m _ first w.if-is_within-3.false
    ] in
    three_within c.args.tree.now c.in-Cond.a c.in-Cond.b c.in-Cond.c c.args.limit _ c.in-Cond.is
    (deeper _ c.args.limit _ c.if-limit-eq0.false (both_then _ _ m _ _ both c.if-is_within-4.true third))

pub is_within-returns-else-is_within-4 : goal.is_within-returns-else-is_within-4
is_within-returns-else-is_within-4 t c =
    let m = c.args.limit - 1 in
    let first = c.is_within-in-Cond.ensures ∙ ap (λ (e : Expr). nat_le (depth_of e) m) c.get-in-Cond.ensures in
    let both : c.if-is_within-3.value ≡ nat_le (max (depth_of c.in-Cond.a) (depth_of c.in-Cond.b)) m = elim c.if-is_within-3.branch [
      | is_within-then-is_within-3 w ↦ w.value-is ∙ both_then _ _ m _ _ first w.if-is_within-3.true (w.is_within-then-is_within-3.ensures ∙ ap (λ (e : Expr). nat_le (depth_of e) m) w.get-then-is_within-3.ensures)
      | is_within-else-is_within-3 w ↦ w.value-is ∙ both_else _ _ m _ first w.if-is_within-3.false
    ] in
    three_within c.args.tree.now c.in-Cond.a c.in-Cond.b c.in-Cond.c c.args.limit _ c.in-Cond.is
    (deeper _ c.args.limit _ c.if-limit-eq0.false (both_else _ _ m _ both c.if-is_within-4.false))
