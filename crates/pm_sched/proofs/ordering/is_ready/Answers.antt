use Rattle.std.proofs.Common.{◌<◌, ◌≡◌, ℕ, true, length, slice_index, eqb, ap, subst, sym, ◌∙◌, arith}
use Rattle.std.proofs.lemmas.Grind.{get_or_default_zero}
use Rattle.bit_table.specs.Tables.{is_set}
use Rattle.pm_sched.specs.Tables.{flag}
use Rattle.pm_sched.proofs.Ready.{start_tells}
use Rattle.pm_sched.proofs.ordering.is_ready.Goals as goal

pub returns-clause-value : goal.returns-clause-value
returns-clause-value c =
    let lt : c.args.block < length c.args.starts.now.items = omega (arith, c.requires.starts.rows) in
    let same : c.index.result.now ≡ slice_index c.args.starts.now.items c.args.block = c.index.ensures ∙ get_or_default_zero c.args.starts.now.items c.args.block c.index.result.now lt in
    ap (λ (n : ℕ). eqb c.first_missing-missing.result n) c.rows.ensures ∙
    start_tells c.args.predecessors.now (flag c.args.listed.now) c.args.block c.index.result.now c.first_missing-missing.result c.if-listed-block.false
    (subst (λ (from : ℕ). (a : ℕ) → a < from → is_set c.args.predecessors.now c.args.block a ≡ true → flag c.args.listed.now a ≡ true) (sym same) (c.requires.starts.passed c.args.block)) c.first_missing-missing.ensures.passed c.first_missing-missing.ensures.within.1 c.first_missing-missing.ensures.missing
