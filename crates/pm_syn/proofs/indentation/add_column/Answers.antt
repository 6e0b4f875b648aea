use Rattle.std.proofs.Common.{◌≡◌, ◌∙◌, Bool, false, List, ℕ, sym, ap}
use Rattle.std.specs.Prelude.{◌||◌}
use Rattle.pm_syn.specs.Indentation.{is_deeper, returns_to}
use Rattle.pm_syn.specs.ColumnStack.{is_nearest}
use Rattle.pm_syn.proofs.StackedColumns.{is_nearest-down_to}
use Rattle.pm_syn.proofs.indentation.add_column.Goals as goal

pub returns-clause-allowed : goal.returns-clause-allowed
returns-clause-allowed c =
    let not_deeper : is_deeper c.args.column c.args.columns.now ≡ false = sym c.is_deeper.ensures ∙ c.if-is_deeper.false in
    c.is_at.ensures
    ∙ (ap (λ (columns : List ℕ). is_nearest c.args.column columns) c.return_to.ensures
    ∙ (is_nearest-down_to c.args.column c.args.columns.now
    ∙ sym (ap (λ (deeper : Bool). deeper || returns_to c.args.column c.args.columns.now) not_deeper)))
