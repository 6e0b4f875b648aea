use Rattle.std.proofs.Common.{◌∙◌, ap}
use Rattle.pm_values.specs.Tables.{get}
use Rattle.pm_values.proofs.Tables.{get-names_of}
use Rattle.pm_values.proofs.table.Table.get.Goals as goal

pub returns : goal.returns
returns g c = c.get.ensures.value ∙ get-names_of c.args.name.now c.self.inside.entries.entries ∙ ap (λ names. get names c.args.name.now) c.self.view_is
