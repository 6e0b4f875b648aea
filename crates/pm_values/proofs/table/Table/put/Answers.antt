use Rattle.std.proofs.Common.{◌∙◌, ap, ap₂}
use Rattle.pm_values.specs.Tables.{put, names_of}
use Rattle.pm_values.proofs.Tables.{put-names_of}
use Rattle.pm_values.proofs.table.Table.put.Goals as goal

pub returns-clause-put : goal.returns-clause-put
returns-clause-put g c =
    ap names_of c.in_ok-insert.ensures.entries
    ∙ put-names_of c.self.inside.entries.entries c.in_ok-name.name c.args.value
    ∙ ap₂ (λ names name. put names name c.args.value) c.self.view_is c.in_ok-name.ensures.items
