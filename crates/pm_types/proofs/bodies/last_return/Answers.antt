use Rattle.std.proofs.Common.{◌∙◌, ◌<◌, length, sym, arith}
use Rattle.pm_types.proofs.Returns.{last_return_is, returned}
use Rattle.pm_types.proofs.bodies.last_return.Goals as goal

pub returns-in-Return : goal.returns-in-Return
returns-in-Return c =
    let some : 0 < length c.args.nodes.now = omega (arith, c.in-len1-up.len_at_least) in
    sym (last_return_is c.args.nodes.now c.last-item.result some c.last-item.is ∙ returned _ _ c.in-Return.e c.in-Return.is)

pub returns-in_default : goal.returns-in_default
returns-in_default c =
    let some : 0 < length c.args.nodes.now = omega (arith, c.in-len1-up.len_at_least) in
    let at = last_return_is c.args.nodes.now c.last-item.result some c.last-item.is in
    grind (arith, at, c.in_default.not-Return)
