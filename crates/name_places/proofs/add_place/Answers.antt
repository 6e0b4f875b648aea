use Rattle.std.proofs.Common.{sym, ◌∙◌}
use Rattle.name_places.proofs.Places.{kept_new, kept_old}
use Rattle.name_places.proofs.add_place.Goals as goal

pub returns-in_ok-put-clause-first : goal.returns-in_ok-put-clause-first
returns-in_ok-put-clause-first c =
    kept_new c.args.places.now c.put.new.self c.args.name.now c.args.place
    (sym c.contains.ensures ∙ c.if-not-contains.true) c.in_ok-put.ensures.put

pub returns-else-not-contains-clause-first : goal.returns-else-not-contains-clause-first
returns-else-not-contains-clause-first c =
    kept_old c.args.places.now c.args.name.now c.args.place (sym c.contains.ensures ∙ c.if-not-contains.false)
