use Rattle.std.proofs.lemmas.Bool.{false≢true}
use Rattle.pm_grammar.proofs.Imports.{first_name_found, first_name_only, names_are, next_name_found, next_name_only, no_names, no_next_name}
use Rattle.pm_grammar.proofs.header.are_names.Goals as goal

pub returns-in_default : goal.returns-in_default
returns-in_default c =
    (λ is. absurd (false≢true is), λ spelled. absurd (no_names c.args.tokens.now c.in_default.ensures spelled))

pub names-init : goal.names-init
names-init c =
    record {
      found = first_name_found c.args.tokens.now c.in-Some.rest.now c.in-Some.field-0-0.now c.in-Some.ensures;
      only = first_name_only c.args.tokens.now c.in-Some.rest.now c.in-Some.field-0-0.now c.in-Some.ensures;
    }

pub returns-in_default-after_name : goal.returns-in_default-after_name
returns-in_default-after_name c =
    (λ is. absurd (false≢true is), λ spelled. absurd (no_next_name c.names.rest.now c.in-Some-after_symbol.tail.now c.in-Some-after_symbol.ensures c.in_default-after_name.ensures (c.names.invariant.only spelled)))

pub names-preserved : goal.names-preserved
names-preserved c =
    record {
      found = next_name_found c.args.tokens.now c.names.rest.now c.in-Some-after_symbol.tail.now c.in-Some-after_name.after.now c.in-Some-after_name.field-0-0.now c.names.invariant.found c.in-Some-after_symbol.ensures c.in-Some-after_name.ensures;
      only = λ spelled. next_name_only c.names.rest.now c.in-Some-after_symbol.tail.now c.in-Some-after_name.after.now c.in-Some-after_name.field-0-0.now c.in-Some-after_symbol.ensures c.in-Some-after_name.ensures.0 (c.names.invariant.only spelled);
    }

pub returns : goal.returns
returns c =
    names_are c.args.tokens.now c.names.rest.now c.is_empty.result c.names.invariant.found c.names.invariant.only c.in_default-after_symbol.ensures c.is_empty.ensures
