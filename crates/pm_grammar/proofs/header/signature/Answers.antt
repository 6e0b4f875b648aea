use Rattle.std.proofs.Common.{◌∙◌, codes, sym}
use Rattle.pm_grammar.specs.Headers.{IsSignature}
use Rattle.pm_grammar.specs.Reading.{IsOnlyBefore}
use Rattle.pm_grammar.proofs.ReadAnswers.{failed}
use Rattle.pm_grammar.proofs.Signatures.{IsOnlyParameter, goes_first, goes_next, next_found, no_next, no_self_found, no_self_only, self_found, signature_found, signature_only, trailing_found, trailing_only}
use Rattle.pm_grammar.proofs.header.signature.Goals as goal

pub returns-in_default-clause-found : goal.returns-in_default-clause-found
returns-in_default-clause-found c =
    rw c.new-parameters.ensures (no_self_found c.args.tokens.now)

pub returns-in_default-clause-only : goal.returns-in_default-clause-only
returns-in_default-clause-only c =
    rw c.new-parameters.ensures (no_self_only c.args.tokens.now c.in_default.ensures)

pub parameters-init : goal.parameters-init
parameters-init c =
    record {
      found = rw c.new-parameters.ensures (self_found c.args.tokens.now c.in-Some.rest.now c.in-Some.ensures);
      only = rw c.new-parameters.ensures (goes_first c.args.tokens.now c.in-Some.rest.now c.in-Some.ensures);
    }

pub returns-then-begins_with_symbol-clause-found : goal.returns-then-begins_with_symbol-clause-found
returns-then-begins_with_symbol-clause-found c =
    trailing_found c.args.tokens.now c.parameters.rest.now c.in-Some-after_symbol.tail.now c.parameters.parameters c.parameters.invariant.found c.in-Some-after_symbol.ensures

pub returns-then-begins_with_symbol-clause-only : goal.returns-then-begins_with_symbol-clause-only
returns-then-begins_with_symbol-clause-only c =
    trailing_only c.args.tokens.now c.parameters.rest.now c.in-Some-after_symbol.tail.now c.parameters.parameters c.parameters.invariant.only c.in-Some-after_symbol.ensures (sym c.begins_with_symbol.ensures ∙ c.if-begins_with_symbol.true)

pub returns-in_err-parameter-clause-only : goal.returns-in_err-parameter-clause-only
returns-in_err-parameter-clause-only c =
    failed (IsOnlyParameter c.in-Some-after_symbol.tail.now) (IsOnlyBefore IsSignature (codes ")") c.args.tokens.now) c.from_residual.result c.in_err-parameter.field-0.0
    (λ nothing. no_next c.args.tokens.now c.parameters.rest.now c.in-Some-after_symbol.tail.now c.parameters.parameters c.parameters.invariant.only c.in-Some-after_symbol.ensures (sym c.begins_with_symbol.ensures ∙ c.if-begins_with_symbol.false) nothing)
    c.from_residual.ensures c.in_err-parameter.ensures.only

pub parameters-preserved : goal.parameters-preserved
parameters-preserved c =
    let pushed = c.in_ok-push.ensures.ok in
    record {
      found = rw pushed (next_found c.args.tokens.now c.parameters.rest.now c.in-Some-after_symbol.tail.now c.in_ok-parameter.after.now c.parameters.parameters c.in_ok-parameter.parameter c.parameters.invariant.found c.in-Some-after_symbol.ensures c.in_ok-parameter.ensures.found);
      only = rw pushed (goes_next c.args.tokens.now c.parameters.rest.now c.in-Some-after_symbol.tail.now c.in_ok-parameter.after.now c.parameters.parameters c.in_ok-parameter.parameter c.parameters.invariant.only c.in-Some-after_symbol.ensures (sym c.begins_with_symbol.ensures ∙ c.if-begins_with_symbol.false) c.in_ok-parameter.ensures.only);
    }

pub returns-clause-found : goal.returns-clause-found
returns-clause-found c =
    signature_found c.args.tokens.now c.parameters.rest.now c.parameters.parameters c.parameters.invariant.found

pub returns-clause-only : goal.returns-clause-only
returns-clause-only c =
    signature_only c.args.tokens.now c.parameters.rest.now c.parameters.parameters c.parameters.invariant.only c.in_default-after_symbol.ensures
