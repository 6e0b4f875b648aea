use Rattle.std.proofs.Common.{◌≡◌, ◌∙◌, ◌++◌, ap, sym}
use Rattle.std.specs.Prelude.{Some, None, option_map}
use Rattle.std.proofs.lemmas.List.{append-nil}
use Rattle.pm_design.specs.declared.signal.Signal.{Signal}
use Rattle.pm_job.specs.Form.{form_lines, declaration_of, signal_in}
use Rattle.pm_job.proofs.FormReads.{declared_push, declared_none, declared_end, after_more, after_none, after_end}
use Rattle.pm_job.proofs.form.read_signals.Goals as goal

pub returns-in_default-declaration_of-clause-declared : goal.returns-in_default-declaration_of-clause-declared
returns-in_default-declaration_of-clause-declared c =
    let none : declaration_of c.in-Some.line.now ≡ None = sym c.declaration_of.ensures ∙ ap (option_map signal_in) c.in_default-declaration_of.is in
    sym (ap (λ more. c.lines.signals ++ more) (declared_none _ _ c.in-Some.line.now c.in-Some.ensures.lines none) ∙ append-nil c.lines.signals) ∙ c.lines.invariant.declared

pub returns-in_default-declaration_of-clause-rest : goal.returns-in_default-declaration_of-clause-rest
returns-in_default-declaration_of-clause-rest c =
    let none : declaration_of c.in-Some.line.now ≡ None = sym c.declaration_of.ensures ∙ ap (option_map signal_in) c.in_default-declaration_of.is in
    sym (after_none _ _ c.in-Some.line.now c.in-Some.ensures.lines none) ∙ c.lines.invariant.rest

pub lines-preserved : goal.lines-preserved
lines-preserved c =
    let declaration = c.in-Some-declaration_of.declaration in
    let signal : Signal = record { name = c.in_ok-name.name; role = declaration.role; width = declaration.width; shape = None } in
    let found : declaration_of c.in-Some.line.now ≡ Some signal =
    sym c.declaration_of.ensures ∙ ap (option_map signal_in) c.in-Some-declaration_of.is
    ∙ ap (λ name. Some (record { name = name; role = declaration.role; width = declaration.width; shape = None })) (sym c.in_ok-name.ensures) in
    record {
      declared = declared_push _ c.lines.signals signal _ _ c.in-Some.line.now c.in_ok-push.ensures.ok c.in-Some.ensures.lines found ∙ c.lines.invariant.declared;
      rest = sym (after_more _ _ c.in-Some.line.now signal c.in-Some.ensures.lines found) ∙ c.lines.invariant.rest;
    }

pub returns-clause-declared : goal.returns-clause-declared
returns-clause-declared c =
    sym (ap (λ more. c.lines.signals ++ more) (declared_end (form_lines c.lines.rest.now) c.in_default.ensures.lines) ∙ append-nil c.lines.signals)
    ∙ c.lines.invariant.declared

pub returns-clause-rest : goal.returns-clause-rest
returns-clause-rest c = sym (after_end (form_lines c.lines.rest.now) c.in_default.ensures.lines) ∙ c.lines.invariant.rest
