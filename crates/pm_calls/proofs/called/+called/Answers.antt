use Rattle.std.proofs.Common.{◌∙◌, ◌++◌, List, ap}
use Rattle.pm_design.specs.declared.body.St.{St}
use Rattle.pm_calls.specs.Called.{called_in}
use Rattle.pm_calls.proofs.Calling.{called_clear, called_number, called_pick, called_pop, called_push, called_set}
use Rattle.pm_calls.proofs.Calling.{called_temp, if_called, none_called}
use Rattle.pm_calls.proofs.called.+called.Goals as goal

pub push_statement-returns-in_ok-push_body-in-If-2 : goal.push_statement-returns-in_ok-push_body-in-If-2
push_statement-returns-in_ok-push_body-in-If-2 t c =
    if_called c.args.st.now c.in-If.field-0 c.in-If.yes c.in-If.no c.args.found.now.items c.push_body.new.found.items
    c.push_body-in-If.new.found.items c.in-If.is
    (c.in_ok-push_body-in-If.ensures ∙ ap (λ (l : List St). c.args.found.now.items ++ called_in l)
    c.as_slice.ensures)
    (c.in_ok-push_body-in-If-2.ensures ∙ ap (λ (l : List St). c.push_body.new.found.items ++ called_in l)
    c.as_slice-in-If.ensures)

pub push_statement-returns-in-Set : goal.push_statement-returns-in-Set
push_statement-returns-in-Set t c = none_called c.args.st.now _ c.args.found.now.items c.in-Set.is
    (called_set c.in-Set.field-0 c.in-Set.field-1)

pub push_statement-returns-in-SetPick : goal.push_statement-returns-in-SetPick
push_statement-returns-in-SetPick t c = none_called c.args.st.now _ c.args.found.now.items c.in-SetPick.is
    (called_pick c.in-SetPick.field-0 c.in-SetPick.field-1 c.in-SetPick.field-2)

pub push_statement-returns-in-SetTemp : goal.push_statement-returns-in-SetTemp
push_statement-returns-in-SetTemp t c = none_called c.args.st.now _ c.args.found.now.items c.in-SetTemp.is
    (called_temp c.in-SetTemp.field-0 c.in-SetTemp.field-1)

pub push_statement-returns-in-SetNumber : goal.push_statement-returns-in-SetNumber
push_statement-returns-in-SetNumber t c = none_called c.args.st.now _ c.args.found.now.items c.in-SetNumber.is
    (called_number c.in-SetNumber.field-0 c.in-SetNumber.field-1)

pub push_statement-returns-in-Push : goal.push_statement-returns-in-Push
push_statement-returns-in-Push t c = none_called c.args.st.now _ c.args.found.now.items c.in-Push.is
    (called_push c.in-Push.field-0 c.in-Push.field-1 c.in-Push.field-2)

pub push_statement-returns-in-Pop : goal.push_statement-returns-in-Pop
push_statement-returns-in-Pop t c = none_called c.args.st.now _ c.args.found.now.items c.in-Pop.is
    (called_pop c.in-Pop.field-0 c.in-Pop.field-1 c.in-Pop.field-2)

pub push_statement-returns-in-Clear : goal.push_statement-returns-in-Clear
push_statement-returns-in-Clear t c = none_called c.args.st.now _ c.args.found.now.items c.in-Clear.is
    (called_clear c.in-Clear.field-0)
