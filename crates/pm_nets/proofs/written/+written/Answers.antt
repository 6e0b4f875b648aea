use Rattle.std.proofs.Common.{◌∙◌, ◌++◌, List, ap, subst}
use Rattle.std.specs.Prelude.{IsTrue}
use Rattle.std.specs.List.{list_all}
use Rattle.pm_design.specs.declared.body.St.{St}
use Rattle.pm_design.specs.Typing.{is_sound}
use Rattle.pm_nets.specs.Written.{written_in}
use Rattle.pm_nets.proofs.Writing.{none_written, set_sound, pick_sound, if_sound, if_written, written_temp}
use Rattle.pm_nets.proofs.Writing.{written_number, written_push, written_pop, written_clear, written_call}
use Rattle.pm_nets.proofs.written.+written.Goals as goal

pub push_statement-returns-in_ok-push-in-Set-clause-sound : goal.push_statement-returns-in_ok-push-in-Set-clause-sound
push_statement-returns-in_ok-push-in-Set-clause-sound t c = set_sound c.args.st.now c.in-Set.part c.in-Set.field-1
    c.in-Set.is

pub push_statement-returns-in_ok-push_all-in-SetPick-clause-sound :
    goal.push_statement-returns-in_ok-push_all-in-SetPick-clause-sound
push_statement-returns-in_ok-push_all-in-SetPick-clause-sound t c =
    pick_sound c.args.st.now c.in-SetPick.field-0 c.in-SetPick.parts c.in-SetPick.field-2 c.in-SetPick.is

pub push_statement-returns-in_ok-push_body-in-If-2-clause-parts :
    goal.push_statement-returns-in_ok-push_body-in-If-2-clause-parts
push_statement-returns-in_ok-push_body-in-If-2-clause-parts t c =
    if_written c.args.st.now c.in-If.field-0 c.in-If.yes c.in-If.no c.args.found.now.items c.push_body.new.found.items
    c.push_body-in-If.new.found.items c.in-If.is
    (c.in_ok-push_body-in-If.ensures.parts ∙ ap (λ (l : List St). c.args.found.now.items ++
    written_in l) c.as_slice-in-If.ensures)
    (c.in_ok-push_body-in-If-2.ensures.parts ∙ ap (λ (l : List St). c.push_body.new.found.items ++
    written_in l) c.as_slice-in-If-2.ensures)

pub push_statement-returns-in_ok-push_body-in-If-2-clause-sound :
    goal.push_statement-returns-in_ok-push_body-in-If-2-clause-sound
push_statement-returns-in_ok-push_body-in-If-2-clause-sound t c s =
    if_sound c.args.st.now c.in-If.field-0 c.in-If.yes c.in-If.no c.in-If.is s
    (subst (λ (l : List St). IsTrue (list_all (is_sound s) l) →
    IsTrue (list_all s.writes (written_in l))) c.as_slice-in-If.ensures
    (c.in_ok-push_body-in-If.ensures.sound s))
    (subst (λ (l : List St). IsTrue (list_all (is_sound s) l) →
    IsTrue (list_all s.writes (written_in l))) c.as_slice-in-If-2.ensures
    (c.in_ok-push_body-in-If-2.ensures.sound s))

pub push_statement-returns-in-SetTemp-clause-parts : goal.push_statement-returns-in-SetTemp-clause-parts
push_statement-returns-in-SetTemp-clause-parts t c = none_written c.args.st.now _ c.args.found.now.items
    c.in-SetTemp.is (written_temp c.in-SetTemp.field-0 c.in-SetTemp.field-1)

pub push_statement-returns-in-SetNumber-clause-parts : goal.push_statement-returns-in-SetNumber-clause-parts
push_statement-returns-in-SetNumber-clause-parts t c = none_written c.args.st.now _ c.args.found.now.items
    c.in-SetNumber.is (written_number c.in-SetNumber.field-0 c.in-SetNumber.field-1)

pub push_statement-returns-in-Push-clause-parts : goal.push_statement-returns-in-Push-clause-parts
push_statement-returns-in-Push-clause-parts t c = none_written c.args.st.now _ c.args.found.now.items c.in-Push.is
    (written_push c.in-Push.field-0 c.in-Push.field-1 c.in-Push.field-2)

pub push_statement-returns-in-Pop-clause-parts : goal.push_statement-returns-in-Pop-clause-parts
push_statement-returns-in-Pop-clause-parts t c = none_written c.args.st.now _ c.args.found.now.items c.in-Pop.is
    (written_pop c.in-Pop.field-0 c.in-Pop.field-1 c.in-Pop.field-2)

pub push_statement-returns-in-Clear-clause-parts : goal.push_statement-returns-in-Clear-clause-parts
push_statement-returns-in-Clear-clause-parts t c = none_written c.args.st.now _ c.args.found.now.items c.in-Clear.is
    (written_clear c.in-Clear.field-0)

pub push_statement-returns-in-Call-clause-parts : goal.push_statement-returns-in-Call-clause-parts
push_statement-returns-in-Call-clause-parts t c = none_written c.args.st.now _ c.args.found.now.items c.in-Call.is
    (written_call c.in-Call.field-0 c.in-Call.field-1 c.in-Call.field-2)
