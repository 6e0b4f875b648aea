use Rattle.std.proofs.Common.{◌∙◌, ◌++◌, ap, ap₂}
use Rattle.pm_design.specs.declared.body.Ex.{Ex}
use Rattle.pm_calls.specs.Asked.{asked}
use Rattle.pm_calls.proofs.Asking.{asked_const, asked_count, asked_get, asked_item, asked_last, asked_number}
use Rattle.pm_calls.proofs.Asking.{asked_temp, cond_asked, none_asked}
use Rattle.pm_calls.proofs.asked.+asked.Goals as goal

pub push_asked-returns-in_ok-push_both-in-Cond : goal.push_asked-returns-in_ok-push_both-in-Cond
push_asked-returns-in_ok-push_both-in-Cond t c =
    cond_asked c.args.ex.now c.in-Cond.c c.in-Cond.a c.in-Cond.b c.args.found.now.items
    c.push_asked-in-Cond.new.found.items c.push_both-in-Cond.new.found.items c.in-Cond.is
    (c.in_ok-push_asked-in-Cond.ensures ∙ ap (λ (e : Ex). c.args.found.now.items ++ asked e) c.get-in-Cond.ensures)
    (c.in_ok-push_both-in-Cond.ensures ∙ ap₂ (λ (a b : Ex). c.push_asked-in-Cond.new.found.items ++
    (asked a ++ asked b)) c.get-in-Cond-2.ensures c.get-in-Cond-3.ensures)

pub push_asked-returns-in-Const : goal.push_asked-returns-in-Const
push_asked-returns-in-Const t c = none_asked c.args.ex.now _ c.args.found.now.items c.in-Const.is
    (asked_const c.in-Const.field-0)

pub push_asked-returns-in-Get : goal.push_asked-returns-in-Get
push_asked-returns-in-Get t c = none_asked c.args.ex.now _ c.args.found.now.items c.in-Get.is
    (asked_get c.in-Get.field-0)

pub push_asked-returns-in-Temp : goal.push_asked-returns-in-Temp
push_asked-returns-in-Temp t c = none_asked c.args.ex.now _ c.args.found.now.items c.in-Temp.is
    (asked_temp c.in-Temp.field-0 c.in-Temp.field-1 c.in-Temp.field-2)

pub push_asked-returns-in-Number : goal.push_asked-returns-in-Number
push_asked-returns-in-Number t c = none_asked c.args.ex.now _ c.args.found.now.items c.in-Number.is
    (asked_number c.in-Number.field-0)

pub push_asked-returns-in-Count : goal.push_asked-returns-in-Count
push_asked-returns-in-Count t c = none_asked c.args.ex.now _ c.args.found.now.items c.in-Count.is
    (asked_count c.in-Count.field-0)

pub push_asked-returns-in-Item : goal.push_asked-returns-in-Item
push_asked-returns-in-Item t c = none_asked c.args.ex.now _ c.args.found.now.items c.in-Item.is
    (asked_item c.in-Item.field-0 c.in-Item.field-1)

pub push_asked-returns-in-Last : goal.push_asked-returns-in-Last
push_asked-returns-in-Last t c = none_asked c.args.ex.now _ c.args.found.now.items c.in-Last.is
    (asked_last c.in-Last.field-0)
