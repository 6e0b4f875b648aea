use Rattle.std.proofs.Common.{List, ℕ, arith, subst}
use Rattle.std.proofs.lemmas.List.{take_rest}
use Rattle.std.proofs.lemmas.Result.{IfOk-weaker}
use Rattle.pm_syn.specs.Heads.{HasNoHead, IsHead}
use Rattle.pm_syn.specs.declared.lexing.ReadText.{ReadText}
use Rattle.pm_syn.proofs.ReadTo.{read_to_start, read_to_next, read_to_no_lexeme, read_to_misfit, read_to_end}
use Rattle.pm_syn.proofs.lexing.read.Goals as goal

pub lexemes-init : goal.lexemes-init
lexemes-init c = read_to_start c.args.text.now c.new-reader.result c.new-reader.ensures

pub returns-in_default : goal.returns-in_default
returns-in_default c =
    let none = subst HasNoHead (take_rest c.args.text.now c.lexemes.at) c.in_default.ensures in
    IfOk-weaker c.stop.result _ _ (λ (reading : ReadText). read_to_no_lexeme c.args.text.now c.lexemes.at c.lexemes.reader reading c.lexemes-test.true none c.lexemes.invariant) c.stop.ensures

pub returns-in-Some-misfit : goal.returns-in-Some-misfit
returns-in-Some-misfit c =
    let here = subst (λ (rest : List ℕ). IsHead rest c.in-Some.head) (take_rest c.args.text.now c.lexemes.at) c.in-Some.ensures in
    IfOk-weaker c.stop-in-Some-misfit.result _ _ (λ (reading : ReadText). read_to_misfit c.args.text.now c.lexemes.at c.in-Some.head c.in-Some-misfit.line c.lexemes.reader reading here c.in-Some-misfit.ensures c.lexemes.invariant) c.stop-in-Some-misfit.ensures

pub lexemes-preserved : goal.lexemes-preserved
lexemes-preserved c =
    let here = subst (λ (rest : List ℕ). IsHead rest c.in-Some.head) (take_rest c.args.text.now c.lexemes.at) c.in-Some.ensures in
    read_to_next c.args.text.now c.lexemes.at c.in-Some.head c.lexemes.reader c.take.new.self here c.in_default-misfit.ensures c.in_ok-take.ensures c.lexemes.invariant

pub returns : goal.returns
returns c =
    IfOk-weaker c.stop-2.result _ _ (λ (reading : ReadText). read_to_end c.args.text.now c.lexemes.at c.lexemes.reader c.unclosed-unclosed.result reading (omega arith) c.unclosed-unclosed.ensures c.lexemes.invariant) c.stop-2.ensures
