use Rattle.std.proofs.Common.{◌∙◌, ap, sym, drop}
use Rattle.std.proofs.lemmas.List.{take_rest}
use Rattle.std.specs.Prelude.{position}
use Rattle.pm_trace.specs.Words.{is_space}
use Rattle.pm_trace.proofs.LineWords.{first_word, last_word}
use Rattle.pm_trace.proofs.words.next_word.Goals as goal

pub returns-in-Some : goal.returns-in-Some
returns-in-Some c =
    let text = c.args.text.now in
    let ends = ap (position is_space) (sym (take_rest text c.in_ok-start.start)) ∙ sym c.in-Some.ensures in
    rw (take_rest text c.in_ok-start.start, take_rest (drop c.in_ok-start.start text) c.in-Some.end)
    (first_word text c.in_ok-start.start c.in-Some.end (sym c.in_ok-start.ensures) ends)

pub returns-in-None : goal.returns-in-None
returns-in-None c =
    let text = c.args.text.now in
    let none = ap (position is_space) (sym (take_rest text c.in_ok-start.start)) ∙ sym c.in-None.ensures in
    rw (take_rest text c.in_ok-start.start) (last_word text c.in_ok-start.start (sym c.in_ok-start.ensures) none)
