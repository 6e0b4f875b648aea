use Rattle.std.proofs.Common.{◌∙◌, ap, sym, subst, length, List, ℕ, ◌-◌, ◌+◌, ◌==◌, take, drop}
use Rattle.std.proofs.lemmas.Bool.{false≢true}
use Rattle.order_file.specs.Orders.{CutsLine}
use Rattle.order_file.proofs.Orders.{ended_line, last_line}
use Rattle.order_file.proofs.lines.next_line.Goals as goal

pub returns-in-Some : goal.returns-in-Some
returns-in-Some c =
    let text = c.args.text.now in
    let end = c.in-Some.end in
    subst (λ (line : List ℕ). CutsLine text line (take (length text - (end + 1)) (drop (end + 1) text)))
    (sym c.without_cr.ensures)
    (ended_line text end c.in-Some.ensures)

pub returns-in-None : goal.returns-in-None
returns-in-None c =
    last_line c.args.text.now
    (λ is. false≢true (sym c.if-is_empty.false ∙ (c.is_empty.ensures ∙ ap (λ (text : List ℕ). length text == 0) is)))
    c.in-None.ensures
