use Rattle.std.proofs.Common.{◌∙◌, sym}
use Rattle.pm_syn.proofs.HeadsAt.{string_head, name_head, literal_head, no_token_at_wide, operator_head, no_token_at_none}
use Rattle.pm_syn.proofs.lexeme.token_at.Goals as goal

pub returns-in-Some : goal.returns-in-Some
returns-in-Some c =
    rw c.token.ensures (string_head c.args.text.now c.in-Some.length (sym c.string_length.ensures.value ∙ c.in-Some.is) c.in-Some.ensures.within)

pub returns-then-begins_name : goal.returns-then-begins_name
returns-then-begins_name c =
    rw c.token-then-begins_name.ensures (
    name_head c.args.text.now c.name_length.result c.requires (sym c.string_length.ensures.value ∙ c.in_default.is) (
    sym c.begins_name.ensures ∙ c.if-begins_name.true) c.name_length.ensures)

pub returns-in_err-literal : goal.returns-in_err-literal
returns-in_err-literal c =
    rw c.from_residual.ensures (
    no_token_at_wide c.args.text.now c.literal_at-literal.result c.requires (sym c.string_length.ensures.value ∙ c.in_default.is) (
    sym c.is_ascii_digit.ensures.value ∙ c.if-is_ascii_digit.true) c.literal_at-literal.ensures c.in_err-literal.was)

pub returns-then-is_ascii_digit : goal.returns-then-is_ascii_digit
returns-then-is_ascii_digit c =
    rw c.token-then-is_ascii_digit.ensures (
    literal_head c.args.text.now c.literal_at-literal.result c.in_ok-literal.field-0 c.requires (sym c.string_length.ensures.value ∙ c.in_default.is) (
    sym c.is_ascii_digit.ensures.value ∙ c.if-is_ascii_digit.true) c.literal_at-literal.ensures c.in_ok-literal.was)

pub returns-in_err-operator_length : goal.returns-in_err-operator_length
returns-in_err-operator_length c =
    rw c.from_residual-in_err-operator_length.ensures (
    no_token_at_none c.args.text.now c.requires (sym c.string_length.ensures.value ∙ c.in_default.is) (
    sym c.begins_name.ensures ∙ c.if-begins_name.false) (sym c.is_ascii_digit.ensures.value ∙ c.if-is_ascii_digit.false) c.in_err-operator_length.ensures)

pub returns : goal.returns
returns c =
    rw c.token-2.ensures (
    operator_head c.args.text.now c.in_ok-operator_length.field-0 c.requires (sym c.string_length.ensures.value ∙ c.in_default.is) (
    sym c.begins_name.ensures ∙ c.if-begins_name.false) (sym c.is_ascii_digit.ensures.value ∙ c.if-is_ascii_digit.false) c.in_ok-operator_length.ensures)
