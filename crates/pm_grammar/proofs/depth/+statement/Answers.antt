use Rattle.std.proofs.Common.{◌≡◌, ◌∙◌, List, ap, map, max, nat_le}
use Rattle.pm_syn.specs.declared.statement.Par.{Par}
use Rattle.pm_grammar.specs.Depths.{depth_of, depth_of_option, depth_of_parameter, greatest}
use Rattle.pm_grammar.proofs.DepthTests.{both_else, both_then, definition_within, note_within}
use Rattle.pm_grammar.proofs.depth.+statement.Goals.{is_shallow-else-are_parameters_within, is_shallow-else-is_within, is_shallow-then-are_parameters_within, is_shallow-then-is_within}
use Rattle.pm_grammar.proofs.depth.+statement.Goals as goal

pub is_shallow-returns-then-is_within-2 : goal.is_shallow-returns-then-is_within-2
is_shallow-returns-then-is_within-2 t c =
    let both : c.if-is_within.value ≡ nat_le (max (depth_of c.in-Note.a) (depth_of c.in-Note.note)) 64 = elim c.if-is_within.branch [
      | is_shallow-then-is_within w ↦ w.value-is ∙ both_then _ _ 64 _ _ c.is_within.ensures w.if-is_within.true w.is_within-then-is_within.ensures
      | is_shallow-else-is_within w ↦ w.value-is ∙ both_else _ _ 64 _ c.is_within.ensures w.if-is_within.false
    ] in
    note_within c.args.statement.now c.in-Note.a c.in-Note.note c.in-Note.value 64 _ c.in-Note.is (both_then _ _ 64 _ _ both c.if-is_within-2.true c.is_option_within.ensures)

pub is_shallow-returns-else-is_within-2 : goal.is_shallow-returns-else-is_within-2
is_shallow-returns-else-is_within-2 t c =
    let both : c.if-is_within.value ≡ nat_le (max (depth_of c.in-Note.a) (depth_of c.in-Note.note)) 64 = elim c.if-is_within.branch [
      | is_shallow-then-is_within w ↦ w.value-is ∙ both_then _ _ 64 _ _ c.is_within.ensures w.if-is_within.true w.is_within-then-is_within.ensures
      | is_shallow-else-is_within w ↦ w.value-is ∙ both_else _ _ 64 _ c.is_within.ensures w.if-is_within.false
    ] in
    note_within c.args.statement.now c.in-Note.a c.in-Note.note c.in-Note.value 64 _ c.in-Note.is (both_else _ _ 64 _ both c.if-is_within-2.false)

pub is_shallow-returns-then-is_option_within : goal.is_shallow-returns-then-is_option_within
is_shallow-returns-then-is_option_within t c =
    let first = c.are_parameters_within.ensures ∙ ap (λ (ps : List Par). nat_le (greatest (map depth_of_parameter ps)) 64) c.as_slice.ensures in
    let both : c.if-are_parameters_within.value ≡ nat_le (max (greatest (map depth_of_parameter c.in-Def.parameters)) (depth_of_option c.in-Def.note)) 64 = elim c.if-are_parameters_within.branch [
      | is_shallow-then-are_parameters_within w ↦ w.value-is ∙ both_then _ _ 64 _ _ first w.if-are_parameters_within.true w.is_option_within-then-are_parameters_within.ensures
      | is_shallow-else-are_parameters_within w ↦ w.value-is ∙ both_else _ _ 64 _ first w.if-are_parameters_within.false
    ] in
    definition_within c.args.statement.now _ _ c.in-Def.parameters c.in-Def.note c.in-Def.body 64 _ c.in-Def.is (both_then _ _ 64 _ _ both c.if-is_option_within.true c.is_body_shallow.ensures)

pub is_shallow-returns-else-is_option_within : goal.is_shallow-returns-else-is_option_within
is_shallow-returns-else-is_option_within t c =
    let first = c.are_parameters_within.ensures ∙ ap (λ (ps : List Par). nat_le (greatest (map depth_of_parameter ps)) 64) c.as_slice.ensures in
    let both : c.if-are_parameters_within.value ≡ nat_le (max (greatest (map depth_of_parameter c.in-Def.parameters)) (depth_of_option c.in-Def.note)) 64 = elim c.if-are_parameters_within.branch [
      | is_shallow-then-are_parameters_within w ↦ w.value-is ∙ both_then _ _ 64 _ _ first w.if-are_parameters_within.true w.is_option_within-then-are_parameters_within.ensures
      | is_shallow-else-are_parameters_within w ↦ w.value-is ∙ both_else _ _ 64 _ first w.if-are_parameters_within.false
    ] in
    definition_within c.args.statement.now _ _ c.in-Def.parameters c.in-Def.note c.in-Def.body 64 _ c.in-Def.is (both_else _ _ 64 _ both c.if-is_option_within.false)
