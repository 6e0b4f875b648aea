use Rattle.std.proofs.Common.{◌≡◌, ◌∙◌, [], get_or, length, ap, sym, refl, arith}
use Rattle.std.specs.Prelude.{Some, None, if◌then◌else◌}
use Rattle.std.proofs.lemmas.List.{length-map}
use Rattle.pm_job.specs.Words.{words_of}
use Rattle.pm_bits.specs.Word.{Word}
use Rattle.pm_job.specs.Vectors.{value_of}
use Rattle.pm_job.specs.Values.{value_widths}
use Rattle.pm_job.proofs.Rows.{words_left, fill_from, fill_start, fill_more, fill_stops, fill_ends, fill_done, fill_over, width_at, width_value_of, widths_set}
use Rattle.pm_job.proofs.Cuts.{words_are}
use Rattle.pm_job.proofs.vectors.read_row.Goals as goal
use Rattle.pm_job.proofs.vectors.read_row.Goals.{then-is_empty, else-is_empty}

pub row-init : goal.row-init
row-init c =
    let line = c.args.line.now in
    record {
      widths = refl;
      filled = fill_start (value_widths c.args.row.now) c.args.row.now line (words_left c.if-is_empty.rest) (elim c.if-is_empty.branch [
        | then-is_empty w ↦ ap words_left w.rest-is ∙ ap (λ b. if b then [] else words_of line) (sym w.if-is_empty.true ∙ c.is_empty.ensures)
        | else-is_empty w ↦ ap words_left w.rest-is ∙ ap (λ b. if b then [] else words_of line) (sym w.if-is_empty.false ∙ c.is_empty.ensures)
      ]);
    }

pub returns-in_default-clause-row : goal.returns-in_default-clause-row
returns-in_default-clause-row c =
    let widths = value_widths c.args.row.now in
    let row = c.row.row in
    let many : length widths ≡ length row = ap length (sym c.row.invariant.widths) ∙ length-map row _ in
    c.row.invariant.filled ∙ ap (λ rest. fill_from widths row c.row.index (words_left rest)) c.in_default.is
    ∙ fill_ends widths row c.row.index 0 (omega arith)

pub returns-in_default-value-clause-row : goal.returns-in_default-value-clause-row
returns-in_default-value-clause-row c =
    let widths = value_widths c.args.row.now in
    let row = c.row.row in
    let index = c.row.index in
    let many : length widths ≡ length row = ap length (sym c.row.invariant.widths) ∙ length-map row _ in
    let width : get_or widths index 0 ≡ c.width.result = width_at widths row index c.index-row-index.result (omega arith) c.index-row-index.is c.row.invariant.widths ∙ sym c.width.ensures.width in
    let bad : value_of (get_or widths index 0) c.first_word.result.0.now ≡ None = ap (λ w. value_of w c.first_word.result.0.now) width ∙ cc in
    c.row.invariant.filled ∙ ap (λ rest. fill_from widths row index (words_left rest)) c.in-Some.is
    ∙ ap (fill_from widths row index) c.first_word.ensures
    ∙ fill_stops widths row index 0 _ _ (omega arith) bad

pub row-preserved : goal.row-preserved
row-preserved c =
    let widths = value_widths c.args.row.now in
    let row = c.row.row in
    let index = c.row.index in
    let value = c.in-Some-value.value in
    let many : length widths ≡ length row = ap length (sym c.row.invariant.widths) ∙ length-map row _ in
    let width : get_or widths index 0 ≡ c.width.result = width_at widths row index c.index-row-index.result (omega arith) c.index-row-index.is c.row.invariant.widths ∙ sym c.width.ensures.width in
    let good : value_of (get_or widths index 0) c.first_word.result.0.now ≡ Some value = ap (λ w. value_of w c.first_word.result.0.now) width ∙ cc in
    let same : value.width ≡ get_or widths index 0 = width_value_of (get_or widths index 0) c.first_word.result.0.now value good in
    record {
      widths = widths_set row index value c.index-row-index.result (omega arith) (same ∙ (width ∙ c.width.ensures.width ∙ ap (λ (w : Word). w.width) c.index-row-index.is)) ∙ c.row.invariant.widths;
      filled = c.row.invariant.filled ∙ ap (λ rest. fill_from widths row index (words_left rest)) c.in-Some.is
          ∙ ap (fill_from widths row index) c.first_word.ensures
          ∙ fill_more widths row index 0 _ _ value (omega arith) (omega arith) good;
    }

pub returns-in-None-clause-row : goal.returns-in-None-clause-row
returns-in-None-clause-row c =
    let widths = value_widths c.args.row.now in
    let row = c.row.row in
    let index = c.row.index in
    c.row.invariant.filled ∙ ap (λ rest. fill_from widths row index (words_left rest)) c.in-None.is ∙ fill_done widths row index (omega arith) c.row.invariant.widths

pub returns-in-Some-rest-clause-row : goal.returns-in-Some-rest-clause-row
returns-in-Some-rest-clause-row c =
    let widths = value_widths c.args.row.now in
    let row = c.row.row in
    let index = c.row.index in
    let words = words_are c.in-Some-rest.field-0.now in
    c.row.invariant.filled ∙ ap (λ rest. fill_from widths row index (words_left rest)) c.in-Some-rest.is
    ∙ ap (fill_from widths row index) words.2 ∙ fill_over widths row index _ _ (omega arith) c.row.invariant.widths
