-- That the trees of lines without a fault are aligned in columns, and that their nodes are allowed where they are.
use Rattle.std.proofs.Common.{◌≡◌, ◌∙◌, ◌≤◌, ◌++◌, ℕ, true, false, List, [], ◌∷◌, All, None, append_assoc, append-nil, ap, arith, inl, inr, refl, subst, subst₂, suc, sym}
use Rattle.std.specs.Prelude.{◌==◌, not}
use Rattle.std.proofs.lemmas.Bool.{or_cases, true≢false}
use Rattle.std.proofs.lemmas.Bool.Decides.{nat_tests}
use Rattle.std.proofs.lemmas.List.Elements.{All-cons, All-head, All-nil, All-tail}
use Rattle.pm_syn.specs.declared.statement.Node.{Node}
use Rattle.pm_syn.specs.declared.statement.Stmt.TheViews.{out-Stmt}
use Rattle.pm_parse.specs.Faults.{fault_after, first_fault}
use Rattle.pm_parse.specs.Forms.{line_of}
use Rattle.pm_parse.specs.LaidOutFiles.{AreAligned, IsShallow}
use Rattle.pm_parse.specs.LaidOutTrees.{AreLaidOut}
use Rattle.pm_parse.specs.BodyKinds.{kind_under}
use Rattle.pm_parse.specs.Trees.{AreTrees, Returns}
use Rattle.pm_parse.specs.declared.entry.Entry.{Entry}
use Rattle.pm_parse.specs.declared.form.LineForm.{LineForm}
use Rattle.pm_parse.specs.declared.body_kind.BodyKind.TheVariants as kind
use Rattle.pm_parse.proofs.BareLines.{has_none_under, no_body_at}
use Rattle.pm_parse.proofs.BodyLines.{AreBody, body_under, empty_is, first_column, first_deeper, none_of, under_are_body}
use Rattle.pm_parse.proofs.FirstNodes.{IsLaidOut, first_laid_out}
use Rattle.pm_parse.proofs.FittingLines.{IsFaultless, IsWithin, first_faultless, first_says}
use Rattle.pm_parse.proofs.NodeForms.{IsLeft, follows_forms, forms_beside, forms_of, node_of, precedes_nodes}
use Rattle.pm_parse.proofs.OpenBodies.{lines_above}
use Rattle.pm_parse.proofs.PassedLines.{above_inside, above_next, beside_inside, beside_next, none_after, passed_before}
use Rattle.pm_parse.proofs.ProperNames.{all_rest}

-- lines after others are at a column, and their nodes are allowed where they are
abbrev pub AreLaidOutAt : ℕ → List LineForm → List Entry → List Node → Type 0
AreLaidOutAt column before entries nodes = AreAligned column entries nodes × AreLaidOut (kind_under (lines_above column before)) (forms_beside column before) nodes

-- so are the trees of a body's lines
trees_laid_out : (entries : List Entry) (nodes : List Node) → AreTrees entries nodes → (column : ℕ) (before : List LineForm) (rest : List Entry) → AreBody column before entries rest
    → AreLaidOutAt column before entries nodes
trees_laid_out _ _ AreTrees.no_lines column before rest lines = (AreAligned.no_lines column, AreLaidOut.no_more _ _)
trees_laid_out _ _ (AreTrees.line entry statement under after body nodes said deeper returns inner outer) column before rest lines =
    let level : column ≤ entry.column = All-head (IsWithin column) entry (under ++ after) lines.within in
    let back : entry.column ≤ column = lines.back in
    let same : column ≡ entry.column = omega arith in
    let line = line_of entry.column statement in
    let left : IsLeft entry.column rest = subst (λ (c : ℕ). IsLeft c rest) same lines.left in
    let first = subst (IsFaultless before entry statement) (append_assoc under after rest) (first_faultless before entry statement ((under ++ after) ++ rest) said lines.none) in
    let with_body = body_under line before under after rest deeper returns left first.fit.complete first.others in
    let bare : has_none_under line.form ≡ true → under ≡ [] = λ is. empty_is under (sym with_body ∙ no_body_at (out-Stmt statement) is) in
    let inside = first_column (suc entry.column) under in
    let below = first_deeper entry.column under deeper in
    let under_it = trees_laid_out under body inner inside (line ∷ before) (after ++ rest) (under_are_body line before under after rest deeper returns left first.others) in
    let now = passed_before under (line ∷ before) in
    let none = none_after under (after ++ rest) (line ∷ before) first.others in
    let within : All (IsWithin entry.column) after = subst (λ (c : ℕ). All (IsWithin c) after) same (all_rest (IsWithin column) under after (All-tail (IsWithin column) entry (under ++ after) lines.within)) in
    let after_it = trees_laid_out after nodes outer entry.column now rest (record { within = within; back = returns; left = left; none = none }) in
    let p = kind_under (lines_above entry.column before) in
    let forms = forms_beside entry.column before in
    let of_line : IsLaidOut p forms statement body nodes = record {
      allowed = first.fit.allowed;
      filled = first.fit.filled;
      headed = with_body ∙ ap not (sym (none_of under body inner));
      follows = follows_forms before line line.form refl first.fit.follows first.fit.decorated;
      precedes = precedes_nodes line.column line.form under after rest nodes bare outer returns within left first.fit.precedes;
      inner = subst₂ (λ (above beside : List LineForm). AreLaidOut (kind_under above) (forms_of beside) body) (above_inside inside line before below) (beside_inside inside line before below) under_it.1;
      outer = subst₂ (λ (above beside : List LineForm). AreLaidOut (kind_under above) (forms_of beside) nodes) (above_next line before under deeper) (beside_next line before under deeper) after_it.1;
    } in
    subst (λ (c : ℕ). AreLaidOutAt c before (entry ∷ (under ++ after)) (node_of entry statement body ∷ nodes)) (sym same)
    (AreAligned.line entry statement inside under after body nodes said below under_it.0 after_it.0, first_laid_out p forms entry statement body nodes of_line)

-- a file begins at column 0
file_returns : (entries : List Entry) → first_fault entries ≡ None → Returns 0 entries
file_returns [] none = tt
file_returns (entry ∷ entries) none =
    let first = first_says [] entry entries none in
    elim (or_cases (entry.column == 0) false first.2.fit.aligned) [
      | inl there ↦ let level : entry.column ≤ 0 = grind (arith, nat_tests) in level
      | inr other ↦ absurd (true≢false (sym other))
    ]

-- no line is less deep
all_within : (entries : List Entry) → All (IsWithin 0) entries
all_within entries k entry at = omega arith

-- the trees of a file are aligned in columns, and their nodes are allowed where they are
pub file_laid_out : (entries : List Entry) (nodes : List Node) → first_fault entries ≡ None → AreTrees entries nodes → AreAligned 0 entries nodes × AreLaidOut kind.File [] nodes
file_laid_out entries nodes none trees =
    let lines : AreBody 0 [] entries [] = record { within = all_within entries; back = file_returns entries none; left = tt; none = ap (fault_after []) (append-nil entries) ∙ none } in
    trees_laid_out entries nodes trees 0 [] [] lines

-- lines without a fault say nothing that is too deep
pub all_shallow : (before : List LineForm) (entries : List Entry) → fault_after before entries ≡ None → All IsShallow entries
all_shallow before [] none = All-nil IsShallow
all_shallow before (entry ∷ entries) none =
    let first = first_says before entry entries none in
    All-cons IsShallow entry entries (rw first.1 first.2.shallow) (all_shallow (line_of entry.column first.0 ∷ before) entries first.2.others)
