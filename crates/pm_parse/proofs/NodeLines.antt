-- What is allowed after and before a line, by what is allowed after and before its node.
use Rattle.std.proofs.Common.{◌≡◌, ◌∙◌, ◌<◌, ◌++◌, ℕ, true, false, List, [], ◌∷◌, ap, arith, inl, inr, refl, sym}
use Rattle.std.specs.Prelude.{◌||◌, not, nat_le, nat_lt}
use Rattle.std.proofs.lemmas.Bool.{and_from, or_cases, or_left, or_right}
use Rattle.std.proofs.lemmas.Bool.Decides.{nat_tests}
use Rattle.pm_syn.specs.declared.statement.Node.{Node}
use Rattle.pm_parse.specs.Forms.{form_of}
use Rattle.pm_parse.specs.LaidOutFiles.{AreAligned}
use Rattle.pm_parse.specs.LaidOutTrees.{decorates_first, forms_end_in_decorator, is_none, may_follow_forms, may_precede_nodes}
use Rattle.pm_parse.specs.Layout.{decorates, decorates_next, decorates_statement, is_decorated, is_last, may_follow, may_precede, needs_no_decorator}
use Rattle.pm_parse.specs.declared.entry.Entry.{Entry}
use Rattle.pm_parse.specs.declared.form.Form.{Form}
use Rattle.pm_parse.specs.declared.form.Form.TheVariants as form
use Rattle.pm_parse.specs.declared.form.LineForm.{LineForm}
use Rattle.pm_parse.proofs.BareLines.{has_none_under}
use Rattle.pm_parse.proofs.NodeForms.{IsLeft, forms_end_in_branch-forms_of, forms_of, list_any-forms, node_of-stmt}

-- ---- after the lines before

-- a line whose node is allowed after those beside it is allowed after their lines
pub follows_lines : (f : Form) (lines : List LineForm) → may_follow_forms f (forms_of lines) ≡ true → may_follow f lines ≡ true
follows_lines form.Elif lines follows = sym (forms_end_in_branch-forms_of lines) ∙ follows
follows_lines form.Else lines follows = sym (forms_end_in_branch-forms_of lines) ∙ follows
follows_lines form.Construct lines follows = ap not (sym (list_any-forms lines)) ∙ follows
follows_lines other lines follows = refl

-- a line that needs no decorator, or whose decorator is directly before it
bare_or_decorated : (f : Form) (line : LineForm) (before : List LineForm) (forms : List Form) → (forms_end_in_decorator forms f ≡ true → is_decorated before line ≡ true)
    → (needs_no_decorator f || forms_end_in_decorator forms f) ≡ true → (needs_no_decorator f || is_decorated before line) ≡ true
bare_or_decorated f line before forms nearest is =
    elim (or_cases (needs_no_decorator f) (forms_end_in_decorator forms f) is) [
      | inl bare ↦ or_left (needs_no_decorator f) _ bare
      | inr decorated ↦ or_right (needs_no_decorator f) _ (nearest decorated)
    ]

-- a line whose node is allowed after those beside it is decorated, where it has to be
pub decorated_lines : (f : Form) (line : LineForm) (before : List LineForm) (forms : List Form) → (forms_end_in_decorator forms f ≡ true → is_decorated before line ≡ true)
    → may_follow_forms f forms ≡ true → (needs_no_decorator f || is_decorated before line) ≡ true
decorated_lines form.Elif line before forms nearest follows = refl
decorated_lines form.Else line before forms nearest follows = refl
decorated_lines form.Construct line before forms nearest follows = refl
decorated_lines other line before forms nearest follows = bare_or_decorated other line before forms nearest follows

-- no lines are inside a decorator
pub none_under_decorator : (decorator f : Form) → decorates decorator f ≡ true → has_none_under decorator ≡ true
none_under_decorator form.BitstructDecorator f is = refl
none_under_decorator form.BlockDecorator f is = refl
none_under_decorator form.Guard f is = refl
none_under_decorator other f is = cc

-- ---- before the lines after

-- the line of the first node is what the decorator decorates
decorates_lines : (column : ℕ) (after : List Entry) (nodes : List Node) → AreAligned column after nodes → (decorator : Form) (rest : List Entry)
    → decorates_first decorator nodes ≡ true → decorates_next column decorator (after ++ rest) ≡ true
decorates_lines _ _ _ (AreAligned.no_lines column) decorator rest is = cc
decorates_lines _ _ _ (AreAligned.line entry statement inner under after body nodes said less inside outside) decorator rest is =
    let level : nat_le entry.column entry.column ≡ true = grind (arith, nat_tests) in
    let decorated : decorates decorator (form_of statement) ≡ true = rw (node_of-stmt entry statement body) at is in
    and_from (nat_le entry.column entry.column) (decorates_statement decorator entry.statement) level (ap (decorates_statement decorator) said ∙ decorated)

-- the lines after a body aren't in it
left_last : (column : ℕ) (rest : List Entry) → IsLeft column rest → is_last column rest ≡ true
left_last column [] left = refl
left_last column (entry ∷ rest) left =
    let above : entry.column < column = left in
    let not_deeper : nat_lt column entry.column ≡ false = grind (arith, nat_tests) in
    let less_deep : nat_lt entry.column column ≡ true = grind (arith, nat_tests) in
    rw (not_deeper, less_deep) refl

-- the line of the last node is the last
last_lines : (column : ℕ) (after : List Entry) (nodes : List Node) → AreAligned column after nodes → (rest : List Entry) → IsLeft column rest → is_none nodes ≡ true
    → is_last column (after ++ rest) ≡ true
last_lines _ _ _ (AreAligned.no_lines column) rest left none = left_last column rest left
last_lines _ _ _ (AreAligned.line entry statement inner under after body nodes said less inside outside) rest left none = cc

-- a line whose node is allowed before those after it is allowed before their lines
pub precedes_lines : (column : ℕ) (f : Form) (under after rest : List Entry) (nodes : List Node) → (has_none_under f ≡ true → under ≡ [])
    → AreAligned column after nodes → IsLeft column rest → may_precede_nodes f nodes ≡ true → may_precede column f (under ++ (after ++ rest)) ≡ true
precedes_lines column form.BitstructDecorator under after rest nodes empty aligned left is =
    rw (empty refl) (decorates_lines column after nodes aligned form.BitstructDecorator rest is)
precedes_lines column form.BlockDecorator under after rest nodes empty aligned left is =
    rw (empty refl) (decorates_lines column after nodes aligned form.BlockDecorator rest is)
precedes_lines column form.Guard under after rest nodes empty aligned left is =
    rw (empty refl) (decorates_lines column after nodes aligned form.Guard rest is)
precedes_lines column form.OtherDecorator under after rest nodes empty aligned left is = cc
precedes_lines column form.Return under after rest nodes empty aligned left is =
    rw (empty refl) (last_lines column after nodes aligned rest left is)
precedes_lines column other under after rest nodes empty aligned left is = refl
