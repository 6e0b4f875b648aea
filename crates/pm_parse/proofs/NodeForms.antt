-- What is allowed after and before a node, by what is allowed after and before its line.
use Rattle.std.proofs.Common.{◌≡◌, ◌∙◌, ◌<◌, ◌≤◌, ◌++◌, ℕ, Bool, true, false, List, [], ◌∷◌, All, ap, arith, inl, inr, map, refl, subst, sym}
use Rattle.std.specs.Prelude.{◌||◌, ◌==◌, not, nat_lt, nat_le}
use Rattle.std.specs.List.{list_any}
use Rattle.std.proofs.lemmas.Bool.{and_parts, or_cases, or_left, or_right}
use Rattle.std.proofs.lemmas.Bool.Decides.{nat_tests}
use Rattle.std.proofs.lemmas.List.Elements.{All-head}
use Rattle.pm_syn.specs.declared.statement.Node.{Node}
use Rattle.pm_syn.specs.declared.statement.Node.TheViews.{out-Node, out-roll-Node, roll-Node}
use Rattle.pm_syn.specs.declared.statement.Stmt.{Stmt}
use Rattle.pm_parse.specs.Forms.{form_of}
use Rattle.pm_parse.specs.LaidOutTrees.{decorates_first, forms_end_in_branch, forms_end_in_decorator, is_none, may_follow_forms, may_precede_nodes}
use Rattle.pm_parse.specs.Layout.{beside, decorates, decorates_next, decorates_statement, ends_in_branch, is_construct, is_decorated, is_last, may_follow, may_precede, needs_no_decorator}
use Rattle.pm_parse.specs.Trees.{AreTrees, Returns}
use Rattle.pm_parse.specs.declared.entry.Entry.{Entry}
use Rattle.pm_parse.specs.declared.form.Form.{Form}
use Rattle.pm_parse.specs.declared.form.Form.TheVariants as form
use Rattle.pm_parse.specs.declared.form.LineForm.{LineForm}
use Rattle.pm_parse.proofs.BareLines.{has_none_under}
use Rattle.pm_parse.proofs.FittingLines.{IsWithin}
use Rattle.pm_parse.proofs.OpenBodies.{lines_beside}

-- the forms of lines
abbrev pub forms_of : List LineForm → List Form
forms_of lines = map (λ (l : LineForm). l.form) lines

-- the forms of the lines that a line at this column is beside
abbrev pub forms_beside : ℕ → List LineForm → List Form
forms_beside column before = forms_of (lines_beside column before)

-- the first of the lines is less deep than this column
abbrev pub IsLeft : ℕ → List Entry → Type 0
IsLeft column [] = Unit {0}
IsLeft column (entry ∷ entries) = entry.column < column

-- ---- nodes

-- the node of a line with this statement and this body
abbrev pub node_of : Entry → Stmt → List Node → Node
node_of entry statement body = roll-Node (record { line = entry.number; stmt = statement; body = body })

-- its statement
pub node_of-stmt : (entry : Entry) (statement : Stmt) (body : List Node) → (out-Node (node_of entry statement body)).stmt ≡ statement
node_of-stmt entry statement body = rw (out-roll-Node (record { line = entry.number; stmt = statement; body = body })) refl

-- its body
pub node_of-body : (entry : Entry) (statement : Stmt) (body : List Node) → (out-Node (node_of entry statement body)).body ≡ body
node_of-body entry statement body = rw (out-roll-Node (record { line = entry.number; stmt = statement; body = body })) refl

-- ---- after the nodes before

-- the last line is a branch if and only if the last form is that of one
pub forms_end_in_branch-forms_of : (lines : List LineForm) → forms_end_in_branch (forms_of lines) ≡ ends_in_branch lines
forms_end_in_branch-forms_of [] = refl
forms_end_in_branch-forms_of (line ∷ lines) = refl

-- one of the lines is a `construct` where one of the forms is that of one
pub list_any-forms : (lines : List LineForm) → list_any is_construct (forms_of lines) ≡ list_any (λ (l : LineForm). is_construct l.form) lines
list_any-forms [] = refl
list_any-forms (line ∷ lines) = ap (λ (b : Bool). is_construct line.form || b) (list_any-forms lines)

-- a decorated line comes after its decorator
decorated_forms : (before : List LineForm) (line : LineForm) → is_decorated before line ≡ true → forms_end_in_decorator (forms_beside line.column before) line.form ≡ true
decorated_forms [] line is = cc
decorated_forms (nearest ∷ before) line is =
    let parts = and_parts (nearest.column == line.column) (decorates nearest.form line.form) is in
    let level : nat_lt line.column nearest.column ≡ false = grind (arith, nat_tests) in
    let beside_it : nat_lt nearest.column line.column ≡ false = grind (arith, nat_tests) in
    rw (level, beside_it) parts.1

-- a line that needs no decorator, or is decorated
bare_or_decorated : (before : List LineForm) (line : LineForm) (f : Form) → f ≡ line.form → (needs_no_decorator f || is_decorated before line) ≡ true
    → (needs_no_decorator f || forms_end_in_decorator (forms_beside line.column before) f) ≡ true
bare_or_decorated before line f same is =
    elim (or_cases (needs_no_decorator f) (is_decorated before line) is) [
      | inl bare ↦ or_left (needs_no_decorator f) _ bare
      | inr decorated ↦
          or_right (needs_no_decorator f) _ (subst (λ (g : Form). forms_end_in_decorator (forms_beside line.column before) g ≡ true) (sym same) (decorated_forms before line decorated))
    ]

-- a line that is allowed after those beside it is allowed after their forms
pub follows_forms : (before : List LineForm) (line : LineForm) (f : Form) → f ≡ line.form → may_follow f (beside before line) ≡ true
    → (needs_no_decorator f || is_decorated before line) ≡ true → may_follow_forms f (forms_beside line.column before) ≡ true
follows_forms before line form.Elif same follows decorated = forms_end_in_branch-forms_of (beside before line) ∙ follows
follows_forms before line form.Else same follows decorated = forms_end_in_branch-forms_of (beside before line) ∙ follows
follows_forms before line form.Construct same follows decorated = ap not (list_any-forms (beside before line)) ∙ follows
follows_forms before line other same follows decorated = bare_or_decorated before line other same decorated

-- ---- before the nodes after

-- a line that is left decorates nothing before it
decorates_left : (column : ℕ) (decorator : Form) (rest : List Entry) → IsLeft column rest → decorates_next column decorator rest ≡ true → ⊥
decorates_left column decorator [] left is = cc
decorates_left column decorator (entry ∷ rest) left is =
    let parts = and_parts (nat_le column entry.column) (decorates_statement decorator entry.statement) is in
    let above : entry.column < column = left in
    let level : column ≤ entry.column = grind (arith, nat_tests) in
    absurd (omega arith)

-- a decorator decorates the first of the nodes
decorates_nodes : (column : ℕ) (decorator : Form) (after rest : List Entry) (nodes : List Node) → AreTrees after nodes
    → IsLeft column rest → decorates_next column decorator (after ++ rest) ≡ true → decorates_first decorator nodes ≡ true
decorates_nodes column decorator _ rest _ AreTrees.no_lines left is = absurd (decorates_left column decorator rest left is)
decorates_nodes column decorator _ rest _ (AreTrees.line entry statement under after body nodes said deeper returns inner outer) left is =
    let parts = and_parts (nat_le column entry.column) (decorates_statement decorator entry.statement) is in
    let says : decorates decorator (form_of statement) ≡ true = ap (decorates_statement decorator) (sym said) ∙ parts.1 in
    rw (node_of-stmt entry statement body) says

-- after the last line there are no nodes
last_nodes : (column : ℕ) (after rest : List Entry) (nodes : List Node) → AreTrees after nodes → Returns column after → All (IsWithin column) after
    → is_last column (after ++ rest) ≡ true → is_none nodes ≡ true
last_nodes column _ rest _ AreTrees.no_lines returns within last = refl
last_nodes column _ rest _ (AreTrees.line entry statement under after body nodes said deeper returns inner outer) back within last =
    let level : column ≤ entry.column = All-head (IsWithin column) entry (under ++ after) within in
    let flat : entry.column ≤ column = back in
    let not_deeper : nat_lt column entry.column ≡ false = grind (arith, nat_tests) in
    let not_above : nat_lt entry.column column ≡ false = grind (arith, nat_tests) in
    let faulty : false ≡ true = rw (not_deeper, not_above) at last in
    cc

-- another decorator decorates nothing
none_decorated : (nodes : List Node) → decorates_first form.OtherDecorator nodes ≡ true → false ≡ true
none_decorated [] is = is
none_decorated (node ∷ nodes) is = is

-- a line that is allowed before those after it is allowed before their nodes
pub precedes_nodes : (column : ℕ) (f : Form) (under after rest : List Entry) (nodes : List Node) → (has_none_under f ≡ true → under ≡ [])
    → AreTrees after nodes → Returns column after → All (IsWithin column) after → IsLeft column rest
    → may_precede column f (under ++ (after ++ rest)) ≡ true → may_precede_nodes f nodes ≡ true
precedes_nodes column f under after rest nodes empty trees returns within left is = by_form f empty is where
  decorator : (d : Form) → under ≡ [] → decorates_next column d (under ++ (after ++ rest)) ≡ true → decorates_first d nodes ≡ true
  decorator d bare is = decorates_nodes column d after rest nodes trees left (subst (λ (es : List Entry). decorates_next column d (es ++ (after ++ rest)) ≡ true) bare is)

  by_form : (g : Form) → (has_none_under g ≡ true → under ≡ []) → may_precede column g (under ++ (after ++ rest)) ≡ true → may_precede_nodes g nodes ≡ true
  by_form form.BitstructDecorator bare is = decorator form.BitstructDecorator (bare refl) is
  by_form form.BlockDecorator bare is = decorator form.BlockDecorator (bare refl) is
  by_form form.Guard bare is = decorator form.Guard (bare refl) is
  by_form form.OtherDecorator bare is = none_decorated nodes (decorator form.OtherDecorator (bare refl) is)
  by_form form.Return bare is = last_nodes column after rest nodes trees returns within (subst (λ (es : List Entry). is_last column (es ++ (after ++ rest)) ≡ true) (bare refl) is)
  by_form other bare is = refl
