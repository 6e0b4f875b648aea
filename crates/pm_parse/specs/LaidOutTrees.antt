-- The layout, said of a file's tree: what is allowed in each body, and in which order.
use Rattle.std.specs.Prelude.{◌≡◌, ◌||◌, Bool, true, false, IsTrue, not, List, [], ◌∷◌}
use Rattle.std.specs.List.{list_any}
use Rattle.pm_syn.specs.declared.statement.Node.{Node}
use Rattle.pm_syn.specs.declared.statement.Node.TheViews.{out-Node}
use Rattle.pm_parse.specs.Forms.{after_colon_of, form_of}
use Rattle.pm_parse.specs.Layout.{decorates, has_body, is_branch, is_construct, needs_no_decorator}
use Rattle.pm_parse.specs.BodyKinds.{body_of, allows, allows_after_colon}
use Rattle.pm_parse.specs.declared.form.Form.{Form}
use Rattle.pm_parse.specs.declared.form.Form.TheVariants as form
use Rattle.pm_parse.specs.declared.body_kind.BodyKind.{BodyKind}

-- the form of a node
abbrev pub node_form : Node → Form
node_form node = form_of (out-Node node).stmt

-- the last of these forms is that of a branch; the list has it first
abbrev pub forms_end_in_branch : List Form → Bool
forms_end_in_branch [] = false
forms_end_in_branch (nearest ∷ forms) = is_branch nearest

-- the last of these forms is that of a decorator of this form
abbrev pub forms_end_in_decorator : List Form → Form → Bool
forms_end_in_decorator [] decorated = false
forms_end_in_decorator (nearest ∷ forms) decorated = decorates nearest decorated

-- a node of this form is allowed in a body after nodes of these forms, the last one first: `elif` and `else`
-- directly after a branch, `construct` if there is none yet, and what needs a decorator directly after it
abbrev pub may_follow_forms : Form → List Form → Bool
may_follow_forms form.Elif before = forms_end_in_branch before
may_follow_forms form.Else before = forms_end_in_branch before
may_follow_forms form.Construct before = not (list_any is_construct before)
may_follow_forms other before = needs_no_decorator other || forms_end_in_decorator before other

-- the first of these nodes is what the decorator decorates
abbrev pub decorates_first : Form → List Node → Bool
decorates_first decorator [] = false
decorates_first decorator (next ∷ nodes) = decorates decorator (node_form next)

-- there is none of these nodes
abbrev pub is_none : List Node → Bool
is_none [] = true
is_none (node ∷ nodes) = false

-- a node of this form is allowed in a body before these nodes: a decorator directly before what it decorates,
-- and `return` last
abbrev pub may_precede_nodes : Form → List Node → Bool
may_precede_nodes form.BitstructDecorator next = decorates_first form.BitstructDecorator next
may_precede_nodes form.BlockDecorator next = decorates_first form.BlockDecorator next
may_precede_nodes form.Guard next = decorates_first form.Guard next
may_precede_nodes form.OtherDecorator next = false
may_precede_nodes form.Return next = is_none next
may_precede_nodes other next = true

-- a node is allowed in a body of this kind, after nodes of these forms, the last one first, and before these nodes
pub record FitsIn (body : BodyKind) (before : List Form) (node : Node) (nodes : List Node) : Type 0 where
  -- its form is allowed in the body
  pub allowed : IsTrue (allows body (node_form node))
  -- the form of a statement after its colon is allowed in the body that it begins
  pub filled : IsTrue (allows_after_colon (body_of body (node_form node)) (after_colon_of (out-Node node).stmt))
  -- it has nodes in its body exactly when it is a header with nothing after its colon
  pub headed : has_body (after_colon_of (out-Node node).stmt) ≡ not (is_none (out-Node node).body)
  -- it is allowed after the nodes before it
  pub follows : IsTrue (may_follow_forms (node_form node) before)
  -- it is allowed before the nodes after it
  pub precedes : IsTrue (may_precede_nodes (node_form node) nodes)

-- the nodes are allowed in a body of this kind, after nodes of these forms, and so are the nodes of their own bodies
pub data AreLaidOut : BodyKind → List Form → List Node → Type 0 where
  no_more : (body : BodyKind) (before : List Form) → AreLaidOut body before []
  one_more : (body : BodyKind) (before : List Form) (node : Node) (nodes : List Node)
      → FitsIn body before node nodes
      → AreLaidOut (body_of body (node_form node)) [] (out-Node node).body
      → AreLaidOut body (node_form node ∷ before) nodes
      → AreLaidOut body before (node ∷ nodes)
