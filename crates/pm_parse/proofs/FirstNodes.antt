-- The first of some nodes that are allowed where they are, said of its line.
use Rattle.std.proofs.Common.{◌≡◌, true, List, [], ◌∷◌}
use Rattle.std.specs.Prelude.{not}
use Rattle.pm_syn.specs.declared.statement.Node.{Node}
use Rattle.pm_syn.specs.declared.statement.Node.TheViews.{out-Node}
use Rattle.pm_syn.specs.declared.statement.Stmt.{Stmt}
use Rattle.pm_parse.specs.Forms.{after_colon_of, form_of}
use Rattle.pm_parse.specs.LaidOutTrees.{AreLaidOut, FitsIn, is_none, may_follow_forms, may_precede_nodes, node_form}
use Rattle.pm_parse.specs.Layout.{has_body}
use Rattle.pm_parse.specs.BodyKinds.{body_of, allows, allows_after_colon}
use Rattle.pm_parse.specs.declared.entry.Entry.{Entry}
use Rattle.pm_parse.specs.declared.form.Form.{Form}
use Rattle.pm_parse.specs.declared.body_kind.BodyKind.{BodyKind}
use Rattle.pm_parse.proofs.NodeForms.{node_of, node_of-body, node_of-stmt}

-- the node of a line with this statement is allowed in a body of this kind with its own body, and so are the
-- nodes after it
pub record IsLaidOut (p : BodyKind) (before : List Form) (statement : Stmt) (body nodes : List Node) : Type 0 where
  pub allowed : allows p (form_of statement) ≡ true
  pub filled : allows_after_colon (body_of p (form_of statement)) (after_colon_of statement) ≡ true
  pub headed : has_body (after_colon_of statement) ≡ not (is_none body)
  pub follows : may_follow_forms (form_of statement) before ≡ true
  pub precedes : may_precede_nodes (form_of statement) nodes ≡ true
  pub inner : AreLaidOut (body_of p (form_of statement)) [] body
  pub outer : AreLaidOut p (form_of statement ∷ before) nodes

-- the first of some nodes and those after it
laid_out_parts : (p : BodyKind) (before : List Form) (node : Node) (nodes : List Node) → AreLaidOut p before (node ∷ nodes)
    → FitsIn p before node nodes × AreLaidOut (body_of p (node_form node)) [] (out-Node node).body × AreLaidOut p (node_form node ∷ before) nodes
laid_out_parts _ _ _ _ (AreLaidOut.one_more p before node nodes fit inner outer) = (fit, inner, outer)

module _ (p : BodyKind) (before : List Form) (entry : Entry) (statement : Stmt) (body nodes : List Node) where
  -- the line says what holds of its node
  pub first_laid_out : IsLaidOut p before statement body nodes → AreLaidOut p before (node_of entry statement body ∷ nodes)
  first_laid_out line =
      let is = node_of-stmt entry statement body in
      let bodies = node_of-body entry statement body in
      let fit : FitsIn p before (node_of entry statement body) nodes = record { allowed = rw is line.allowed; filled = rw is line.filled; headed = rw (is, bodies) line.headed; follows = rw is line.follows; precedes = rw is line.precedes } in
      AreLaidOut.one_more p before (node_of entry statement body) nodes fit (rw (is, bodies) line.inner) (rw is line.outer)

  -- the node says what holds of its line
  pub laid_out_first : AreLaidOut p before (node_of entry statement body ∷ nodes) → IsLaidOut p before statement body nodes
  laid_out_first laid_out =
      let is = node_of-stmt entry statement body in
      let bodies = node_of-body entry statement body in
      let parts = laid_out_parts p before (node_of entry statement body) nodes laid_out in
      record {
        allowed = rw is at parts.0.allowed;
        filled = rw is at parts.0.filled;
        headed = rw (is, bodies) at parts.0.headed;
        follows = rw is at parts.0.follows;
        precedes = rw is at parts.0.precedes;
        inner = rw (is, bodies) at parts.1;
        outer = rw is at parts.2;
      }
