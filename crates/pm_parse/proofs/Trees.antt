-- The trees of the last lines, made from the last line to the first.
use Rattle.std.proofs.Common.{◌≡◌, ◌∙◌, ◌<◌, ◌≤◌, ◌++◌, ℕ, List, [], ◌∷◌, All, Option, Some, None, append_assoc, arith, inl, inr, map, refl, reverse, sym, ap, subst}
use Rattle.std.specs.Prelude.{nat_lt}
use Rattle.std.proofs.lemmas.Bool.{cases_Bool}
use Rattle.std.proofs.lemmas.Bool.Decides.{nat_tests}
use Rattle.std.proofs.lemmas.List.Elements.{All-append, All-cons, All-nil, All-weaker}
use Rattle.std.proofs.lemmas.List.{append-nil, reverse-append}
use Rattle.std.proofs.lemmas.Option.{same_Some}
use Rattle.pm_syn.specs.declared.statement.Node.{Node}
use Rattle.pm_syn.specs.declared.statement.Node.TheViews.{roll-Node}
use Rattle.pm_syn.specs.declared.statement.Stmt.{Stmt}
use Rattle.pm_parse.specs.StackedTrees.{left_at, nodes_under, tree_of}
use Rattle.pm_parse.specs.Trees.{AreTrees, Returns}
use Rattle.pm_parse.specs.declared.entry.Entry.{Entry}
use Rattle.pm_parse.specs.declared.tree.Tree.{Tree}
use Rattle.pm_parse.proofs.OneAnswer.{IsDeeper}

-- the tree of a line with this statement and this body
abbrev made_of : Entry → Stmt → List Node → Tree
made_of entry statement body = record { column = entry.column; node = roll-Node (record { line = entry.number; stmt = statement; body = body }) }

-- the trees of some lines, with their columns
pub data AreStacked : List Entry → List Tree → Type 0 where
  no_lines : AreStacked [] []
  line : (entry : Entry) (statement : Stmt) (under after : List Entry) (body : List Node) (trees : List Tree)
      → entry.statement ≡ Some statement → All (IsDeeper entry.column) under → Returns entry.column after
      → AreTrees under body → AreStacked after trees
      → AreStacked (entry ∷ (under ++ after)) (made_of entry statement body ∷ trees)

-- they are trees of the lines
nodes_stacked : (entries : List Entry) (trees : List Tree) → AreStacked entries trees → AreTrees entries (map (λ (t : Tree). t.node) trees)
nodes_stacked _ _ AreStacked.no_lines = AreTrees.no_lines
nodes_stacked _ _ (AreStacked.line entry statement under after body trees said deeper returns inner outer) =
    AreTrees.line entry statement under after body _ said deeper returns inner (nodes_stacked after trees outer)

-- the lines are those of these nodes, which are deeper than the column, and those of the trees that are left
record AreTaken (column : ℕ) (entries : List Entry) (nodes : List Node) (left : List Tree) : Type 0 where
  under : List Entry
  after : List Entry
  split : entries ≡ under ++ after
  deeper : All (IsDeeper column) under
  returns : Returns column after
  inner : AreTrees under nodes
  outer : AreStacked after left

-- the first of some lines comes first
returns_prefix : (column : ℕ) (prefix after : List Entry) → Returns column (prefix ++ after) → Returns column prefix
returns_prefix column [] after returns = tt
returns_prefix column (entry ∷ prefix) after returns = returns

-- the deeper trees are taken with their lines
stacked_taken : (column : ℕ) (entries : List Entry) (trees : List Tree) → AreStacked entries trees → AreTaken column entries (nodes_under column trees) (left_at column trees)
stacked_taken column _ _ AreStacked.no_lines =
    record { under = []; after = []; split = refl; deeper = All-nil (IsDeeper column); returns = tt; inner = AreTrees.no_lines; outer = AreStacked.no_lines }
stacked_taken column _ _ (AreStacked.line entry statement under after body trees said deeper returns inner outer) =
    elim (cases_Bool (nat_lt column entry.column)) [
      | inl deep ↦
          let less : column < entry.column = grind (arith, nat_tests) in
          let rest = stacked_taken column after trees outer in
          let prefix = returns_prefix entry.column rest.under rest.after (subst (Returns entry.column) rest.split returns) in
          let below = All-weaker (IsDeeper entry.column) (IsDeeper column) (λ e more. omega arith) under deeper in
          rw deep (record {
            under = entry ∷ (under ++ rest.under);
            after = rest.after;
            split = ap (λ (es : List Entry). entry ∷ (under ++ es)) rest.split ∙ ap (λ (es : List Entry). entry ∷ es) (sym (append_assoc under rest.under rest.after));
            deeper = All-cons (IsDeeper column) entry (under ++ rest.under) less (All-append (IsDeeper column) under rest.under below rest.deeper);
            returns = rest.returns;
            inner = AreTrees.line entry statement under rest.under body _ said deeper prefix inner rest.inner;
            outer = rest.outer;
          })
      | inr level ↦
          let back : entry.column ≤ column = grind (arith, nat_tests) in
          rw level (record {
            under = [];
            after = entry ∷ (under ++ after);
            split = refl;
            deeper = All-nil (IsDeeper column);
            returns = back;
            inner = AreTrees.no_lines;
            outer = AreStacked.line entry statement under after body trees said deeper returns inner outer;
          })
    ]

-- one more line takes the deeper trees after it
stacked_line : (entry : Entry) (statement : Stmt) (entries : List Entry) (trees : List Tree) → entry.statement ≡ Some statement → AreStacked entries trees
    → AreStacked (entry ∷ entries) (made_of entry statement (nodes_under entry.column trees) ∷ left_at entry.column trees)
stacked_line entry statement entries trees said stacked =
    let taken = stacked_taken entry.column entries trees stacked in
    subst (λ (es : List Entry). AreStacked (entry ∷ es) (made_of entry statement (nodes_under entry.column trees) ∷ left_at entry.column trees)) (sym taken.split)
    (AreStacked.line entry statement taken.under taken.after _ _ said taken.deeper taken.returns taken.inner taken.outer)

-- the same of what the line says
stacked_tree : (entry : Entry) (said : Option Stmt) (entries : List Entry) (trees : List Tree) (tree : Tree) → entry.statement ≡ said
    → tree_of entry said (nodes_under entry.column trees) ≡ Some tree → AreStacked entries trees → AreStacked (entry ∷ entries) (tree ∷ left_at entry.column trees)
stacked_tree entry None entries trees tree is made stacked = cc
stacked_tree entry (Some statement) entries trees tree is made stacked =
    subst (λ (t : Tree). AreStacked (entry ∷ entries) (t ∷ left_at entry.column trees)) (same_Some _ tree made) (stacked_line entry statement entries trees is stacked)

-- these lines are left, and the trees are those of the others
pub record AreMade (entries left : List Entry) (trees : List Tree) : Type 0 where
  made : List Entry
  split : entries ≡ left ++ made
  stacked : AreStacked made (reverse trees)

-- no trees are made at first
pub none_made : (entries : List Entry) → AreMade entries entries []
none_made entries = record { made = []; split = sym (append-nil entries); stacked = AreStacked.no_lines }

-- one more tree is made
pub one_made : (entries left after : List Entry) (entry : Entry) (trees taken others : List Tree) (tree : Tree) (body : List Node) → AreMade entries left trees → left ≡ after ++ entry ∷ []
    → body ≡ nodes_under entry.column (reverse trees) → reverse taken ≡ left_at entry.column (reverse trees) → Some tree ≡ tree_of entry entry.statement body
    → others ≡ taken ++ tree ∷ [] → AreMade entries after others
one_made entries left after entry trees taken others tree body so_far last under rest made pushed =
    let is : tree_of entry entry.statement (nodes_under entry.column (reverse trees)) ≡ Some tree = ap (tree_of entry entry.statement) (sym under) ∙ sym made in
    let added : reverse others ≡ tree ∷ left_at entry.column (reverse trees) = ap (reverse {A = Tree}) pushed ∙ reverse-append taken (tree ∷ []) ∙ ap (λ (ts : List Tree). tree ∷ ts) rest in
    record {
      made = entry ∷ so_far.made;
      split = so_far.split ∙ ap (λ (es : List Entry). es ++ so_far.made) last ∙ append_assoc after (entry ∷ []) so_far.made;
      stacked = subst (AreStacked (entry ∷ so_far.made)) (sym added) (stacked_tree entry entry.statement so_far.made (reverse trees) tree refl is so_far.stacked);
    }

-- all trees are made
pub all_made : (entries : List Entry) (trees : List Tree) (nodes : List Node) → AreMade entries [] trees → nodes ≡ map (λ (t : Tree). t.node) (reverse trees) → AreTrees entries nodes
all_made entries trees nodes so_far same =
    let trees_of = nodes_stacked so_far.made (reverse trees) so_far.stacked in
    subst (AreTrees entries) (sym same) (subst (λ (es : List Entry). AreTrees es (map (λ (t : Tree). t.node) (reverse trees))) (sym so_far.split) trees_of)
