-- Lines at one column, with a body under each at a greater one.
use Rattle.std.proofs.Common.{◌≡◌, ◌<◌, ◌≤◌, ◌++◌, ℕ, Bool, true, List, [], All, arith, refl}
use Rattle.std.specs.Prelude.{◌||◌, not, nat_lt}
use Rattle.std.proofs.lemmas.Bool.{or_right}
use Rattle.std.proofs.lemmas.Bool.Decides.{nat_tests}
use Rattle.std.proofs.lemmas.List.Elements.{All-append, All-cons, All-nil}
use Rattle.pm_syn.specs.declared.statement.Node.{Node}
use Rattle.pm_parse.specs.LaidOutFiles.{AreAligned}
use Rattle.pm_parse.specs.LaidOutTrees.{is_none}
use Rattle.pm_parse.specs.Layout.{goes_deeper}
use Rattle.pm_parse.specs.Trees.{AreTrees, Returns}
use Rattle.pm_parse.specs.declared.entry.Entry.{Entry}
use Rattle.pm_parse.proofs.OneAnswer.{IsDeeper}

-- where there are no nodes there are no lines
pub none_aligned : (column : ℕ) (entries : List Entry) (nodes : List Node) → AreAligned column entries nodes → is_none nodes ≡ true → entries ≡ []
none_aligned _ _ _ (AreAligned.no_lines column) none = refl
none_aligned _ _ _ (AreAligned.line entry statement inner under after body nodes said less inside outside) none = cc

-- the first of the lines is at the column
pub aligned_returns : (column : ℕ) (entries : List Entry) (nodes : List Node) → AreAligned column entries nodes → Returns column entries
aligned_returns _ _ _ (AreAligned.no_lines column) = tt
aligned_returns _ _ _ (AreAligned.line entry statement inner under after body nodes said less inside outside) =
    let level : entry.column ≤ entry.column = omega arith in
    level

-- the lines are deeper than a less deep column
pub aligned_deeper : (column : ℕ) (entries : List Entry) (nodes : List Node) → AreAligned column entries nodes → (outer : ℕ) → outer < column → All (IsDeeper outer) entries
aligned_deeper _ _ _ (AreAligned.no_lines column) outer below = All-nil (IsDeeper outer)
aligned_deeper _ _ _ (AreAligned.line entry statement inner under after body nodes said less inside outside) outer below =
    All-cons (IsDeeper outer) entry (under ++ after) below
    (All-append (IsDeeper outer) under after (aligned_deeper inner under body inside outer (omega arith)) (aligned_deeper entry.column after nodes outside outer below))

-- the body of a header begins directly after it
pub aligned_begins : (header : Bool) (outer inner : ℕ) (under rest : List Entry) (body : List Node) → AreAligned inner under body → outer < inner → header ≡ not (is_none body)
    → (not header || goes_deeper outer (under ++ rest)) ≡ true
aligned_begins header outer _ _ rest _ (AreAligned.no_lines inner) below is = rw is refl
aligned_begins header outer _ _ rest _ (AreAligned.line entry statement deeper under after body nodes said less inside outside) below is =
    let deep : nat_lt outer entry.column ≡ true = grind (arith, nat_tests) in
    or_right (not header) _ deep

-- they have these trees
pub aligned_trees : (column : ℕ) (entries : List Entry) (nodes : List Node) → AreAligned column entries nodes → AreTrees entries nodes
aligned_trees _ _ _ (AreAligned.no_lines column) = AreTrees.no_lines
aligned_trees _ _ _ (AreAligned.line entry statement inner under after body nodes said less inside outside) =
    AreTrees.line entry statement under after body nodes said (aligned_deeper inner under body inside entry.column less) (aligned_returns entry.column after nodes outside)
    (aligned_trees inner under body inside) (aligned_trees entry.column after nodes outside)
