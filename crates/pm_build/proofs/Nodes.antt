-- What a line does, by what those below it do.
use Rattle.std.proofs.Common.{◌≡◌, ◌∙◌, List, [], ◌∷◌, map, ap, refl}
use Rattle.pm_syn.specs.declared.statement.Node.{Node, out-Node, fold_out-Node}
use Rattle.pm_elab.specs.Expressions.{Make}
use Rattle.pm_elab.specs.Sites.{Scope}
use Rattle.pm_elab.specs.Statements.{Line, run, run_of, below_of, statement}

-- each line below, as the line that it is
below_is : (f : Node → Node → Line) (ns : List Node) → below_of (map f ns) ns ≡ map (λ n. f n n) ns
below_is f [] = refl
below_is f (n ∷ ns) = ap (λ ls. f n n ∷ ls) (below_is f ns)

-- a line does what its statement does
pub run_line : (make : Make) (file : Scope) (n : Node)
    → run make file n ≡ statement make file (out-Node n).stmt (map (run make file) (out-Node n).body) (out-Node n).body (out-Node n).line
unfolding run
run_line make file n =
    ap (λ (l : Node → Line). l n) (fold_out-Node (Node → Line) (run_of make file) n)
    ∙ ap (λ ls. statement make file (out-Node n).stmt ls (out-Node n).body (out-Node n).line) (below_is _ (out-Node n).body)
