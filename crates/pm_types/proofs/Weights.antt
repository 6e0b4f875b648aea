-- How many lines there are, which is what each call has fewer of.
use Rattle.std.proofs.Common.{◌≡◌, ◌<◌, ◌≤◌, ◌+◌, ◌-◌, ℕ, zero, suc, List, [], ◌∷◌, map, drop, take, length, arith, slice_index_or}
use Rattle.std.proofs.lemmas.List.{take_rest}
use Rattle.pm_syn.specs.declared.statement.Node.{Node, Node-F, out-Node, fold-Node, fold_out-Node}

abbrev pub total : List ℕ → ℕ
total [] = 0
total (x ∷ xs) = 1 + x + total xs

abbrev pub weight_of : Node-F ℕ → ℕ
weight_of n = total n.body

unfoldable pub weight : Node → ℕ
weight = fold-Node ℕ weight_of

unfoldable pub weights : List Node → ℕ
weights ns = total (map weight ns)

pub weight_node : (n : Node) → weight n ≡ weights (out-Node n).body
unfolding weight weights
weight_node n = fold_out-Node ℕ weight_of n

pub rest_lighter : (ns : List Node) → 0 < length ns → weights (drop 1 ns) < weights ns
unfolding weights
rest_lighter [] some = absurd (omega (arith, some))
rest_lighter (n ∷ ns) some = omega arith

pub body_lighter : (ns : List Node) (d : Node) → 0 < length ns → weights (out-Node (slice_index_or ns 0 d)).body < weights ns
unfolding weights
body_lighter [] d some = absurd (omega (arith, some))
body_lighter (n ∷ ns) d some = omega (arith, weight_node n)

pub rest_part : (ns : List Node) → 0 < length ns → weights (take (length ns - 1) (drop 1 ns)) < weights ns
rest_part ns some = rw (take_rest ns 1) (rest_lighter ns some)

-- what is left of some lines is no heavier
pub drop_lighter : (ns : List Node) (k : ℕ) → weights (drop k ns) ≤ weights ns
unfolding weights
drop_lighter [] zero = omega arith
drop_lighter [] (suc k) = omega arith
drop_lighter (n ∷ ns) zero = omega arith
drop_lighter (n ∷ ns) (suc k) = omega (arith, drop_lighter ns k)
