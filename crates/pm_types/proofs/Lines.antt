-- What a line does, by what those below it and behind it do.
use Rattle.std.proofs.Common.{◌≡◌, ◌≢◌, ◌∙◌, ℕ, List, [], ◌∷◌, map, refl, sym, ap, subst, take, drop, length, ◌<◌, ◌≤◌, ◌+◌, ◌-◌, ℤ, arith}
use Rattle.std.proofs.lemmas.List.{take_rest, drop-drop, length-drop}
use Rattle.std.specs.Prelude.{Ok, Err}
use Rattle.pm_syn.specs.declared.statement.Node.{Node, out-Node, fold_out-Node}
use Rattle.pm_typing.specs.declared.frame.Frame.{Frame}
use Rattle.pm_typing.specs.declared.tally.Tally.{Tally}
use Rattle.pm_typing.specs.Counted.{Checked, and_then, Moves, node}
use Rattle.pm_typing.specs.Sites.{Scope}
use Rattle.pm_types.proofs.Drops.{drop_all}
use Rattle.pm_typing.specs.declared.fault.TypeFault.{TypeFault}
use Rattle.pm_typing.specs.declared.fault.TypeFault.TheVariants.{NoMemory}
use Rattle.pm_typing.specs.declared.frame.Bound.TheVariants as bound
use Rattle.pm_types.specs.Assignments.{Move, with_bound}
use Rattle.pm_types.specs.Statements.{Line, line, line_of, does, instead, block, instead_of, first_line, others, first_instead, turn}

pub line_node : (s : Scope) (n : Node)
    → line s n ≡ record {
      does = does s (out-Node n).line (out-Node n).stmt (block (map (line s) (out-Node n).body));
      instead = instead s (out-Node n).line (out-Node n).stmt (block (map (line s) (out-Node n).body));
    }
unfolding line
line_node s n = fold_out-Node Line (line_of s) n

pub block_none : (s : Scope) (f : Frame) (m : Tally) → block (map (line s) []) f m ≡ Ok (f, m)
unfolding block
block_none s f m = refl

-- the first line, and then the others
pub block_first : (s : Scope) (ns : List Node) (f : Frame) (m : Tally) → 0 < length ns
    → block (map (line s) ns) f m ≡ and_then (first_line s ns f m) (λ r. block (map (line s) (drop 1 ns)) r.0 r.1)
unfolding block
block_first s [] f m some = absurd (omega (arith, some))
block_first s (n ∷ ns) f m some =
    ap (λ (l : Line). and_then (l.does (instead_of (map (line s) ns)) f m) (λ r. block (map (line s) ns) r.0 r.1)) (line_node s n)

pub instead_first : (s : Scope) (ns : List Node) (f : Frame) (m : Tally) → instead_of (map (line s) ns) f m ≡ first_instead s ns f m
unfolding instead_of
instead_first s [] f m = refl
instead_first s (n ∷ ns) f m = ap (λ (l : Line). l.instead (instead_of (map (line s) ns)) f m) (line_node s n)

-- the rest of some lines, the first of which is done
pub lines_step : (s : Scope) (ns : List Node) (k : ℕ) (f : Frame) (m : Tally) (outcome : Checked (Frame × Tally)) (f' : Frame) (m' : Tally) → k < length ns
    → block (map (line s) (drop k ns)) f m ≡ outcome → first_line s (take (length ns - k) (drop k ns)) f m ≡ Ok (f', m')
    → block (map (line s) (drop (k + 1) ns)) f' m' ≡ outcome
lines_step s ns k f m outcome f' m' here so_far is =
    let some : 0 < length (drop k ns) = omega (arith, length-drop k ns, here) in
    sym (
    block_first s (drop k ns) f m some
    ∙ ap (λ r. and_then r (λ r. block (map (line s) (drop 1 (drop k ns))) r.0 r.1)) (ap (λ ms. first_line s ms f m) (sym (take_rest ns k)) ∙ is)
    ∙ ap (λ ms. block (map (line s) ms) f' m') (drop-drop 1 k ns)
    )
    ∙ so_far

-- the first fault of some lines
pub lines_fault : (s : Scope) (ns : List Node) (k : ℕ) (f : Frame) (m : Tally) (outcome : Checked (Frame × Tally)) (e : TypeFault) → k < length ns
    → block (map (line s) (drop k ns)) f m ≡ outcome → first_line s (take (length ns - k) (drop k ns)) f m ≡ Err e → outcome ≡ Err e
lines_fault s ns k f m outcome e here so_far is =
    let some : 0 < length (drop k ns) = omega (arith, length-drop k ns, here) in
    sym so_far ∙ block_first s (drop k ns) f m some
    ∙ ap (λ r. and_then r (λ r. block (map (line s) (drop 1 (drop k ns))) r.0 r.1)) (ap (λ ms. first_line s ms f m) (sym (take_rest ns k)) ∙ is)

-- no line is left
pub lines_end : (s : Scope) (ns : List Node) (k : ℕ) (f : Frame) (m : Tally) (outcome : Checked (Frame × Tally)) → length ns ≤ k
    → block (map (line s) (drop k ns)) f m ≡ outcome → outcome ≡ Ok (f, m)
lines_end s ns k f m outcome all so_far = sym so_far ∙ ap (λ ms. block (map (line s) ms) f m) (drop_all ns k all) ∙ block_none s f m

-- a turn, once it is counted
pub turn_counted : (k : ℕ) (body : Move) (n : ℤ) (f : Frame) (m m' : Tally) → node m ≡ Ok (tt, m') → turn k body n f m ≡ body (with_bound k (bound.Int n) f) m'
unfolding turn
turn_counted k body n f m m' is = ap (λ r. and_then r (λ r. body (with_bound k (bound.Int n) f) r.1)) is

-- what a function ensures that ends in a fault
pub moves_fault : {F : Type 0} (outcome : Checked (F × Tally)) (r : Checked (Unit {0})) (f : F) (m : Tally) (e : TypeFault) → r ≡ Err e
    → (e ≢ NoMemory → outcome ≡ Err e) → Moves outcome r f m
moves_fault outcome r f m e is known = subst (λ r. Moves outcome r f m) (sym is) known

-- the lines behind the first one
pub others_rest : (s : Scope) (ns : List Node) (f : Frame) (m : Tally) → 0 < length ns
    → others s ns f m ≡ first_instead s (take (length ns - 1) (drop 1 ns)) f m
others_rest s [] f m some = absurd (omega (arith, some))
others_rest s (n ∷ ns) f m some = instead_first s ns f m ∙ ap (λ ms. first_instead s ms f m) (sym (take_rest (n ∷ ns) 1))
