-- The equations of `called`, one for each form of statement.
use Rattle.std.proofs.Common.{◌≡◌, ◌∙◌, ◌+◌, ◌++◌, ◌<◌, ◌≤◌, ℕ, List, [], ◌∷◌, length, drop, get_or, map, flat_map}
use Rattle.std.proofs.Common.{refl, sym, ap, ap₂, Option}
use Rattle.std.proofs.lemmas.List.{append_assoc, append-nil, drop_more, drop_all}
use Rattle.pm_design.specs.declared.body.Ex.{Ex}
use Rattle.pm_design.specs.declared.body.Side.{Side}
use Rattle.pm_design.specs.declared.body.St.{St, St-F, fold-St, fold-roll-St}
use Rattle.pm_design.specs.declared.body.St.TheVariants as st
use Rattle.pm_design.specs.declared.connection.Callee.{Callee}
use Rattle.pm_design.specs.declared.connection.Part.{Part}
use Rattle.pm_design.specs.Nodes.{Inside}
use Rattle.pm_design.proofs.Counts.{nodes_of_equations, some_statement_nodes}
use Rattle.pm_calls.specs.Called.{called, called_in, called_step}

pub called_set : (p : Part) (e : Ex) → called (st.Set p e) ≡ []
unfolding called
called_set p e = ap called (sym (st.rolls-Set p e)) ∙
    fold-roll-St (List Callee) called_step (St-F.Set p e)

pub called_pick : (i : Ex) (ps : List Part) (e : Ex) → called (st.SetPick i ps e) ≡ []
unfolding called
called_pick i ps e = ap called (sym (st.rolls-SetPick i ps e)) ∙
    fold-roll-St (List Callee) called_step (St-F.SetPick i ps e)

pub called_temp : (t : ℕ) (e : Ex) → called (st.SetTemp t e) ≡ []
unfolding called
called_temp t e = ap called (sym (st.rolls-SetTemp t e)) ∙
    fold-roll-St (List Callee) called_step (St-F.SetTemp t e)

pub called_number : (k : ℕ) (e : Ex) → called (st.SetNumber k e) ≡ []
unfolding called
called_number k e = ap called (sym (st.rolls-SetNumber k e)) ∙
    fold-roll-St (List Callee) called_step (St-F.SetNumber k e)

pub called_push : (k : ℕ) (side : Side) (e : Ex) → called (st.Push k side e) ≡ []
unfolding called
called_push k side e = ap called (sym (st.rolls-Push k side e)) ∙
    fold-roll-St (List Callee) called_step (St-F.Push k side e)

pub called_pop : (k : ℕ) (side : Side) (target : Option ℕ) → called (st.Pop k side target) ≡ []
unfolding called
called_pop k side target = ap called (sym (st.rolls-Pop k side target)) ∙
    fold-roll-St (List Callee) called_step (St-F.Pop k side target)

pub called_clear : (k : ℕ) → called (st.Clear k) ≡ []
unfolding called
called_clear k = ap called (sym (st.rolls-Clear k)) ∙
    fold-roll-St (List Callee) called_step (St-F.Clear k)

pub called_call : (m : Callee) (es : List Ex) (target : Option ℕ) → called (st.Call m es target) ≡ m ∷ []
unfolding called
called_call m es target = ap called (sym (st.rolls-Call m es target)) ∙
    fold-roll-St (List Callee) called_step (St-F.Call m es target)

flat_map-map : (f : St → List Callee) (xs : List St) → flat_map (λ (ms : List Callee). ms) (map f xs) ≡ flat_map f xs
flat_map-map f [] = refl
flat_map-map f (x ∷ xs) = ap (λ (l : List Callee). f x ++ l) (flat_map-map f xs)

pub called_if : (c : Ex) (xs ys : List St) → called (st.If c xs ys) ≡ called_in xs ++ called_in ys
unfolding called
called_if c xs ys =
    ap called (sym (st.rolls-If c xs ys)) ∙ (fold-roll-St (List Callee) called_step (St-F.If c xs ys)
    ∙ ap₂ (λ (a b : List Callee). a ++ b) (flat_map-map (fold-St (List Callee) called_step) xs)
    (flat_map-map (fold-St (List Callee) called_step) ys))

pub ruleset called_equations = (
  called_set,
  called_pick,
  called_temp,
  called_number,
  called_push,
  called_pop,
  called_clear,
  called_call,
  called_if,
)

-- with the equations of nodes, which fall
pub ruleset statements = (called_equations, nodes_of_equations, some_statement_nodes)

-- nothing is put in
pub no_inside : Inside
no_inside = record { guard = λ m. 0; body = λ m. 0 }

pub one_more : (body : List St) (i : ℕ) (found now whole : List Callee) (x : St) → i < length body →
    x ≡ get_or body i x → found ++ called_in (drop i body) ≡ whole → now ≡ found ++ called x →
    now ++ called_in (drop (i + 1) body) ≡ whole
one_more body i found now whole x lt is so_far more =
    ap (λ (l : List Callee). l ++ called_in (drop (i + 1) body)) more
    ∙ (append_assoc found (called x) (called_in (drop (i + 1) body))
    ∙ (ap (λ (y : St). found ++ (called y ++ called_in (drop (i + 1) body))) is
    ∙ (ap (λ (l : List St). found ++ called_in l) (sym (drop_more body i x lt)) ∙ so_far)))

pub all_done : (body : List St) (i : ℕ) (found whole : List Callee) → length body ≤ i →
    found ++ called_in (drop i body) ≡ whole → found ≡ whole
all_done body i found whole le so_far =
    sym (append-nil found) ∙ (ap (λ (l : List St). found ++ called_in l) (sym (drop_all i body le)) ∙ so_far)

-- a statement that calls nothing
pub none_called : (x y : St) (found : List Callee) → x ≡ y → called y ≡ [] → found ≡ found ++ called x
none_called x y found is none =
    sym (append-nil found) ∙ ap (λ (l : List Callee). found ++ l) (sym (ap called is ∙ none))

pub if_called : (x : St) (c : Ex) (xs ys : List St) (found middle now : List Callee) → x ≡ st.If c xs ys →
    middle ≡ found ++ called_in xs → now ≡ middle ++ called_in ys → now ≡ found ++ called x
if_called x c xs ys found middle now is first second =
    second ∙ (ap (λ (l : List Callee). l ++ called_in ys) first ∙ (append_assoc found (called_in xs) (called_in ys)
    ∙ ap (λ (l : List Callee). found ++ l) (sym (ap called is ∙ called_if c xs ys))))
