-- The equations of `written`, one for each form of statement, and what a sound statement writes.
use Rattle.std.proofs.Common.{◌≡◌, ◌∙◌, ◌+◌, ◌++◌, ◌&&◌, ◌<◌, ◌≤◌, ℕ, List, [], ◌∷◌, length, drop, get_or, map}
use Rattle.std.proofs.Common.{flat_map, refl, sym, ap, ap₂, subst, Bool, true, Option, ◌^◌}
use Rattle.std.specs.Prelude.{IsTrue, nat_le, ◌==◌}
use Rattle.std.specs.List.{list_all}
use Rattle.std.proofs.lemmas.Bool.{and_parts, and_from}
use Rattle.std.proofs.lemmas.List.{append_assoc, append-nil, drop_more, drop_all}
use Rattle.pm_design.specs.declared.body.Ex.{Ex}
use Rattle.pm_design.specs.declared.body.Side.{Side}
use Rattle.pm_design.specs.declared.body.St.{St, St-F, fold-St, fold-roll-St}
use Rattle.pm_design.specs.declared.body.St.TheVariants as st
use Rattle.pm_design.specs.declared.connection.Callee.{Callee}
use Rattle.pm_design.specs.declared.connection.Part.{Part}
use Rattle.pm_design.specs.Nodes.{Inside}
use Rattle.pm_design.specs.Typing.{Sight, are_elements, has_width, is_sound, typing}
use Rattle.pm_design.proofs.Counts.{nodes_of_equations, some_statement_nodes}
use Rattle.pm_design.proofs.Soundness.{sound_set, sound_set_pick, sound_if}
use Rattle.pm_nets.specs.Written.{written, written_in, written_step}

pub written_set : (p : Part) (e : Ex) → written (st.Set p e) ≡ p ∷ []
unfolding written
written_set p e = ap written (sym (st.rolls-Set p e)) ∙ fold-roll-St (List Part) written_step (St-F.Set p e)

pub written_pick : (i : Ex) (ps : List Part) (e : Ex) → written (st.SetPick i ps e) ≡ ps
unfolding written
written_pick i ps e = ap written (sym (st.rolls-SetPick i ps e)) ∙
    fold-roll-St (List Part) written_step (St-F.SetPick i ps e)

pub written_temp : (t : ℕ) (e : Ex) → written (st.SetTemp t e) ≡ []
unfolding written
written_temp t e = ap written (sym (st.rolls-SetTemp t e)) ∙ fold-roll-St (List Part) written_step (St-F.SetTemp t e)

pub written_number : (k : ℕ) (e : Ex) → written (st.SetNumber k e) ≡ []
unfolding written
written_number k e = ap written (sym (st.rolls-SetNumber k e)) ∙
    fold-roll-St (List Part) written_step (St-F.SetNumber k e)

pub written_push : (k : ℕ) (side : Side) (e : Ex) → written (st.Push k side e) ≡ []
unfolding written
written_push k side e = ap written (sym (st.rolls-Push k side e)) ∙
    fold-roll-St (List Part) written_step (St-F.Push k side e)

pub written_pop : (k : ℕ) (side : Side) (target : Option ℕ) → written (st.Pop k side target) ≡ []
unfolding written
written_pop k side target = ap written (sym (st.rolls-Pop k side target)) ∙
    fold-roll-St (List Part) written_step (St-F.Pop k side target)

pub written_clear : (k : ℕ) → written (st.Clear k) ≡ []
unfolding written
written_clear k = ap written (sym (st.rolls-Clear k)) ∙ fold-roll-St (List Part) written_step (St-F.Clear k)

pub written_call : (m : Callee) (es : List Ex) (target : Option ℕ) → written (st.Call m es target) ≡ []
unfolding written
written_call m es target = ap written (sym (st.rolls-Call m es target)) ∙
    fold-roll-St (List Part) written_step (St-F.Call m es target)

flat_map-map : (f : St → List Part) (xs : List St) → flat_map (λ (ps : List Part). ps) (map f xs) ≡ flat_map f xs
flat_map-map f [] = refl
flat_map-map f (x ∷ xs) = ap (λ (l : List Part). f x ++ l) (flat_map-map f xs)

pub written_if : (c : Ex) (xs ys : List St) → written (st.If c xs ys) ≡ written_in xs ++ written_in ys
unfolding written
written_if c xs ys =
    ap written (sym (st.rolls-If c xs ys)) ∙ (fold-roll-St (List Part) written_step (St-F.If c xs ys)
    ∙ ap₂ (λ (a b : List Part). a ++ b) (flat_map-map (fold-St (List Part) written_step) xs)
    (flat_map-map (fold-St (List Part) written_step) ys))

pub ruleset written_equations = (
  written_set,
  written_pick,
  written_temp,
  written_number,
  written_push,
  written_pop,
  written_clear,
  written_call,
  written_if,
)

-- with the equations of nodes, which fall
pub ruleset statements = (written_equations, nodes_of_equations, some_statement_nodes)

-- nothing is put in
pub no_inside : Inside
no_inside = record { guard = λ m. 0; body = λ m. 0 }

pub one_more : (body : List St) (i : ℕ) (found now whole : List Part) (x : St) → i < length body →
    x ≡ get_or body i x →
    found ++ written_in (drop i body) ≡ whole → now ≡ found ++ written x → now ++
    written_in (drop (i + 1) body) ≡ whole
one_more body i found now whole x lt is so_far more =
    ap (λ (l : List Part). l ++ written_in (drop (i + 1) body)) more
    ∙ (append_assoc found (written x) (written_in (drop (i + 1) body))
    ∙ (ap (λ (y : St). found ++ (written y ++ written_in (drop (i + 1) body))) is
    ∙ (ap (λ (l : List St). found ++ written_in l) (sym (drop_more body i x lt)) ∙ so_far)))

pub all_done : (body : List St) (i : ℕ) (found whole : List Part) → length body ≤ i → found ++
    written_in (drop i body) ≡ whole → found ≡ whole
all_done body i found whole le so_far =
    sym (append-nil found) ∙ (ap (λ (l : List St). found ++ written_in l) (sym (drop_all i body le)) ∙ so_far)

-- a statement that writes nothing
pub none_written : (x y : St) (found : List Part) → x ≡ y → written y ≡ [] → found ≡ found ++ written x
none_written x y found is none = sym (append-nil found) ∙ ap (λ (l : List Part). found ++
    l) (sym (ap written is ∙ none))

pub set_sound : (x : St) (p : Part) (e : Ex) → x ≡ st.Set p e → (s : Sight) → IsTrue (is_sound s x) →
    IsTrue (list_all s.writes (written x))
set_sound x p e is s sound =
    let fine : IsTrue (s.writes p && has_width s p.width e) =
    subst IsTrue (ap (is_sound s) is ∙ sound_set s p e) sound in
    subst (λ (l : List Part). IsTrue (list_all s.writes l)) (sym (ap written is ∙ written_set p e))
    (and_from (s.writes p) true (and_parts (s.writes p) (has_width s p.width e) fine).0 refl)

elements_allowed : (allowed : Part → Bool) (width : ℕ) (ps : List Part) →
    IsTrue (list_all (λ p. allowed p && p.width == width) ps) →
    IsTrue (list_all allowed ps)
elements_allowed allowed width [] all = all
elements_allowed allowed width (p ∷ ps) all =
    let both = and_parts (allowed p && p.width == width) (list_all (λ q. allowed q && q.width == width) ps) all in
    and_from (allowed p) (list_all allowed ps) (and_parts (allowed p) (p.width == width) both.0).0
    (elements_allowed allowed width ps both.1)

pub pick_sound : (x : St) (i : Ex) (ps : List Part) (e : Ex) → x ≡ st.SetPick i ps e → (s : Sight) →
    IsTrue (is_sound s x) →
    IsTrue (list_all s.writes (written x))
pick_sound x i ps e is s sound =
    let fine : IsTrue ((typing s i).fine && ((typing s e).fine && are_elements s.writes (typing s i).width
    (typing s e).width ps)) =
    subst IsTrue (ap (is_sound s) is ∙ sound_set_pick s i ps e) sound in
    let inner = (and_parts (typing s e).fine (are_elements s.writes (typing s i).width (typing s e).width ps)
    (and_parts (typing s i).fine ((typing s e).fine && are_elements s.writes (typing s i).width
    (typing s e).width ps) fine).1).1 in
    let each = (and_parts (nat_le (length ps) (2 ^ (typing s i).width))
    (list_all (λ p. s.writes p && p.width == (typing s e).width) ps) inner).1 in
    subst (λ (l : List Part). IsTrue (list_all s.writes l)) (sym (ap written is ∙ written_pick i ps e))
    (elements_allowed s.writes (typing s e).width ps each)

all_true : (f : St → Bool) (xs : List St) → IsTrue (list_all (λ b. b) (map f xs)) → IsTrue (list_all f xs)
all_true f [] all = all
all_true f (x ∷ xs) all =
    let both = and_parts (f x) (list_all (λ b. b) (map f xs)) all in
    and_from (f x) (list_all f xs) both.0 (all_true f xs both.1)

pub append_allowed : (allowed : Part → Bool) (ps qs : List Part) → IsTrue (list_all allowed ps) →
    IsTrue (list_all allowed qs) → IsTrue (list_all allowed (ps ++ qs))
append_allowed allowed [] qs l r = r
append_allowed allowed (p ∷ ps) qs l r =
    let both = and_parts (allowed p) (list_all allowed ps) l in
    and_from (allowed p) (list_all allowed (ps ++ qs)) both.0 (append_allowed allowed ps qs both.1 r)

pub if_sound : (x : St) (c : Ex) (xs ys : List St) → x ≡ st.If c xs ys → (s : Sight) →
    (IsTrue (list_all (is_sound s) xs) → IsTrue (list_all s.writes (written_in xs))) →
    (IsTrue (list_all (is_sound s) ys) → IsTrue (list_all s.writes (written_in ys))) →
    IsTrue (is_sound s x) → IsTrue (list_all s.writes (written x))
if_sound x c xs ys is s left right sound =
    let fine : IsTrue ((typing s c).fine && (list_all (λ b. b) (map (is_sound s) xs) && list_all (λ b. b)
    (map (is_sound s) ys))) =
    subst IsTrue (ap (is_sound s) is ∙ sound_if s c xs ys) sound in
    let both = and_parts (list_all (λ b. b) (map (is_sound s) xs)) (list_all (λ b. b) (map (is_sound s) ys))
    (and_parts (typing s c).fine (list_all (λ b. b) (map (is_sound s) xs) && list_all (λ b. b)
    (map (is_sound s) ys)) fine).1 in
    subst (λ (l : List Part). IsTrue (list_all s.writes l)) (sym (ap written is ∙ written_if c xs ys))
    (append_allowed s.writes (written_in xs) (written_in ys) (left (all_true (is_sound s) xs both.0))
    (right (all_true (is_sound s) ys both.1)))

pub if_written : (x : St) (c : Ex) (xs ys : List St) (found middle now : List Part) → x ≡ st.If c xs ys →
    middle ≡ found ++ written_in xs → now ≡ middle ++ written_in ys → now ≡ found ++ written x
if_written x c xs ys found middle now is first second =
    second ∙ (ap (λ (l : List Part). l ++ written_in ys) first ∙ (append_assoc found (written_in xs) (written_in ys)
    ∙ ap (λ (l : List Part). found ++ l) (sym (ap written is ∙ written_if c xs ys))))
