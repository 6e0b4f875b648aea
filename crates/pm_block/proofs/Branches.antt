-- The branches of a choice.
use Rattle.std.proofs.Common.{◌≡◌, ◌∙◌, ◌+◌, ◌&&◌, List, [], ◌∷◌, map, refl, ap, sym, subst, Bool, true}
use Rattle.std.specs.Prelude.{IsTrue}
use Rattle.std.specs.List.{list_all}
use Rattle.std.proofs.lemmas.Bool.{and_parts}
use Rattle.pm_design.specs.declared.body.Ex.{Ex}
use Rattle.pm_design.specs.declared.body.St.{St}
use Rattle.pm_design.specs.declared.body.St.TheVariants as st
use Rattle.pm_design.specs.Nodes.{Inside, body_nodes, nodes, statement_nodes}
use Rattle.pm_design.specs.Typing.{Sight, is_sound}
use Rattle.pm_design.proofs.Counts.{nodes_of_if}
use Rattle.pm_design.proofs.Soundness.{sound_if}
use Rattle.pm_block.specs.Assignments.{all_assignments, assignments}
use Rattle.pm_block.proofs.Assigning.{assignments_if}

all_of_map : (s : Sight) (xs : List St) → list_all (λ b. b) (map (is_sound s) xs) ≡ list_all (is_sound s) xs
all_of_map s [] = refl
all_of_map s (x ∷ xs) = ap (λ (b : Bool). is_sound s x && b) (all_of_map s xs)

-- the branches of a sound choice are sound
pub sound_branches : (s : Sight) (x : St) (c : Ex) (xs ys : List St) → x ≡ st.If c xs ys → IsTrue (is_sound s x) → IsTrue (list_all (is_sound s) xs) × IsTrue (list_all (is_sound s) ys)
sound_branches s x c xs ys is h =
    let p = and_parts _ _ (subst (λ (b : Bool). b ≡ true) (sound_if s c xs ys) (subst (λ (y : St). is_sound s y ≡ true) is h)) in
    let q = and_parts (list_all (λ b. b) (map (is_sound s) xs)) (list_all (λ b. b) (map (is_sound s) ys)) p.1 in
    (sym (all_of_map s xs) ∙ q.0, sym (all_of_map s ys) ∙ q.1)

-- the nodes of a choice
pub nodes_of_branches : (inside : Inside) (x : St) (c : Ex) (xs ys : List St) → x ≡ st.If c xs ys → statement_nodes inside x ≡ 1 + nodes inside.guard c + body_nodes inside xs + body_nodes inside ys
nodes_of_branches inside x c xs ys is = ap (statement_nodes inside) is ∙ nodes_of_if inside c xs ys

-- the assignments of a choice
pub assignments_of_branches : (x : St) (c : Ex) (xs ys : List St) → x ≡ st.If c xs ys → assignments x ≡ all_assignments xs + all_assignments ys
assignments_of_branches x c xs ys is = ap assignments is ∙ assignments_if c xs ys
