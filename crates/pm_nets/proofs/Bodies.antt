-- A sound body writes only what it may write.
use Rattle.std.proofs.Common.{◌≡◌, ◌∙◌, List, [], ◌∷◌, map, refl, sym, ap, subst}
use Rattle.std.specs.Prelude.{IsTrue}
use Rattle.std.specs.List.{list_all}
use Rattle.std.proofs.lemmas.Bool.{and_parts}
use Rattle.pm_design.specs.declared.body.St.{St, St-F, roll-St}
use Rattle.pm_design.specs.declared.body.St.TheFolds.{ind-St, map-St}
use Rattle.pm_design.specs.declared.body.St.TheVariants as st
use Rattle.pm_design.specs.declared.connection.Part.{Part}
use Rattle.pm_design.specs.Typing.{Sight, is_sound}
use Rattle.pm_nets.specs.Written.{written, written_in}
use Rattle.pm_nets.proofs.Writing.{append_allowed, if_sound, pick_sound, set_sound, written_call, written_clear}
use Rattle.pm_nets.proofs.Writing.{written_number, written_pop, written_push, written_temp}

-- a sound statement writes what its body may write
abbrev pub WritesWell : St → Type 0
WritesWell x = (s : Sight) → IsTrue (is_sound s x) → IsTrue (list_all s.writes (written x))

-- the statement alone
abbrev Below : St-F ((x : St) × WritesWell x) → St-F St
Below y = map-St ((x : St) × WritesWell x) St (λ x. x.0) y

none_well : (x y : St) → x ≡ y → written y ≡ [] → WritesWell x
none_well x y is none s sound =
    subst (λ (l : List Part). IsTrue (list_all s.writes l)) (sym (ap written is ∙ none)) refl

all_well : (xs : List ((x : St) × WritesWell x)) (s : Sight) → IsTrue (list_all (is_sound s) (map (λ x. x.0) xs)) →
    IsTrue (list_all s.writes (written_in (map (λ x. x.0) xs)))
all_well [] s sound = refl
all_well (x ∷ xs) s sound =
    let both = and_parts (is_sound s x.0) (list_all (is_sound s) (map (λ y. y.0) xs)) sound in
    append_allowed s.writes (written x.0) (written_in (map (λ y. y.0) xs)) (x.1 s both.0) (all_well xs s both.1)

layer : (y : St-F ((x : St) × WritesWell x)) → WritesWell (roll-St (Below y))
layer (St-F.Set p e) = set_sound (roll-St (St-F.Set p e)) p e (st.rolls-Set p e)
layer (St-F.SetPick i ps e) = pick_sound (roll-St (St-F.SetPick i ps e)) i ps e (st.rolls-SetPick i ps e)
layer (St-F.SetTemp t e) = none_well (roll-St (St-F.SetTemp t e)) _ (st.rolls-SetTemp t e) (written_temp t e)
layer (St-F.SetNumber k e) = none_well (roll-St (St-F.SetNumber k e)) _ (st.rolls-SetNumber k e) (written_number k e)
layer (St-F.Push k side e) = none_well (roll-St (St-F.Push k side e)) _ (st.rolls-Push k side e) (written_push k side e)
layer (St-F.Pop k side target) =
    none_well (roll-St (St-F.Pop k side target)) _ (st.rolls-Pop k side target) (written_pop k side target)
layer (St-F.Clear k) = none_well (roll-St (St-F.Clear k)) _ (st.rolls-Clear k) (written_clear k)
layer (St-F.Call m es target) =
    none_well (roll-St (St-F.Call m es target)) _ (st.rolls-Call m es target) (written_call m es target)
layer (St-F.If c xs ys) = λ s.
    if_sound (roll-St (Below (St-F.If c xs ys))) c (map (λ x. x.0) xs) (map (λ x. x.0) ys)
    (st.rolls-If c (map (λ x. x.0) xs) (map (λ x. x.0) ys)) s (all_well xs s) (all_well ys s)

pub statement_writes : (x : St) → WritesWell x
statement_writes x = ind-St WritesWell (λ z y is. subst (λ (w : St-F St). WritesWell (roll-St w)) is (layer y)) x

pub body_writes : (body : List St) (s : Sight) → IsTrue (list_all (is_sound s) body) →
    IsTrue (list_all s.writes (written_in body))
body_writes [] s sound = refl
body_writes (x ∷ xs) s sound =
    let both = and_parts (is_sound s x) (list_all (is_sound s) xs) sound in
    append_allowed s.writes (written x) (written_in xs) (statement_writes x s both.0) (body_writes xs s both.1)
