-- Paths and walks over statements.
use Rattle.std.proofs.Common.{◌≡◌, ◌∙◌, ◌||◌, ℕ, zero, suc, List, [], ◌∷◌, map, flat_map, Bool, not}
use Rattle.std.proofs.Common.{sym, ap, subst, subst₂, arith}
use Rattle.pm_design.specs.declared.body.St.{St, St-F, fold-roll-St, ind-St, roll-St}
use Rattle.pm_design.specs.declared.body.St.TheFolds.{map-St}
use Rattle.pm_design.specs.declared.connection.Callee.{Callee}
use Rattle.pm_block.specs.Value.{Frame, World}
use Rattle.pm_touched.specs.Events.{Place, Path}
use Rattle.pm_touched.specs.Expressions.{reads, reads_of, guards_to, part_places, parts_places, state_place}
use Rattle.pm_touched.specs.Found.{PathsAreWalked}
use Rattle.pm_touched.specs.Paths.{Scene, in_turn, paths_step, paths, body_paths, calls_to, scene_in}
use Rattle.pm_touched.specs.Touches.{Touch, touch_of}
use Rattle.pm_touched.specs.Walks.{Sight, all_in_turn}
use Rattle.pm_touched.specs.Walks.{walk_step, walk, walk_body, call_touch, walked}
use Rattle.pm_touched.proofs.Bools.{or_false, and_false}
use Rattle.pm_touched.proofs.Events.{IsWalked, walked_none, walked_then, walked_either, walked_reads, walked_writes, walked_picks}

-- a scene, and what a walk knows of it for a place
abbrev pub scene_with : Frame → (Callee → List Place) → (Callee → List Path → List Path) → Scene
scene_with frame guards calls = record { frame = frame; guards = guards; calls = calls }

abbrev pub sight_with : Frame → (Callee → List Place) → (Callee → Touch) → Sight
sight_with frame guards touches = record { frame = frame; guards = guards; calls = touches }

abbrev pub Known : Frame → (Callee → List Place) → (Callee → List Path → List Path) → (Callee → Touch) → Place → St → Type 0
Known frame guards calls touches x st =
    IsWalked x (paths (scene_with frame guards calls) st) (walk (sight_with frame guards touches) x st)

list_known : (frame : Frame) (guards : Callee → List Place) (calls : Callee → List Path → List Path) (touches : Callee → Touch)
    (x : Place) (ss : List ((st : St) × Known frame guards calls touches x st)) →
    IsWalked x (in_turn (map (paths (scene_with frame guards calls)) (map (λ s. s.0) ss)))
    (all_in_turn (map (walk (sight_with frame guards touches) x) (map (λ s. s.0) ss)))
list_known frame guards calls touches x [] = walked_none x
list_known frame guards calls touches x (s ∷ ss) =
    walked_then x (paths (scene_with frame guards calls) s.0)
    (in_turn (map (paths (scene_with frame guards calls)) (map (λ s. s.0) ss)))
    (walk (sight_with frame guards touches) x s.0)
    (all_in_turn (map (walk (sight_with frame guards touches) x) (map (λ s. s.0) ss)))
    s.1 (list_known frame guards calls touches x ss)

known_from : (frame : Frame) (guards : Callee → List Place) (calls : Callee → List Path → List Path) (touches : Callee → Touch)
    (x : Place) (z : St-F St) →
    IsWalked x (paths_step (scene_with frame guards calls) (map-St St (List Path → List Path) (paths (scene_with frame guards calls)) z))
    (walk_step (sight_with frame guards touches) x (map-St St Touch (walk (sight_with frame guards touches) x) z)) →
    Known frame guards calls touches x (roll-St z)
unfolding paths walk
known_from frame guards calls touches x z here =
    subst₂ (λ (f : List Path → List Path) (t : Touch). IsWalked x f t)
    (sym (fold-roll-St (List Path → List Path) (paths_step (scene_with frame guards calls)) z))
    (sym (fold-roll-St Touch (walk_step (sight_with frame guards touches) x) z)) here

layer : (frame : Frame) (guards : Callee → List Place) (calls : Callee → List Path → List Path) (touches : Callee → Touch)
    (x : Place) → ((m : Callee) → IsWalked x (calls m) (touches m)) →
    (y : St-F ((st : St) × Known frame guards calls touches x st)) →
    Known frame guards calls touches x (roll-St (map-St ((st : St) × Known frame guards calls touches x st) St (λ s. s.0) y))
layer frame guards calls touches x each (St-F.Set p e) =
    known_from frame guards calls touches x (St-F.Set p e)
    (walked_then x _ _ _ _ (walked_reads x (reads guards frame e)) (walked_writes x (part_places frame.names p)))
layer frame guards calls touches x each (St-F.SetPick i ps e) =
    known_from frame guards calls touches x (St-F.SetPick i ps e)
    (walked_then x _ _ _ _ (walked_reads x (reads guards frame i))
    (walked_then x _ _ _ _ (walked_reads x (reads guards frame e)) (walked_picks x (parts_places frame.names ps))))
layer frame guards calls touches x each (St-F.SetTemp t e) =
    known_from frame guards calls touches x (St-F.SetTemp t e) (walked_reads x (reads guards frame e))
layer frame guards calls touches x each (St-F.SetNumber k e) =
    known_from frame guards calls touches x (St-F.SetNumber k e)
    (walked_then x _ _ _ _ (walked_reads x (reads guards frame e)) (walked_writes x (state_place frame k ∷ [])))
layer frame guards calls touches x each (St-F.Push k side e) =
    known_from frame guards calls touches x (St-F.Push k side e)
    (walked_then x _ _ _ _ (walked_reads x (reads guards frame e))
    (walked_then x _ _ _ _ (walked_reads x (state_place frame k ∷ [])) (walked_writes x (state_place frame k ∷ []))))
layer frame guards calls touches x each (St-F.Pop k side target) =
    known_from frame guards calls touches x (St-F.Pop k side target)
    (walked_then x _ _ _ _ (walked_reads x (state_place frame k ∷ [])) (walked_writes x (state_place frame k ∷ [])))
layer frame guards calls touches x each (St-F.Clear k) =
    known_from frame guards calls touches x (St-F.Clear k) (walked_writes x (state_place frame k ∷ []))
layer frame guards calls touches x each (St-F.Call m es target) =
    known_from frame guards calls touches x (St-F.Call m es target)
    (walked_then x _ _ _ _ (walked_reads x (flat_map (reads guards frame) es)) (each m))
layer frame guards calls touches x each (St-F.If c xs ys) =
    known_from frame guards calls touches x (St-F.If c (map (λ s. s.0) xs) (map (λ s. s.0) ys))
    (walked_then x _ _ _ _ (walked_reads x (reads guards frame c))
    (walked_either x _ _ _ _ (list_known frame guards calls touches x xs) (list_known frame guards calls touches x ys)))

statement_walked : (frame : Frame) (guards : Callee → List Place) (calls : Callee → List Path → List Path)
    (touches : Callee → Touch)
    (x : Place) → ((m : Callee) → IsWalked x (calls m) (touches m)) → (st : St) → Known frame guards calls touches x st
statement_walked frame guards calls touches x each =
    ind-St (Known frame guards calls touches x)
    (λ y z is. subst (λ (w : St-F St). Known frame guards calls touches x (roll-St w)) is
    (layer frame guards calls touches x each z))

body_walked : (frame : Frame) (guards : Callee → List Place) (calls : Callee → List Path → List Path) (touches : Callee → Touch)
    (x : Place) → ((m : Callee) → IsWalked x (calls m) (touches m)) → (body : List St) →
    IsWalked x (body_paths (scene_with frame guards calls) body) (walk_body (sight_with frame guards touches) x body)
body_walked frame guards calls touches x each [] = walked_none x
body_walked frame guards calls touches x each (st ∷ body) =
    walked_then x (paths (scene_with frame guards calls) st) (body_paths (scene_with frame guards calls) body)
    (walk (sight_with frame guards touches) x st) (walk_body (sight_with frame guards touches) x body)
    (statement_walked frame guards calls touches x each st) (body_walked frame guards calls touches x each body)

-- calls, through so many levels
calls_walked : (levels : ℕ) (world : World) (i : ℕ) (x : Place) (m : Callee) →
    IsWalked x (calls_to levels world i m) (call_touch levels world i x m)
calls_walked zero world i x m = walked_none x
calls_walked (suc levels) world i x m =
    let target = world.leads i m in
    walked_then x _ _ _ _
    (body_walked (world.frames target.instance) (guards_to world.levels world target.instance)
    (calls_to levels world target.instance) (call_touch levels world target.instance x) x
    (calls_walked levels world target.instance x) target.method.body)
    (walked_reads x (reads_of (guards_to world.levels world target.instance) (world.frames target.instance)
    target.method.answer))

abbrev pub made : Bool → Bool → Bool → Bool → Touch
made a b c d = record { read = a; written = b; surely = c; early = d }

same_touch : (t u : Touch) → u.read ≡ t.read → u.written ≡ t.written → u.surely ≡ t.surely → u.early ≡ t.early → u ≡ t
same_touch t u i j k l =
    ap (λ (a : Bool). made a u.written u.surely u.early) i
    ∙ (ap (λ (b : Bool). made t.read b u.surely u.early) j
    ∙ (ap (λ (c : Bool). made t.read t.written c u.early) k ∙ ap (λ (d : Bool). made t.read t.written t.surely d) l))

-- one empty path behind all
touches_are : (x : Place) (f : List Path → List Path) (t : Touch) → IsWalked x f t → touch_of x (f ([] ∷ [])) ≡ t
touches_are x f t is =
    same_touch t (touch_of x (f ([] ∷ []))) (is.reads ([] ∷ []) (omega arith) ∙ or_false t.read)
    (is.writes ([] ∷ []) (omega arith) ∙ or_false t.written)
    (is.sets ([] ∷ []) (omega arith) ∙ or_false t.surely)
    (is.first ([] ∷ []) (omega arith) ∙ (ap (λ (b : Bool). t.early || b) (and_false (not t.surely)) ∙ or_false t.early))

pub paths_are_walked : PathsAreWalked
paths_are_walked world i body x =
    touches_are x (body_paths (scene_in world i) body) (walked world i x body)
    (body_walked (world.frames i) (guards_to world.levels world i) (calls_to world.levels world i)
    (call_touch world.levels world i x) x (calls_walked world.levels world i x) body)

-- the paths of what a callee leads to
pub callee_walked : (levels : ℕ) (world : World) (i : ℕ) (x : Place) (m : Callee) →
    touch_of x (calls_to levels world i m ([] ∷ [])) ≡ call_touch levels world i x m
callee_walked levels world i x m =
    touches_are x (calls_to levels world i m) (call_touch levels world i x m) (calls_walked levels world i x m)
