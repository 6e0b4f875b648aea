-- Paths under other numbers of bits.
use Rattle.std.proofs.Common.{◌≡◌, ◌∙◌, ◌++◌, ℕ, zero, suc, List, [], ◌∷◌, map, flat_map, Option, None, Some}
use Rattle.std.proofs.Common.{refl, sym, ap, ap₂, subst, subst₂}
use Rattle.std.specs.List.{range_with_len}
use Rattle.pm_design.specs.declared.body.Ex.{Ex, Ex-F, fold-roll-Ex, ind-Ex, roll-Ex}
use Rattle.pm_design.specs.declared.body.Ex.TheFolds.{map-Ex}
use Rattle.pm_design.specs.declared.body.St.{St, St-F, fold-roll-St, ind-St, roll-St}
use Rattle.pm_design.specs.declared.body.St.TheFolds.{map-St}
use Rattle.pm_design.specs.declared.connection.Callee.{Callee}
use Rattle.pm_design.specs.declared.connection.Part.{Part}
use Rattle.pm_block.specs.Value.{Names, Frame, World, places_of}
use Rattle.pm_touched.specs.Events.{Place, Event, Path, before}
use Rattle.pm_touched.specs.Events.Event.{Read, Write, MayWrite}
use Rattle.pm_touched.specs.Events.Place.{Bit}
use Rattle.pm_touched.specs.Expressions.{part_places, parts_places, state_place, reads, reads_step, reads_of, guards_to}
use Rattle.pm_touched.specs.Paths.{in_turn, paths_step, paths, body_paths, calls_to}
use Rattle.pm_touched.specs.Renaming.{renamed_place, renamed_event, renamed_path, renamed_frame, renamed_world}
use Rattle.pm_touched.specs.Renaming.{PathsAreRenamed}
use Rattle.pm_touched.proofs.Walked.{scene_with}

pub map-append : {X Y : Type 0} (f : X → Y) (xs ys : List X) → map f (xs ++ ys) ≡ map f xs ++ map f ys
map-append f [] ys = refl
map-append f (x ∷ xs) ys = ap (λ (l : List _). f x ∷ l) (map-append f xs ys)

map_twice : {X Y Z : Type 0} (g : Y → Z) (f : X → Y) (xs : List X) → map g (map f xs) ≡ map (λ x. g (f x)) xs
map_twice g f [] = refl
map_twice g f (x ∷ xs) = ap (λ (l : List _). g (f x) ∷ l) (map_twice g f xs)

-- the names of bits that have other numbers
abbrev pub other_names : (ℕ → ℕ) → Names → Names
other_names f names owner signal bit = f (names owner signal bit)

part_renamed : (f : ℕ → ℕ) (names : Names) (p : Part) →
    part_places (other_names f names) p ≡ map (renamed_place f) (part_places names p)
part_renamed f names p = sym (map_twice (renamed_place f) (λ i. Bit (places_of names p i)) (range_with_len 0 p.width))

parts_renamed : (f : ℕ → ℕ) (names : Names) (ps : List Part) →
    parts_places (other_names f names) ps ≡ map (renamed_place f) (parts_places names ps)
parts_renamed f names [] = refl
parts_renamed f names (p ∷ ps) =
    ap₂ (λ (a b : List Place). a ++ b) (part_renamed f names p) (parts_renamed f names ps)
    ∙ sym (map-append (renamed_place f) (part_places names p) (parts_places names ps))

-- two lists under other numbers
two_renamed : (f : ℕ → ℕ) (a b c d : List Place) → c ≡ map (renamed_place f) a → d ≡ map (renamed_place f) b →
    c ++ d ≡ map (renamed_place f) (a ++ b)
two_renamed f a b c d l r = ap₂ (λ (x y : List Place). x ++ y) l r ∙ sym (map-append (renamed_place f) a b)

-- an expression reads the same places, under other numbers
abbrev pub ReadsRenamed : (ℕ → ℕ) → (Callee → List Place) → (Callee → List Place) → Frame → Ex → Type 0
ReadsRenamed f guards others frame e =
    reads others (renamed_frame f frame) e ≡ map (renamed_place f) (reads guards frame e)

reads_from : (f : ℕ → ℕ) (guards others : Callee → List Place) (frame : Frame) (z : Ex-F Ex) →
    reads_step others (renamed_frame f frame) (map-Ex Ex (List Place) (reads others (renamed_frame f frame)) z)
    ≡ map (renamed_place f) (reads_step guards frame (map-Ex Ex (List Place) (reads guards frame) z)) →
    ReadsRenamed f guards others frame (roll-Ex z)
unfolding reads
reads_from f guards others frame z here =
    subst₂ (λ (a b : List Place). a ≡ map (renamed_place f) b)
    (sym (fold-roll-Ex (List Place) (reads_step others (renamed_frame f frame)) z))
    (sym (fold-roll-Ex (List Place) (reads_step guards frame) z)) here

lists_renamed : (f : ℕ → ℕ) (guards others : Callee → List Place) (frame : Frame)
    (es : List ((e : Ex) × ReadsRenamed f guards others frame e)) →
    flat_map (λ places. places) (map (reads others (renamed_frame f frame)) (map (λ e. e.0) es))
    ≡ map (renamed_place f) (flat_map (λ places. places) (map (reads guards frame) (map (λ e. e.0) es)))
lists_renamed f guards others frame [] = refl
lists_renamed f guards others frame (e ∷ es) =
    two_renamed f (reads guards frame e.0) (flat_map (λ places. places) (map (reads guards frame) (map (λ e. e.0) es)))
    _ _ e.1 (lists_renamed f guards others frame es)

reads_layer : (f : ℕ → ℕ) (guards others : Callee → List Place) (frame : Frame) →
    ((m : Callee) → others m ≡ map (renamed_place f) (guards m)) →
    (y : Ex-F ((e : Ex) × ReadsRenamed f guards others frame e)) →
    reads_step others (renamed_frame f frame) (map-Ex Ex (List Place) (reads others (renamed_frame f frame))
    (map-Ex ((e : Ex) × ReadsRenamed f guards others frame e) Ex (λ e. e.0) y))
    ≡ map (renamed_place f) (reads_step guards frame (map-Ex Ex (List Place) (reads guards frame)
    (map-Ex ((e : Ex) × ReadsRenamed f guards others frame e) Ex (λ e. e.0) y)))
reads_layer f guards others frame each (Ex-F.Const c) = refl
reads_layer f guards others frame each (Ex-F.Get p) = part_renamed f frame.names p
reads_layer f guards others frame each (Ex-F.Temp t lo n) = refl
reads_layer f guards others frame each (Ex-F.Pick i ps) =
    two_renamed f (reads guards frame i.0) (parts_places frame.names ps) _ _ i.1 (parts_renamed f frame.names ps)
reads_layer f guards others frame each (Ex-F.Number k) = refl
reads_layer f guards others frame each (Ex-F.Count k) = refl
reads_layer f guards others frame each (Ex-F.Item k i) = refl
reads_layer f guards others frame each (Ex-F.Last k) = refl
reads_layer f guards others frame each (Ex-F.Ready m) = each m
reads_layer f guards others frame each (Ex-F.Not a) = a.1
reads_layer f guards others frame each (Ex-F.Fold g a) = a.1
reads_layer f guards others frame each (Ex-F.Bin op a b) =
    two_renamed f (reads guards frame a.0) (reads guards frame b.0) _ _ a.1 b.1
reads_layer f guards others frame each (Ex-F.Cat es) = lists_renamed f guards others frame es
reads_layer f guards others frame each (Ex-F.Zext a n) = a.1
reads_layer f guards others frame each (Ex-F.Sext a n) = a.1
reads_layer f guards others frame each (Ex-F.Trunc a n) = a.1
reads_layer f guards others frame each (Ex-F.Cond c a b) =
    two_renamed f (reads guards frame c.0 ++ reads guards frame a.0) (reads guards frame b.0) _ _
    (two_renamed f (reads guards frame c.0) (reads guards frame a.0) _ _ c.1 a.1) b.1

reads_renamed : (f : ℕ → ℕ) (guards others : Callee → List Place) (frame : Frame) →
    ((m : Callee) → others m ≡ map (renamed_place f) (guards m)) → (e : Ex) → ReadsRenamed f guards others frame e
reads_renamed f guards others frame each =
    ind-Ex (ReadsRenamed f guards others frame)
    (λ x y is. subst (λ (z : Ex-F Ex). ReadsRenamed f guards others frame (roll-Ex z)) is
    (reads_from f guards others frame _ (reads_layer f guards others frame each y)))

optional_renamed : (f : ℕ → ℕ) (guards others : Callee → List Place) (frame : Frame) →
    ((m : Callee) → others m ≡ map (renamed_place f) (guards m)) → (e : Option Ex) →
    reads_of others (renamed_frame f frame) e ≡ map (renamed_place f) (reads_of guards frame e)
optional_renamed f guards others frame each None = refl
optional_renamed f guards others frame each (Some e) = reads_renamed f guards others frame each e

all_renamed : (f : ℕ → ℕ) (guards others : Callee → List Place) (frame : Frame) →
    ((m : Callee) → others m ≡ map (renamed_place f) (guards m)) → (es : List Ex) →
    flat_map (reads others (renamed_frame f frame)) es ≡ map (renamed_place f) (flat_map (reads guards frame) es)
all_renamed f guards others frame each [] = refl
all_renamed f guards others frame each (e ∷ es) =
    two_renamed f (reads guards frame e) (flat_map (reads guards frame) es) _ _
    (reads_renamed f guards others frame each e) (all_renamed f guards others frame each es)

-- guards, through so many levels
guards_renamed : (levels : ℕ) (f : ℕ → ℕ) (world : World) (i : ℕ) (m : Callee) →
    guards_to levels (renamed_world f world) i m ≡ map (renamed_place f) (guards_to levels world i m)
guards_renamed zero f world i m = refl
guards_renamed (suc levels) f world i m =
    let target = world.leads i m in
    optional_renamed f (guards_to levels world target.instance) (guards_to levels (renamed_world f world) target.instance)
    (world.frames target.instance) (guards_renamed levels f world target.instance) target.method.guard

-- paths followed by others, and the same under other numbers
pub record TourRenamed (f : ℕ → ℕ) (one other : List Path → List Path) : Type 0 where
  pub tour : (rest : List Path) → other (map (renamed_path f) rest) ≡ map (renamed_path f) (one rest)

paths_before : (f : ℕ → ℕ) (events others : List Event) → others ≡ map (renamed_event f) events →
    (rest : List Path) → before others (map (renamed_path f) rest) ≡ map (renamed_path f) (before events rest)
paths_before f events others is [] = refl
paths_before f events others is (p ∷ rest) =
    ap₂ (λ (q : Path) (l : List Path). q ∷ l)
    (ap (λ (l : List Event). l ++ map (renamed_event f) p) is ∙ sym (map-append (renamed_event f) events p))
    (paths_before f events others is rest)

before_renamed : (f : ℕ → ℕ) (events others : List Event) → others ≡ map (renamed_event f) events →
    TourRenamed f (before events) (before others)
before_renamed f events others is = record { tour = paths_before f events others is }

-- events of one form at places
form_renamed : (f : ℕ → ℕ) (form : Place → Event) → ((x : Place) → renamed_event f (form x) ≡ form (renamed_place f x)) →
    (places others : List Place) → others ≡ map (renamed_place f) places →
    TourRenamed f (before (map form places)) (before (map form others))
form_renamed f form each places others is =
    before_renamed f (map form places) (map form others)
    (ap (λ (l : List Place). map form l) is ∙ (map_twice form (renamed_place f) places
    ∙ (same places ∙ sym (map_twice (renamed_event f) form places))))
  where
    same : (xs : List Place) → map (λ x. form (renamed_place f x)) xs ≡ map (λ x. renamed_event f (form x)) xs
    same [] = refl
    same (x ∷ xs) = ap₂ (λ (e : Event) (l : List Event). e ∷ l) (sym (each x)) (same xs)

tour_reads : (f : ℕ → ℕ) (places others : List Place) → others ≡ map (renamed_place f) places →
    TourRenamed f (before (map Read places)) (before (map Read others))
tour_reads f places others is = form_renamed f Read (λ x. refl) places others is

tour_writes : (f : ℕ → ℕ) (places others : List Place) → others ≡ map (renamed_place f) places →
    TourRenamed f (before (map Write places)) (before (map Write others))
tour_writes f places others is = form_renamed f Write (λ x. refl) places others is

tour_picks : (f : ℕ → ℕ) (places others : List Place) → others ≡ map (renamed_place f) places →
    TourRenamed f (before (map MayWrite places)) (before (map MayWrite others))
tour_picks f places others is = form_renamed f MayWrite (λ x. refl) places others is

tour_then : (f : ℕ → ℕ) (a b c d : List Path → List Path) → TourRenamed f a c → TourRenamed f b d →
    TourRenamed f (λ rest. a (b rest)) (λ rest. c (d rest))
tour_then f a b c d one two = record { tour = λ rest. ap c (two.tour rest) ∙ one.tour (b rest) }

tour_either : (f : ℕ → ℕ) (a b c d : List Path → List Path) → TourRenamed f a c → TourRenamed f b d →
    TourRenamed f (λ rest. a rest ++ b rest) (λ rest. c rest ++ d rest)
tour_either f a b c d one two = record {
  tour = λ rest.
      ap₂ (λ (x y : List Path). x ++ y) (one.tour rest) (two.tour rest)
      ∙ sym (map-append (renamed_path f) (a rest) (b rest));
}

-- a statement has the same paths, under other numbers
abbrev pub StatementRenamed : (ℕ → ℕ) → (Callee → List Place) → (Callee → List Place) → (Callee → List Path → List Path) →
    (Callee → List Path → List Path) → Frame → St → Type 0
StatementRenamed f guards others calls turns frame st =
    TourRenamed f (paths (scene_with frame guards calls) st) (paths (scene_with (renamed_frame f frame) others turns) st)

statements_renamed : (f : ℕ → ℕ) (guards others : Callee → List Place) (calls turns : Callee → List Path → List Path)
    (frame : Frame) (ss : List ((st : St) × StatementRenamed f guards others calls turns frame st)) →
    TourRenamed f (in_turn (map (paths (scene_with frame guards calls)) (map (λ s. s.0) ss)))
    (in_turn (map (paths (scene_with (renamed_frame f frame) others turns)) (map (λ s. s.0) ss)))
statements_renamed f guards others calls turns frame [] = record { tour = λ rest. refl }
statements_renamed f guards others calls turns frame (s ∷ ss) =
    tour_then f (paths (scene_with frame guards calls) s.0)
    (in_turn (map (paths (scene_with frame guards calls)) (map (λ s. s.0) ss)))
    (paths (scene_with (renamed_frame f frame) others turns) s.0)
    (in_turn (map (paths (scene_with (renamed_frame f frame) others turns)) (map (λ s. s.0) ss)))
    s.1 (statements_renamed f guards others calls turns frame ss)

statement_from : (f : ℕ → ℕ) (guards others : Callee → List Place) (calls turns : Callee → List Path → List Path)
    (frame : Frame) (z : St-F St) →
    TourRenamed f
    (paths_step (scene_with frame guards calls) (map-St St (List Path → List Path) (paths (scene_with frame guards calls)) z))
    (paths_step (scene_with (renamed_frame f frame) others turns)
    (map-St St (List Path → List Path) (paths (scene_with (renamed_frame f frame) others turns)) z)) →
    StatementRenamed f guards others calls turns frame (roll-St z)
unfolding paths
statement_from f guards others calls turns frame z here =
    subst₂ (λ (a b : List Path → List Path). TourRenamed f a b)
    (sym (fold-roll-St (List Path → List Path) (paths_step (scene_with frame guards calls)) z))
    (sym (fold-roll-St (List Path → List Path) (paths_step (scene_with (renamed_frame f frame) others turns)) z)) here

statement_layer : (f : ℕ → ℕ) (guards others : Callee → List Place) (calls turns : Callee → List Path → List Path)
    (frame : Frame) → ((m : Callee) → others m ≡ map (renamed_place f) (guards m)) →
    ((m : Callee) → TourRenamed f (calls m) (turns m)) →
    (y : St-F ((st : St) × StatementRenamed f guards others calls turns frame st)) →
    StatementRenamed f guards others calls turns frame
    (roll-St (map-St ((st : St) × StatementRenamed f guards others calls turns frame st) St (λ s. s.0) y))
statement_layer f guards others calls turns frame each tours (St-F.Set p e) =
    statement_from f guards others calls turns frame (St-F.Set p e)
    (tour_then f _ _ _ _ (tour_reads f (reads guards frame e) _ (reads_renamed f guards others frame each e))
    (tour_writes f (part_places frame.names p) _ (part_renamed f frame.names p)))
statement_layer f guards others calls turns frame each tours (St-F.SetPick i ps e) =
    statement_from f guards others calls turns frame (St-F.SetPick i ps e)
    (tour_then f _ _ _ _ (tour_reads f (reads guards frame i) _ (reads_renamed f guards others frame each i))
    (tour_then f _ _ _ _ (tour_reads f (reads guards frame e) _ (reads_renamed f guards others frame each e))
    (tour_picks f (parts_places frame.names ps) _ (parts_renamed f frame.names ps))))
statement_layer f guards others calls turns frame each tours (St-F.SetTemp t e) =
    statement_from f guards others calls turns frame (St-F.SetTemp t e)
    (tour_reads f (reads guards frame e) _ (reads_renamed f guards others frame each e))
statement_layer f guards others calls turns frame each tours (St-F.SetNumber k e) =
    statement_from f guards others calls turns frame (St-F.SetNumber k e)
    (tour_then f _ _ _ _ (tour_reads f (reads guards frame e) _ (reads_renamed f guards others frame each e))
    (tour_writes f (state_place frame k ∷ []) (state_place frame k ∷ []) refl))
statement_layer f guards others calls turns frame each tours (St-F.Push k side e) =
    statement_from f guards others calls turns frame (St-F.Push k side e)
    (tour_then f _ _ _ _ (tour_reads f (reads guards frame e) _ (reads_renamed f guards others frame each e))
    (tour_then f _ _ _ _ (tour_reads f (state_place frame k ∷ []) (state_place frame k ∷ []) refl)
    (tour_writes f (state_place frame k ∷ []) (state_place frame k ∷ []) refl)))
statement_layer f guards others calls turns frame each tours (St-F.Pop k side target) =
    statement_from f guards others calls turns frame (St-F.Pop k side target)
    (tour_then f _ _ _ _ (tour_reads f (state_place frame k ∷ []) (state_place frame k ∷ []) refl)
    (tour_writes f (state_place frame k ∷ []) (state_place frame k ∷ []) refl))
statement_layer f guards others calls turns frame each tours (St-F.Clear k) =
    statement_from f guards others calls turns frame (St-F.Clear k)
    (tour_writes f (state_place frame k ∷ []) (state_place frame k ∷ []) refl)
statement_layer f guards others calls turns frame each tours (St-F.Call m es target) =
    statement_from f guards others calls turns frame (St-F.Call m es target)
    (tour_then f _ _ _ _
    (tour_reads f (flat_map (reads guards frame) es) _ (all_renamed f guards others frame each es)) (tours m))
statement_layer f guards others calls turns frame each tours (St-F.If c xs ys) =
    statement_from f guards others calls turns frame (St-F.If c (map (λ s. s.0) xs) (map (λ s. s.0) ys))
    (tour_then f _ _ _ _ (tour_reads f (reads guards frame c) _ (reads_renamed f guards others frame each c))
    (tour_either f _ _ _ _ (statements_renamed f guards others calls turns frame xs)
    (statements_renamed f guards others calls turns frame ys)))

statement_renamed : (f : ℕ → ℕ) (guards others : Callee → List Place) (calls turns : Callee → List Path → List Path)
    (frame : Frame) → ((m : Callee) → others m ≡ map (renamed_place f) (guards m)) →
    ((m : Callee) → TourRenamed f (calls m) (turns m)) → (st : St) →
    StatementRenamed f guards others calls turns frame st
statement_renamed f guards others calls turns frame each tours =
    ind-St (StatementRenamed f guards others calls turns frame)
    (λ x y is. subst (λ (z : St-F St). StatementRenamed f guards others calls turns frame (roll-St z)) is
    (statement_layer f guards others calls turns frame each tours y))

body_renamed : (f : ℕ → ℕ) (guards others : Callee → List Place) (calls turns : Callee → List Path → List Path)
    (frame : Frame) → ((m : Callee) → others m ≡ map (renamed_place f) (guards m)) →
    ((m : Callee) → TourRenamed f (calls m) (turns m)) → (body : List St) →
    TourRenamed f (body_paths (scene_with frame guards calls) body)
    (body_paths (scene_with (renamed_frame f frame) others turns) body)
body_renamed f guards others calls turns frame each tours [] = record { tour = λ rest. refl }
body_renamed f guards others calls turns frame each tours (st ∷ body) =
    tour_then f (paths (scene_with frame guards calls) st) (body_paths (scene_with frame guards calls) body)
    (paths (scene_with (renamed_frame f frame) others turns) st)
    (body_paths (scene_with (renamed_frame f frame) others turns) body)
    (statement_renamed f guards others calls turns frame each tours st)
    (body_renamed f guards others calls turns frame each tours body)

-- calls, through so many levels
calls_renamed : (levels : ℕ) (f : ℕ → ℕ) (world : World) (i : ℕ) (m : Callee) →
    TourRenamed f (calls_to levels world i m) (calls_to levels (renamed_world f world) i m)
calls_renamed zero f world i m = record { tour = λ rest. refl }
calls_renamed (suc levels) f world i m =
    let target = world.leads i m in
    let j : ℕ = target.instance in
    tour_then f _ _ _ _
    (body_renamed f (guards_to world.levels world j) (guards_to world.levels (renamed_world f world) j)
    (calls_to levels world j) (calls_to levels (renamed_world f world) j) (world.frames j)
    (guards_renamed world.levels f world j) (calls_renamed levels f world j) target.method.body)
    (tour_reads f (reads_of (guards_to world.levels world j) (world.frames j) target.method.answer) _
    (optional_renamed f (guards_to world.levels world j) (guards_to world.levels (renamed_world f world) j)
    (world.frames j) (guards_renamed world.levels f world j) target.method.answer))

pub paths_are_renamed : PathsAreRenamed
paths_are_renamed f world i body =
    (body_renamed f (guards_to world.levels world i) (guards_to world.levels (renamed_world f world) i)
    (calls_to world.levels world i) (calls_to world.levels (renamed_world f world) i) (world.frames i)
    (guards_renamed world.levels f world i) (calls_renamed world.levels f world i) body).tour ([] ∷ [])
