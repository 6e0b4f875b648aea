-- What is named, and what is read and written.
use Rattle.std.proofs.Common.{◌≡◌, ◌∙◌, ◌++◌, ◌||◌, ℕ, List, [], ◌∷◌, map, flat_map, Bool, true, false}
use Rattle.std.proofs.Common.{refl, sym, ap, ap₂, subst, subst₂}
use Rattle.std.specs.List.{list_any}
use Rattle.std.proofs.lemmas.List.{append_assoc, append-nil}
use Rattle.std.proofs.lemmas.List.Folds.{list_any-append}
use Rattle.pm_design.specs.declared.body.Ex.{Ex, Ex-F, fold-roll-Ex, ind-Ex, roll-Ex}
use Rattle.pm_design.specs.declared.body.Ex.TheFolds.{map-Ex}
use Rattle.pm_design.specs.declared.body.St.{St, St-F, fold-roll-St, ind-St, roll-St}
use Rattle.pm_design.specs.declared.body.St.TheFolds.{map-St}
use Rattle.pm_design.specs.declared.connection.Callee.{Callee}
use Rattle.pm_design.specs.declared.connection.Part.{Part}
use Rattle.pm_block.specs.Value.{Names, Frame, World}
use Rattle.pm_touched.specs.declared.named.Named.{Named}
use Rattle.pm_touched.specs.Events.{Place, is_among, is_same}
use Rattle.pm_touched.specs.Expressions.{part_places, parts_places, state_place, reads, reads_step, guards_to}
use Rattle.pm_touched.specs.Listed.{HasNames, reads_named, writes_named, callee_touch}
use Rattle.pm_touched.specs.Naming.{nothing, reading_parts, writing_parts, reading_state, writing_state, asking, calling}
use Rattle.pm_touched.specs.Naming.{together, all_together, named_step, named_in, statement_step, statement_names, body_names}
use Rattle.pm_touched.specs.Paths.{paths_of}
use Rattle.pm_touched.specs.Touches.{Touch, touch_of}
use Rattle.pm_touched.specs.Walks.{all_in_turn, walk_step, walk, walk_body, call_touch, walked}
use Rattle.pm_touched.proofs.Bools.{or_false}
use Rattle.pm_touched.proofs.Renamed.{map-append}
use Rattle.pm_touched.proofs.Walked.{sight_with, paths_are_walked, callee_walked}
use Rattle.std.proofs.Math.Path.{fun_ext}

-- two pairs, the other way round
swap : (a b c d : Bool) → ((a || b) || (c || d)) ≡ ((a || c) || (b || d))
swap true b c d = refl
swap false true true d = refl
swap false true false d = refl
swap false false c d = refl

or_three : (a b c : Bool) → (a || (b || c)) ≡ ((a || b) || c)
or_three true b c = refl
or_three false b c = refl

-- two that are read, and then nothing
or_swap3 : (a b : Bool) → (a || (b || false)) ≡ ((a || b) || false)
or_swap3 a b = or_three a b false

flat_append : {X Y : Type 0} (f : X → List Y) (xs ys : List X) → flat_map f (xs ++ ys) ≡ flat_map f xs ++ flat_map f ys
flat_append f [] ys = refl
flat_append f (x ∷ xs) ys =
    ap (λ (l : List _). f x ++ l) (flat_append f xs ys) ∙ sym (append_assoc (f x) (flat_map f xs) (flat_map f ys))

among_parts : (x : Place) (names : Names) (ps qs : List Part) →
    is_among x (parts_places names (ps ++ qs)) ≡ (is_among x (parts_places names ps) || is_among x (parts_places names qs))
among_parts x names ps qs =
    ap (is_among x) (flat_append (part_places names) ps qs)
    ∙ list_any-append (is_same x) (parts_places names ps) (parts_places names qs)

among_states : (x : Place) (frame : Frame) (ks js : List ℕ) →
    is_among x (map (state_place frame) (ks ++ js))
    ≡ (is_among x (map (state_place frame) ks) || is_among x (map (state_place frame) js))
among_states x frame ks js =
    ap (is_among x) (map-append (state_place frame) ks js)
    ∙ list_any-append (is_same x) (map (state_place frame) ks) (map (state_place frame) js)

among_part : (x : Place) (names : Names) (p : Part) →
    is_among x (parts_places names (p ∷ [])) ≡ is_among x (part_places names p)
among_part x names p = ap (is_among x) (append-nil (part_places names p))

-- what two name
reads_together : (frame : Frame) (guards : Callee → List Place) (touches : Callee → Touch) (x : Place) (a b : Named) →
    reads_named frame guards touches x (together a b)
    ≡ (reads_named frame guards touches x a || reads_named frame guards touches x b)
unfolding reads_named together
reads_together frame guards touches x a b =
    ap₂ (λ (l r : Bool). l || r)
    (ap₂ (λ (l r : Bool). l || r) (among_parts x frame.names a.reads b.reads) (among_states x frame a.state_reads b.state_reads)
    ∙ swap (parts a) (parts b) (states a) (states b))
    (ap₂ (λ (l r : Bool). l || r) (list_any-append (λ m. is_among x (guards m)) a.asked b.asked)
    (list_any-append (λ m. (touches m).read) a.called b.called) ∙ swap (asked a) (asked b) (called a) (called b))
    ∙ swap (parts a || states a) (parts b || states b) (asked a || called a) (asked b || called b)
  where
    parts : Named → Bool
    parts n = is_among x (parts_places frame.names n.reads)

    states : Named → Bool
    states n = is_among x (map (state_place frame) n.state_reads)

    asked : Named → Bool
    asked n = list_any (λ m. is_among x (guards m)) n.asked

    called : Named → Bool
    called n = list_any (λ m. (touches m).read) n.called

writes_together : (frame : Frame) (touches : Callee → Touch) (x : Place) (a b : Named) →
    writes_named frame touches x (together a b) ≡ (writes_named frame touches x a || writes_named frame touches x b)
unfolding writes_named together
writes_together frame touches x a b =
    ap₂ (λ (l r : Bool). l || r)
    (ap₂ (λ (l r : Bool). l || r) (among_parts x frame.names a.writes b.writes)
    (among_states x frame a.state_writes b.state_writes) ∙ swap (parts a) (parts b) (states a) (states b))
    (list_any-append (λ m. (touches m).written) a.called b.called)
    ∙ swap (parts a || states a) (parts b || states b) (called a) (called b)
  where
    parts : Named → Bool
    parts n = is_among x (parts_places frame.names n.writes)

    states : Named → Bool
    states n = is_among x (map (state_place frame) n.state_writes)

    called : Named → Bool
    called n = list_any (λ m. (touches m).written) n.called

-- what is named does with a place what is to be shown
pub record IsNamed (frame : Frame) (guards : Callee → List Place) (touches : Callee → Touch) (x : Place) (n : Named)
    (read written : Bool) : Type 0 where
  pub reads : read ≡ reads_named frame guards touches x n
  pub writes : written ≡ writes_named frame touches x n

named_nothing : (frame : Frame) (guards : Callee → List Place) (touches : Callee → Touch) (x : Place) →
    IsNamed frame guards touches x nothing false false
unfolding reads_named writes_named nothing
named_nothing frame guards touches x = record { reads = refl; writes = refl }

named_reading : (frame : Frame) (guards : Callee → List Place) (touches : Callee → Touch) (x : Place) (ps : List Part) →
    IsNamed frame guards touches x (reading_parts ps) (is_among x (parts_places frame.names ps)) false
unfolding reads_named writes_named reading_parts
named_reading frame guards touches x ps = record {
  reads = sym (or_false (is_among x (parts_places frame.names ps) || false) ∙ or_false (is_among x (parts_places frame.names ps)));
  writes = refl;
}

named_writing : (frame : Frame) (guards : Callee → List Place) (touches : Callee → Touch) (x : Place) (ps : List Part) →
    IsNamed frame guards touches x (writing_parts ps) false (is_among x (parts_places frame.names ps))
unfolding reads_named writes_named writing_parts
named_writing frame guards touches x ps = record {
  reads = refl;
  writes = sym (or_false (is_among x (parts_places frame.names ps) || false) ∙ or_false (is_among x (parts_places frame.names ps)));
}

named_reading_state : (frame : Frame) (guards : Callee → List Place) (touches : Callee → Touch) (x : Place) (k : ℕ) →
    IsNamed frame guards touches x (reading_state k) (is_among x (state_place frame k ∷ [])) false
unfolding reads_named writes_named reading_state
named_reading_state frame guards touches x k = record {
  reads = sym (or_false (is_among x (state_place frame k ∷ [])));
  writes = refl;
}

named_writing_state : (frame : Frame) (guards : Callee → List Place) (touches : Callee → Touch) (x : Place) (k : ℕ) →
    IsNamed frame guards touches x (writing_state k) false (is_among x (state_place frame k ∷ []))
unfolding reads_named writes_named writing_state
named_writing_state frame guards touches x k = record {
  reads = refl;
  writes = sym (or_false (is_among x (state_place frame k ∷ [])));
}

named_asking : (frame : Frame) (guards : Callee → List Place) (touches : Callee → Touch) (x : Place) (m : Callee) →
    IsNamed frame guards touches x (asking m) (is_among x (guards m)) false
unfolding reads_named writes_named asking
named_asking frame guards touches x m = record {
  reads = sym (or_false (is_among x (guards m) || false) ∙ or_false (is_among x (guards m)));
  writes = refl;
}

named_calling : (frame : Frame) (guards : Callee → List Place) (touches : Callee → Touch) (x : Place) (m : Callee) →
    IsNamed frame guards touches x (calling m) (touches m).read (touches m).written
unfolding reads_named writes_named calling
named_calling frame guards touches x m = record {
  reads = sym (or_false (touches m).read);
  writes = sym (or_false (touches m).written);
}

named_together : (frame : Frame) (guards : Callee → List Place) (touches : Callee → Touch) (x : Place) (a b : Named)
    (r w s u : Bool) → IsNamed frame guards touches x a r w → IsNamed frame guards touches x b s u →
    IsNamed frame guards touches x (together a b) (r || s) (w || u)
named_together frame guards touches x a b r w s u one two = record {
  reads = ap₂ (λ (l m : Bool). l || m) one.reads two.reads ∙ sym (reads_together frame guards touches x a b);
  writes = ap₂ (λ (l m : Bool). l || m) one.writes two.writes ∙ sym (writes_together frame touches x a b);
}

-- the same of a read and of a write that are equal
named_same : (frame : Frame) (guards : Callee → List Place) (touches : Callee → Touch) (x : Place) (n : Named)
    (r w s u : Bool) → r ≡ s → w ≡ u → IsNamed frame guards touches x n s u → IsNamed frame guards touches x n r w
named_same frame guards touches x n r w s u l m is = record { reads = l ∙ is.reads; writes = m ∙ is.writes }

-- an expression reads what it names, and writes nothing
abbrev pub ExNamed : Frame → (Callee → List Place) → (Callee → Touch) → Place → Ex → Type 0
ExNamed frame guards touches x e = IsNamed frame guards touches x (named_in e) (is_among x (reads guards frame e)) false

ex_from : (frame : Frame) (guards : Callee → List Place) (touches : Callee → Touch) (x : Place) (z : Ex-F Ex) →
    IsNamed frame guards touches x (named_step (map-Ex Ex Named named_in z))
    (is_among x (reads_step guards frame (map-Ex Ex (List Place) (reads guards frame) z))) false →
    ExNamed frame guards touches x (roll-Ex z)
unfolding reads named_in
ex_from frame guards touches x z here =
    subst₂ (λ (n : Named) (ps : List Place). IsNamed frame guards touches x n (is_among x ps) false)
    (sym (fold-roll-Ex Named named_step z)) (sym (fold-roll-Ex (List Place) (reads_step guards frame) z)) here

-- two lists of places that are read
two_named : (frame : Frame) (guards : Callee → List Place) (touches : Callee → Touch) (x : Place) (a b : Named)
    (ps qs : List Place) → IsNamed frame guards touches x a (is_among x ps) false →
    IsNamed frame guards touches x b (is_among x qs) false →
    IsNamed frame guards touches x (together a b) (is_among x (ps ++ qs)) false
two_named frame guards touches x a b ps qs one two =
    named_same frame guards touches x (together a b) (is_among x (ps ++ qs)) false
    (is_among x ps || is_among x qs) (false || false) (list_any-append (is_same x) ps qs) refl
    (named_together frame guards touches x a b (is_among x ps) false (is_among x qs) false one two)

exs_named : (frame : Frame) (guards : Callee → List Place) (touches : Callee → Touch) (x : Place)
    (es : List ((e : Ex) × ExNamed frame guards touches x e)) →
    IsNamed frame guards touches x (all_together (map named_in (map (λ e. e.0) es)))
    (is_among x (flat_map (λ places. places) (map (reads guards frame) (map (λ e. e.0) es)))) false
exs_named frame guards touches x [] = named_nothing frame guards touches x
exs_named frame guards touches x (e ∷ es) =
    two_named frame guards touches x (named_in e.0) (all_together (map named_in (map (λ e. e.0) es)))
    (reads guards frame e.0) (flat_map (λ places. places) (map (reads guards frame) (map (λ e. e.0) es)))
    e.1 (exs_named frame guards touches x es)

one_part : (frame : Frame) (guards : Callee → List Place) (touches : Callee → Touch) (x : Place) (p : Part) →
    IsNamed frame guards touches x (reading_parts (p ∷ [])) (is_among x (part_places frame.names p)) false
one_part frame guards touches x p =
    named_same frame guards touches x (reading_parts (p ∷ [])) (is_among x (part_places frame.names p)) false
    (is_among x (parts_places frame.names (p ∷ []))) false (sym (among_part x frame.names p)) refl
    (named_reading frame guards touches x (p ∷ []))

ex_layer : (frame : Frame) (guards : Callee → List Place) (touches : Callee → Touch) (x : Place)
    (y : Ex-F ((e : Ex) × ExNamed frame guards touches x e)) →
    IsNamed frame guards touches x
    (named_step (map-Ex Ex Named named_in (map-Ex ((e : Ex) × ExNamed frame guards touches x e) Ex (λ e. e.0) y)))
    (is_among x (reads_step guards frame (map-Ex Ex (List Place) (reads guards frame)
    (map-Ex ((e : Ex) × ExNamed frame guards touches x e) Ex (λ e. e.0) y)))) false
ex_layer frame guards touches x (Ex-F.Const c) = named_nothing frame guards touches x
ex_layer frame guards touches x (Ex-F.Get p) = one_part frame guards touches x p
ex_layer frame guards touches x (Ex-F.Temp t lo n) = named_nothing frame guards touches x
ex_layer frame guards touches x (Ex-F.Pick i ps) =
    two_named frame guards touches x (named_in i.0) (reading_parts ps) (reads guards frame i.0)
    (parts_places frame.names ps) i.1 (named_reading frame guards touches x ps)
ex_layer frame guards touches x (Ex-F.Number k) = named_reading_state frame guards touches x k
ex_layer frame guards touches x (Ex-F.Count k) = named_reading_state frame guards touches x k
ex_layer frame guards touches x (Ex-F.Item k i) = named_reading_state frame guards touches x k
ex_layer frame guards touches x (Ex-F.Last k) = named_reading_state frame guards touches x k
ex_layer frame guards touches x (Ex-F.Ready m) = named_asking frame guards touches x m
ex_layer frame guards touches x (Ex-F.Not a) = a.1
ex_layer frame guards touches x (Ex-F.Fold f a) = a.1
ex_layer frame guards touches x (Ex-F.Bin op a b) =
    two_named frame guards touches x (named_in a.0) (named_in b.0) (reads guards frame a.0) (reads guards frame b.0) a.1 b.1
ex_layer frame guards touches x (Ex-F.Cat es) = exs_named frame guards touches x es
ex_layer frame guards touches x (Ex-F.Zext a n) = a.1
ex_layer frame guards touches x (Ex-F.Sext a n) = a.1
ex_layer frame guards touches x (Ex-F.Trunc a n) = a.1
ex_layer frame guards touches x (Ex-F.Cond c a b) =
    two_named frame guards touches x (together (named_in c.0) (named_in a.0)) (named_in b.0)
    (reads guards frame c.0 ++ reads guards frame a.0) (reads guards frame b.0)
    (two_named frame guards touches x (named_in c.0) (named_in a.0) (reads guards frame c.0) (reads guards frame a.0) c.1 a.1) b.1

ex_named : (frame : Frame) (guards : Callee → List Place) (touches : Callee → Touch) (x : Place) (e : Ex) →
    ExNamed frame guards touches x e
ex_named frame guards touches x =
    ind-Ex (ExNamed frame guards touches x)
    (λ a y is. subst (λ (z : Ex-F Ex). ExNamed frame guards touches x (roll-Ex z)) is
    (ex_from frame guards touches x _ (ex_layer frame guards touches x y)))

all_exs_named : (frame : Frame) (guards : Callee → List Place) (touches : Callee → Touch) (x : Place) (es : List Ex) →
    IsNamed frame guards touches x (all_together (map named_in es)) (is_among x (flat_map (reads guards frame) es)) false
all_exs_named frame guards touches x [] = named_nothing frame guards touches x
all_exs_named frame guards touches x (e ∷ es) =
    two_named frame guards touches x (named_in e) (all_together (map named_in es)) (reads guards frame e)
    (flat_map (reads guards frame) es) (ex_named frame guards touches x e) (all_exs_named frame guards touches x es)

-- a statement does what it names
abbrev pub TouchNamed : Frame → (Callee → List Place) → (Callee → Touch) → Place → Named → Touch → Type 0
TouchNamed frame guards touches x n t = IsNamed frame guards touches x n t.read t.written

abbrev pub StNamed : Frame → (Callee → List Place) → (Callee → Touch) → Place → St → Type 0
StNamed frame guards touches x s =
    TouchNamed frame guards touches x (statement_names s) (walk (sight_with frame guards touches) x s)

st_from : (frame : Frame) (guards : Callee → List Place) (touches : Callee → Touch) (x : Place) (z : St-F St) →
    TouchNamed frame guards touches x (statement_step (map-St St Named statement_names z))
    (walk_step (sight_with frame guards touches) x (map-St St Touch (walk (sight_with frame guards touches) x) z)) →
    StNamed frame guards touches x (roll-St z)
unfolding walk statement_names
st_from frame guards touches x z here =
    subst₂ (λ (n : Named) (t : Touch). TouchNamed frame guards touches x n t)
    (sym (fold-roll-St Named statement_step z))
    (sym (fold-roll-St Touch (walk_step (sight_with frame guards touches) x) z)) here

sts_named : (frame : Frame) (guards : Callee → List Place) (touches : Callee → Touch) (x : Place)
    (ss : List ((s : St) × StNamed frame guards touches x s)) →
    TouchNamed frame guards touches x (all_together (map statement_names (map (λ s. s.0) ss)))
    (all_in_turn (map (walk (sight_with frame guards touches) x) (map (λ s. s.0) ss)))
sts_named frame guards touches x [] = named_nothing frame guards touches x
sts_named frame guards touches x (s ∷ ss) =
    named_together frame guards touches x _ _ _ _ _ _ s.1 (sts_named frame guards touches x ss)

st_layer : (frame : Frame) (guards : Callee → List Place) (touches : Callee → Touch) (x : Place)
    (y : St-F ((s : St) × StNamed frame guards touches x s)) →
    TouchNamed frame guards touches x
    (statement_step (map-St St Named statement_names (map-St ((s : St) × StNamed frame guards touches x s) St (λ s. s.0) y)))
    (walk_step (sight_with frame guards touches) x (map-St St Touch (walk (sight_with frame guards touches) x)
    (map-St ((s : St) × StNamed frame guards touches x s) St (λ s. s.0) y)))
st_layer frame guards touches x (St-F.Set p e) =
    named_same frame guards touches x _ _ _ _ _ refl (sym (among_part x frame.names p))
    (named_together frame guards touches x _ _ _ _ _ _ (ex_named frame guards touches x e)
    (named_writing frame guards touches x (p ∷ [])))
st_layer frame guards touches x (St-F.SetPick i ps e) =
    named_same frame guards touches x _ _ _ _ _ (or_swap3 (is_among x (reads guards frame i)) (is_among x (reads guards frame e)))
    refl
    (named_together frame guards touches x _ _ _ _ _ _
    (named_together frame guards touches x _ _ _ _ _ _ (ex_named frame guards touches x i) (ex_named frame guards touches x e))
    (named_writing frame guards touches x ps))
st_layer frame guards touches x (St-F.SetTemp t e) = ex_named frame guards touches x e
st_layer frame guards touches x (St-F.SetNumber k e) =
    named_together frame guards touches x _ _ _ _ _ _ (ex_named frame guards touches x e)
    (named_writing_state frame guards touches x k)
st_layer frame guards touches x (St-F.Push k side e) =
    named_same frame guards touches x _ _ _ _ _
    (or_swap3 (is_among x (reads guards frame e)) (is_among x (state_place frame k ∷ []))) refl
    (named_together frame guards touches x _ _ _ _ _ _
    (named_together frame guards touches x _ _ _ _ _ _ (ex_named frame guards touches x e)
    (named_reading_state frame guards touches x k)) (named_writing_state frame guards touches x k))
st_layer frame guards touches x (St-F.Pop k side target) =
    named_together frame guards touches x _ _ _ _ _ _ (named_reading_state frame guards touches x k)
    (named_writing_state frame guards touches x k)
st_layer frame guards touches x (St-F.Clear k) = named_writing_state frame guards touches x k
st_layer frame guards touches x (St-F.Call m es target) =
    named_together frame guards touches x _ _ _ _ _ _ (all_exs_named frame guards touches x es)
    (named_calling frame guards touches x m)
st_layer frame guards touches x (St-F.If c xs ys) =
    named_same frame guards touches x _ _ _ _ _ (or_three (is_among x (reads guards frame c))
    (all_in_turn (map (walk (sight_with frame guards touches) x) (map (λ s. s.0) xs))).read
    (all_in_turn (map (walk (sight_with frame guards touches) x) (map (λ s. s.0) ys))).read) refl
    (named_together frame guards touches x _ _ _ _ _ _
    (named_together frame guards touches x _ _ _ _ _ _ (ex_named frame guards touches x c) (sts_named frame guards touches x xs))
    (sts_named frame guards touches x ys))

st_named : (frame : Frame) (guards : Callee → List Place) (touches : Callee → Touch) (x : Place) (s : St) →
    StNamed frame guards touches x s
st_named frame guards touches x =
    ind-St (StNamed frame guards touches x)
    (λ a y is. subst (λ (z : St-F St). StNamed frame guards touches x (roll-St z)) is
    (st_from frame guards touches x _ (st_layer frame guards touches x y)))

pub body_named : (frame : Frame) (guards : Callee → List Place) (touches : Callee → Touch) (x : Place) (body : List St) →
    TouchNamed frame guards touches x (body_names body) (walk_body (sight_with frame guards touches) x body)
body_named frame guards touches x [] = named_nothing frame guards touches x
body_named frame guards touches x (s ∷ body) =
    named_together frame guards touches x _ _ _ _ _ _ (st_named frame guards touches x s)
    (body_named frame guards touches x body)

pub has_names : (world : World) (i : ℕ) (body : List St) (x : Place) → HasNames world i body x
has_names world i body x =
    let named : TouchNamed (world.frames i) (guards_to world.levels world i) (call_touch world.levels world i x) x
    (body_names body) (walked world i x body) =
    body_named (world.frames i) (guards_to world.levels world i) (call_touch world.levels world i x) x body in
    let callees : call_touch world.levels world i x ≡ callee_touch world i x =
    fun_ext (λ m. sym (callee_walked world.levels world i x m)) in
    let touch : touch_of x (paths_of world i body) ≡ walked world i x body = paths_are_walked world i body x in
    record {
      reads = ap (λ (t : Touch). t.read) touch ∙ (named.reads ∙
          ap (λ (f : Callee → Touch). reads_named (world.frames i) (guards_to world.levels world i) f x (body_names body)) callees);
      writes = ap (λ (t : Touch). t.written) touch ∙ (named.writes ∙
          ap (λ (f : Callee → Touch). writes_named (world.frames i) f x (body_names body)) callees);
    }
