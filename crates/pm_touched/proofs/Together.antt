-- What several name together.
use Rattle.std.proofs.Common.{◌≡◌, ◌∙◌, ◌+◌, ◌<◌, ◌≤◌, ◌++◌, ℕ, List, [], ◌∷◌, length, drop, get_or, map, refl, sym, ap}
use Rattle.std.proofs.lemmas.List.{append_assoc, append-nil, drop_more, drop_all, get_or_default}
use Rattle.pm_block.specs.Value.{no_part}
use Rattle.pm_design.specs.declared.connection.Callee.{Callee}
use Rattle.pm_design.specs.declared.connection.Part.{Part}
use Rattle.pm_touched.specs.declared.named.Named.{Named}
use Rattle.pm_touched.specs.Naming.{nothing, together, all_together, reading_parts, writing_parts, reading_state}
use Rattle.pm_touched.specs.Naming.{writing_state, asking, calling}

abbrev pub listed : List Part → List Part → List ℕ → List ℕ → List Callee → List Callee → Named
listed a b c d e f = record { reads = a; writes = b; state_reads = c; state_writes = d; asked = e; called = f }

same_named : (a b : List Part) (c d : List ℕ) (e f : List Callee) (n : Named) → a ≡ n.reads → b ≡ n.writes →
    c ≡ n.state_reads → d ≡ n.state_writes → e ≡ n.asked → f ≡ n.called → listed a b c d e f ≡ n
same_named a b c d e f n i j k l m o =
    ap (λ (x : List Part). listed x b c d e f) i
    ∙ (ap (λ (x : List Part). listed n.reads x c d e f) j
    ∙ (ap (λ (x : List ℕ). listed n.reads n.writes x d e f) k
    ∙ (ap (λ (x : List ℕ). listed n.reads n.writes n.state_reads x e f) l
    ∙ (ap (λ (x : List Callee). listed n.reads n.writes n.state_reads n.state_writes x f) m
    ∙ ap (λ (x : List Callee). listed n.reads n.writes n.state_reads n.state_writes n.asked x) o))))

pub together_assoc : (a b c : Named) → together (together a b) c ≡ together a (together b c)
unfolding together
together_assoc a b c =
    same_named ((a.reads ++ b.reads) ++ c.reads) ((a.writes ++ b.writes) ++ c.writes)
    ((a.state_reads ++ b.state_reads) ++ c.state_reads) ((a.state_writes ++ b.state_writes) ++ c.state_writes)
    ((a.asked ++ b.asked) ++ c.asked) ((a.called ++ b.called) ++ c.called)
    (together a (together b c))
    (append_assoc a.reads b.reads c.reads) (append_assoc a.writes b.writes c.writes)
    (append_assoc a.state_reads b.state_reads c.state_reads) (append_assoc a.state_writes b.state_writes c.state_writes)
    (append_assoc a.asked b.asked c.asked) (append_assoc a.called b.called c.called)

pub together_nothing : (a : Named) → together a nothing ≡ a
unfolding together nothing
together_nothing a =
    same_named (a.reads ++ []) (a.writes ++ []) (a.state_reads ++ []) (a.state_writes ++ []) (a.asked ++ []) (a.called ++ []) a
    (append-nil a.reads) (append-nil a.writes) (append-nil a.state_reads) (append-nil a.state_writes)
    (append-nil a.asked) (append-nil a.called)

pub nothing_together : (a : Named) → together nothing a ≡ a
unfolding together nothing
nothing_together a = refl

pub ruleset adding = (together_assoc, together_nothing, nothing_together)

-- one element more
pub one_added : {X : Type 0} (f : X → Named) (xs : List X) (i : ℕ) (old new whole : Named) (x : X) → i < length xs →
    x ≡ get_or xs i x → together old (all_together (map f (drop i xs))) ≡ whole → new ≡ together old (f x) →
    together new (all_together (map f (drop (i + 1) xs))) ≡ whole
one_added f xs i old new whole x lt is so_far one =
    ap (λ (n : Named). together n (all_together (map f (drop (i + 1) xs)))) one
    ∙ (together_assoc old (f x) (all_together (map f (drop (i + 1) xs)))
    ∙ (ap (λ (y : _). together old (together (f y) (all_together (map f (drop (i + 1) xs))))) is
    ∙ (sym (ap (λ (ys : List _). together old (all_together (map f ys))) (drop_more xs i x lt)) ∙ so_far)))

-- no element is left
pub all_added : {X : Type 0} (f : X → Named) (xs : List X) (i : ℕ) (old whole : Named) → length xs ≤ i →
    together old (all_together (map f (drop i xs))) ≡ whole → old ≡ whole
all_added f xs i old whole le so_far =
    sym (together_nothing old)
    ∙ (sym (ap (λ (ys : List _). together old (all_together (map f ys))) (drop_all i xs le)) ∙ so_far)

pub ruleset each_added = (one_added, all_added)

pub read_is : (n : Named) (ps rs : List Part) → rs ≡ n.reads ++ ps →
    listed rs n.writes n.state_reads n.state_writes n.asked n.called ≡ together n (reading_parts ps)
unfolding together reading_parts
read_is n ps rs is =
    same_named rs n.writes n.state_reads n.state_writes n.asked n.called (together n (reading_parts ps)) is
    (sym (append-nil n.writes)) (sym (append-nil n.state_reads)) (sym (append-nil n.state_writes))
    (sym (append-nil n.asked)) (sym (append-nil n.called))

pub write_is : (n : Named) (ps ws : List Part) → ws ≡ n.writes ++ ps →
    listed n.reads ws n.state_reads n.state_writes n.asked n.called ≡ together n (writing_parts ps)
unfolding together writing_parts
write_is n ps ws is =
    same_named n.reads ws n.state_reads n.state_writes n.asked n.called (together n (writing_parts ps))
    (sym (append-nil n.reads)) is (sym (append-nil n.state_reads)) (sym (append-nil n.state_writes))
    (sym (append-nil n.asked)) (sym (append-nil n.called))

pub read_state_is : (n : Named) (k : ℕ) (ks : List ℕ) → ks ≡ n.state_reads ++ k ∷ [] →
    listed n.reads n.writes ks n.state_writes n.asked n.called ≡ together n (reading_state k)
unfolding together reading_state
read_state_is n k ks is =
    same_named n.reads n.writes ks n.state_writes n.asked n.called (together n (reading_state k))
    (sym (append-nil n.reads)) (sym (append-nil n.writes)) is (sym (append-nil n.state_writes))
    (sym (append-nil n.asked)) (sym (append-nil n.called))

pub write_state_is : (n : Named) (k : ℕ) (ks : List ℕ) → ks ≡ n.state_writes ++ k ∷ [] →
    listed n.reads n.writes n.state_reads ks n.asked n.called ≡ together n (writing_state k)
unfolding together writing_state
write_state_is n k ks is =
    same_named n.reads n.writes n.state_reads ks n.asked n.called (together n (writing_state k))
    (sym (append-nil n.reads)) (sym (append-nil n.writes)) (sym (append-nil n.state_reads)) is
    (sym (append-nil n.asked)) (sym (append-nil n.called))

pub ask_is : (n : Named) (m : Callee) (ms : List Callee) → ms ≡ n.asked ++ m ∷ [] →
    listed n.reads n.writes n.state_reads n.state_writes ms n.called ≡ together n (asking m)
unfolding together asking
ask_is n m ms is =
    same_named n.reads n.writes n.state_reads n.state_writes ms n.called (together n (asking m))
    (sym (append-nil n.reads)) (sym (append-nil n.writes)) (sym (append-nil n.state_reads))
    (sym (append-nil n.state_writes)) is (sym (append-nil n.called))

pub call_is : (n : Named) (m : Callee) (ms : List Callee) → ms ≡ n.called ++ m ∷ [] →
    listed n.reads n.writes n.state_reads n.state_writes n.asked ms ≡ together n (calling m)
unfolding together calling
call_is n m ms is =
    same_named n.reads n.writes n.state_reads n.state_writes n.asked ms (together n (calling m))
    (sym (append-nil n.reads)) (sym (append-nil n.writes)) (sym (append-nil n.state_reads))
    (sym (append-nil n.state_writes)) (sym (append-nil n.asked)) is

pub ruleset pushing = (read_is, write_is, read_state_is, write_state_is, ask_is, call_is)

-- parts one by one
pub parts_read : (ps : List Part) → reading_parts ps ≡ all_together (map (λ p. reading_parts (p ∷ [])) ps)
unfolding reading_parts together nothing
parts_read [] = refl
parts_read (p ∷ ps) = ap (λ (n : Named). together (reading_parts (p ∷ [])) n) (parts_read ps)

pub parts_written : (ps : List Part) → writing_parts ps ≡ all_together (map (λ p. writing_parts (p ∷ [])) ps)
unfolding writing_parts together nothing
parts_written [] = refl
parts_written (p ∷ ps) = ap (λ (n : Named). together (writing_parts (p ∷ [])) n) (parts_written ps)

pub nothing_named : listed [] [] [] [] [] [] ≡ nothing
unfolding nothing
nothing_named = refl

-- one part more, of which there is one in the list
pub one_part_added : (f : Part → Named) (xs : List Part) (i : ℕ) (old new whole : Named) → i < length xs →
    together old (all_together (map f (drop i xs))) ≡ whole → new ≡ together old (f (get_or xs i no_part)) →
    together new (all_together (map f (drop (i + 1) xs))) ≡ whole
one_part_added f xs i old new whole lt so_far one =
    one_added f xs i old new whole (get_or xs i no_part) lt
    (get_or_default xs i no_part (get_or xs i no_part) lt) so_far one
