-- Runs that change only what their paths write, and leave there what hangs only on what the paths read.
use Rattle.std.proofs.Common.{sym, ◌≡◌, ◌∙◌, ◌⊎◌, ◌&&◌, ◌||◌, List, refl, ap, Bool, true, false, not, inl, inr, ⊎_elim}
use Rattle.std.specs.Prelude.{if◌then◌else◌}
use Rattle.std.proofs.lemmas.Bool.{and_parts, or_cases, or_left, or_right}
use Rattle.pm_bits.specs.Word.{Word}
use Rattle.pm_block.specs.Run.{State}
use Rattle.pm_touched.specs.Events.{Place}
use Rattle.pm_touched.specs.Events.{Place}
use Rattle.pm_touched.specs.Touches.{Touch}
use Rattle.pm_touched.specs.Walks.{either_of, followed_by, reading, untouched}
use Rattle.pm_paths.specs.Memories.{words_at}

-- what a state has at a place
abbrev pub at : State → Place → List Word
at s q = words_at s.places s.items q

-- some places, as a test
abbrev pub Places : Type 0
Places = Place → Bool

-- what paths do with each place
abbrev pub Touches : Type 0
Touches = Place → Touch

-- the places that some path reads before it writes them
abbrev pub early_in : Touches → Places
early_in p q = (p q).early

-- one thing, and then another
abbrev pub joined : Touches → Touches → Touches
joined a b q = followed_by (a q) (b q)

-- some places are read, and then one thing or another is done
abbrev pub branched : Places → Touches → Touches → Touches
branched r a b q = followed_by (reading (r q)) (either_of (a q) (b q))

-- two states have the same at some places, and the same temporaries
pub record AreAlike (p : Places) (s t : State) : Type 0 where
  pub places : (q : Place) → p q ≡ true → at s q ≡ at t q
  pub temps : s.temps ≡ t.temps

-- a run that keeps what its paths don't write; where states agree on what a path reads before it writes it, the run
-- leaves the same at each place that was the same before, or that every path writes
pub record IsFrame (f : State → State) (p : Touches) : Type 0 where
  pub keeps : (s : State) (q : Place) → (p q).written ≡ false → at (f s) q ≡ at s q
  pub agrees : (s t : State) → AreAlike (early_in p) s t → (q : Place) → (at s q ≡ at t q) ⊎ ((p q).surely ≡ true)
      → at (f s) q ≡ at (f t) q
  pub temps : (s t : State) → AreAlike (early_in p) s t → (f s).temps ≡ (f t).temps
  pub reads : (q : Place) → (p q).early ≡ true → (p q).read ≡ true
  pub writes : (q : Place) → (p q).surely ≡ true → (p q).written ≡ true

-- alike at fewer places
pub fewer : (p r : Places) (s t : State) → ((q : Place) → r q ≡ true → p q ≡ true) → AreAlike p s t → AreAlike r s t
fewer p r s t within alike = record { places = λ q holds. alike.places q (within q holds); temps = alike.temps }

neither : (a b : Bool) → (a || b) ≡ false → (a ≡ false) × (b ≡ false)
neither false b e = (refl, e)
neither true b e = absurd (cc)

-- nothing is done
pub frame_none : IsFrame (λ s. s) (λ q. untouched)
frame_none = record {
  keeps = λ s q e. refl;
  agrees = λ s t alike q. ⊎_elim (λ (e : at s q ≡ at t q). e) (λ (e : false ≡ true). absurd (cc));
  temps = λ s t alike. alike.temps;
  reads = λ q e. e;
  writes = λ q e. e;
}

-- one run after another
pub frame_turn : (f g : State → State) (a b : Touches) → IsFrame f a → IsFrame g b → IsFrame (λ s. g (f s)) (joined a b)
frame_turn f g a b one two = record {
  keeps =
      λ s q e. let parts = neither ((a q).written) ((b q).written) e in two.keeps (f s) q parts.1 ∙ one.keeps s q parts.0;
  agrees = λ s t alike q h. two.agrees (f s) (f t) (behind s t alike) q (known s t alike q h);
  temps = λ s t alike. two.temps (f s) (f t) (behind s t alike);
  reads = λ q e. by_reads q (or_cases ((a q).early) (not ((a q).surely) && (b q).early) e);
  writes = λ q e. by_writes q (or_cases ((a q).surely) ((b q).surely) e);
}
  where
    start : (s t : State) → AreAlike (early_in (joined a b)) s t → AreAlike (early_in a) s t
    start s t alike =
        fewer (early_in (joined a b)) (early_in a) s t (λ q holds. or_left ((a q).early) (not ((a q).surely) && (b q).early) holds) alike

    there : (s t : State) → AreAlike (early_in (joined a b)) s t → (q : Place) → (b q).early ≡ true → (x : Bool)
        → (a q).surely ≡ x → at (f s) q ≡ at (f t) q
    there s t alike q holds true is = one.agrees s t (start s t alike) q (inr is)
    there s t alike q holds false is =
        one.agrees s t (start s t alike) q
        (inl (alike.places q
        (or_right ((a q).early) (not ((a q).surely) && (b q).early) (ap (λ (x : Bool). not x && (b q).early) is ∙ holds))))

    behind : (s t : State) → AreAlike (early_in (joined a b)) s t → AreAlike (early_in b) (f s) (f t)
    behind s t alike = record {
      places = λ q holds. there s t alike q holds ((a q).surely) refl;
      temps = one.temps s t (start s t alike);
    }

    known : (s t : State) → AreAlike (early_in (joined a b)) s t → (q : Place)
        → (at s q ≡ at t q) ⊎ (((a q).surely || (b q).surely) ≡ true) → (at (f s) q ≡ at (f t) q) ⊎ ((b q).surely ≡ true)
    known s t alike q (inl same) = inl (one.agrees s t (start s t alike) q (inl same))
    known s t alike q (inr sure) =
        ⊎_elim (λ (e : (a q).surely ≡ true). inl (one.agrees s t (start s t alike) q (inr e)))
        (λ (e : (b q).surely ≡ true). inr e) (or_cases ((a q).surely) ((b q).surely) sure)

    by_reads : (q : Place) → ((a q).early ≡ true) ⊎ ((not ((a q).surely) && (b q).early) ≡ true)
        → ((a q).read || (b q).read) ≡ true
    by_reads q (inl e) = or_left ((a q).read) ((b q).read) (one.reads q e)
    by_reads q (inr e) =
        or_right ((a q).read) ((b q).read) (two.reads q (and_parts (not ((a q).surely)) ((b q).early) e).1)

    by_writes : (q : Place) → ((a q).surely ≡ true) ⊎ ((b q).surely ≡ true) → ((a q).written || (b q).written) ≡ true
    by_writes q (inl e) = or_left ((a q).written) ((b q).written) (one.writes q e)
    by_writes q (inr e) = or_right ((a q).written) ((b q).written) (two.writes q e)

-- a run of one of two branches, which hangs on some places
pub frame_if : (test : State → Bool) (r : Places) (f g : State → State) (a b : Touches)
    → ((s t : State) → AreAlike r s t → test s ≡ test t) → IsFrame f a → IsFrame g b
    → IsFrame (λ s. if test s then g s else f s) (branched r a b)
frame_if test r f g a b hangs one two = record {
  keeps = λ s q e. keep s q (test s) (neither ((a q).written) ((b q).written) e);
  agrees = λ s t alike q h. agree s t q (test s) (test t) (hangs s t (first s t alike))
      (left s t alike) (right s t alike) h;
  temps = λ s t alike. same_temps s t (test s) (test t) (hangs s t (first s t alike)) (left s t alike) (right s t alike);
  reads = λ q e. by_reads q (or_cases (r q) ((a q).early || (b q).early) e);
  writes = λ q e. or_left ((a q).written) ((b q).written) (one.writes q (and_parts ((a q).surely) ((b q).surely) e).0);
}
  where
    whole : Places
    whole = early_in (branched r a b)

    first : (s t : State) → AreAlike whole s t → AreAlike r s t
    first s t alike = fewer whole r s t (λ q holds. or_left (r q) ((a q).early || (b q).early) holds) alike

    left : (s t : State) → AreAlike whole s t → AreAlike (early_in a) s t
    left s t alike =
        fewer whole (early_in a) s t
        (λ q holds. or_right (r q) ((a q).early || (b q).early) (or_left ((a q).early) ((b q).early) holds)) alike

    right : (s t : State) → AreAlike whole s t → AreAlike (early_in b) s t
    right s t alike =
        fewer whole (early_in b) s t
        (λ q holds. or_right (r q) ((a q).early || (b q).early) (or_right ((a q).early) ((b q).early) holds)) alike

    keep : (s : State) (q : Place) (x : Bool) → ((a q).written ≡ false) × ((b q).written ≡ false)
        → at (if x then g s else f s) q ≡ at s q
    keep s q true e = two.keeps s q e.1
    keep s q false e = one.keeps s q e.0

    agree : (s t : State) (q : Place) (x y : Bool) → x ≡ y → AreAlike (early_in a) s t → AreAlike (early_in b) s t
        → (at s q ≡ at t q) ⊎ (((a q).surely && (b q).surely) ≡ true)
        → at (if x then g s else f s) q ≡ at (if y then g t else f t) q
    agree s t q true true e l r h = two.agrees s t r q (sure h)
      where
        sure : (at s q ≡ at t q) ⊎ (((a q).surely && (b q).surely) ≡ true) → (at s q ≡ at t q) ⊎ ((b q).surely ≡ true)
        sure (inl same) = inl same
        sure (inr both) = inr (and_parts ((a q).surely) ((b q).surely) both).1
    agree s t q false false e l r h = one.agrees s t l q (sure h)
      where
        sure : (at s q ≡ at t q) ⊎ (((a q).surely && (b q).surely) ≡ true) → (at s q ≡ at t q) ⊎ ((a q).surely ≡ true)
        sure (inl same) = inl same
        sure (inr both) = inr (and_parts ((a q).surely) ((b q).surely) both).0
    agree s t q true false e l r h = absurd (cc)
    agree s t q false true e l r h = absurd (cc)

    same_temps : (s t : State) (x y : Bool) → x ≡ y → AreAlike (early_in a) s t → AreAlike (early_in b) s t
        → (if x then g s else f s).temps ≡ (if y then g t else f t).temps
    same_temps s t true true e l r = two.temps s t r
    same_temps s t false false e l r = one.temps s t l
    same_temps s t true false e l r = absurd (cc)
    same_temps s t false true e l r = absurd (cc)

    by_reads : (q : Place) → (r q ≡ true) ⊎ (((a q).early || (b q).early) ≡ true)
        → (r q || ((a q).read || (b q).read)) ≡ true
    by_reads q (inl e) = or_left (r q) ((a q).read || (b q).read) e
    by_reads q (inr e) =
        or_right (r q) ((a q).read || (b q).read)
        (⊎_elim (λ (h : (a q).early ≡ true). or_left ((a q).read) ((b q).read) (one.reads q h))
        (λ (h : (b q).early ≡ true). or_right ((a q).read) ((b q).read) (two.reads q h))
        (or_cases ((a q).early) ((b q).early) e))

-- one change, which hangs on some places: it may change some, and surely changes others
pub record IsChange (f : State → State) (r may surely : Places) : Type 0 where
  pub keeps : (s : State) (q : Place) → may q ≡ false → at (f s) q ≡ at s q
  pub agrees : (s t : State) → AreAlike r s t → (q : Place) → (at s q ≡ at t q) ⊎ (surely q ≡ true)
      → at (f s) q ≡ at (f t) q
  pub temps : (s t : State) → AreAlike r s t → (f s).temps ≡ (f t).temps
  pub writes : (q : Place) → surely q ≡ true → may q ≡ true

-- a change is a frame of what reads those places, and then writes
pub frame_change : (f : State → State) (r may surely : Places) → IsChange f r may surely → (p : Touches)
    → ((q : Place) → (p q).written ≡ may q) → ((q : Place) → (p q).surely ≡ surely q)
    → ((q : Place) → r q ≡ true → (p q).early ≡ true) → ((q : Place) → (p q).early ≡ true → (p q).read ≡ true)
    → IsFrame f p
frame_change f r may surely change p written sure early reads = record {
  keeps = λ s q e. change.keeps s q (sym (written q) ∙ e);
  agrees = λ s t alike q h. change.agrees s t (first s t alike) q
      (⊎_elim (λ (e : at s q ≡ at t q). inl e) (λ (e : (p q).surely ≡ true). inr (sym (sure q) ∙ e)) h);
  temps = λ s t alike. change.temps s t (first s t alike);
  reads = λ q e. reads q e;
  writes = λ q e. written q ∙ change.writes q (sym (sure q) ∙ e);
}
  where
    first : (s t : State) → AreAlike (early_in p) s t → AreAlike r s t
    first s t alike = fewer (early_in p) r s t early alike
