-- What a driver gives, along the connections of a component, and through ports along those of the next.
use Rattle.std.proofs.Common.{◌≡◌, ◌∙◌, ◌<◌, ◌+◌, ◌*◌, ◌/◌, ◌⊎◌, ℕ, List, Contains, refl, sym, ap, ap₂, subst}
use Rattle.std.proofs.Common.{inl, inr, arith}
use Rattle.std.proofs.lemmas.Bool.{cases_eq}
use Rattle.disjoint_sets.specs.Connected.{Connected}
use Rattle.disjoint_sets.specs.Connected.Connected.{Itself, Forward, Backward}
use Rattle.disjoint_sets.proofs.Chains.{connected_trans}
use Rattle.pm_nets.specs.declared.giver.Giver.{Giver}
use Rattle.pm_nets.specs.declared.giver.Source.{Source}
use Rattle.pm_nets.specs.declared.giver.Source.TheVariants as source
use Rattle.pm_nets.specs.Givers.{HasTwo}

-- a port that gives at an end
abbrev pub port_at : ℕ → Giver
port_at e = record { source = source.Port; end = e }

-- the two ends of one flat bit
abbrev pub AreSides : ℕ → ℕ → Type 0
AreSides p q = p + q ≡ 4 * (p / 2) + 1

-- an end in its own component, or in the one around it if that sees the bit
abbrev pub IsSeen : (ℕ → Type 0) → ℕ → Type 0
IsSeen Crosses e = (e ≡ 2 * (e / 2)) ⊎ Crosses (e / 2)

-- connections of ends and of flat bits, and what gives and drives, where some bits are seen by two components
pub record IsWired (links flat : List (ℕ × ℕ)) (givers drivers : List Giver) (Crosses : ℕ → Type 0) : Type 0 where
  pub ends : (e f : ℕ) → Contains links (e, f) → IsSeen Crosses e × IsSeen Crosses f
  pub halves : (a b : ℕ) → Contains flat (a, b) →
      (p : ℕ × ℕ) × Contains links p × (p.0 / 2 ≡ a) × (p.1 / 2 ≡ b)
  pub gives : (b : ℕ) → Crosses b → Contains givers (port_at (2 * b)) ⊎ Contains givers (port_at (2 * b + 1))
  pub among : (g : Giver) → Contains drivers g → Contains givers g
  pub seen : (g : Giver) → Contains drivers g → IsSeen Crosses g.end
  pub inner : (g : Giver) → Contains drivers g → g.source ≡ source.Port → Crosses (g.end / 2) → ⊥
  pub single : (e : ℕ) → HasTwo links givers e → ⊥

rank : Source → ℕ
rank source.Port = 0
rank (source.Tie n) = 1
rank (source.Block n) = 2

number : Source → ℕ
number source.Port = 0
number (source.Tie n) = n
number (source.Block n) = n

less : (a b : ℕ) → a < b → a ≡ b → ⊥
less a b lt e = omega arith

same_source : (a b : Source) → rank a ≡ rank b → number a ≡ number b → a ≡ b
unfolding rank number
same_source source.Port source.Port r n = refl
same_source source.Port (source.Tie k) r n = absurd (less 0 1 (omega arith) r)
same_source source.Port (source.Block k) r n = absurd (less 0 2 (omega arith) r)
same_source (source.Tie m) source.Port r n = absurd (less 0 1 (omega arith) (sym r))
same_source (source.Tie m) (source.Tie k) r n = ap (λ (x : ℕ). source.Tie x) n
same_source (source.Tie m) (source.Block k) r n = absurd (less 1 2 (omega arith) r)
same_source (source.Block m) source.Port r n = absurd (less 0 2 (omega arith) (sym r))
same_source (source.Block m) (source.Tie k) r n = absurd (less 1 2 (omega arith) (sym r))
same_source (source.Block m) (source.Block k) r n = ap (λ (x : ℕ). source.Block x) n

pub tie_no_port : (n : ℕ) → source.Tie n ≡ source.Port → ⊥
unfolding rank
tie_no_port n e = less 0 1 (omega arith) (sym (ap rank e))

pub block_no_port : (n : ℕ) → source.Block n ≡ source.Port → ⊥
unfolding rank
block_no_port n e = less 0 2 (omega arith) (sym (ap rank e))

-- two givers are one, or differ
cases_giver : (g h : Giver) → (g ≡ h) ⊎ (g ≡ h → ⊥)
cases_giver g h = go (cases_eq (rank g.source) (rank h.source)) (cases_eq (number g.source) (number h.source))
    (cases_eq g.end h.end)
  where
    go : (rank g.source ≡ rank h.source) ⊎ (rank g.source ≡ rank h.source → ⊥) →
        (number g.source ≡ number h.source) ⊎ (number g.source ≡ number h.source → ⊥) →
        (g.end ≡ h.end) ⊎ (g.end ≡ h.end → ⊥) → (g ≡ h) ⊎ (g ≡ h → ⊥)
    go (inl r) (inl n) (inl e) = inl (ap₂ (λ (s : Source) (x : ℕ). record { source = s; end = x })
        (same_source g.source h.source r n) e)
    go (inr ne) n e = inr (λ same. ne (ap (λ (k : Giver). rank k.source) same))
    go (inl r) (inr ne) e = inr (λ same. ne (ap (λ (k : Giver). number k.source) same))
    go (inl r) (inl n) (inr ne) = inr (λ same. ne (ap (λ (k : Giver). k.end) same))

-- what comes from a driver's end: along its component's connections, or through a port that gives to the next
pub data Driven (links : List (ℕ × ℕ)) (givers : List Giver) (Crosses : ℕ → Type 0) (o : ℕ) : ℕ → Type 0 where
  Here : (e : ℕ) → Connected links o e → Driven links givers Crosses o e
  Through : (p q e : ℕ) → Crosses (p / 2) → AreSides p q → Contains givers (port_at p) →
      Driven links givers Crosses o q → Connected links p e → Driven links givers Crosses o e

driven_on : (links : List (ℕ × ℕ)) (givers : List Giver) (Crosses : ℕ → Type 0) (o e f : ℕ) →
    Driven links givers Crosses o e → Connected links e f → Driven links givers Crosses o f
driven_on links givers Crosses o _ f (Here e h) chain = Here f (connected_trans links o e f h chain)
driven_on links givers Crosses o _ f (Through p q e crosses sides gives from h) chain =
    Through p q f crosses sides gives from (connected_trans links p e f h chain)

module _ (links flat : List (ℕ × ℕ)) (givers drivers : List Giver) (Crosses : ℕ → Type 0)
    (wired : IsWired links flat givers drivers Crosses) where
  -- what gives to one net of a component is one
  one_giver : (g h : Giver) → Contains givers g → Contains givers h → Connected links g.end h.end → g ≡ h
  one_giver g h one other chain = go (cases_giver g h)
    where
      go : (g ≡ h) ⊎ (g ≡ h → ⊥) → g ≡ h
      go (inl same) = same
      go (inr differ) = absurd (wired.single g.end (record {
        first = g;
        second = h;
        differ = differ;
        one = one;
        other = other;
        first_in = Itself g.end;
        second_in = chain;
      }))

  -- what comes to one end of a bit comes to the other
  driven_across : (o : Giver) → Contains drivers o → (e f : ℕ) → Crosses (e / 2) → AreSides e f →
      Driven links givers Crosses o.end e → Driven links givers Crosses o.end f
  driven_across o driver e f crosses sides from = go (sided (wired.gives (e / 2) crosses) (cases_eq e (2 * (e / 2))))
    where
      sided : Contains givers (port_at (2 * (e / 2))) ⊎ Contains givers (port_at (2 * (e / 2) + 1)) →
          (e ≡ 2 * (e / 2)) ⊎ (e ≡ 2 * (e / 2) → ⊥) → Contains givers (port_at e) ⊎ Contains givers (port_at f)
      sided (inl gives) (inl even) = inl (subst (λ (x : ℕ). Contains givers (port_at x)) (sym even) gives)
      sided (inl gives) (inr odd) =
          let other : 2 * (e / 2) ≡ f = omega arith in inr (subst (λ (x : ℕ). Contains givers (port_at x)) other gives)
      sided (inr gives) (inl even) =
          let other : 2 * (e / 2) + 1 ≡ f = omega arith in
          inr (subst (λ (x : ℕ). Contains givers (port_at x)) other gives)
      sided (inr gives) (inr odd) =
          let own : 2 * (e / 2) + 1 ≡ e = omega arith in inl (subst (λ (x : ℕ). Contains givers (port_at x)) own gives)

      back : (x : ℕ) → x ≡ e → Contains givers (port_at x) → Driven links givers Crosses o.end x →
          Driven links givers Crosses o.end f
      back _ is gives (Here x h) =
          let same : o ≡ port_at x = one_giver o (port_at x) (wired.among o driver) gives h in
          let half : e / 2 ≡ o.end / 2 = ap (λ (y : ℕ). y / 2) (sym (ap (λ (k : Giver). k.end) same ∙ is)) in
          absurd (wired.inner o driver (ap (λ (k : Giver). k.source) same) (subst Crosses half crosses))
      back _ is gives (Through p q x there ends here before h) =
          let same : p ≡ x = ap (λ (k : Giver). k.end) (one_giver (port_at p) (port_at x) here gives h) in
          let other : q ≡ f = omega arith in
          subst (λ (y : ℕ). Driven links givers Crosses o.end y) other before

      go : Contains givers (port_at e) ⊎ Contains givers (port_at f) → Driven links givers Crosses o.end f
      go (inl gives) = back e refl gives from
      go (inr gives) =
          let half : e / 2 ≡ f / 2 = omega arith in
          let turned : f + e ≡ 4 * (f / 2) + 1 = omega arith in
          Through f e f (subst Crosses half crosses) turned gives from (Itself f)

  -- a flat bit to whose ends a driver's value comes, as far as they are seen
  abbrev DrivenBit : Giver → ℕ → Type 0
  DrivenBit o x = (e : ℕ) → e / 2 ≡ x → IsSeen Crosses e → Driven links givers Crosses o.end e

  driven_bit : (o : Giver) → Contains drivers o → (e : ℕ) → IsSeen Crosses e →
      Driven links givers Crosses o.end e → DrivenBit o (e / 2)
  driven_bit o driver e seen from f half other = go (cases_eq e f)
    where
      crossed : (e ≡ f → ⊥) → IsSeen Crosses e → IsSeen Crosses f → Crosses (e / 2)
      crossed ne (inr crosses) there = crosses
      crossed ne (inl even) (inr crosses) = subst Crosses half crosses
      crossed ne (inl even) (inl same) = absurd (ne (omega arith))

      go : (e ≡ f) ⊎ (e ≡ f → ⊥) → Driven links givers Crosses o.end f
      go (inl same) = subst (λ (y : ℕ). Driven links givers Crosses o.end y) same from
      go (inr ne) =
          let sides : e + f ≡ 4 * (e / 2) + 1 = omega arith in
          driven_across o driver e f (crossed ne seen other) sides from

  driven_chain : (o : Giver) → Contains drivers o → (x y : ℕ) → Connected flat x y → DrivenBit o x → DrivenBit o y
  driven_chain o driver _ _ (Itself x) all = all
  driven_chain o driver _ _ (Forward x y z edge rest) all =
      let at = wired.halves x y edge in
      let seen = wired.ends at.0.0 at.0.1 at.1 in
      let next : Driven links givers Crosses o.end at.0.1 =
      driven_on links givers Crosses o.end at.0.0 at.0.1 (all at.0.0 at.2 seen.0)
      (Forward at.0.0 at.0.1 at.0.1 at.1 (Itself at.0.1)) in
      driven_chain o driver y z rest
      (subst (DrivenBit o) at.3 (driven_bit o driver at.0.1 seen.1 next))
  driven_chain o driver _ _ (Backward x y z edge rest) all =
      let at = wired.halves y x edge in
      let seen = wired.ends at.0.0 at.0.1 at.1 in
      let next : Driven links givers Crosses o.end at.0.0 =
      driven_on links givers Crosses o.end at.0.1 at.0.0 (all at.0.1 at.3 seen.1)
      (Backward at.0.1 at.0.0 at.0.0 at.1 (Itself at.0.0)) in
      driven_chain o driver y z rest
      (subst (DrivenBit o) at.2 (driven_bit o driver at.0.0 seen.0 next))

  -- two drivers of one net are one
  pub one_driver : (a b : Giver) → Contains drivers a → Contains drivers b → Connected flat (a.end / 2) (b.end / 2) →
      a ≡ b
  one_driver a b first second chain =
      go b.end refl (driven_chain a first (a.end / 2) (b.end / 2) chain
      (driven_bit a first a.end (wired.seen a first) (Here a.end (Itself a.end))) b.end refl (wired.seen b second))
    where
      go : (e : ℕ) → e ≡ b.end → Driven links givers Crosses a.end e → a ≡ b
      go _ is (Here e h) =
          one_giver a b (wired.among a first) (wired.among b second)
          (subst (λ (y : ℕ). Connected links a.end y) is h)
      go _ is (Through p q e crosses sides gives from h) =
          let same : port_at p ≡ b = one_giver (port_at p) b gives (wired.among b second)
          (subst (λ (y : ℕ). Connected links p y) is h) in
          let half : p / 2 ≡ b.end / 2 = ap (λ (k : Giver). k.end / 2) same in
          absurd (wired.inner b second (sym (ap (λ (k : Giver). k.source) same)) (subst Crosses half crosses))
