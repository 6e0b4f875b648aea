-- Where signals begin.
use Rattle.std.proofs.Common.{◌≡◌, ◌∙◌, ◌+◌, ◌<◌, ◌≤◌, ◌++◌, ℕ, List, [], ◌∷◌, length, drop, get_or}
use Rattle.std.proofs.Common.{map, sym, ap, arith}
use Rattle.std.proofs.lemmas.List.{append_assoc, append-nil, drop_more, drop_all}
use Rattle.pm_design.specs.declared.design.Kind.{Kind}
use Rattle.pm_design.specs.declared.signal.Signal.{Signal}
use Rattle.pm_design.specs.Instances.{first_bits_from, own_bits}
use Rattle.pm_design.specs.Widths.{total}
use Rattle.pm_instances.proofs.KindBits.{own_fits}
use Rattle.pm_instances.proofs.Sums.{total_more, total_fits}

-- the first bit of one signal more
pub one_more_offset : (ss : List Signal) (i bit : ℕ) (offsets whole : List ℕ) (s : Signal) → i < length ss →
    s ≡ get_or ss i s →
    offsets ++ first_bits_from bit (drop i ss) ≡ whole →
    (offsets ++ bit ∷ []) ++ first_bits_from (bit + s.width) (drop (i + 1) ss) ≡ whole
one_more_offset ss i bit offsets whole s lt is so_far =
    append_assoc offsets (bit ∷ []) (first_bits_from (bit + s.width) (drop (i + 1) ss))
    ∙ (ap (λ (x : Signal). offsets ++ bit ∷ first_bits_from (bit + x.width) (drop (i + 1) ss)) is
    ∙ (ap (λ (xs : List Signal). offsets ++ first_bits_from bit xs) (sym (drop_more ss i s lt)) ∙ so_far))

pub all_offsets : (ss : List Signal) (i bit : ℕ) (offsets whole : List ℕ) → length ss ≤ i →
    offsets ++ first_bits_from bit (drop i ss) ≡ whole → offsets ≡ whole
all_offsets ss i bit offsets whole le so_far =
    sym (append-nil offsets) ∙ (ap (λ (xs : List Signal). offsets ++
    first_bits_from bit xs) (sym (drop_all i ss le)) ∙ so_far)

pub next_bit : (ss : List Signal) (i bit : ℕ) (s : Signal) → i < length ss → s ≡ get_or ss i s →
    bit + total (map (λ x. x.width) (drop i ss)) ≡ total (map (λ x. x.width) ss) →
    bit + s.width + total (map (λ x. x.width) (drop (i + 1) ss)) ≡ total (map (λ x. x.width) ss)
next_bit ss i bit s lt is so_far =
    let e : total (map (λ x. x.width) (drop i ss)) ≡ s.width + total (map (λ x. x.width) (drop (i + 1) ss)) =
    total_more (λ (x : Signal). x.width) ss i s lt is in
    omega arith

pub bit_fits : (kind : Kind) (i bit bound : ℕ) (s : Signal) → i < length kind.signals → s ≡ get_or kind.signals i s →
    bit + total (map (λ x. x.width) (drop i kind.signals)) ≡ total (map (λ x. x.width) kind.signals) →
    own_bits kind < bound →
    bit + s.width < bound
bit_fits kind i bit bound s lt is so_far few = total_fits (λ (x : Signal).
    x.width) kind.signals i bit bound s lt is so_far few

pub ruleset offsets = (one_more_offset, all_offsets, next_bit, bit_fits)

-- one more element of a list that is mapped
pub one_more_mapped : {X Y : Type 0} (f : X → Y) (xs : List X) (i : ℕ) (made whole : List Y) (x : X) (y : Y) →
    i < length xs →
    x ≡ get_or xs i x → y ≡ f x → made ++ map f (drop i xs) ≡ whole → (made ++ y ∷ []) ++
    map f (drop (i + 1) xs) ≡ whole
one_more_mapped f xs i made whole x y lt is value so_far =
    append_assoc made (y ∷ []) (map f (drop (i + 1) xs))
    ∙ (ap (λ (z : _). made ++ z ∷ map f (drop (i + 1) xs)) value
    ∙ (ap (λ (z : _). made ++ f z ∷ map f (drop (i + 1) xs)) is
    ∙ (ap (λ (zs : List _). made ++ map f zs) (sym (drop_more xs i x lt)) ∙ so_far)))

pub all_mapped : {X Y : Type 0} (f : X → Y) (xs : List X) (i : ℕ) (made whole : List Y) → length xs ≤ i →
    made ++ map f (drop i xs) ≡ whole → made ≡ whole
all_mapped f xs i made whole le so_far =
    sym (append-nil made) ∙ (ap (λ (zs : List _). made ++ map f zs) (sym (drop_all i xs le)) ∙ so_far)

pub ruleset tables = (own_fits, one_more_mapped, all_mapped)
