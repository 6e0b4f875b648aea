-- The connections and drivers of a design, as those of components that see each other's ports.
use Rattle.std.proofs.Common.{◌≡◌, ◌∙◌, ◌+◌, ◌<◌, ◌⊎◌, ℕ, zero, suc, List, [], ◌∷◌, length}
use Rattle.std.proofs.Common.{get_or, flat_map, Bool, true, false, Contains, refl, sym, ap, subst, inl, inr, arith}
use Rattle.std.specs.Prelude.{if◌then◌else◌}
use Rattle.std.specs.List.{range_with_len}
use Rattle.std.proofs.lemmas.List.Elements.{Contains-append_cases}
use Rattle.pm_design.specs.declared.body.Block.{Block}
use Rattle.pm_design.specs.declared.connection.Part.{Part}
use Rattle.pm_design.specs.declared.connection.Tie.{Tie}
use Rattle.pm_design.specs.declared.design.Design.{Design}
use Rattle.pm_design.specs.declared.signal.Signal.{Signal}
use Rattle.pm_design.specs.Elaborated.{IsElaborated}
use Rattle.pm_design.specs.Instances.{instances_of}
use Rattle.pm_design.specs.Lookups.{is_input}
use Rattle.pm_design.specs.Lookups.{no_signal}
use Rattle.pm_design.specs.Runnable.{kind_at}
use Rattle.pm_instances.specs.Laid.{laid_out}
use Rattle.pm_nets.specs.declared.giver.Gift.{Gift}
use Rattle.pm_nets.specs.declared.giver.Giver.{Giver}
use Rattle.pm_nets.specs.declared.giver.Source.TheVariants as source
use Rattle.pm_nets.specs.Drivers.{input_part, inputs_from, whole_part}
use Rattle.pm_nets.specs.Ends.{end_of}
use Rattle.pm_nets.specs.Givers.{block_gifts, gift_givers, given_by}
use Rattle.pm_nets.specs.Givers.{tie_gifts}
use Rattle.pm_nets.specs.Legal.{driving, driving_gifts, driving_in, input_givers}
use Rattle.pm_nets.specs.Written.{written_in}
use Rattle.pm_nets.proofs.Members.{from_flat, from_map, from_range, in_cons, in_head, in_none}
use Rattle.pm_nets.proofs.Members.{in_tail}

-- what inputs, ties and blocks give
pub record IsInput (n : ℕ) (ss : List Signal) (p : Part) : Type 0 where
  pub signal : ℕ
  pub listed : signal < length ss
  pub is : p ≡ whole_part (n + signal) (get_or ss signal no_signal).width

input_is : (n : ℕ) (ss : List Signal) (p : Part) → Contains (inputs_from n ss) p → IsInput n ss p
input_is n [] p has = absurd (in_none p has)
input_is n (x ∷ xs) p has =
    go (Contains-append_cases (input_part n x) (inputs_from (n + 1) xs) p has) (input_is (n + 1) xs p)
  where
    kept : (b : Bool) (q : Part) → Contains (if b then q ∷ [] else []) p → q ≡ p
    kept true q has = first (in_cons q [] p has)
      where
        first : (q ≡ p) ⊎ Contains [] p → q ≡ p
        first (inl e) = e
        first (inr never) = absurd (in_none p never)
    kept false q has = absurd (in_none p has)

    go : Contains (input_part n x) p ⊎ Contains (inputs_from (n + 1) xs) p →
        (Contains (inputs_from (n + 1) xs) p → IsInput (n + 1) xs p) → IsInput n (x ∷ xs) p
    go (inl here) rest = record {
      signal = 0;
      listed = omega arith;
      is = sym (kept (is_input x.role) (whole_part n x.width) here) ∙
          ap (λ (k : ℕ). whole_part k x.width) (let e : n ≡ n + 0 = omega arith in e);
    }
    go (inr there) rest =
        let found = rest there in
        let lt : found.signal < length xs = found.listed in
        record {
          signal = suc found.signal;
          listed = omega arith;
          is = found.is ∙ ap (λ (k : ℕ). whole_part k (get_or xs found.signal no_signal).width)
              (let e : n + 1 + found.signal ≡ n + suc found.signal = omega arith in e);
        }

pub record IsTieGift (ts : List Tie) (gift : Gift) : Type 0 where
  pub number : ℕ
  pub tie : Tie
  pub listed : Contains ts tie
  pub is : gift ≡ record { source = source.Tie number; part = tie.part }

tie_is : (n : ℕ) (ts : List Tie) (gift : Gift) → Contains (tie_gifts n ts) gift → IsTieGift ts gift
tie_is n [] gift has = absurd (in_none gift has)
tie_is n (t ∷ ts) gift has = go (in_cons _ (tie_gifts (n + 1) ts) gift has) (tie_is (n + 1) ts gift)
  where
    go : (record { source = source.Tie n; part = t.part } ≡ gift) ⊎ Contains (tie_gifts (n + 1) ts) gift →
        (Contains (tie_gifts (n + 1) ts) gift → IsTieGift ts gift) → IsTieGift (t ∷ ts) gift
    go (inl e) rest = record { number = n; tie = t; listed = in_head t ts; is = sym e }
    go (inr there) rest = let found = rest there in
        record { number = found.number; tie = found.tie; listed = in_tail t ts found.tie found.listed; is = found.is }

pub record IsBlockGift (bs : List Block) (gift : Gift) : Type 0 where
  pub number : ℕ
  pub block : Block
  pub part : Part
  pub listed : Contains bs block
  pub written : Contains (written_in block.body) part
  pub is : gift ≡ record { source = source.Block number; part = part }

block_is : (n : ℕ) (bs : List Block) (gift : Gift) → Contains (block_gifts n bs) gift → IsBlockGift bs gift
block_is n [] gift has = absurd (in_none gift has)
block_is n (b ∷ bs) gift has =
    go (Contains-append_cases (given_by (source.Block n) (written_in b.body)) (block_gifts (n + 1) bs) gift has)
    (block_is (n + 1) bs gift)
  where
    go : Contains (given_by (source.Block n) (written_in b.body)) gift ⊎ Contains (block_gifts (n + 1) bs) gift →
        (Contains (block_gifts (n + 1) bs) gift → IsBlockGift bs gift) → IsBlockGift (b ∷ bs) gift
    go (inl here) rest =
        let found = from_map (λ (p : Part). record { source = source.Block n; part = p }) (written_in b.body) gift here in
        record {
          number = n;
          block = b;
          part = found.0;
          listed = in_head b bs;
          written = found.1;
          is = sym found.2;
        }
    go (inr there) rest = let found = rest there in
        record {
          number = found.number;
          block = found.block;
          part = found.part;
          listed = in_tail b bs found.block found.listed;
          written = found.written;
          is = found.is;
        }

-- a driver: an input bit of the top, or a bit of a tie, or one that a block may write
pub record DrivesIn (design : Design) (g : Giver) (gift : Gift) (i : ℕ) : Type 0 where
  pub there : i < length (instances_of design)
  pub bit : ℕ
  pub below : bit < gift.part.width
  pub is : g ≡ record { source = gift.source; end = end_of (laid_out design) i gift.part bit }

given_bit : (design : Design) (i : ℕ) (gift : Gift) (g : Giver) → i < length (instances_of design) →
    Contains (gift_givers (laid_out design) i gift) g → DrivesIn design g gift i
given_bit design i gift g lt has =
    let found = from_map (λ (t : ℕ). record { source = gift.source; end = end_of (laid_out design) i gift.part t })
    (range_with_len 0 gift.part.width) g has in
    record { there = lt; bit = found.0; below = from_range gift.part.width found.0 found.1; is = sym found.2 }

-- what a driver is
pub data IsDriver (design : Design) (g : Giver) : Type 0 where
  OfInput : (p : Part) → IsInput 0 (kind_at (laid_out design) 0).signals p →
      DrivesIn design g (record { source = source.Port; part = p }) 0 → IsDriver design g
  OfTie : (i : ℕ) (gift : Gift) → IsTieGift (kind_at (laid_out design) i).ties gift → DrivesIn design g gift i →
      IsDriver design g
  OfBlock : (i : ℕ) (gift : Gift) → IsBlockGift (kind_at (laid_out design) i).blocks gift → DrivesIn design g gift i →
      IsDriver design g

input_driver : (design : Design) (g : Giver) → 0 < length (instances_of design) →
    Contains (input_givers (laid_out design)) g → IsDriver design g
input_driver design g some has =
    let found = from_flat (gift_givers (laid_out design) 0)
    (given_by source.Port (inputs_from 0 (kind_at (laid_out design) 0).signals)) g has in
    let part = from_map (λ (p : Part). record { source = source.Port; part = p })
    (inputs_from 0 (kind_at (laid_out design) 0).signals) found.0 found.1 in
    OfInput part.0 (input_is 0 (kind_at (laid_out design) 0).signals part.0 part.1)
    (subst (λ (x : Gift). DrivesIn design g x 0) (sym part.2) (given_bit design 0 found.0 g some found.2))

inner_driver : (design : Design) (g : Giver) →
    Contains (flat_map (driving_in (laid_out design)) (range_with_len 0 (length (instances_of design)))) g →
    IsDriver design g
inner_driver design g has =
    go (Contains-append_cases (tie_gifts 0 (kind_at (laid_out design) at.0).ties)
    (block_gifts 0 (kind_at (laid_out design) at.0).blocks) found.0 found.1)
  where
    at : (i : ℕ) × Contains (range_with_len 0 (length (instances_of design))) i ×
        Contains (driving_in (laid_out design) i) g
    at = from_flat (driving_in (laid_out design)) (range_with_len 0 (length (instances_of design))) g has

    found : (x : Gift) × Contains (driving_gifts (kind_at (laid_out design) at.0)) x ×
        Contains (gift_givers (laid_out design) at.0 x) g
    found = from_flat (gift_givers (laid_out design) at.0) (driving_gifts (kind_at (laid_out design) at.0)) g at.2

    here : DrivesIn design g found.0 at.0
    here = given_bit design at.0 found.0 g (from_range (length (instances_of design)) at.0 at.1) found.2

    go : Contains (tie_gifts 0 (kind_at (laid_out design) at.0).ties) found.0 ⊎
        Contains (block_gifts 0 (kind_at (laid_out design) at.0).blocks) found.0 → IsDriver design g
    go (inl tie) = OfTie at.0 found.0 (tie_is 0 (kind_at (laid_out design) at.0).ties found.0 tie) here
    go (inr block) = OfBlock at.0 found.0 (block_is 0 (kind_at (laid_out design) at.0).blocks found.0 block) here

top_there : (design : Design) (i : ℕ) → i < length (instances_of design) → 0 < length (instances_of design)
top_there design i lt = omega arith

-- there is an instance: the top
pub some_instance : (design : Design) → IsElaborated design → 0 < length (instances_of design)
some_instance design elaborated = go (length design.kinds) refl
  where
    go : (n : ℕ) → length design.kinds ≡ n → 0 < length (instances_of design)
    go zero is = let top : design.top < length design.kinds = elaborated.top in absurd (omega arith)
    go (suc n) is = rw is (omega arith)

pub driver_is : (design : Design) → IsElaborated design → (g : Giver) → Contains (driving (laid_out design)) g →
    IsDriver design g
driver_is design elaborated g has =
    go (Contains-append_cases (input_givers (laid_out design))
    (flat_map (driving_in (laid_out design)) (range_with_len 0 (length (instances_of design)))) g has)
  where
    go : Contains (input_givers (laid_out design)) g ⊎
        Contains (flat_map (driving_in (laid_out design)) (range_with_len 0 (length (instances_of design)))) g →
        IsDriver design g
    go (inl top) = input_driver design g (some_instance design elaborated) top
    go (inr inner) = inner_driver design g inner
