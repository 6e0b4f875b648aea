-- What the ports, the ties and the blocks of a kind give.
use Rattle.std.proofs.Common.{◌≡◌, ◌∙◌, ◌+◌, ◌<◌, ◌≤◌, ◌^◌, ◌++◌, ℕ, List, [], ◌∷◌, length, drop, get_or, refl, sym}
use Rattle.std.proofs.Common.{ap, arith}
use Rattle.std.proofs.lemmas.List.{append_assoc, append-nil, drop_more, drop_all}
use Rattle.pm_design.specs.declared.body.Block.{Block}
use Rattle.pm_design.specs.declared.connection.Part.{Part}
use Rattle.pm_design.specs.declared.connection.Tie.{Tie}
use Rattle.pm_design.specs.declared.design.Child.{Child}
use Rattle.pm_design.specs.declared.design.Design.{Design}
use Rattle.pm_design.specs.declared.signal.Signal.{Signal}
use Rattle.std.proofs.Common.{Bool, true, false, suc, subst, ltb-true}
use Rattle.std.specs.Prelude.{IsTrue, nat_le, nat_lt, if◌then◌else◌}
use Rattle.std.specs.List.{list_all}
use Rattle.std.proofs.lemmas.Bool.{and_parts, and_from, le-leb, leb-true, lt-ltb}
use Rattle.pm_design.specs.declared.body.St.{St}
use Rattle.pm_design.specs.declared.design.Kind.{Kind}
use Rattle.pm_design.specs.Elaborated.{IsElaborated, IsWellSized, is_before, is_good_signal}
use Rattle.pm_design.specs.Lookups.{kind_of, lies_within, no_child, no_signal, owner_kind_of}
use Rattle.pm_design.specs.Sound.{is_sound_block}
use Rattle.pm_design.specs.Typing.{Sight, is_sound}
use Rattle.pm_nets.specs.declared.giver.Source.{Source}
use Rattle.pm_design.specs.Widths.{is_width}
use Rattle.pm_nets.specs.Drivers.{inputs_from}
use Rattle.pm_nets.specs.Faults.{is_output}
use Rattle.pm_nets.proofs.DrivenParts.{block_writes, inputs_within, writes_within}
use Rattle.pm_nets.specs.declared.giver.Gift.{Gift}
use Rattle.pm_nets.specs.declared.giver.Source.TheVariants as source
use Rattle.pm_nets.specs.Givers.{block_gifts, child_outputs, gifts_of, given_by, output_part, outputs_from}
use Rattle.pm_nets.specs.Givers.{source_parts, tie_gifts}
use Rattle.pm_nets.specs.Written.{written_in}

-- one element more of a list whose elements are numbered
numbered_more : {X Y : Type 0} (one : ℕ → X → List Y) (all : ℕ → List X → List Y) → ((n : ℕ) (x : X) (xs : List X) →
    all n (x ∷ xs) ≡ one n x ++ all (n + 1) xs) → (xs : List X) (i n : ℕ) (made now whole : List Y) (x : X)
    → i < length xs →
    x ≡ get_or xs i x → made ++ all n (drop i xs) ≡ whole → now ≡ made ++ one n x
    → now ++ all (n + 1) (drop (i + 1) xs) ≡ whole
numbered_more one all step xs i n made now whole x lt is so_far more =
    ap (λ (l : List _). l ++ all (n + 1) (drop (i + 1) xs)) more
    ∙ (append_assoc made (one n x) (all (n + 1) (drop (i + 1) xs))
    ∙ (ap (λ (y : _). made ++ (one n y ++ all (n + 1) (drop (i + 1) xs))) is
    ∙ (ap (λ (l : List _). made ++ l) (sym (step n (get_or xs i x) (drop (i + 1) xs)))
    ∙ (ap (λ (l : List _). made ++ all n l) (sym (drop_more xs i x lt)) ∙ so_far))))

pub output_more : (owner : ℕ) (ss : List Signal) (i : ℕ) (parts now whole : List Part) (x : Signal) → i < length ss →
    x ≡ get_or ss i x → parts ++ outputs_from owner i (drop i ss) ≡ whole → now ≡ parts ++ output_part owner i x →
    now ++ outputs_from owner (i + 1) (drop (i + 1) ss) ≡ whole
output_more owner ss i parts now whole x lt is so_far more =
    numbered_more (output_part owner) (outputs_from owner) (λ n y ys. refl) ss i i parts now whole x lt is so_far more

pub outputs_all : (owner : ℕ) (ss : List Signal) (i : ℕ) (parts whole : List Part) → length ss ≤ i →
    parts ++ outputs_from owner i (drop i ss) ≡ whole → parts ≡ whole
outputs_all owner ss i parts whole le so_far =
    sym (append-nil parts)
    ∙ (ap (λ (l : List Signal). parts ++ outputs_from owner i l) (sym (drop_all i ss le)) ∙ so_far)

pub number_fits : (i n : ℕ) → i < n → n ≤ 2 ^ 21 → i + 1 < 2 ^ 32
number_fits i n lt le = omega arith

pub ruleset outputs = (outputs_all, number_fits)

pub child_more : (design : Design) (cs : List Child) (i n : ℕ) (parts now whole : List Part) (x : Child)
    → i < length cs →
    x ≡ get_or cs i x → parts ++ child_outputs design n (drop i cs) ≡ whole →
    now ≡ parts ++ outputs_from n 0 (kind_of design x.kind).signals
    → now ++ child_outputs design (n + 1) (drop (i + 1) cs) ≡ whole
child_more design cs i n parts now whole x lt is so_far more =
    numbered_more (λ m c. outputs_from m 0 (kind_of design c.kind).signals) (child_outputs design)
    (λ m y ys. refl) cs i n parts now
    whole x lt is so_far more

pub children_all : (design : Design) (cs : List Child) (i n : ℕ) (parts whole : List Part) → length cs ≤ i →
    parts ++ child_outputs design n (drop i cs) ≡ whole → parts ≡ whole
children_all design cs i n parts whole le so_far =
    sym (append-nil parts)
    ∙ (ap (λ (l : List Child). parts ++ child_outputs design n l) (sym (drop_all i cs le)) ∙ so_far)

pub ruleset children = (children_all)

pub tie_more : (ts : List Tie) (i : ℕ) (gifts now whole : List Gift) (x : Tie) → i < length ts → x ≡ get_or ts i x →
    gifts ++ tie_gifts i (drop i ts) ≡ whole → now ≡ gifts ++ (record { source = source.Tie i; part = x.part }) ∷ [] →
    now ++ tie_gifts (i + 1) (drop (i + 1) ts) ≡ whole
tie_more ts i gifts now whole x lt is so_far more =
    numbered_more (λ n t. record { source = source.Tie n; part = t.part } ∷ []) tie_gifts
    (λ n y ys. refl) ts i i gifts now whole x
    lt is so_far more

pub ties_all : (ts : List Tie) (i : ℕ) (gifts whole : List Gift) → length ts ≤ i
    → gifts ++ tie_gifts i (drop i ts) ≡ whole →
    gifts ≡ whole
ties_all ts i gifts whole le so_far =
    sym (append-nil gifts) ∙ (ap (λ (l : List Tie). gifts ++ tie_gifts i l) (sym (drop_all i ts le)) ∙ so_far)

pub ruleset ties = (ties_all)

pub block_more : (bs : List Block) (i : ℕ) (gifts now whole : List Gift) (x : Block) → i < length bs
    → x ≡ get_or bs i x →
    gifts ++ block_gifts i (drop i bs) ≡ whole → now ≡ gifts ++ given_by (source.Block i) (written_in x.body) →
    now ++ block_gifts (i + 1) (drop (i + 1) bs) ≡ whole
block_more bs i gifts now whole x lt is so_far more =
    numbered_more (λ n b. given_by (source.Block n) (written_in b.body)) block_gifts
    (λ n y ys. refl) bs i i gifts now whole x lt is
    so_far more

pub blocks_all : (bs : List Block) (i : ℕ) (gifts whole : List Gift) → length bs ≤ i
    → gifts ++ block_gifts i (drop i bs) ≡ whole →
    gifts ≡ whole
blocks_all bs i gifts whole le so_far =
    sym (append-nil gifts) ∙ (ap (λ (l : List Block). gifts ++ block_gifts i l) (sym (drop_all i bs le)) ∙ so_far)

pub ruleset blocks = (blocks_all, number_fits)

append_passes : {X : Type 0} (test : X → Bool) (xs ys : List X) → IsTrue (list_all test xs)
    → IsTrue (list_all test ys) →
    IsTrue (list_all test (xs ++ ys))
append_passes test [] ys l r = r
append_passes test (x ∷ xs) ys l r =
    let both = and_parts (test x) (list_all test xs) l in
    and_from (test x) (list_all test (xs ++ ys)) both.0 (append_passes test xs ys both.1 r)

-- parts within a kind that are given
pub given_within : (design : Design) (kind : Kind) (from : Source) (ps : List Part)
    → IsTrue (list_all (lies_within design kind) ps) →
    IsTrue (list_all (λ g. lies_within design kind g.part) (given_by from ps))
given_within design kind from [] all = refl
given_within design kind from (p ∷ ps) all =
    let both = and_parts (lies_within design kind p) (list_all (lies_within design kind) ps) all in
    and_from (lies_within design kind p) (list_all (λ g. lies_within design kind g.part) (given_by from ps)) both.0
    (given_within design kind from ps both.1)

pub ties_given_within : (design : Design) (kind : Kind) (n : ℕ) (ts : List Tie) →
    IsTrue (list_all (λ t. lies_within design kind t.part) ts) →
    IsTrue (list_all (λ g. lies_within design kind g.part) (tie_gifts n ts))
ties_given_within design kind n [] all = refl
ties_given_within design kind n (t ∷ ts) all =
    let both = and_parts (lies_within design kind t.part) (list_all (λ t. lies_within design kind t.part) ts) all in
    and_from (lies_within design kind t.part)
    (list_all (λ g. lies_within design kind g.part) (tie_gifts (n + 1) ts)) both.0
    (ties_given_within design kind (n + 1) ts both.1)

-- the gifts of a block and those of the blocks behind it
pub block_within : (design : Design) (kind : Kind) (bs : List Block) (i : ℕ) (d : Block) (body : List St)
    (parts : List Part)
    (whole : List Gift) → IsTrue (list_all (is_sound_block design kind) bs) → i < length bs
    → body ≡ (get_or bs i d).body →
    parts ≡ written_in body → ((s : Sight) → IsTrue (list_all (is_sound s) body) → IsTrue (list_all s.writes parts)) →
    (IsTrue (list_all (λ g. lies_within design kind g.part) (block_gifts i (drop i bs))) →
    IsTrue (list_all (λ g. lies_within design kind g.part) whole)) →
    IsTrue (list_all (λ g. lies_within design kind g.part) (block_gifts (i + 1) (drop (i + 1) bs))) →
    IsTrue (list_all (λ g. lies_within design kind g.part) whole)
block_within design kind bs i d body parts whole sound lt is are each before rest =
    before (subst (λ (l : List Block). IsTrue (list_all (λ g. lies_within design kind g.part) (block_gifts i l)))
    (sym (drop_more bs i d lt))
    (append_passes (λ g. lies_within design kind g.part) (given_by (source.Block i) (written_in block.body))
    (block_gifts (i + 1) (drop (i + 1) bs))
    (given_within design kind (source.Block i) (written_in block.body)
    (writes_within design kind block.sort (written_in block.body)
    (block_writes design kind bs i d body sound lt is
    (λ s fine. subst (λ (l : List Part). IsTrue (list_all s.writes l)) are (each s fine))))) rest))
  where
    block : Block
    block = get_or bs i d

pub few_signals : (design : Design) (kind : Kind) → IsWellSized design kind → length kind.signals ≤ 2 ^ 21
few_signals design kind sized = sized.signals

pub few_blocks : (design : Design) (kind : Kind) → IsWellSized design kind → length kind.blocks ≤ 2 ^ 20
few_blocks design kind sized = sized.blocks

pub ruleset sized = (few_signals, few_blocks)

-- the outputs of an owner lie within it
outputs_within : (design : Design) (kind owner_kind : Kind) (owner : ℕ) → owner_kind_of design kind owner ≡ owner_kind →
    IsTrue (list_all (is_good_signal design) owner_kind.signals) →
    IsTrue (list_all (lies_within design kind) (outputs_from owner 0 owner_kind.signals))
outputs_within design kind owner_kind owner at good = go 0 owner_kind.signals (λ j. ap signal (first j)) good
  where
    signal : ℕ → Signal
    signal k = get_or owner_kind.signals k no_signal

    first : (j : ℕ) → 0 + j ≡ j
    first j = omega arith

    part : ℕ → Signal → Part
    part n s = record { owner = owner; signal = n; lo = 0; width = s.width }

    one : (n : ℕ) (s : Signal) → signal n ≡ s → IsTrue (is_good_signal design s)
        → IsTrue (lies_within design kind (part n s))
    one n s is fine =
        let wide = and_parts (nat_le 1 s.width) (nat_le s.width 128) (and_parts (is_width s.width) _ fine).0 in
        let some : 1 ≤ s.width = leb-true 1 s.width wide.0 in
        let same : (get_or (owner_kind_of design kind owner).signals n no_signal).width ≡ s.width =
        ap (λ (k : Kind). (get_or k.signals n no_signal).width) at ∙ ap (λ (x : Signal). x.width) is in
        and_from (nat_lt 0 s.width)
        (nat_le (0 + s.width) (get_or (owner_kind_of design kind owner).signals n no_signal).width)
        (lt-ltb 0 s.width (omega arith))
        (le-leb (0 + s.width) (get_or (owner_kind_of design kind owner).signals n no_signal).width (omega arith))

    kept_within : (b : Bool) (p : Part) → IsTrue (lies_within design kind p) →
        IsTrue (list_all (lies_within design kind) (if b then p ∷ [] else []))
    kept_within true p within = and_from (lies_within design kind p) true within refl
    kept_within false p within = refl

    go : (n : ℕ) (ss : List Signal) → ((j : ℕ) → signal (n + j) ≡ get_or ss j no_signal) →
        IsTrue (list_all (is_good_signal design) ss)
        → IsTrue (list_all (lies_within design kind) (outputs_from owner n ss))
    go n [] same all = refl
    go n (s ∷ ss) same all =
        let both = and_parts (is_good_signal design s) (list_all (is_good_signal design) ss) all in
        let here : n ≡ n + 0 = omega arith in
        let next : (j : ℕ) → (n + 1) + j ≡ n + suc j = λ j. omega arith in
        append_passes (lies_within design kind) (output_part owner n s) (outputs_from owner (n + 1) ss)
        (kept_within (is_output s.role) (part n s) (one n s (ap signal here ∙ same 0) both.0))
        (go (n + 1) ss (λ j. ap signal (next j) ∙ same (suc j)) both.1)

-- the outputs of a kind's children lie within the kind
pub child_outputs_within : (design : Design) (kind : Kind) → IsElaborated design →
    IsTrue (list_all (is_before (length design.kinds)) kind.children) →
    IsTrue (list_all (lies_within design kind) (child_outputs design 1 kind.children))
child_outputs_within design kind elaborated known = go 0 kind.children (λ j. ap child (first j)) known
  where
    child : ℕ → Child
    child k = get_or kind.children k (no_child design.kinds)

    first : (j : ℕ) → 0 + j ≡ j
    first j = omega arith

    go : (m : ℕ) (cs : List Child) → ((j : ℕ) → child (m + j) ≡ get_or cs j (no_child design.kinds)) →
        IsTrue (list_all (is_before (length design.kinds)) cs) →
        IsTrue (list_all (lies_within design kind) (child_outputs design (suc m) cs))
    go m [] same all = refl
    go m (c ∷ cs) same all =
        let both = and_parts (is_before (length design.kinds) c) (list_all (is_before (length design.kinds)) cs) all in
        let less : c.kind < length design.kinds = ltb-true c.kind (length design.kinds) both.0 in
        let here : m ≡ m + 0 = omega arith in
        let more : (j : ℕ) → (m + 1) + j ≡ m + suc j = λ j. omega arith in
        let next : suc (m + 1) ≡ suc m + 1 = omega arith in
        append_passes (lies_within design kind) (outputs_from (suc m) 0 (kind_of design c.kind).signals)
        (child_outputs design (suc m + 1) cs)
        (outputs_within design kind (kind_of design c.kind) (suc m)
        (ap (λ (x : Child). kind_of design x.kind) (ap child here ∙ same 0)) (elaborated.kinds c.kind less).signals)
        (subst (λ (n : ℕ). IsTrue (list_all (lies_within design kind) (child_outputs design n cs))) next
        (go (m + 1) cs (λ j. ap child (more j) ∙ same (suc j)) both.1))

-- all gifts of a kind lie within it
pub gifts_within : (design : Design) (kind : Kind) → IsElaborated design →
    IsTrue (list_all (is_before (length design.kinds)) kind.children)
    → IsTrue (list_all (is_good_signal design) kind.signals) →
    IsTrue (list_all (λ t. lies_within design kind t.part) kind.ties) →
    IsTrue (list_all (λ g. lies_within design kind g.part) (block_gifts 0 kind.blocks)) →
    IsTrue (list_all (λ g. lies_within design kind g.part) (gifts_of design kind))
gifts_within design kind elaborated known good tied written =
    append_passes (λ g. lies_within design kind g.part)
    (given_by source.Port (source_parts design kind) ++ tie_gifts 0 kind.ties) (block_gifts 0 kind.blocks)
    (append_passes (λ g. lies_within design kind g.part) (given_by source.Port (source_parts design kind))
    (tie_gifts 0 kind.ties)
    (given_within design kind source.Port (source_parts design kind)
    (append_passes (lies_within design kind) (inputs_from 0 kind.signals) (child_outputs design 1 kind.children)
    (inputs_within design kind good) (child_outputs_within design kind elaborated known)))
    (ties_given_within design kind 0 kind.ties tied)) written
