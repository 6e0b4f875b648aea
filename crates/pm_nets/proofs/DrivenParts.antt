-- The parts that drive nets.
use Rattle.std.proofs.Common.{◌≡◌, ◌∙◌, ◌+◌, ◌<◌, ◌≤◌, ◌^◌, ◌++◌, ℕ, suc, List, [], ◌∷◌, length, take, drop, get_or}
use Rattle.std.proofs.Common.{map, Bool, true, false, refl, sym, ap, subst, arith}
use Rattle.std.specs.Prelude.{IsTrue, nat_lt, nat_le, if◌then◌else◌}
use Rattle.std.specs.List.{list_all}
use Rattle.std.proofs.lemmas.Bool.{and_parts, and_from, le-leb, leb-true, lt-ltb}
use Rattle.std.proofs.lemmas.Grind.{flat_map-append}
use Rattle.std.proofs.lemmas.List.{append_assoc, append-nil, drop_more, drop_all, take_more, get_or_default}
use Rattle.pm_design.specs.declared.body.Block.{Block}
use Rattle.pm_design.specs.declared.body.BlockSort.{BlockSort}
use Rattle.pm_design.specs.declared.body.BlockSort.TheVariants as sort
use Rattle.pm_design.specs.declared.body.St.{St}
use Rattle.pm_design.specs.declared.connection.Part.{Part}
use Rattle.pm_design.specs.declared.connection.Tie.{Tie}
use Rattle.pm_design.specs.declared.design.Design.{Design}
use Rattle.pm_design.specs.declared.design.Kind.{Kind}
use Rattle.pm_design.specs.declared.signal.Signal.{Signal}
use Rattle.pm_design.specs.Elaborated.{is_good_signal}
use Rattle.pm_design.specs.Lookups.{is_input, is_writable, is_whole, lies_within, no_signal}
use Rattle.pm_design.specs.Settings.{progress_of}
use Rattle.pm_design.specs.Sound.{block_sight, is_sound_block, may_write}
use Rattle.pm_design.specs.Typing.{Sight, is_sound}
use Rattle.pm_design.specs.Widths.{is_width}
use Rattle.pm_instances.proofs.Numbers.{item_passes}
use Rattle.pm_nets.specs.Drivers.{driven_parts, input_part, inputs_from, whole_part, written_by}
use Rattle.pm_nets.specs.Written.{written_in}
use Rattle.pm_nets.proofs.Offsets.{one_more_mapped, all_mapped}
use Rattle.pm_nets.proofs.Writing.{append_allowed}

-- one signal more
pub input_more : (ss : List Signal) (i : ℕ) (parts now whole : List Part) (x : Signal) → i < length ss
    → x ≡ get_or ss i x →
    parts ++ inputs_from i (drop i ss) ≡ whole → now ≡ parts ++ input_part i x
    → now ++ inputs_from (i + 1) (drop (i + 1) ss) ≡ whole
input_more ss i parts now whole x lt is so_far more =
    ap (λ (l : List Part). l ++ inputs_from (i + 1) (drop (i + 1) ss)) more
    ∙ (append_assoc parts (input_part i x) (inputs_from (i + 1) (drop (i + 1) ss))
    ∙ (ap (λ (y : Signal). parts ++ (input_part i y ++ inputs_from (i + 1) (drop (i + 1) ss))) is
    ∙ (ap (λ (l : List Signal). parts ++ inputs_from i l) (sym (drop_more ss i x lt)) ∙ so_far)))

pub inputs_all : (ss : List Signal) (i : ℕ) (parts whole : List Part) → length ss ≤ i
    → parts ++ inputs_from i (drop i ss) ≡ whole →
    parts ≡ whole
inputs_all ss i parts whole le so_far =
    sym (append-nil parts) ∙ (ap (λ (l : List Signal). parts ++ inputs_from i l) (sym (drop_all i ss le)) ∙ so_far)

pub number_fits : (i n : ℕ) → i < n → n ≤ 2 ^ 21 → i + 1 < 2 ^ 32
number_fits i n lt le = omega arith

pub ruleset inputs = (inputs_all, number_fits)

pub ruleset ties = (one_more_mapped, all_mapped)

-- the inputs of a kind lie within it
pub inputs_within : (design : Design) (kind : Kind) → IsTrue (list_all (is_good_signal design) kind.signals) →
    IsTrue (list_all (lies_within design kind) (inputs_from 0 kind.signals))
inputs_within design kind good = go 0 kind.signals (λ j. ap (λ (k : ℕ). get_or kind.signals k no_signal) (first j)) good
  where
    first : (j : ℕ) → 0 + j ≡ j
    first j = omega arith

    one : (n : ℕ) (s : Signal) → get_or kind.signals n no_signal ≡ s → IsTrue (is_good_signal design s) →
        IsTrue (lies_within design kind (whole_part n s.width))
    one n s is fine =
        let wide = and_parts (nat_le 1 s.width) (nat_le s.width 128) (and_parts (is_width s.width) _ fine).0 in
        let some : 1 ≤ s.width = leb-true 1 s.width wide.0 in
        let same : (get_or kind.signals n no_signal).width ≡ s.width = ap (λ (x : Signal). x.width) is in
        and_from (nat_lt 0 s.width) (nat_le (0 + s.width) (get_or kind.signals n no_signal).width)
        (lt-ltb 0 s.width (omega arith))
        (le-leb (0 + s.width) (get_or kind.signals n no_signal).width (omega arith))

    kept_within : (b : Bool) (p : Part) → IsTrue (lies_within design kind p) →
        IsTrue (list_all (lies_within design kind) (if b then p ∷ [] else []))
    kept_within true p within = and_from (lies_within design kind p) true within refl
    kept_within false p within = refl

    go : (n : ℕ) (ss : List Signal) → ((j : ℕ) → get_or kind.signals (n + j) no_signal ≡ get_or ss j no_signal) →
        IsTrue (list_all (is_good_signal design) ss) → IsTrue (list_all (lies_within design kind) (inputs_from n ss))
    go n [] same all = refl
    go n (s ∷ ss) same all =
        let both = and_parts (is_good_signal design s) (list_all (is_good_signal design) ss) all in
        let here : n ≡ n + 0 = omega arith in
        let next : (j : ℕ) → (n + 1) + j ≡ n + suc j = λ j. omega arith in
        append_allowed (lies_within design kind) (input_part n s) (inputs_from (n + 1) ss)
        (kept_within (is_input s.role) (whole_part n s.width)
        (one n s (ap (λ (k : ℕ). get_or kind.signals k no_signal) here ∙ same 0) both.0))
        (go (n + 1) ss (λ j. ap (λ (k : ℕ). get_or kind.signals k no_signal) (next j) ∙ same (suc j)) both.1)

-- the parts of one block more
by_more : (blocks : List Block) (i : ℕ) (d : Block) → i < length blocks →
    written_by (take (i + 1) blocks) ≡ written_by (take i blocks) ++ written_in (get_or blocks i d).body
by_more blocks i d lt =
    ap written_by (take_more blocks i d lt)
    ∙ (flat_map-append (λ b. written_in b.body) (take i blocks) (get_or blocks i d ∷ [])
    ∙ ap (λ (l : List Part). written_by (take i blocks) ++ l) (append-nil (written_in (get_or blocks i d).body)))

pub blocks_more : (blocks : List Block) (i : ℕ) (d : Block) (old parts now : List Part) → i < length blocks →
    parts ≡ old ++ written_by (take i blocks) → now ≡ parts ++ written_in (get_or blocks i d).body →
    now ≡ old ++ written_by (take (i + 1) blocks)
blocks_more blocks i d old parts now lt so_far more =
    more ∙ (ap (λ (l : List Part). l ++ written_in (get_or blocks i d).body) so_far
    ∙ (append_assoc old (written_by (take i blocks)) (written_in (get_or blocks i d).body)
    ∙ ap (λ (l : List Part). old ++ l) (sym (by_more blocks i d lt))))

-- what a block may write lies within its kind
write_within : (design : Design) (kind : Kind) (s : BlockSort) (p : Part) → IsTrue (may_write design kind s p) →
    IsTrue (lies_within design kind p)
write_within design kind sort.Update p may = (and_parts (lies_within design kind p) _ may).0
write_within design kind sort.Once p may = (and_parts (lies_within design kind p) _ may).0
write_within design kind sort.Edge p may =
    (and_parts (lies_within design kind p) _ (and_parts (is_writable design kind p) (is_whole design kind p) may).0).0

pub writes_within : (design : Design) (kind : Kind) (s : BlockSort) (ps : List Part)
    → IsTrue (list_all (may_write design kind s) ps) →
    IsTrue (list_all (lies_within design kind) ps)
writes_within design kind s [] all = refl
writes_within design kind s (p ∷ ps) all =
    let both = and_parts (may_write design kind s p) (list_all (may_write design kind s) ps) all in
    and_from (lies_within design kind p) (list_all (lies_within design kind) ps) (write_within design kind s p both.0)
    (writes_within design kind s ps both.1)

pub within_more : (design : Design) (kind : Kind) (blocks : List Block) (i : ℕ) (d : Block) → i < length blocks →
    IsTrue (list_all (lies_within design kind) (written_by (take i blocks))) →
    IsTrue (list_all (may_write design kind (get_or blocks i d).sort) (written_in (get_or blocks i d).body)) →
    IsTrue (list_all (lies_within design kind) (written_by (take (i + 1) blocks)))
within_more design kind blocks i d lt before here =
    subst (λ (l : List Part). IsTrue (list_all (lies_within design kind) l)) (sym (by_more blocks i d lt))
    (append_allowed (lies_within design kind) (written_by (take i blocks))
    (written_in (get_or blocks i d).body) before
    (writes_within design kind (get_or blocks i d).sort (written_in (get_or blocks i d).body) here))

-- what a sound block may write
pub block_writes : (design : Design) (kind : Kind) (blocks : List Block) (i : ℕ) (x : Block) (body : List St) →
    IsTrue (list_all (is_sound_block design kind) blocks) → i < length blocks → body ≡ (get_or blocks i x).body →
    ((s : Sight) → IsTrue (list_all (is_sound s) body) → IsTrue (list_all s.writes (written_in body))) →
    IsTrue (list_all (may_write design kind (get_or blocks i x).sort) (written_in (get_or blocks i x).body))
block_writes design kind blocks i x body sound lt is each =
    let block : Block = get_or blocks i x in
    let s : Sight = block_sight design kind block in
    let good : IsTrue (is_sound_block design kind block) =
    item_passes (is_sound_block design kind) blocks i block sound lt (get_or_default blocks i x block lt) in
    let fine = (and_parts (list_all (is_sound s) block.body) (progress_of 0 block.body).fine good).0 in
    subst (λ (l : List St). IsTrue (list_all s.writes (written_in l))) is
    (each s (subst (λ (l : List St). IsTrue (list_all (is_sound s) l)) (sym is) fine))

-- parts of ties
pub ties_within : (design : Design) (kind : Kind) (ts : List Tie)
    → IsTrue (list_all (λ t. lies_within design kind t.part) ts) →
    IsTrue (list_all (lies_within design kind) (map (λ t. t.part) ts))
ties_within design kind [] all = refl
ties_within design kind (t ∷ ts) all =
    let both = and_parts (lies_within design kind t.part) (list_all (λ t. lies_within design kind t.part) ts) all in
    and_from (lies_within design kind t.part) (list_all (lies_within design kind) (map (λ t. t.part) ts)) both.0
    (ties_within design kind ts both.1)

pub all_within : (design : Design) (kind : Kind) (parts : List Part) → parts ≡ driven_parts kind →
    IsTrue (list_all (λ t. lies_within design kind t.part) kind.ties) →
    IsTrue (list_all (lies_within design kind) (written_by kind.blocks))
    → IsTrue (list_all (lies_within design kind) parts)
all_within design kind parts is tied written =
    subst (λ (l : List Part). IsTrue (list_all (lies_within design kind) l)) (sym is)
    (append_allowed (lies_within design kind) (map (λ t. t.part) kind.ties) (written_by kind.blocks)
    (ties_within design kind kind.ties tied) written)
