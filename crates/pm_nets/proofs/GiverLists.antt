-- Givers that are looked at one after another.
use Rattle.std.proofs.Common.{◌≡◌, ◌∙◌, ◌+◌, ◌*◌, ◌<◌, ◌≤◌, ◌++◌, ℕ, List, [], ◌∷◌, length, take, get_or, map, flat_map}
use Rattle.std.proofs.Common.{Bool, Option, sym, ap, subst, arith}
use Rattle.std.specs.Prelude.{IsTrue}
use Rattle.std.specs.List.{list_all, range_with_len}
use Rattle.std.proofs.lemmas.Grind.{flat_map-append}
use Rattle.std.proofs.lemmas.List.{append-nil, take_more, take_all}
use Rattle.std.proofs.lemmas.List.FromFn.{map-range_with_len_more}
use Rattle.pm_instances.proofs.Numbers.{item_passes}
use Rattle.pm_nets.specs.declared.giver.Gift.{Gift}
use Rattle.pm_nets.specs.declared.giver.Giver.{Giver}
use Rattle.pm_nets.specs.Ends.{end_at}
use Rattle.pm_nets.specs.Givers.{Gives}
use Rattle.pm_nets.proofs.Ending.{end_below}
use Rattle.pm_nets.proofs.FirstGivers.{gives_append, gives_none}
use Rattle.pm_nets.proofs.Joined.{range_more}

pub bits_more : (f : ℕ → Giver) (leasts same : List ℕ) (first now new : List (Option Giver))
    (least found last : Option ℕ) (t : ℕ)
    (g : Giver) → same ≡ leasts → g ≡ f t → Gives leasts first now least found (map f (range_with_len 0 t)) →
    Gives same now new found last (g ∷ []) → Gives leasts first new least last (map f (range_with_len 0 (t + 1)))
bits_more f leasts same first now new least found last t g is at some one =
    subst (λ (l : List Giver). Gives leasts first new least last l)
    (sym (map-range_with_len_more f 0 t t (omega arith)))
    (gives_append leasts first now new least found last (map f (range_with_len 0 t)) (f t ∷ []) some
    (subst (λ (k : Giver). Gives leasts now new found last (k ∷ [])) at
    (subst (λ (l : List ℕ). Gives l now new found last (g ∷ [])) is one)))

pub bits_all : (f : ℕ → Giver) (leasts : List ℕ) (first now : List (Option Giver)) (least found : Option ℕ)
    (t width : ℕ) →
    width ≤ t → t ≤ width → Gives leasts first now least found (map f (range_with_len 0 t)) →
    Gives leasts first now least found (map f (range_with_len 0 width))
bits_all f leasts first now least found t width le ge gives =
    let e : t ≡ width = omega arith in
    subst (λ (n : ℕ). Gives leasts first now least found (map f (range_with_len 0 n))) e gives

pub no_bits : (f : ℕ → Giver) (leasts : List ℕ) (first : List (Option Giver)) (least : Option ℕ) →
    Gives leasts first first least least (map f (range_with_len 0 0))
no_bits f leasts first least = gives_none leasts first least

pub bit_below : (now leasts : List ℕ) (owner start width t n e : ℕ) → now ≡ leasts → t < width → start + width ≤ n →
    length leasts ≡ 2 * n → e ≡ end_at owner (start + t) → e < length now
bit_below now leasts owner start width t n e same lt le size is =
    let low : end_at owner (start + t) < 2 * n = end_below owner (start + t) n (omega arith) in
    let count : length now ≡ length leasts = ap length same in
    omega arith

pub ruleset bits_given = (no_bits, bit_below)

pub gift_more : (f : Gift → List Giver) (leasts same : List ℕ) (first now new : List (Option Giver))
    (least found last : Option ℕ)
    (xs : List Gift) (i : ℕ) (d : Gift) → same ≡ leasts → i < length xs →
    Gives leasts first now least found (flat_map f (take i xs)) → Gives same now new found last (f (get_or xs i d)) →
    Gives leasts first new least last (flat_map f (take (i + 1) xs))
gift_more f leasts same first now new least found last xs i d is lt some one =
    subst (λ (l : List Giver). Gives leasts first new least last l)
    (sym (ap (flat_map f) (take_more xs i d lt)
    ∙ (flat_map-append f (take i xs) (get_or xs i d ∷ [])
    ∙ ap (λ (l : List Giver). flat_map f (take i xs) ++ l) (append-nil (f (get_or xs i d))))))
    (gives_append leasts first now new least found last (flat_map f (take i xs)) (f (get_or xs i d)) some
    (subst (λ (l : List ℕ). Gives l now new found last (f (get_or xs i d))) is one))

pub gifts_all : (f : Gift → List Giver) (leasts : List ℕ) (first now : List (Option Giver)) (least found : Option ℕ)
    (xs : List Gift) (i : ℕ) → length xs ≤ i → Gives leasts first now least found (flat_map f (take i xs)) →
    Gives leasts first now least found (flat_map f xs)
gifts_all f leasts first now least found xs i le gives =
    subst (λ (l : List Gift). Gives leasts first now least found (flat_map f l)) (take_all i xs le) gives

pub gift_passes : (test : Gift → Bool) (xs : List Gift) (i : ℕ) (x : Gift) → IsTrue (list_all test xs) → i < length xs →
    x ≡ get_or xs i x → IsTrue (test x)
gift_passes test xs i x all lt is = item_passes test xs i x all lt is

pub ruleset gifts_given = (gifts_all, gives_none, gift_passes)

pub instances_more : (f : ℕ → List Giver) (leasts same : List ℕ) (first now new : List (Option Giver))
    (least found last : Option ℕ)
    (i : ℕ) → same ≡ leasts → Gives leasts first now least found (flat_map f (range_with_len 0 i)) →
    Gives same now new found last (f i) → Gives leasts first new least last (flat_map f (range_with_len 0 (i + 1)))
instances_more f leasts same first now new least found last i is some one =
    subst (λ (l : List Giver). Gives leasts first new least last l) (sym (range_more f i))
    (gives_append leasts first now new least found last (flat_map f (range_with_len 0 i)) (f i) some
    (subst (λ (l : List ℕ). Gives l now new found last (f i)) is one))

pub instances_all : (f : ℕ → List Giver) (leasts : List ℕ) (first now : List (Option Giver)) (least found : Option ℕ)
    (i n count : ℕ) → n ≤ i → i ≤ n → n ≡ count → Gives leasts first now least found (flat_map f (range_with_len 0 i)) →
    Gives leasts first now least found (flat_map f (range_with_len 0 count))
instances_all f leasts first now least found i n count le ge is gives =
    let e : i ≡ count = omega arith in
    subst (λ (k : ℕ). Gives leasts first now least found (flat_map f (range_with_len 0 k))) e gives
