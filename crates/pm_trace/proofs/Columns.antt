-- The text of ports, one after another.
use Rattle.std.proofs.Common.{◌≡◌, ◌∙◌, ◌<◌, ◌+◌, ◌-◌, ◌*◌, ◌/◌, ◌%◌, ◌^◌, ◌++◌, ℕ, zero, suc, List, ◌∷◌, length, drop, get_or, refl, ap, ap₂, sym, append_assoc, drop-cons, add-one, arith}
use Rattle.std.specs.Prelude.{slice_index, codes, Option}
use Rattle.pm_bits.specs.Word.{Word}
use Rattle.pm_io.specs.Buffering.{Queues}
use Rattle.pm_io.specs.declared.sink.Put.{Put}
use Rattle.pm_io.specs.declared.sink.Put.TheVariants as put
use Rattle.pm_io.proofs.Waiting.{queues_on, queues_in_longer}
use Rattle.pm_trace.specs.Trace.{hex_digits, name_text, names_text, value_text, values_text}

-- the names from one index on begin with that one
pub names_text-drop : (names : List (List ℕ)) (index : ℕ) (name : List ℕ) → index < length names
    → name ≡ get_or names index name
    → names_text (drop index names) ≡ name_text name ++ names_text (drop (index + 1) names)
names_text-drop names index name within is =
    ap names_text (drop-cons names index name within)
    ∙ ap₂ (λ (s : List ℕ) (n : ℕ). name_text s ++ names_text (drop n names)) (sym is) (sym (add-one index))

-- the values from one index on begin with that one
pub values_text-drop : (values : List Word) (index : ℕ) (value : Word) → index < length values
    → value ≡ get_or values index value
    → values_text (drop index values) ≡ value_text value ++ values_text (drop (index + 1) values)
values_text-drop values index value within is =
    ap values_text (drop-cons values index value within)
    ∙ ap₂ (λ (s : Word) (n : ℕ). value_text s ++ values_text (drop n values)) (sym is) (sym (add-one index))

-- the digits begin with the highest one
pub hex_digits-next : (left number : ℕ) → 0 < left
    → hex_digits left number ≡ slice_index (codes "0123456789abcdef")
    (number / 2 ^ (4 * (left - 1)) % 16) ∷ hex_digits (left - 1) number
hex_digits-next zero number some = absurd (omega arith)
hex_digits-next (suc n) number some =
    let less : n ≡ suc n - 1 = omega arith in
    ap (λ (k : ℕ). slice_index (codes "0123456789abcdef") (number / 2 ^ (4 * k) % 16) ∷ hex_digits k number) less

-- one more part is done, of a text that is done part by part
pub goes_on : (done part rest rest' whole : List ℕ) → done ++ rest ≡ whole → rest ≡ part ++ rest'
    → (done ++ part) ++ rest' ≡ whole
goes_on done part rest rest' whole is splits = append_assoc done part rest'
    ∙ (ap (λ (xs : List ℕ). done ++ xs) (sym splits) ∙ is)

-- a text was queued, and with the rest it makes the whole
abbrev pub Queued : Option (List ℕ) → Option (List ℕ) → List ℕ → List ℕ → List ℕ → List ℕ → Type 0
Queued old now waiting waiting' rest whole = (text : List ℕ) × Queues old now waiting waiting' text put.All
    × (text ++ rest ≡ whole)

-- the rest begins with a part, which was queued too
pub queued_more : (old mid new : Option (List ℕ)) (waiting waiting' waiting'' part rest rest' whole : List ℕ)
    → Queued old mid waiting waiting' rest whole
    → rest ≡ part ++ rest' → Queues mid new waiting' waiting'' part put.All
    → Queued old new waiting waiting'' rest' whole
queued_more old mid new waiting waiting' waiting'' part rest rest' whole done splits more = (
  done.0 ++ part,
  queues_on old mid new waiting waiting' waiting'' done.0 part
      (done.0 ++ part) put.All refl done.1 more,
  goes_on done.0 part rest rest' whole done.2 splits,
)

-- the rest begins with a part, of which a prefix may have gone out
pub queued_failed : (old mid new : Option (List ℕ)) (waiting waiting' waiting'' part rest rest' whole : List ℕ)
    → Queued old mid waiting waiting' rest whole
    → rest ≡ part ++ rest' → Queues mid new waiting' waiting'' part put.Failed
    → Queues old new waiting waiting'' whole put.Failed
queued_failed old mid new waiting waiting' waiting'' part rest rest' whole done splits more =
    queues_in_longer old new waiting waiting'' waiting'' (done.0 ++ part) rest' whole
    (sym (goes_on done.0 part rest rest' whole done.2 splits))
    (queues_on old mid new waiting waiting' waiting'' done.0 part (done.0 ++ part) put.Failed refl done.1 more)

-- a line of three parts, of which the first failed, the second failed, or two are queued
pub line_at_first : (old new : Option (List ℕ)) (waiting waiting' a b d whole : List ℕ) → whole ≡ (a ++ b) ++ d
    → Queues old new waiting waiting' a put.Failed → Queues old new waiting waiting' whole put.Failed
line_at_first old new waiting waiting' a b d whole is one =
    queues_in_longer old new waiting waiting' waiting' a (b ++ d) whole (is ∙ append_assoc a b d) one

pub line_at_second : (old mid new : Option (List ℕ)) (waiting waiting' waiting'' a b d whole : List ℕ)
    → whole ≡ (a ++ b) ++ d
    → Queues old mid waiting waiting' a put.All → Queues mid new waiting' waiting'' b put.Failed
    → Queues old new waiting waiting'' whole put.Failed
line_at_second old mid new waiting waiting' waiting'' a b d whole is one two =
    queues_in_longer old new waiting waiting'' waiting'' (a ++ b) d whole is
    (queues_on old mid new waiting waiting' waiting'' a b (a ++ b) put.Failed refl one two)

pub line_at_third : (old mid late new : Option (List ℕ)) (waiting waiting' waiting'' waiting''' a b d whole : List ℕ)
    (result : Put) → whole ≡ (a ++ b) ++ d
    → Queues old mid waiting waiting' a put.All → Queues mid late waiting' waiting'' b put.All
    → Queues late new waiting'' waiting''' d result
    → Queues old new waiting waiting''' whole result
line_at_third old mid late new waiting waiting' waiting'' waiting''' a b d whole result is one two three =
    queues_on old late new waiting waiting'' waiting''' (a ++ b) d whole result is
    (queues_on old mid late waiting waiting' waiting'' a b (a ++ b) put.All refl one two) three
