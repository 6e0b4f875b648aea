-- The values of places, and the words that are in some of them.
use Rattle.std.specs.Prelude.{ℕ, zero, suc, ◌+◌, ◌*◌, ◌^◌, ◌==◌, if◌then◌else◌, Bool, List, [], take, drop, slice_index_or, slice_set}
use Rattle.std.specs.List.{list_all}
use Rattle.pm_bits.specs.Word.{Word, bit_of}

-- a value, 0 or 1, for each net
abbrev pub Valuation : Type 0
Valuation = ℕ → ℕ

-- the number whose n low bits are in these nets
unfoldable pub number_at : (ℕ → ℕ) → ℕ → Valuation → ℕ
number_at place zero v = 0
number_at place (suc n) v = number_at place n v + v (place n) * 2 ^ n

-- the word whose bits are in these nets
abbrev pub word_at : (ℕ → ℕ) → ℕ → Valuation → Word
word_at place n v = record { width = n; value = number_at place n v }

-- another value in one net
abbrev pub put : ℕ → ℕ → Valuation → Valuation
put p x v q = if q == p then x else v q

-- a word's n low bits in these nets
unfoldable pub put_at : (ℕ → ℕ) → ℕ → Word → Valuation → Valuation
put_at place zero w v = v
put_at place (suc n) w v = put (place n) (bit_of w n) (put_at place n w v)

-- what is held of a state: a word for each item that it may have, of which the first are there
pub record Held : Type 0 where
  pub count : ℕ
  pub slots : List Word

-- what is held of a state that isn't there
abbrev pub no_held : Held
no_held = record { count = 0; slots = [] }

-- what is held of one of the states
abbrev pub held_of : List Held → ℕ → Held
held_of held k = slice_index_or held k no_held

-- the word in a slot of a state
abbrev pub slot_of : List Held → ℕ → ℕ → Word
slot_of held k slot = slice_index_or (held_of held k).slots slot (record { width = 0; value = 0 })

-- another word in a slot of a state
abbrev pub with_slot : List Held → ℕ → ℕ → Word → List Held
with_slot held k slot w =
    let state : Held = held_of held k in
    slice_set held k (record { count = state.count; slots = slice_set state.slots slot w })

-- another count of a state
abbrev pub with_count : List Held → ℕ → ℕ → List Held
with_count held k count = slice_set held k (record { count = count; slots = (held_of held k).slots })

-- every slot past its state's count is 0
abbrev pub is_tidy : List Held → Bool
is_tidy held = list_all (λ state. list_all (λ w. w.value == 0) (drop state.count state.slots)) held

-- the words of each state object: a number's one word, or a deque's items from the left
abbrev pub Items : Type 0
Items = ℕ → List Word

-- the words that are held
abbrev pub items_of : List Held → Items
items_of held k = take (held_of held k).count (held_of held k).slots
