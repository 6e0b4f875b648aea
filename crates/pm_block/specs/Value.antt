-- The value of an expression, under a naming of its bits and states.
use Rattle.std.specs.Prelude.{ℕ, zero, suc, ◌+◌, ◌-◌, ◌==◌, nat_lt, if◌then◌else◌, List, [], ◌∷◌, length, slice_index_or, Option, None, Some}
use Rattle.pm_bits.specs.Word.{Word}
use Rattle.pm_bits.specs.Bitwise.{complement_of}
use Rattle.pm_bits.specs.Operator.{result_of, folding_of}
use Rattle.pm_bits.specs.Parts.{slice_of, concatenation_of, zero_extension_of, sign_extension_of, truncation_of}
use Rattle.pm_design.specs.declared.body.Ex.{Ex, Ex-F, fold-Ex}
use Rattle.pm_design.specs.declared.connection.Callee.{Callee}
use Rattle.pm_design.specs.declared.connection.Part.{Part}
use Rattle.pm_design.specs.Calls.{Target}
use Rattle.pm_design.specs.Typing.{Holding, element_width}
use Rattle.pm_design.specs.Widths.{log_of}
use Rattle.pm_block.specs.Places.{Valuation, Items, word_at}

-- which place an owner's signal's bit is
abbrev pub Names : Type 0
Names = ℕ → ℕ → ℕ → ℕ

-- what a body's names of bits and of states are: a place, a state object, and what that holds
pub record Frame : Type 0 where
  pub names : Names
  pub object : ℕ → ℕ
  pub holding : ℕ → Holding

-- the word of each temporary
abbrev pub Temporaries : Type 0
Temporaries = ℕ → Word

-- 0 at a width
abbrev pub zero_word : ℕ → Word
zero_word width = record { width = width; value = 0 }

-- the places of a part's bits
abbrev pub places_of : Names → Part → ℕ → ℕ
places_of names p i = names p.owner p.signal (p.lo + i)

-- the word of a part
abbrev pub part_word : Names → Valuation → Part → Word
part_word names v p = word_at (places_of names p) p.width v

-- a part without bits
abbrev pub no_part : Part
no_part = record { owner = 0; signal = 0; lo = 0; width = 0 }

-- the word of the part that an index picks, and 0 past the end
abbrev pub picked_word : Names → Valuation → List Part → ℕ → Word
picked_word names v ps i =
    if nat_lt i (length ps) then part_word names v (slice_index_or ps i no_part) else zero_word (element_width ps)

-- an item of a state, and 0 past the end
abbrev pub item_of : Frame → Items → ℕ → ℕ → Word
item_of frame items k i = slice_index_or (items (frame.object k)) i (zero_word (frame.holding k).width)

-- how many items a deque has
abbrev pub count_of : Frame → Items → ℕ → ℕ
count_of frame items k = length (items (frame.object k))

-- a word, and others below it in turn
abbrev pub joined : Word → List Word → Word
joined w [] = w
joined w (low ∷ ws) = joined (concatenation_of w low) ws

-- words in one, the first most significant
abbrev pub concatenated : List Word → Word
concatenated [] = zero_word 0
concatenated (w ∷ ws) = joined w ws

-- the value of a node, once each operand has its value, and with the guards' values
abbrev pub value_step : (Callee → Word) → Frame → Valuation → Items → Temporaries → Ex-F Word → Word
value_step ready frame v items temps (Ex-F.Const c) = c
value_step ready frame v items temps (Ex-F.Get p) = part_word frame.names v p
value_step ready frame v items temps (Ex-F.Temp t lo n) = slice_of (temps t) lo (lo + n)
value_step ready frame v items temps (Ex-F.Pick i ps) = picked_word frame.names v ps i.value
value_step ready frame v items temps (Ex-F.Number k) = item_of frame items k 0
value_step ready frame v items temps (Ex-F.Count k) =
    record { width = log_of ((frame.holding k).maxlen + 1); value = count_of frame items k }
value_step ready frame v items temps (Ex-F.Item k i) = item_of frame items k i
value_step ready frame v items temps (Ex-F.Last k) = item_of frame items k (count_of frame items k - 1)
value_step ready frame v items temps (Ex-F.Ready m) = ready m
value_step ready frame v items temps (Ex-F.Not a) = complement_of a
value_step ready frame v items temps (Ex-F.Fold f a) = folding_of f a
value_step ready frame v items temps (Ex-F.Bin op a b) = result_of op a b
value_step ready frame v items temps (Ex-F.Cat es) = concatenated es
value_step ready frame v items temps (Ex-F.Zext a n) = zero_extension_of a n
value_step ready frame v items temps (Ex-F.Sext a n) = sign_extension_of a n
value_step ready frame v items temps (Ex-F.Trunc a n) = truncation_of a n
value_step ready frame v items temps (Ex-F.Cond c a b) = if c.value == 0 then b else a

-- the value of an expression
unfoldable pub value : (Callee → Word) → Frame → Valuation → Items → Temporaries → Ex → Word
value ready frame v items temps = fold-Ex Word (value_step ready frame v items temps)

-- the frames of all instances, what their calls lead to, and how long a chain of calls may be
pub record World : Type 0 where
  pub frames : ℕ → Frame
  pub leads : ℕ → Callee → Target
  pub levels : ℕ

-- no temporary
abbrev pub no_temps : Temporaries
no_temps t = zero_word 0

-- a guard's value as one bit, and 1 where there is none
abbrev pub guard_word : (Ex → Word) → Option Ex → Word
guard_word value_in None = record { width = 1; value = 1 }
guard_word value_in (Some e) = value_in e

-- whether what a callee leads to is ready, with guards within guards through so many levels
abbrev pub ready_to : ℕ → World → ℕ → Valuation → Items → Callee → Word
ready_to zero world i v items m = zero_word 1
ready_to (suc levels) world i v items m =
    let target = world.leads i m in
    guard_word (value (ready_to levels world target.instance v items) (world.frames target.instance) v items no_temps)
    target.method.guard
