-- Values fit their widths.
use Rattle.std.specs.Prelude.{◌≡◌, ℕ, ◌+◌, ◌<◌, ◌≤◌, IsTrue, slice_index_or, length}
use Rattle.pm_bits.specs.Word.{Word, IsWord}
use Rattle.pm_design.specs.declared.body.Ex.{Ex}
use Rattle.pm_design.specs.declared.connection.Callee.{Callee}
use Rattle.pm_design.specs.declared.connection.Part.{Part}
use Rattle.pm_design.specs.Typing.{Sight, is_deque, state_of, typing}
use Rattle.pm_design.specs.Widths.{is_width, log_of}
use Rattle.pm_block.specs.Places.{Valuation, Items}
use Rattle.pm_block.specs.Value.{Frame, Temporaries, count_of, item_of, value}

-- a word of the given width
pub record HasWidth (w : Word) (width : ℕ) : Type 0 where
  pub word : IsWord w
  pub wide : w.width ≡ width

-- nets are 0 or 1; temporaries, items, counts and guards have the widths that a body expects
pub record IsExpected (s : Sight) (ready : Callee → Word) (frame : Frame) (v : Valuation) (items : Items) (temps : Temporaries) : Type 0 where
  pub bits : (net : ℕ) → v net ≤ 1
  pub parts : (p : Part) → IsTrue (s.reads p) → IsTrue (is_width p.width)
  pub temporaries : (t : ℕ) → t < length s.temps → HasWidth (temps t) (slice_index_or s.temps t 0)
  pub states : (k i : ℕ) → k < length s.states → HasWidth (item_of frame items k i) (state_of s k).width
  pub holdings : (k : ℕ) → k < length s.states → frame.holding k ≡ state_of s k
  pub counts : (k : ℕ) → IsTrue (is_deque s 0 k) → HasWidth (record { width = log_of ((state_of s k).maxlen + 1); value = count_of frame items k }) (log_of ((state_of s k).maxlen + 1))
  pub guards : (m : Callee) → IsTrue (s.calls m).there → HasWidth (ready m) 1

-- the value of a sound expression fits its width
abbrev pub ValueFits : Type 0
ValueFits =
    (s : Sight) (ready : Callee → Word) (frame : Frame) (v : Valuation) (items : Items) (temps : Temporaries) (e : Ex)
    → IsExpected s ready frame v items temps → IsTrue (typing s e).fine → HasWidth (value ready frame v items temps e) (typing s e).width
