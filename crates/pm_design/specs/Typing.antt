-- Which expressions and statements are sound, and how wide values are.
use Rattle.std.specs.Prelude.{ℕ, ◌+◌, ◌^◌, ◌==◌, ◌&&◌, Bool, true, false, nat_lt, nat_le, bytes_eq, List, [], ◌∷◌, map, length, slice_index_or, Option, None, Some}
use Rattle.std.specs.List.{list_all}
use Rattle.pm_bits.specs.declared.operator.Op.{Op}
use Rattle.pm_bits.specs.declared.operator.Op.TheVariants as operator
use Rattle.pm_design.specs.declared.body.Ex.{Ex, Ex-F, fold-Ex}
use Rattle.pm_design.specs.declared.body.St.{St, St-F, fold-St}
use Rattle.pm_design.specs.declared.connection.Callee.{Callee}
use Rattle.pm_design.specs.declared.connection.Part.{Part}
use Rattle.pm_design.specs.Lookups.{Signature}
use Rattle.pm_design.specs.Widths.{total, is_width, log_of}

-- the width of a state, and how many items it holds at most, or 0 if it is a number
pub record Holding : Type 0 where
  pub width : ℕ
  pub maxlen : ℕ

-- what a body may name: parts to read and to write, states, methods, temporaries; and if it may change states
pub record Sight : Type 0 where
  pub reads : Part → Bool
  pub writes : Part → Bool
  pub states : List Holding
  pub changes : Bool
  pub calls : Callee → Signature
  pub temps : List ℕ

-- whether an expression is sound, and how wide its value is
pub record Typing : Type 0 where
  pub fine : Bool
  pub width : ℕ

-- a typing
abbrev pub typed : Bool → ℕ → Typing
typed fine width = record { fine = fine; width = width }

-- the width of an operator's result, by the operands' width
abbrev pub result_width : Op → ℕ → ℕ
result_width operator.Add n = n
result_width operator.Sub n = n
result_width operator.Mul n = n
result_width operator.And n = n
result_width operator.Or n = n
result_width operator.Xor n = n
result_width operator.Shl n = n
result_width operator.Shr n = n
result_width operator.Eq n = 1
result_width operator.Ne n = 1
result_width operator.Lt n = 1
result_width operator.Le n = 1
result_width operator.Gt n = 1
result_width operator.Ge n = 1

-- the width of the elements of a list of parts
abbrev pub element_width : List Part → ℕ
element_width [] = 0
element_width (p ∷ ps) = p.width

-- a list of parts of one width, each of them allowed, whose places fit an index of some bits
abbrev pub are_elements : (Part → Bool) → ℕ → ℕ → List Part → Bool
are_elements allowed bits width ps = nat_le (length ps) (2 ^ bits) && list_all (λ p. allowed p && p.width == width) ps

-- the state of a number, and one of width 0 past the end
abbrev pub state_of : Sight → ℕ → Holding
state_of s k = slice_index_or s.states k (record { width = 0; maxlen = 0 })

-- a state that is a number
abbrev pub is_number : Sight → ℕ → Bool
is_number s k = nat_lt k (length s.states) && (state_of s k).maxlen == 0

-- a state that is a deque of more items than the given number
abbrev pub is_deque : Sight → ℕ → ℕ → Bool
is_deque s items k = nat_lt k (length s.states) && nat_lt items (state_of s k).maxlen

-- a temporary of a width
abbrev pub is_temp : Sight → ℕ → ℕ → Bool
is_temp s width t = nat_lt t (length s.temps) && slice_index_or s.temps t 0 == width

-- the typing of a node, once each operand has its typing
abbrev pub typing_step : Sight → Ex-F Typing → Typing
typing_step s (Ex-F.Const c) = typed (is_width c.width && nat_lt c.value (2 ^ c.width)) c.width
typing_step s (Ex-F.Get p) = typed (s.reads p) p.width
typing_step s (Ex-F.Temp t lo n) =
    typed (nat_lt t (length s.temps) && (nat_lt 0 n && nat_le (lo + n) (slice_index_or s.temps t 0))) n
typing_step s (Ex-F.Pick i ps) =
    typed (i.fine && (nat_lt 0 (length ps) && are_elements s.reads i.width (element_width ps) ps)) (element_width ps)
typing_step s (Ex-F.Number k) = typed (is_number s k) (state_of s k).width
typing_step s (Ex-F.Count k) = typed (is_deque s 0 k) (log_of ((state_of s k).maxlen + 1))
typing_step s (Ex-F.Item k i) = typed (is_deque s i k) (state_of s k).width
typing_step s (Ex-F.Last k) = typed (is_deque s 0 k) (state_of s k).width
typing_step s (Ex-F.Ready m) = typed (s.calls m).there 1
typing_step s (Ex-F.Not a) = a
typing_step s (Ex-F.Fold f a) = typed a.fine 1
typing_step s (Ex-F.Bin op a b) = typed (a.fine && (b.fine && a.width == b.width)) (result_width op a.width)
typing_step s (Ex-F.Cat es) =
    let width = total (map (λ e. e.width) es) in
    typed (list_all (λ e. e.fine) es && (nat_lt 0 (length es) && nat_le width 128)) width
typing_step s (Ex-F.Zext a n) = typed (a.fine && (nat_le a.width n && nat_le n 128)) n
typing_step s (Ex-F.Sext a n) = typed (a.fine && (nat_le a.width n && nat_le n 128)) n
typing_step s (Ex-F.Trunc a n) = typed (a.fine && (nat_lt 0 n && nat_le n a.width)) n
typing_step s (Ex-F.Cond c a b) = typed (c.fine && (a.fine && (b.fine && a.width == b.width))) a.width

-- whether an expression is sound, and how wide its value is
unfoldable pub typing : Sight → Ex → Typing
typing s = fold-Ex Typing (typing_step s)

-- a sound expression of a width
abbrev pub has_width : Sight → ℕ → Ex → Bool
has_width s width e = (typing s e).fine && (typing s e).width == width

-- a temporary for an answer, if one is named
abbrev pub takes_answer : Sight → Option ℕ → Option ℕ → Bool
takes_answer s answer None = true
takes_answer s None (Some t) = false
takes_answer s (Some width) (Some t) = is_temp s width t

-- the widths of sound expressions
abbrev pub have_widths : Sight → List ℕ → List Ex → Bool
have_widths s widths es = list_all (λ e. (typing s e).fine) es && bytes_eq (map (λ e. (typing s e).width) es) widths

-- whether a statement is sound, once it is known of its parts
abbrev pub is_sound_step : Sight → St-F Bool → Bool
is_sound_step s (St-F.Set p e) = s.writes p && has_width s p.width e
is_sound_step s (St-F.SetPick i ps e) =
    (typing s i).fine && ((typing s e).fine && are_elements s.writes (typing s i).width (typing s e).width ps)
is_sound_step s (St-F.SetTemp t e) = (typing s e).fine && is_temp s (typing s e).width t
is_sound_step s (St-F.SetNumber k e) = s.changes && (is_number s k && has_width s (state_of s k).width e)
is_sound_step s (St-F.Push k side e) = s.changes && (is_deque s 0 k && has_width s (state_of s k).width e)
is_sound_step s (St-F.Pop k side target) =
    s.changes && (is_deque s 0 k && takes_answer s (Some (state_of s k).width) target)
is_sound_step s (St-F.Clear k) = s.changes && is_deque s 0 k
is_sound_step s (St-F.Call m es target) =
    s.changes && ((s.calls m).there && (have_widths s (s.calls m).arguments es && takes_answer s (s.calls m).answer target))
is_sound_step s (St-F.If c xs ys) = (typing s c).fine && (list_all (λ b. b) xs && list_all (λ b. b) ys)

-- whether a statement is sound
unfoldable pub is_sound : Sight → St → Bool
is_sound s = fold-St Bool (is_sound_step s)
