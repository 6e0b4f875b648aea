-- The equations of `typing`, one for each form of expression.
use Rattle.std.proofs.Common.{◌≡◌, ◌∙◌, ◌+◌, ◌^◌, ◌==◌, ◌&&◌, ℕ, List, map, sym, ap, length, nat_lt, nat_le}
use Rattle.std.specs.Prelude.{slice_index_or}
use Rattle.std.specs.List.{list_all}
use Rattle.pm_bits.specs.Word.{Word}
use Rattle.pm_bits.specs.declared.operator.Op.{Op}
use Rattle.pm_bits.specs.declared.operator.Fold.{Fold}
use Rattle.pm_design.specs.declared.connection.Callee.{Callee}
use Rattle.pm_design.specs.declared.connection.Part.{Part}
use Rattle.pm_design.specs.declared.body.Ex.{Ex, Ex-F, fold-roll-Ex}
use Rattle.pm_design.specs.declared.body.Ex.TheVariants as ex
use Rattle.pm_design.specs.Typing.{Sight, Typing, typing, typing_step, typed, result_width, element_width, are_elements, state_of, is_number, is_deque}
use Rattle.pm_design.specs.Widths.{total, is_width, log_of}

pub typing_const : (s : Sight) (c : Word) → typing s (ex.Const c) ≡ (typed (is_width c.width && nat_lt c.value (2 ^ c.width)) c.width)
unfolding typing
typing_const s c = ap (typing s) (sym (ex.rolls-Const c)) ∙ fold-roll-Ex Typing (typing_step s) (Ex-F.Const c)

pub typing_get : (s : Sight) (p : Part) → typing s (ex.Get p) ≡ (typed (s.reads p) p.width)
unfolding typing
typing_get s p = ap (typing s) (sym (ex.rolls-Get p)) ∙ fold-roll-Ex Typing (typing_step s) (Ex-F.Get p)

pub typing_temp : (s : Sight) (t : ℕ) (lo : ℕ) (n : ℕ) → typing s (ex.Temp t lo n) ≡ (typed (nat_lt t (length s.temps) && (nat_lt 0 n && nat_le (lo + n) (slice_index_or s.temps t 0))) n)
unfolding typing
typing_temp s t lo n = ap (typing s) (sym (ex.rolls-Temp t lo n)) ∙ fold-roll-Ex Typing (typing_step s) (Ex-F.Temp t lo n)

pub typing_pick : (s : Sight) (i : Ex) (ps : List Part) → typing s (ex.Pick i ps) ≡ (typed ((typing s i).fine && (nat_lt 0 (length ps) && are_elements s.reads (typing s i).width (element_width ps) ps)) (element_width ps))
unfolding typing
typing_pick s i ps = ap (typing s) (sym (ex.rolls-Pick i ps)) ∙ fold-roll-Ex Typing (typing_step s) (Ex-F.Pick i ps)

pub typing_number : (s : Sight) (k : ℕ) → typing s (ex.Number k) ≡ (typed (is_number s k) (state_of s k).width)
unfolding typing
typing_number s k = ap (typing s) (sym (ex.rolls-Number k)) ∙ fold-roll-Ex Typing (typing_step s) (Ex-F.Number k)

pub typing_count : (s : Sight) (k : ℕ) → typing s (ex.Count k) ≡ (typed (is_deque s 0 k) (log_of ((state_of s k).maxlen + 1)))
unfolding typing
typing_count s k = ap (typing s) (sym (ex.rolls-Count k)) ∙ fold-roll-Ex Typing (typing_step s) (Ex-F.Count k)

pub typing_item : (s : Sight) (k : ℕ) (i : ℕ) → typing s (ex.Item k i) ≡ (typed (is_deque s i k) (state_of s k).width)
unfolding typing
typing_item s k i = ap (typing s) (sym (ex.rolls-Item k i)) ∙ fold-roll-Ex Typing (typing_step s) (Ex-F.Item k i)

pub typing_last : (s : Sight) (k : ℕ) → typing s (ex.Last k) ≡ (typed (is_deque s 0 k) (state_of s k).width)
unfolding typing
typing_last s k = ap (typing s) (sym (ex.rolls-Last k)) ∙ fold-roll-Ex Typing (typing_step s) (Ex-F.Last k)

pub typing_ready : (s : Sight) (m : Callee) → typing s (ex.Ready m) ≡ (typed (s.calls m).there 1)
unfolding typing
typing_ready s m = ap (typing s) (sym (ex.rolls-Ready m)) ∙ fold-roll-Ex Typing (typing_step s) (Ex-F.Ready m)

pub typing_not : (s : Sight) (a : Ex) → typing s (ex.Not a) ≡ ((typing s a))
unfolding typing
typing_not s a = ap (typing s) (sym (ex.rolls-Not a)) ∙ fold-roll-Ex Typing (typing_step s) (Ex-F.Not a)

pub typing_fold : (s : Sight) (f : Fold) (a : Ex) → typing s (ex.Fold f a) ≡ (typed (typing s a).fine 1)
unfolding typing
typing_fold s f a = ap (typing s) (sym (ex.rolls-Fold f a)) ∙ fold-roll-Ex Typing (typing_step s) (Ex-F.Fold f a)

pub typing_bin : (s : Sight) (op : Op) (a : Ex) (b : Ex) → typing s (ex.Bin op a b) ≡ (typed ((typing s a).fine && ((typing s b).fine && (typing s a).width == (typing s b).width)) (result_width op (typing s a).width))
unfolding typing
typing_bin s op a b = ap (typing s) (sym (ex.rolls-Bin op a b)) ∙ fold-roll-Ex Typing (typing_step s) (Ex-F.Bin op a b)

pub typing_cat : (s : Sight) (es : List Ex) → typing s (ex.Cat es) ≡ (let width = total (map (λ e. e.width) (map (typing s) es)) in typed (list_all (λ e. e.fine) (map (typing s) es) && (nat_lt 0 (length (map (typing s) es)) && nat_le width 128)) width)
unfolding typing
typing_cat s es = ap (typing s) (sym (ex.rolls-Cat es)) ∙ fold-roll-Ex Typing (typing_step s) (Ex-F.Cat es)

pub typing_zext : (s : Sight) (a : Ex) (n : ℕ) → typing s (ex.Zext a n) ≡ (typed ((typing s a).fine && (nat_le (typing s a).width n && nat_le n 128)) n)
unfolding typing
typing_zext s a n = ap (typing s) (sym (ex.rolls-Zext a n)) ∙ fold-roll-Ex Typing (typing_step s) (Ex-F.Zext a n)

pub typing_sext : (s : Sight) (a : Ex) (n : ℕ) → typing s (ex.Sext a n) ≡ (typed ((typing s a).fine && (nat_le (typing s a).width n && nat_le n 128)) n)
unfolding typing
typing_sext s a n = ap (typing s) (sym (ex.rolls-Sext a n)) ∙ fold-roll-Ex Typing (typing_step s) (Ex-F.Sext a n)

pub typing_trunc : (s : Sight) (a : Ex) (n : ℕ) → typing s (ex.Trunc a n) ≡ (typed ((typing s a).fine && (nat_lt 0 n && nat_le n (typing s a).width)) n)
unfolding typing
typing_trunc s a n = ap (typing s) (sym (ex.rolls-Trunc a n)) ∙ fold-roll-Ex Typing (typing_step s) (Ex-F.Trunc a n)

pub typing_cond : (s : Sight) (c : Ex) (a : Ex) (b : Ex) → typing s (ex.Cond c a b) ≡ (typed ((typing s c).fine && ((typing s a).fine && ((typing s b).fine && (typing s a).width == (typing s b).width))) (typing s a).width)
unfolding typing
typing_cond s c a b = ap (typing s) (sym (ex.rolls-Cond c a b)) ∙ fold-roll-Ex Typing (typing_step s) (Ex-F.Cond c a b)

-- all of them
pub ruleset typing_equations = (typing_const, typing_get, typing_temp, typing_pick, typing_number, typing_count, typing_item, typing_last, typing_ready, typing_not, typing_fold, typing_bin, typing_cat, typing_zext, typing_sext, typing_trunc, typing_cond)
