-- The equations of `value`, one for each form of expression.
use Rattle.std.proofs.Common.{◌≡◌, ◌∙◌, ◌+◌, ◌-◌, ◌==◌, ℕ, List, map, sym, ap}
use Rattle.std.specs.Prelude.{if◌then◌else◌}
use Rattle.pm_bits.specs.Word.{Word}
use Rattle.pm_bits.specs.declared.operator.Op.{Op}
use Rattle.pm_bits.specs.declared.operator.Fold.{Fold}
use Rattle.pm_design.specs.declared.connection.Callee.{Callee}
use Rattle.pm_design.specs.declared.connection.Part.{Part}
use Rattle.pm_design.specs.declared.body.Ex.{Ex, Ex-F, fold-roll-Ex}
use Rattle.pm_design.specs.declared.body.Ex.TheVariants as ex
use Rattle.pm_bits.specs.Bitwise.{complement_of}
use Rattle.pm_bits.specs.Operator.{result_of, folding_of}
use Rattle.pm_bits.specs.Parts.{slice_of, zero_extension_of, sign_extension_of, truncation_of}
use Rattle.pm_design.specs.Widths.{log_of}
use Rattle.pm_block.specs.Places.{Valuation, Items}
use Rattle.pm_block.specs.Value.{Frame, Temporaries, value, value_step, part_word, picked_word, item_of, count_of, concatenated}

pub value_const : (ready : Callee → Word) (frame : Frame) (v : Valuation) (items : Items) (temps : Temporaries) (c : Word) → value ready frame v items temps (ex.Const c) ≡ (c)
unfolding value
value_const ready frame v items temps c = ap (value ready frame v items temps) (sym (ex.rolls-Const c)) ∙ fold-roll-Ex Word (value_step ready frame v items temps) (Ex-F.Const c)

pub value_get : (ready : Callee → Word) (frame : Frame) (v : Valuation) (items : Items) (temps : Temporaries) (p : Part) → value ready frame v items temps (ex.Get p) ≡ (part_word frame.names v p)
unfolding value
value_get ready frame v items temps p = ap (value ready frame v items temps) (sym (ex.rolls-Get p)) ∙ fold-roll-Ex Word (value_step ready frame v items temps) (Ex-F.Get p)

pub value_temp : (ready : Callee → Word) (frame : Frame) (v : Valuation) (items : Items) (temps : Temporaries) (t : ℕ) (lo : ℕ) (n : ℕ) → value ready frame v items temps (ex.Temp t lo n) ≡ (slice_of (temps t) lo (lo + n))
unfolding value
value_temp ready frame v items temps t lo n = ap (value ready frame v items temps) (sym (ex.rolls-Temp t lo n)) ∙ fold-roll-Ex Word (value_step ready frame v items temps) (Ex-F.Temp t lo n)

pub value_pick : (ready : Callee → Word) (frame : Frame) (v : Valuation) (items : Items) (temps : Temporaries) (i : Ex) (ps : List Part) → value ready frame v items temps (ex.Pick i ps) ≡ (picked_word frame.names v ps (value ready frame v items temps i).value)
unfolding value
value_pick ready frame v items temps i ps = ap (value ready frame v items temps) (sym (ex.rolls-Pick i ps)) ∙ fold-roll-Ex Word (value_step ready frame v items temps) (Ex-F.Pick i ps)

pub value_number : (ready : Callee → Word) (frame : Frame) (v : Valuation) (items : Items) (temps : Temporaries) (k : ℕ) → value ready frame v items temps (ex.Number k) ≡ (item_of frame items k 0)
unfolding value
value_number ready frame v items temps k = ap (value ready frame v items temps) (sym (ex.rolls-Number k)) ∙ fold-roll-Ex Word (value_step ready frame v items temps) (Ex-F.Number k)

pub value_count : (ready : Callee → Word) (frame : Frame) (v : Valuation) (items : Items) (temps : Temporaries) (k : ℕ) → value ready frame v items temps (ex.Count k) ≡ (record { width = log_of ((frame.holding k).maxlen + 1); value = count_of frame items k })
unfolding value
value_count ready frame v items temps k = ap (value ready frame v items temps) (sym (ex.rolls-Count k)) ∙ fold-roll-Ex Word (value_step ready frame v items temps) (Ex-F.Count k)

pub value_item : (ready : Callee → Word) (frame : Frame) (v : Valuation) (items : Items) (temps : Temporaries) (k : ℕ) (i : ℕ) → value ready frame v items temps (ex.Item k i) ≡ (item_of frame items k i)
unfolding value
value_item ready frame v items temps k i = ap (value ready frame v items temps) (sym (ex.rolls-Item k i)) ∙ fold-roll-Ex Word (value_step ready frame v items temps) (Ex-F.Item k i)

pub value_last : (ready : Callee → Word) (frame : Frame) (v : Valuation) (items : Items) (temps : Temporaries) (k : ℕ) → value ready frame v items temps (ex.Last k) ≡ (item_of frame items k (count_of frame items k - 1))
unfolding value
value_last ready frame v items temps k = ap (value ready frame v items temps) (sym (ex.rolls-Last k)) ∙ fold-roll-Ex Word (value_step ready frame v items temps) (Ex-F.Last k)

pub value_ready : (ready : Callee → Word) (frame : Frame) (v : Valuation) (items : Items) (temps : Temporaries) (m : Callee) → value ready frame v items temps (ex.Ready m) ≡ (ready m)
unfolding value
value_ready ready frame v items temps m = ap (value ready frame v items temps) (sym (ex.rolls-Ready m)) ∙ fold-roll-Ex Word (value_step ready frame v items temps) (Ex-F.Ready m)

pub value_not : (ready : Callee → Word) (frame : Frame) (v : Valuation) (items : Items) (temps : Temporaries) (a : Ex) → value ready frame v items temps (ex.Not a) ≡ (complement_of (value ready frame v items temps a))
unfolding value
value_not ready frame v items temps a = ap (value ready frame v items temps) (sym (ex.rolls-Not a)) ∙ fold-roll-Ex Word (value_step ready frame v items temps) (Ex-F.Not a)

pub value_fold : (ready : Callee → Word) (frame : Frame) (v : Valuation) (items : Items) (temps : Temporaries) (f : Fold) (a : Ex) → value ready frame v items temps (ex.Fold f a) ≡ (folding_of f (value ready frame v items temps a))
unfolding value
value_fold ready frame v items temps f a = ap (value ready frame v items temps) (sym (ex.rolls-Fold f a)) ∙ fold-roll-Ex Word (value_step ready frame v items temps) (Ex-F.Fold f a)

pub value_bin : (ready : Callee → Word) (frame : Frame) (v : Valuation) (items : Items) (temps : Temporaries) (op : Op) (a : Ex) (b : Ex) → value ready frame v items temps (ex.Bin op a b) ≡ (result_of op (value ready frame v items temps a) (value ready frame v items temps b))
unfolding value
value_bin ready frame v items temps op a b = ap (value ready frame v items temps) (sym (ex.rolls-Bin op a b)) ∙ fold-roll-Ex Word (value_step ready frame v items temps) (Ex-F.Bin op a b)

pub value_cat : (ready : Callee → Word) (frame : Frame) (v : Valuation) (items : Items) (temps : Temporaries) (es : List Ex) → value ready frame v items temps (ex.Cat es) ≡ (concatenated (map (value ready frame v items temps) es))
unfolding value
value_cat ready frame v items temps es = ap (value ready frame v items temps) (sym (ex.rolls-Cat es)) ∙ fold-roll-Ex Word (value_step ready frame v items temps) (Ex-F.Cat es)

pub value_zext : (ready : Callee → Word) (frame : Frame) (v : Valuation) (items : Items) (temps : Temporaries) (a : Ex) (n : ℕ) → value ready frame v items temps (ex.Zext a n) ≡ (zero_extension_of (value ready frame v items temps a) n)
unfolding value
value_zext ready frame v items temps a n = ap (value ready frame v items temps) (sym (ex.rolls-Zext a n)) ∙ fold-roll-Ex Word (value_step ready frame v items temps) (Ex-F.Zext a n)

pub value_sext : (ready : Callee → Word) (frame : Frame) (v : Valuation) (items : Items) (temps : Temporaries) (a : Ex) (n : ℕ) → value ready frame v items temps (ex.Sext a n) ≡ (sign_extension_of (value ready frame v items temps a) n)
unfolding value
value_sext ready frame v items temps a n = ap (value ready frame v items temps) (sym (ex.rolls-Sext a n)) ∙ fold-roll-Ex Word (value_step ready frame v items temps) (Ex-F.Sext a n)

pub value_trunc : (ready : Callee → Word) (frame : Frame) (v : Valuation) (items : Items) (temps : Temporaries) (a : Ex) (n : ℕ) → value ready frame v items temps (ex.Trunc a n) ≡ (truncation_of (value ready frame v items temps a) n)
unfolding value
value_trunc ready frame v items temps a n = ap (value ready frame v items temps) (sym (ex.rolls-Trunc a n)) ∙ fold-roll-Ex Word (value_step ready frame v items temps) (Ex-F.Trunc a n)

pub value_cond : (ready : Callee → Word) (frame : Frame) (v : Valuation) (items : Items) (temps : Temporaries) (c : Ex) (a : Ex) (b : Ex) → value ready frame v items temps (ex.Cond c a b) ≡ (if (value ready frame v items temps c).value == 0 then (value ready frame v items temps b) else (value ready frame v items temps a))
unfolding value
value_cond ready frame v items temps c a b = ap (value ready frame v items temps) (sym (ex.rolls-Cond c a b)) ∙ fold-roll-Ex Word (value_step ready frame v items temps) (Ex-F.Cond c a b)

-- all of them
pub ruleset value_equations = (value_const, value_get, value_temp, value_pick, value_number, value_count, value_item, value_last, value_ready, value_not, value_fold, value_bin, value_cat, value_zext, value_sext, value_trunc, value_cond)
