-- The equations of `asked`, one for each form of expression.
use Rattle.std.proofs.Common.{◌≡◌, ◌∙◌, ◌+◌, ◌++◌, ◌<◌, ◌≤◌, ℕ, List, [], ◌∷◌, length, drop, get_or, map, flat_map}
use Rattle.std.proofs.Common.{refl, sym, ap}
use Rattle.std.proofs.lemmas.List.{append_assoc, append-nil, drop_more, drop_all}
use Rattle.pm_bits.specs.Word.{Word}
use Rattle.pm_bits.specs.declared.operator.Fold.{Fold}
use Rattle.pm_bits.specs.declared.operator.Op.{Op}
use Rattle.pm_design.specs.declared.body.Ex.{Ex, Ex-F, fold-Ex, fold-roll-Ex}
use Rattle.pm_design.specs.declared.body.Ex.TheVariants as ex
use Rattle.pm_design.specs.declared.connection.Callee.{Callee}
use Rattle.pm_design.specs.declared.connection.Part.{Part}
use Rattle.pm_design.proofs.Counts.{nodes_equations, some_nodes}
use Rattle.pm_calls.specs.Asked.{all_asked, asked, asked_step}

pub asked_const : (c : Word) → asked (ex.Const c) ≡ []
unfolding asked
asked_const c = ap asked (sym (ex.rolls-Const c)) ∙
    fold-roll-Ex (List Callee) asked_step (Ex-F.Const c)

pub asked_get : (p : Part) → asked (ex.Get p) ≡ []
unfolding asked
asked_get p = ap asked (sym (ex.rolls-Get p)) ∙
    fold-roll-Ex (List Callee) asked_step (Ex-F.Get p)

pub asked_temp : (t lo n : ℕ) → asked (ex.Temp t lo n) ≡ []
unfolding asked
asked_temp t lo n = ap asked (sym (ex.rolls-Temp t lo n)) ∙
    fold-roll-Ex (List Callee) asked_step (Ex-F.Temp t lo n)

pub asked_pick : (i : Ex) (ps : List Part) → asked (ex.Pick i ps) ≡ asked i
unfolding asked
asked_pick i ps = ap asked (sym (ex.rolls-Pick i ps)) ∙
    fold-roll-Ex (List Callee) asked_step (Ex-F.Pick i ps)

pub asked_number : (k : ℕ) → asked (ex.Number k) ≡ []
unfolding asked
asked_number k = ap asked (sym (ex.rolls-Number k)) ∙
    fold-roll-Ex (List Callee) asked_step (Ex-F.Number k)

pub asked_count : (k : ℕ) → asked (ex.Count k) ≡ []
unfolding asked
asked_count k = ap asked (sym (ex.rolls-Count k)) ∙
    fold-roll-Ex (List Callee) asked_step (Ex-F.Count k)

pub asked_item : (k i : ℕ) → asked (ex.Item k i) ≡ []
unfolding asked
asked_item k i = ap asked (sym (ex.rolls-Item k i)) ∙
    fold-roll-Ex (List Callee) asked_step (Ex-F.Item k i)

pub asked_last : (k : ℕ) → asked (ex.Last k) ≡ []
unfolding asked
asked_last k = ap asked (sym (ex.rolls-Last k)) ∙
    fold-roll-Ex (List Callee) asked_step (Ex-F.Last k)

pub asked_ready : (m : Callee) → asked (ex.Ready m) ≡ m ∷ []
unfolding asked
asked_ready m = ap asked (sym (ex.rolls-Ready m)) ∙
    fold-roll-Ex (List Callee) asked_step (Ex-F.Ready m)

pub asked_not : (a : Ex) → asked (ex.Not a) ≡ asked a
unfolding asked
asked_not a = ap asked (sym (ex.rolls-Not a)) ∙
    fold-roll-Ex (List Callee) asked_step (Ex-F.Not a)

pub asked_fold : (f : Fold) (a : Ex) → asked (ex.Fold f a) ≡ asked a
unfolding asked
asked_fold f a = ap asked (sym (ex.rolls-Fold f a)) ∙
    fold-roll-Ex (List Callee) asked_step (Ex-F.Fold f a)

pub asked_bin : (op : Op) (a b : Ex) → asked (ex.Bin op a b) ≡ asked a ++ asked b
unfolding asked
asked_bin op a b = ap asked (sym (ex.rolls-Bin op a b)) ∙
    fold-roll-Ex (List Callee) asked_step (Ex-F.Bin op a b)

pub asked_zext : (a : Ex) (n : ℕ) → asked (ex.Zext a n) ≡ asked a
unfolding asked
asked_zext a n = ap asked (sym (ex.rolls-Zext a n)) ∙
    fold-roll-Ex (List Callee) asked_step (Ex-F.Zext a n)

pub asked_sext : (a : Ex) (n : ℕ) → asked (ex.Sext a n) ≡ asked a
unfolding asked
asked_sext a n = ap asked (sym (ex.rolls-Sext a n)) ∙
    fold-roll-Ex (List Callee) asked_step (Ex-F.Sext a n)

pub asked_trunc : (a : Ex) (n : ℕ) → asked (ex.Trunc a n) ≡ asked a
unfolding asked
asked_trunc a n = ap asked (sym (ex.rolls-Trunc a n)) ∙
    fold-roll-Ex (List Callee) asked_step (Ex-F.Trunc a n)

pub asked_cond : (c a b : Ex) → asked (ex.Cond c a b) ≡ asked c ++ (asked a ++ asked b)
unfolding asked
asked_cond c a b = ap asked (sym (ex.rolls-Cond c a b)) ∙
    fold-roll-Ex (List Callee) asked_step (Ex-F.Cond c a b)

flat_map-map : (f : Ex → List Callee) (xs : List Ex) → flat_map (λ (ms : List Callee). ms) (map f xs) ≡ flat_map f xs
flat_map-map f [] = refl
flat_map-map f (x ∷ xs) = ap (λ (l : List Callee). f x ++ l) (flat_map-map f xs)

pub asked_cat : (es : List Ex) → asked (ex.Cat es) ≡ all_asked es
unfolding asked
asked_cat es =
    ap asked (sym (ex.rolls-Cat es)) ∙ (fold-roll-Ex (List Callee) asked_step (Ex-F.Cat es)
    ∙ flat_map-map (fold-Ex (List Callee) asked_step) es)

pub ruleset asked_equations = (
  asked_const,
  asked_get,
  asked_temp,
  asked_pick,
  asked_number,
  asked_count,
  asked_item,
  asked_last,
  asked_ready,
  asked_not,
  asked_fold,
  asked_bin,
  asked_zext,
  asked_sext,
  asked_trunc,
  asked_cond,
  asked_cat,
)

-- with the equations of nodes, which fall
pub ruleset expressions = (asked_equations, nodes_equations, some_nodes)

-- nothing is put in
pub no_guard : Callee → ℕ
no_guard m = 0

pub one_more : (es : List Ex) (i : ℕ) (found now whole : List Callee) (x : Ex) → i < length es →
    x ≡ get_or es i x → found ++ all_asked (drop i es) ≡ whole → now ≡ found ++ asked x →
    now ++ all_asked (drop (i + 1) es) ≡ whole
one_more es i found now whole x lt is so_far more =
    ap (λ (l : List Callee). l ++ all_asked (drop (i + 1) es)) more
    ∙ (append_assoc found (asked x) (all_asked (drop (i + 1) es))
    ∙ (ap (λ (y : Ex). found ++ (asked y ++ all_asked (drop (i + 1) es))) is
    ∙ (ap (λ (l : List Ex). found ++ all_asked l) (sym (drop_more es i x lt)) ∙ so_far)))

pub all_done : (es : List Ex) (i : ℕ) (found whole : List Callee) → length es ≤ i →
    found ++ all_asked (drop i es) ≡ whole → found ≡ whole
all_done es i found whole le so_far =
    sym (append-nil found) ∙ (ap (λ (l : List Ex). found ++ all_asked l) (sym (drop_all i es le)) ∙ so_far)

-- an expression that asks nothing
pub none_asked : (x y : Ex) (found : List Callee) → x ≡ y → asked y ≡ [] → found ≡ found ++ asked x
none_asked x y found is none =
    sym (append-nil found) ∙ ap (λ (l : List Callee). found ++ l) (sym (ap asked is ∙ none))

pub cond_asked : (x c a b : Ex) (found middle now : List Callee) → x ≡ ex.Cond c a b → middle ≡ found ++ asked c →
    now ≡ middle ++ (asked a ++ asked b) → now ≡ found ++ asked x
cond_asked x c a b found middle now is first second =
    second ∙ (ap (λ (l : List Callee). l ++ (asked a ++ asked b)) first
    ∙ (append_assoc found (asked c) (asked a ++ asked b)
    ∙ ap (λ (l : List Callee). found ++ l) (sym (ap asked is ∙ asked_cond c a b))))
