-- How far a list was looked through for a break.
use Rattle.std.proofs.Common.{◌≡◌, ◌↔◌, ℕ, ◌+◌, ◌<◌, ◌≤◌, ◌⊎◌, List, [], ◌∷◌, length, drop, get_or, set, Bool, true, false, not, cond, ◌||◌, eqb, Option, Some, None, refl, sym, ap, subst, ◌∙◌, inl, inr, arith, le-ltb, eqb-true, add-one, drop-cons, drop_of_length-le, length-set, get_or-set_same, get_or-set_other}
use Rattle.std.proofs.lemmas.Bool.{eqb-false, cases_lt}
use mathlib.Core.Path.{fun_ext}
use Rattle.pm_cons.specs.Below.{all_below, least_below}
use Rattle.pm_cons.specs.Precedence.{Precedence, IsOfBlocks}
use Rattle.pm_cons.specs.Orders.{has, IsTopological}
use Rattle.pm_cons.proofs.Breaking.{none_completes, completes_none}
use Rattle.pm_cons.specs.Breaks.{break_at, missing_of, else_break, break_from, break_of}
use Rattle.pm_cons.specs.declared.breaks.Break.{Break}
use Rattle.pm_cons.specs.declared.breaks.Break.TheVariants.{Unknown, Repeated, Early}
use Rattle.pm_sched.specs.Tables.{flag}

-- the first numbers of the list have no break; the flags say which blocks they are
pub record IsChecked (g : Precedence) (flags : List Bool) (order : List ℕ) (index : ℕ) : Type 0 where
  pub size : length flags ≡ g.count
  pub listed : List ℕ
  pub told : (b : ℕ) → get_or flags b false ≡ has listed b
  pub rest : break_of g order ≡ break_from g listed index (drop index order)

rest_is : (order : List ℕ) (i : ℕ) → i < length order → drop i order ≡ get_or order i 0 ∷ drop (i + 1) order
rest_is order i lt = rw (add-one, drop-cons order i 0)

here : (g : Precedence) (flags : List Bool) (order : List ℕ) (index : ℕ) → index < length order → (checked : IsChecked g flags order index) →
    break_of g order ≡ else_break (break_at g (flag flags) index (get_or order index 0)) (break_from g (get_or order index 0 ∷ checked.listed) (index + 1) (drop (index + 1) order))
here g flags order index lt checked = checked.rest ∙ (ap (λ (l : List ℕ). break_from g checked.listed index l) (rest_is order index lt)
    ∙ ap (λ (t : ℕ → Bool). else_break (break_at g t index (get_or order index 0)) (break_from g (get_or order index 0 ∷ checked.listed) (index + 1) (drop (index + 1) order))) (sym (fun_ext checked.told)))

pub broken : (g : Precedence) (flags : List Bool) (order : List ℕ) (index : ℕ) (x : Break) → index < length order → IsChecked g flags order index → Some x ≡ break_at g (flag flags) index (get_or order index 0) → Some x ≡ break_of g order
broken g flags order index x lt checked is = ap (λ (o : Option Break). else_break o (break_from g (get_or order index 0 ∷ checked.listed) (index + 1) (drop (index + 1) order))) is ∙ sym (here g flags order index lt checked)

pub fits : (g : Precedence) (stands : ℕ → Bool) (place b : ℕ) → None ≡ break_at g stands place b → b < g.count
fits g stands place b is = go (cases_lt b g.count)
  where
    go : (b < g.count) ⊎ (g.count ≤ b) → b < g.count
    go (inl lt) = lt
    go (inr ge) =
        let unknown : None ≡ Some (Unknown place) = is ∙ ap
        (λ (t : Bool). cond (not t) (Some (Unknown place)) (cond (stands b) (Some (Repeated place)) (cond (all_below g.count (λ a. not (g.before a b) || stands a)) None (Some (Early place)))))
        (le-ltb b g.count ge) in
        absurd (cc)

pub more_checked : (g : Precedence) (flags : List Bool) (order : List ℕ) (index : ℕ) → index < length order → IsChecked g flags order index → None ≡ break_at g (flag flags) index (get_or order index 0) → IsChecked g (set flags (get_or order index 0) true) order (index + 1)
more_checked g flags order index lt checked is = record {
  size = rw length-set checked.size;
  listed = get_or order index 0 ∷ checked.listed;
  told = λ b. set_told b (eqb (get_or order index 0) b) refl;
  rest = here g flags order index lt checked ∙ ap (λ (o : Option Break). else_break o (break_from g (get_or order index 0 ∷ checked.listed) (index + 1) (drop (index + 1) order))) (sym is);
}
  where
    inside : get_or order index 0 < length flags
    inside = let less : get_or order index 0 < g.count = fits g (flag flags) index (get_or order index 0) is in let size : length flags ≡ g.count = checked.size in omega arith

    set_told : (b : ℕ) (t : Bool) → eqb (get_or order index 0) b ≡ t → get_or (set flags (get_or order index 0) true) b false ≡ (t || has checked.listed b)
    set_told b true e = subst (λ (k : ℕ). get_or (set flags (get_or order index 0) true) k false ≡ true) (eqb-true (get_or order index 0) b e) (get_or-set_same flags (get_or order index 0) true false inside)
    set_told b false e = get_or-set_other flags (get_or order index 0) b true false (λ (x : b ≡ get_or order index 0). eqb-false (get_or order index 0) b e (sym x)) ∙ checked.told b

pub none_checked : (g : Precedence) (flags : List Bool) (order : List ℕ) → length flags ≡ g.count → ((b : ℕ) → get_or flags b false ≡ false) → IsChecked g flags order 0
none_checked g flags order size none = record { size = size; listed = []; told = none; rest = refl }

pub all_checked : (g : Precedence) (flags : List Bool) (order : List ℕ) (index : ℕ) → length order ≤ index → IsChecked g flags order index → missing_of (least_below g.count (λ b. not (get_or flags b false))) ≡ break_of g order
all_checked g flags order index le checked = ap (λ (t : ℕ → Bool). missing_of (least_below g.count (λ b. not (t b)))) (fun_ext checked.told)
    ∙ sym (checked.rest ∙ ap (λ (l : List ℕ). break_from g checked.listed index l) (drop_of_length-le order le))

-- there is no break if and only if the list is a topological order
pub none_is_topological : (g : Precedence) → IsOfBlocks g → (order : List ℕ) (found : Option Break) →
    found ≡ break_of g order → (found ≡ None) ↔ IsTopological g order
none_is_topological g within order found is = (
  λ none. none_completes g within order [] 0 (sym is ∙ none),
  λ topological. is ∙ completes_none g order [] 0 topological,
)
