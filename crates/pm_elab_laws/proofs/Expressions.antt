-- Expressions, by their trees.
use Rattle.std.proofs.Common.{◌≡◌, List, [], ◌∷◌, sym, subst, map}
use Rattle.pm_syn.specs.declared.expression.Arg.{Arg, Arg-F, fold-roll-Arg, roll-Arg}
use Rattle.pm_syn.specs.declared.expression.Expr.{Expr, Expr-F, fold-roll-Expr, roll-Expr}
use Rattle.pm_syn.specs.declared.expression.Expr.TheFolds.{ind-Expr, map-Expr, ind-Arg, map-Arg}
use Rattle.pm_values.specs.Integers.{truth}
use Rattle.pm_elab.specs.Expressions.{Make, Meaning, Passed, meaning, meaning_of, passed, passed_of}
use Rattle.pm_elab_laws.proofs.Keeping.{Keeping, lifted, done}
use Rattle.pm_elab_laws.proofs.Places.{IsMake, IsMeaning}
use Rattle.pm_elab_laws.proofs.Operators.{AreMeanings, name_runs, literal_value, unary_runs, operation_runs}
use Rattle.pm_elab_laws.proofs.Operators.{choice_runs, attribute_runs, index_runs, slice_runs, items_runs}
use Rattle.pm_elab_laws.proofs.Operators.{comprehension_runs}
use Rattle.pm_elab_laws.proofs.Calls.{ArePassed, call_runs}

module _ (k : Keeping) (make : Make) (makes : IsMake k make) where
  IsKept : Expr → Type 0
  IsKept e = IsMeaning k (meaning make e)

  IsPassed : Arg → Type 0
  IsPassed a = IsMeaning k (passed make a).meaning

  are_meanings : (es : List ((e : Expr) × IsKept e)) → AreMeanings k (map (meaning make) (map (λ e. e.0) es))
  unfolding IsKept
  are_meanings [] = tt
  are_meanings (e ∷ es) = (e.1, are_meanings es)

  are_passed : (gs : List ((a : Arg) × IsPassed a)) → ArePassed k (map (passed make) (map (λ a. a.0) gs))
  unfolding IsPassed
  are_passed [] = tt
  are_passed (g ∷ gs) = (g.1, are_passed gs)

  -- an expression keeps the facts once its parts do
  layer : (y : Expr-F ((e : Expr) × IsKept e) ((a : Arg) × IsPassed a))
      → IsMeaning k (meaning_of make (map-Expr Expr Arg Meaning Passed (meaning make) (passed make)
      (map-Expr ((e : Expr) × IsKept e) ((a : Arg) × IsPassed a) Expr Arg (λ e. e.0) (λ a. a.0) y)))
  unfolding IsKept IsPassed
  layer (Expr-F.Name n) o m site at = name_runs k n o m site at
  layer (Expr-F.Int n) o m site at = lifted k m _ (literal_value k m site.frame site.line n)
  layer (Expr-F.Bool b) o m site at = done k m _ (k.int_value m site.frame (truth b))
  layer (Expr-F.Unary u e) o m site at = unary_runs k u (meaning make e.0) e.1 o m site at
  layer (Expr-F.Binary b l r) o m site at = operation_runs k b (meaning make l.0) (meaning make r.0) l.1 r.1 o m site at
  layer (Expr-F.Cond a c b) o m site at = choice_runs k (meaning make a.0) (meaning make c.0) (meaning make b.0) a.1
      c.1 b.1 o m site at
  layer (Expr-F.Attr e n) o m site at = attribute_runs k (meaning make e.0) n e.1 o m site at
  layer (Expr-F.Call f gs) o m site at = call_runs k make makes (meaning make f.0) (map (passed make)
      (map (λ a. a.0) gs)) f.1 (are_passed gs) o m site at
  layer (Expr-F.Index e i) o m site at = index_runs k (meaning make e.0) (meaning make i.0) e.1 i.1 o m site at
  layer (Expr-F.Slice e lo hi) o m site at = slice_runs k (meaning make e.0) (meaning make lo.0) (meaning make hi.0)
      e.1 lo.1 hi.1 o m site at
  layer (Expr-F.Items es) o m site at = items_runs k (map (meaning make) (map (λ e. e.0) es)) (are_meanings es) o m
      site at
  layer (Expr-F.Each e n es) o m site at = comprehension_runs k (meaning make e.0) n (map (meaning make)
      (map (λ e. e.0) es)) e.1 (are_meanings es) o m site at

  whole : (x : Expr-F Expr Arg) (y : Expr-F ((e : Expr) × IsKept e) ((a : Arg) × IsPassed a))
      → map-Expr ((e : Expr) × IsKept e) ((a : Arg) × IsPassed a) Expr Arg (λ e. e.0) (λ a. a.0) y ≡ x
      → IsKept (roll-Expr x)
  unfolding IsKept meaning passed
  whole x y is =
      let step : Expr-F Expr Arg → Type 0 = λ z. IsMeaning k (meaning_of make (map-Expr Expr Arg Meaning Passed
      (meaning make) (passed make) z)) in
      subst (IsMeaning k) (sym (fold-roll-Expr Meaning Passed (meaning_of make) passed_of x)) (subst step is (layer y))

  given : (x : Arg-F Expr Arg) (y : Arg-F ((e : Expr) × IsKept e) ((a : Arg) × IsPassed a))
      → map-Arg ((e : Expr) × IsKept e) ((a : Arg) × IsPassed a) Expr Arg (λ e. e.0) (λ a. a.0) y ≡ x
      → IsPassed (roll-Arg x)
  unfolding IsKept IsPassed meaning passed
  given x y is =
      let step : Arg-F Expr Arg → Type 0 = λ z. IsMeaning k (passed_of (map-Arg Expr Arg Meaning Passed
      (meaning make) (passed make) z)).meaning in
      subst (λ (p : Passed). IsMeaning k p.meaning) (sym (fold-roll-Arg Meaning Passed (meaning_of make) passed_of
      x)) (subst step is y.value.1)

  -- an expression keeps the facts
  pub meaning_runs : (e : Expr) → IsMeaning k (meaning make e)
  unfolding IsKept
  meaning_runs e = ind-Expr IsKept IsPassed whole given e

  -- so does an argument
  pub passed_runs : (a : Arg) → IsMeaning k (passed make a).meaning
  unfolding IsPassed
  passed_runs a = ind-Arg IsKept IsPassed whole given a
