-- A call's one argument, where it names no parameter.
use Rattle.std.proofs.Common.{◌≡◌, ◌∙◌, ◌≤◌, ◌<◌, ℕ, List, [], ◌∷◌, length, map, get_or, refl, sym, subst, ap, Bool, true, false, arith}
use Rattle.std.specs.Prelude.{Option, Some, None, Ok, Err, is_some, if◌then◌else◌}
use Rattle.pm_syn.specs.declared.expression.Arg.{Arg}
use Rattle.pm_syn.specs.declared.expression.Expr.{Expr}
use Rattle.pm_values.specs.declared.value.Value.{Value}
use Rattle.pm_elab.specs.declared.call.Given.{Given}
use Rattle.pm_elab.specs.declared.elaboration.Elaboration.{Elaboration}
use Rattle.pm_elab.specs.declared.function.Function.TheVariants as function
use Rattle.pm_elab.specs.Elab.{Checked, and_then, Elabs}
use Rattle.pm_elab.specs.Expressions.{Make, Passed, meaning, passed, only_name, only_literal, function_call, given_from, one_given}
use Rattle.pm_elab.specs.Functions.{called, length_of, length_in, only}
use Rattle.pm_elab.specs.Sites.{Site}
use Rattle.pm_eval.specs.Arguments.{lone_of, length_meant}
use Rattle.pm_eval.proofs.Meanings.{passed_arg}

chosen : {B : Type 0} (b : Bool) (f : Expr → Option B) (a e : Expr) → (if b then None else Some a) ≡ Some e → (if b then None else f a) ≡ f e
chosen true f a e is = grind (arith, is)
chosen false f a e is = grind (arith, is)

refused : {B : Type 0} (b : Bool) (f : Expr → Option B) (a : Expr) → (if b then None else Some a) ≡ None → (if b then None else f a) ≡ None
refused true f a is = refl
refused false f a is = grind (arith, is)

-- a lone argument has a name where its expression has one
pub lone_name : (make : Make) (xs : List Arg) (e : Expr) → lone_of xs ≡ Some e → only_name (map (passed make) xs) ≡ (meaning make e).name
lone_name make [] e is = grind (arith, is)
lone_name make (a ∷ []) e is =
    ap (λ (p : Passed). only_name (p ∷ [])) (passed_arg make a) ∙ chosen (is_some a.name) (λ e. (meaning make e).name) a.value e is
lone_name make (a ∷ b ∷ cs) e is = grind (arith, is)

pub no_name : (make : Make) (xs : List Arg) → lone_of xs ≡ None → only_name (map (passed make) xs) ≡ None
no_name make [] is = refl
no_name make (a ∷ []) is =
    ap (λ (p : Passed). only_name (p ∷ [])) (passed_arg make a) ∙ refused (is_some a.name) (λ e. (meaning make e).name) a.value is
no_name make (a ∷ b ∷ cs) is = refl

-- a lone argument has a number where its expression has one
pub lone_literal : (make : Make) (xs : List Arg) (e : Expr) → lone_of xs ≡ Some e → only_literal (map (passed make) xs) ≡ (meaning make e).literal
lone_literal make [] e is = grind (arith, is)
lone_literal make (a ∷ []) e is =
    ap (λ (p : Passed). only_literal (p ∷ [])) (passed_arg make a) ∙ chosen (is_some a.name) (λ e. (meaning make e).literal) a.value e is
lone_literal make (a ∷ b ∷ cs) e is = grind (arith, is)

pub no_literal : (make : Make) (xs : List Arg) → lone_of xs ≡ None → only_literal (map (passed make) xs) ≡ None
no_literal make [] is = refl
no_literal make (a ∷ []) is =
    ap (λ (p : Passed). only_literal (p ∷ [])) (passed_arg make a) ∙ refused (is_some a.name) (λ e. (meaning make e).literal) a.value is
no_literal make (a ∷ b ∷ cs) is = refl

-- the length of the one argument
given_one : (m : Checked (Value × Elaboration)) (n : Option (List ℕ)) (line : ℕ) → is_some n ≡ false
    → and_then {B = Value × Elaboration}
    (and_then {B = List Given × Elaboration} (and_then {B = Given × Elaboration} m (λ r. Ok (record { name = n; value = r.0 }, r.1)))
    (λ r. Ok (r.0 ∷ [], r.1)))
    (λ r. and_then (called function.Length line r.0) (λ v. Ok (v, r.1)))
    ≡ and_then {B = Value × Elaboration} m (λ r. and_then (length_in line r.0) (λ v. Ok (v, r.1)))
unfolding called length_of only
given_one (Err e) n line is = refl
given_one (Ok r) None line is = refl
given_one (Ok r) (Some x) line is = grind (arith, is)

pub length_of_lone : (make : Make) (a : Arg) (site : Site) (m : Elaboration) → is_some a.name ≡ false
    → function_call function.Length (passed make a ∷ []) site m ≡ length_meant (meaning make a.value) site m
unfolding function_call given_from one_given
length_of_lone make a site m is =
    ap (λ (p : Passed). function_call function.Length (p ∷ []) site m) (passed_arg make a)
    ∙ given_one ((meaning make a.value).value site m) a.name site.line is

lone_is : (xs : List Arg) (a : Arg) → 1 ≤ length xs → length xs < 2 → a ≡ get_or xs 0 a → xs ≡ a ∷ []
lone_is [] a some few is = absurd (omega (arith, some))
lone_is (b ∷ []) a some few is = ap (λ (x : Arg). x ∷ []) (sym is)
lone_is (b ∷ x ∷ xs) a some few is = absurd (omega (arith, few))

pub length_called : (make : Make) (xs : List Arg) (a : Arg) (site : Site) (m new : Elaboration) (r : Checked Value)
    → 1 ≤ length xs → length xs < 2 → a ≡ get_or xs 0 a → is_some a.name ≡ false
    → Elabs (length_meant (meaning make a.value) site m) r new
    → Elabs (function_call function.Length (map (passed make) xs) site m) r new
length_called make xs a site m new r some few is none elabs =
    let alone = ap (λ (ys : List Arg). function_call function.Length (map (passed make) ys) site m) (lone_is xs a some few is) in
    subst (λ (o : Checked (Value × Elaboration)). Elabs o r new) (sym (alone ∙ length_of_lone make a site m none)) elabs
