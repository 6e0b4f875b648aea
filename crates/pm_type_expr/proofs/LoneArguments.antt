-- A call's one argument, where it names no parameter.
use Rattle.std.proofs.Common.{◌≡◌, ◌∙◌, List, [], ◌∷◌, map, refl, ap, Bool, true, false, arith}
use Rattle.std.specs.Prelude.{Some, None, is_some, if◌then◌else◌}
use Rattle.std.specs.List.{list_any}
use Rattle.pm_syn.specs.declared.expression.Arg.{Arg}
use Rattle.pm_syn.specs.declared.expression.Expr.{Expr}
use Rattle.pm_typing.specs.declared.fault.TypeFault.TheVariants.{NotAllowedHere}
use Rattle.pm_typing.specs.Counted.{fail}
use Rattle.pm_typing.specs.Expressions.{Passed, meaning, passed, only_literal, length_call_at, length_meant}
use Rattle.pm_typing.specs.Sites.{Site}
use Rattle.pm_typing.specs.Things.{Thing}
use Rattle.pm_type_expr.specs.Held.{lone_of}
use Rattle.pm_type_expr.proofs.Meanings.{passed_arg}

chosen : {B : Type 0} (b : Bool) (f : Expr → B) (other : B) (a e : Expr) → (if b then None else Some a) ≡ Some e → (if b then other else f a) ≡ f e
chosen true f other a e is = grind (arith, is)
chosen false f other a e is = grind (arith, is)

refused : {B : Type 0} (b : Bool) (f : Expr → B) (other : B) (a : Expr) → (if b then None else Some a) ≡ None → (if b then other else f a) ≡ other
refused true f other a is = refl
refused false f other a is = grind (arith, is)

-- a lone argument has a number where its expression has one
pub lone_literal : (xs : List Arg) (e : Expr) → lone_of xs ≡ Some e → only_literal (map passed xs) ≡ (meaning e).literal
lone_literal [] e is = grind (arith, is)
lone_literal (a ∷ []) e is =
    ap (λ (p : Passed). only_literal (p ∷ [])) (passed_arg a) ∙ chosen (is_some a.name) (λ e. (meaning e).literal) None a.value e is
lone_literal (a ∷ b ∷ cs) e is = grind (arith, is)

pub no_literal : (xs : List Arg) → lone_of xs ≡ None → only_literal (map passed xs) ≡ None
no_literal [] is = refl
no_literal (a ∷ []) is =
    ap (λ (p : Passed). only_literal (p ∷ [])) (passed_arg a) ∙ refused (is_some a.name) (λ e. (meaning e).literal) None a.value is
no_literal (a ∷ b ∷ cs) is = refl

-- the length of a lone argument
pub lone_length : (xs : List Arg) (e : Expr) (site : Site) → lone_of xs ≡ Some e → length_call_at (map passed xs) site ≡ length_meant (meaning e) site
lone_length [] e site is = grind (arith, is)
lone_length (a ∷ []) e site is =
    ap (λ (p : Passed). length_call_at (p ∷ []) site) (passed_arg a)
    ∙ chosen (is_some a.name) (λ e. length_meant (meaning e) site) (fail (NotAllowedHere site.line)) a.value e is
lone_length (a ∷ b ∷ cs) e site is = grind (arith, is)

pub no_length : (xs : List Arg) (site : Site) → lone_of xs ≡ None → length_call_at (map passed xs) site ≡ fail {A = Thing} (NotAllowedHere site.line)
no_length [] site is = refl
no_length (a ∷ []) site is =
    ap (λ (p : Passed). length_call_at (p ∷ []) site) (passed_arg a)
    ∙ refused (is_some a.name) (λ e. length_meant (meaning e) site) (fail (NotAllowedHere site.line)) a.value is
no_length (a ∷ b ∷ cs) site is = refl

-- an argument that names a parameter
pub any_passed : (xs : List Arg) → list_any (λ p. p.named) (map passed xs) ≡ list_any (λ a. is_some a.name) xs
any_passed [] = refl
any_passed (a ∷ as') = grind (arith, passed_arg a, any_passed as')
