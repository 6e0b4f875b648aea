-- The meaning of each form of expression, by that of its parts.
use Rattle.std.proofs.Common.{◌≡◌, ◌∙◌, ℕ, List, map, sym, ap, Bool}
use Rattle.pm_syn.specs.declared.expression.Arg.{Arg, fold_out-Arg}
use Rattle.pm_syn.specs.declared.expression.BinaryOp.{BinaryOp}
use Rattle.pm_syn.specs.declared.expression.Expr.{Expr, Expr-F, fold-roll-Expr}
use Rattle.pm_syn.specs.declared.expression.Expr.TheVariants as ex
use Rattle.pm_syn.specs.declared.expression.UnaryOp.{UnaryOp}
use Rattle.pm_elab.specs.Expressions.{Make, Meaning, Passed, meaning, passed, meaning_of, passed_of}

pub meaning_name : (make : Make) (n : List ℕ) → meaning make (ex.Name n)
    ≡ meaning_of make (Expr-F.Name n)
unfolding meaning passed
meaning_name make n =
    ap (meaning make) (sym (ex.rolls-Name n)) ∙ fold-roll-Expr Meaning Passed (meaning_of make) passed_of (Expr-F.Name n)

pub meaning_int : (make : Make) (n : ℕ) → meaning make (ex.Int n)
    ≡ meaning_of make (Expr-F.Int n)
unfolding meaning passed
meaning_int make n =
    ap (meaning make) (sym (ex.rolls-Int n)) ∙ fold-roll-Expr Meaning Passed (meaning_of make) passed_of (Expr-F.Int n)

pub meaning_bool : (make : Make) (b : Bool) → meaning make (ex.Bool b)
    ≡ meaning_of make (Expr-F.Bool b)
unfolding meaning passed
meaning_bool make b =
    ap (meaning make) (sym (ex.rolls-Bool b)) ∙ fold-roll-Expr Meaning Passed (meaning_of make) passed_of (Expr-F.Bool b)

pub meaning_unary : (make : Make) (o : UnaryOp) (e : Expr) → meaning make (ex.Unary o e)
    ≡ meaning_of make (Expr-F.Unary o (meaning make e))
unfolding meaning passed
meaning_unary make o e =
    ap (meaning make) (sym (ex.rolls-Unary o e)) ∙ fold-roll-Expr Meaning Passed (meaning_of make) passed_of (Expr-F.Unary o e)

pub meaning_binary : (make : Make) (o : BinaryOp) (a b : Expr) → meaning make (ex.Binary o a b)
    ≡ meaning_of make (Expr-F.Binary o (meaning make a) (meaning make b))
unfolding meaning passed
meaning_binary make o a b =
    ap (meaning make) (sym (ex.rolls-Binary o a b)) ∙ fold-roll-Expr Meaning Passed (meaning_of make) passed_of (Expr-F.Binary o a b)

pub meaning_cond : (make : Make) (a c b : Expr) → meaning make (ex.Cond a c b)
    ≡ meaning_of make (Expr-F.Cond (meaning make a) (meaning make c) (meaning make b))
unfolding meaning passed
meaning_cond make a c b =
    ap (meaning make) (sym (ex.rolls-Cond a c b)) ∙ fold-roll-Expr Meaning Passed (meaning_of make) passed_of (Expr-F.Cond a c b)

pub meaning_attr : (make : Make) (e : Expr) (n : List ℕ) → meaning make (ex.Attr e n)
    ≡ meaning_of make (Expr-F.Attr (meaning make e) n)
unfolding meaning passed
meaning_attr make e n =
    ap (meaning make) (sym (ex.rolls-Attr e n)) ∙ fold-roll-Expr Meaning Passed (meaning_of make) passed_of (Expr-F.Attr e n)

pub meaning_call : (make : Make) (f : Expr) (gs : List Arg) → meaning make (ex.Call f gs)
    ≡ meaning_of make (Expr-F.Call (meaning make f) (map (passed make) gs))
unfolding meaning passed
meaning_call make f gs =
    ap (meaning make) (sym (ex.rolls-Call f gs)) ∙ fold-roll-Expr Meaning Passed (meaning_of make) passed_of (Expr-F.Call f gs)

pub meaning_index : (make : Make) (e i : Expr) → meaning make (ex.Index e i)
    ≡ meaning_of make (Expr-F.Index (meaning make e) (meaning make i))
unfolding meaning passed
meaning_index make e i =
    ap (meaning make) (sym (ex.rolls-Index e i)) ∙ fold-roll-Expr Meaning Passed (meaning_of make) passed_of (Expr-F.Index e i)

pub meaning_slice : (make : Make) (e lo hi : Expr) → meaning make (ex.Slice e lo hi)
    ≡ meaning_of make (Expr-F.Slice (meaning make e) (meaning make lo) (meaning make hi))
unfolding meaning passed
meaning_slice make e lo hi =
    ap (meaning make) (sym (ex.rolls-Slice e lo hi)) ∙ fold-roll-Expr Meaning Passed (meaning_of make) passed_of (Expr-F.Slice e lo hi)

pub meaning_items : (make : Make) (es : List Expr) → meaning make (ex.Items es)
    ≡ meaning_of make (Expr-F.Items (map (meaning make) es))
unfolding meaning passed
meaning_items make es =
    ap (meaning make) (sym (ex.rolls-Items es)) ∙ fold-roll-Expr Meaning Passed (meaning_of make) passed_of (Expr-F.Items es)

pub meaning_each : (make : Make) (e : Expr) (n : List ℕ) (es : List Expr) → meaning make (ex.Each e n es)
    ≡ meaning_of make (Expr-F.Each (meaning make e) n (map (meaning make) es))
unfolding meaning passed
meaning_each make e n es =
    ap (meaning make) (sym (ex.rolls-Each e n es)) ∙ fold-roll-Expr Meaning Passed (meaning_of make) passed_of (Expr-F.Each e n es)

pub passed_arg : (make : Make) (a : Arg) → passed make a ≡ record { parameter = a.name; meaning = meaning make a.value }
unfolding meaning passed
passed_arg make a = fold_out-Arg Meaning Passed (meaning_of make) passed_of a

pub ruleset forms = (meaning_name, meaning_int, meaning_bool, meaning_unary, meaning_binary, meaning_cond, meaning_attr, meaning_call, meaning_index, meaning_slice, meaning_items, meaning_each, passed_arg)
