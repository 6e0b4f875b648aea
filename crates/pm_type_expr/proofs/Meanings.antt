-- The meaning of each form of expression, by that of its parts.
use Rattle.std.proofs.Common.{◌≡◌, ◌∙◌, ℕ, List, map, sym, ap, Bool}
use Rattle.std.specs.Prelude.{is_some}
use Rattle.pm_syn.specs.declared.expression.Arg.{Arg, fold_out-Arg}
use Rattle.pm_syn.specs.declared.expression.BinaryOp.{BinaryOp}
use Rattle.pm_syn.specs.declared.expression.Expr.{Expr, Expr-F, fold-roll-Expr}
use Rattle.pm_syn.specs.declared.expression.Expr.TheVariants as ex
use Rattle.pm_syn.specs.declared.expression.UnaryOp.{UnaryOp}
use Rattle.pm_typing.specs.Expressions.{Meaning, Passed, meaning, passed, meaning_of, passed_of}

pub meaning_name : (n : List ℕ) → meaning (ex.Name n)
    ≡ meaning_of (Expr-F.Name n)
unfolding meaning passed
meaning_name n =
    ap meaning (sym (ex.rolls-Name n)) ∙ fold-roll-Expr Meaning Passed meaning_of passed_of (Expr-F.Name n)

pub meaning_int : (n : ℕ) → meaning (ex.Int n)
    ≡ meaning_of (Expr-F.Int n)
unfolding meaning passed
meaning_int n =
    ap meaning (sym (ex.rolls-Int n)) ∙ fold-roll-Expr Meaning Passed meaning_of passed_of (Expr-F.Int n)

pub meaning_bool : (b : Bool) → meaning (ex.Bool b)
    ≡ meaning_of (Expr-F.Bool b)
unfolding meaning passed
meaning_bool b =
    ap meaning (sym (ex.rolls-Bool b)) ∙ fold-roll-Expr Meaning Passed meaning_of passed_of (Expr-F.Bool b)

pub meaning_unary : (o : UnaryOp) (e : Expr) → meaning (ex.Unary o e)
    ≡ meaning_of (Expr-F.Unary o (meaning e))
unfolding meaning passed
meaning_unary o e =
    ap meaning (sym (ex.rolls-Unary o e)) ∙ fold-roll-Expr Meaning Passed meaning_of passed_of (Expr-F.Unary o e)

pub meaning_binary : (o : BinaryOp) (a b : Expr) → meaning (ex.Binary o a b)
    ≡ meaning_of (Expr-F.Binary o (meaning a) (meaning b))
unfolding meaning passed
meaning_binary o a b =
    ap meaning (sym (ex.rolls-Binary o a b)) ∙ fold-roll-Expr Meaning Passed meaning_of passed_of (Expr-F.Binary o a b)

pub meaning_cond : (a c b : Expr) → meaning (ex.Cond a c b)
    ≡ meaning_of (Expr-F.Cond (meaning a) (meaning c) (meaning b))
unfolding meaning passed
meaning_cond a c b =
    ap meaning (sym (ex.rolls-Cond a c b)) ∙ fold-roll-Expr Meaning Passed meaning_of passed_of (Expr-F.Cond a c b)

pub meaning_attr : (e : Expr) (n : List ℕ) → meaning (ex.Attr e n)
    ≡ meaning_of (Expr-F.Attr (meaning e) n)
unfolding meaning passed
meaning_attr e n =
    ap meaning (sym (ex.rolls-Attr e n)) ∙ fold-roll-Expr Meaning Passed meaning_of passed_of (Expr-F.Attr e n)

pub meaning_call : (f : Expr) (gs : List Arg) → meaning (ex.Call f gs)
    ≡ meaning_of (Expr-F.Call (meaning f) (map passed gs))
unfolding meaning passed
meaning_call f gs =
    ap meaning (sym (ex.rolls-Call f gs)) ∙ fold-roll-Expr Meaning Passed meaning_of passed_of (Expr-F.Call f gs)

pub meaning_index : (e i : Expr) → meaning (ex.Index e i)
    ≡ meaning_of (Expr-F.Index (meaning e) (meaning i))
unfolding meaning passed
meaning_index e i =
    ap meaning (sym (ex.rolls-Index e i)) ∙ fold-roll-Expr Meaning Passed meaning_of passed_of (Expr-F.Index e i)

pub meaning_slice : (e lo hi : Expr) → meaning (ex.Slice e lo hi)
    ≡ meaning_of (Expr-F.Slice (meaning e) (meaning lo) (meaning hi))
unfolding meaning passed
meaning_slice e lo hi =
    ap meaning (sym (ex.rolls-Slice e lo hi)) ∙ fold-roll-Expr Meaning Passed meaning_of passed_of (Expr-F.Slice e lo hi)

pub meaning_items : (es : List Expr) → meaning (ex.Items es)
    ≡ meaning_of (Expr-F.Items (map meaning es))
unfolding meaning passed
meaning_items es =
    ap meaning (sym (ex.rolls-Items es)) ∙ fold-roll-Expr Meaning Passed meaning_of passed_of (Expr-F.Items es)

pub meaning_each : (e : Expr) (n : List ℕ) (es : List Expr) → meaning (ex.Each e n es)
    ≡ meaning_of (Expr-F.Each (meaning e) n (map meaning es))
unfolding meaning passed
meaning_each e n es =
    ap meaning (sym (ex.rolls-Each e n es)) ∙ fold-roll-Expr Meaning Passed meaning_of passed_of (Expr-F.Each e n es)

pub passed_arg : (a : Arg) → passed a ≡ record { named = is_some a.name; meaning = meaning a.value }
unfolding meaning passed
passed_arg a = fold_out-Arg Meaning Passed meaning_of passed_of a

pub ruleset forms = (meaning_name, meaning_int, meaning_bool, meaning_unary, meaning_binary, meaning_cond, meaning_attr, meaning_call, meaning_index, meaning_slice, meaning_items, meaning_each, passed_arg)
