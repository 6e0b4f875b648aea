-- Which names an expression reads, at each form of it.
use Rattle.std.proofs.Common.{◌≡◌, ◌∙◌, ℕ, List, map, sym, ap}
use Rattle.std.specs.Prelude.{Bool}
use Rattle.pm_syn.specs.declared.expression.Arg.{Arg, fold_out-Arg}
use Rattle.pm_syn.specs.declared.expression.BinaryOp.{BinaryOp}
use Rattle.pm_syn.specs.declared.expression.Expr.{Expr, Expr-F, fold-roll-Expr}
use Rattle.pm_syn.specs.declared.expression.Expr.TheVariants as ex
use Rattle.pm_syn.specs.declared.expression.UnaryOp.{UnaryOp}
use Rattle.pm_values.specs.Tables.{Names}
use Rattle.pm_elab.specs.declared.frame.Local.{Local}
use Rattle.pm_elab.specs.Captures.{Reading, reads, reads_of, argument_reads, argument_reading, any_reads, name_reads, nothing_read, either_reads, one_reads, call_reads, each_reads}

pub reads_name : (locals : Names Local) (n : List ℕ) → reads locals (ex.Name n) ≡ name_reads locals n
unfolding reads argument_reading
reads_name locals n = ap (reads locals) (sym (ex.rolls-Name n)) ∙ fold-roll-Expr Reading Reading (reads_of locals) argument_reads (Expr-F.Name n)

pub reads_int : (locals : Names Local) (n : ℕ) → reads locals (ex.Int n) ≡ nothing_read
unfolding reads argument_reading
reads_int locals n = ap (reads locals) (sym (ex.rolls-Int n)) ∙ fold-roll-Expr Reading Reading (reads_of locals) argument_reads (Expr-F.Int n)

pub reads_bool : (locals : Names Local) (b : Bool) → reads locals (ex.Bool b) ≡ nothing_read
unfolding reads argument_reading
reads_bool locals b = ap (reads locals) (sym (ex.rolls-Bool b)) ∙ fold-roll-Expr Reading Reading (reads_of locals) argument_reads (Expr-F.Bool b)

pub reads_unary : (locals : Names Local) (o : UnaryOp) (e : Expr) → reads locals (ex.Unary o e) ≡ reads locals e
unfolding reads argument_reading
reads_unary locals o e = ap (reads locals) (sym (ex.rolls-Unary o e)) ∙ fold-roll-Expr Reading Reading (reads_of locals) argument_reads (Expr-F.Unary o e)

pub reads_binary : (locals : Names Local) (o : BinaryOp) (a b : Expr) → reads locals (ex.Binary o a b) ≡ either_reads (reads locals a) (reads locals b)
unfolding reads argument_reading
reads_binary locals o a b = ap (reads locals) (sym (ex.rolls-Binary o a b)) ∙ fold-roll-Expr Reading Reading (reads_of locals) argument_reads (Expr-F.Binary o a b)

pub reads_cond : (locals : Names Local) (a c b : Expr) → reads locals (ex.Cond a c b) ≡ one_reads (reads locals a) (reads locals c) (reads locals b)
unfolding reads argument_reading
reads_cond locals a c b = ap (reads locals) (sym (ex.rolls-Cond a c b)) ∙ fold-roll-Expr Reading Reading (reads_of locals) argument_reads (Expr-F.Cond a c b)

pub reads_attr : (locals : Names Local) (e : Expr) (n : List ℕ) → reads locals (ex.Attr e n) ≡ reads locals e
unfolding reads argument_reading
reads_attr locals e n = ap (reads locals) (sym (ex.rolls-Attr e n)) ∙ fold-roll-Expr Reading Reading (reads_of locals) argument_reads (Expr-F.Attr e n)

pub reads_call : (locals : Names Local) (f : Expr) (gs : List Arg) → reads locals (ex.Call f gs) ≡ call_reads (reads locals f) (map (argument_reading locals) gs)
unfolding reads argument_reading
reads_call locals f gs = ap (reads locals) (sym (ex.rolls-Call f gs)) ∙ fold-roll-Expr Reading Reading (reads_of locals) argument_reads (Expr-F.Call f gs)

pub reads_index : (locals : Names Local) (e i : Expr) → reads locals (ex.Index e i) ≡ either_reads (reads locals e) (reads locals i)
unfolding reads argument_reading
reads_index locals e i = ap (reads locals) (sym (ex.rolls-Index e i)) ∙ fold-roll-Expr Reading Reading (reads_of locals) argument_reads (Expr-F.Index e i)

pub reads_slice : (locals : Names Local) (e lo hi : Expr) → reads locals (ex.Slice e lo hi) ≡ one_reads (reads locals e) (reads locals lo) (reads locals hi)
unfolding reads argument_reading
reads_slice locals e lo hi = ap (reads locals) (sym (ex.rolls-Slice e lo hi)) ∙ fold-roll-Expr Reading Reading (reads_of locals) argument_reads (Expr-F.Slice e lo hi)

pub reads_items : (locals : Names Local) (es : List Expr) → reads locals (ex.Items es) ≡ any_reads (map (reads locals) es)
unfolding reads argument_reading
reads_items locals es = ap (reads locals) (sym (ex.rolls-Items es)) ∙ fold-roll-Expr Reading Reading (reads_of locals) argument_reads (Expr-F.Items es)

pub reads_each : (locals : Names Local) (e : Expr) (n : List ℕ) (es : List Expr) → reads locals (ex.Each e n es) ≡ each_reads (reads locals e) n (map (reads locals) es)
unfolding reads argument_reading
reads_each locals e n es = ap (reads locals) (sym (ex.rolls-Each e n es)) ∙ fold-roll-Expr Reading Reading (reads_of locals) argument_reads (Expr-F.Each e n es)

pub reads_argument : (locals : Names Local) (a : Arg) → argument_reading locals a ≡ reads locals a.value
unfolding reads argument_reading
reads_argument locals a = fold_out-Arg Reading Reading (reads_of locals) argument_reads a

pub ruleset forms = (reads_name, reads_int, reads_bool, reads_unary, reads_binary, reads_cond, reads_attr, reads_call, reads_index, reads_slice, reads_items, reads_each, reads_argument)
