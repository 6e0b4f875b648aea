-- A small body is as elaboration makes it, and a name there has a value.
use Rattle.std.proofs.Common.{◌≡◌, ◌∙◌, ℕ, Bool, List, refl, sym, ap, codes, arith}
use Rattle.std.specs.Prelude.{None, Ok}
use Rattle.pm_design.specs.declared.body.Ex.TheVariants as ex
use Rattle.pm_syn.specs.declared.expression.Expr.{Expr-F, fold-roll-Expr}
use Rattle.pm_syn.specs.declared.expression.Expr.TheVariants as expression
use Rattle.pm_design.specs.declared.signal.Role.TheVariants as role
use Rattle.pm_values.specs.declared.value.Taken.{Taken}
use Rattle.pm_values.specs.declared.value.Taken.TheVariants as taken
use Rattle.pm_values.specs.declared.value.Value.{Value-F, fold-roll-Value}
use Rattle.pm_values.specs.declared.value.Value.TheVariants as value
use Rattle.pm_elab.specs.Placing.{whole_signal}
use Rattle.pm_elab.specs.Values.{bits_of, member_sort}
use Rattle.pm_typing.specs.declared.operand.Operand.TheVariants as operands
use Rattle.pm_typing.specs.Counted.{node, nodes}
use Rattle.pm_typing.specs.Expressions.{Meaning, Passed, meaning, meaning_of, operand, passed_of}
use Rattle.pm_typing.specs.Names.{name_thing}
use Rattle.pm_typing.specs.Operands.{value_of}
use Rattle.pm_type_laws.specs.Good.{IsMade, is_taken, is_value, is_value_of}
use Rattle.pm_type_laws.specs.Sample.{scope, site, view}
use Rattle.pm_type_laws.specs.Views.{IsSite}

taken_is : (t : Taken) → is_value scope None (value.Taken t) ≡ is_taken scope None t
unfolding is_value
taken_is t = ap (is_value scope None) (sym (value.rolls-Taken t)) ∙ fold-roll-Value Bool Bool (is_value_of scope None) member_sort (Value-F.Taken t)

pub sample_made : IsMade scope
sample_made = record {
  shapes = refl;
  names = refl;
  locals = refl;
  own = rw (taken_is (taken.Signal (whole_signal 1 role.Input (bits_of 8)))) refl;
  children = λ k raw there is. absurd (omega (arith, there));
}

pub sample_site : IsSite view site
sample_site = (record { made = sample_made; reads = λ p is. is; states = refl; calls = refl }, (refl, tt))

name_means : (name : List ℕ) → meaning (expression.Name name) ≡ meaning_of (Expr-F.Name name)
unfolding meaning
name_means name = ap meaning (sym (expression.rolls-Name name)) ∙ fold-roll-Expr Meaning Passed meaning_of passed_of (Expr-F.Name name)

pub sample_value : operand (meaning (expression.Name (codes "t"))) site (record { nodes = 0; line = 1 })
    ≡ Ok (operands.Bits (ex.Temp 0 0 8) (bits_of 8), record { nodes = 1; line = 1 })
unfolding operand name_thing value_of node nodes
sample_value = rw (name_means (codes "t")) refl
