use Rattle.std.proofs.Common.{arith, refl, sym}
use Rattle.std.proofs.lemmas.List.{length-drop, take_rest}
use Rattle.pm_syn.proofs.string.length_from.Goals as goal

pub returns : goal.returns
returns c = record {
  value = rw (sym c.if-are_two_more.ensures.value, sym c.in_ok-count-2.ensures.value) refl;
  within = let le = c.in_ok-count-2.ensures.within in omega (arith, le);
}

pub returns-in_err-count : goal.returns-in_err-count
returns-in_err-count c =
    let found = rw take_rest at c.in_err-count.ensures.value in
    rw c.from_residual.ensures (record { value = rw (sym c.if-are_two_more.ensures.value, sym found) refl; within = tt })

pub returns-in_err-count-2 : goal.returns-in_err-count-2
returns-in_err-count-2 c =
    rw c.from_residual-in_err-count-2.ensures (record {
      value = rw (sym c.if-are_two_more.ensures.value, sym c.in_err-count-2.ensures.value) refl;
      within = tt;
    })

pub returns-then-are_two_more : goal.returns-then-are_two_more
returns-then-are_two_more c =
    let found = rw take_rest at c.in_ok-count.ensures.value in
    let le = rw take_rest at c.in_ok-count.ensures.within in
    let long = c.if-are_two_more.ensures.long refl in
    record {
      value = rw (sym c.if-are_two_more.ensures.value, sym found) refl;
      within = omega (arith, le, long, length-drop 2 c.args.text.now);
    }
