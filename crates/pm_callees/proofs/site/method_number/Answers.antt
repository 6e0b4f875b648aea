use Rattle.std.proofs.Common.{◌∙◌, ◌<◌, ◌^◌, ◌+◌, ◌*◌, List, ℕ, ap, arith, get_or, length, rules, subst, sym}
use Rattle.pm_callees.proofs.Placing.{first_within}
use Rattle.pm_callees.proofs.SiteNumbers.{method_bound, method_value}
use Rattle.pm_callees.proofs.site.method_number.Goals as goal

pub offset_bounds-as_slice-i : goal.offset_bounds-as_slice-i
offset_bounds-as_slice-i c =
    let lt : c.args.i < length c.as_slice.result.now =
    subst (λ (l : List ℕ). c.args.i < length l) (sym c.as_slice.ensures)
    (first_within c.args.design.now c.args.site.now c.requires.site c.args.i c.requires.there.0) in
    let size : length c.as_slice.result.now * 4 < 2 ^ 63 = c.as_slice.type_inv.1 in
    let fits : c.args.i * 4 < 2 ^ 64 = omega arith in
    search (rules, fits)

pub bounds-as_slice-i : goal.bounds-as_slice-i
bounds-as_slice-i c =
    subst (λ (l : List ℕ). c.args.i < length l) (sym c.as_slice.ensures)
    (first_within c.args.design.now c.args.site.now c.requires.site c.args.i c.requires.there.0)

pub overflow_add-result : goal.overflow_add-result
overflow_add-result c =
    let low = method_bound c.args.design.now c.args.site.now c.requires.site c.args.i c.args.method c.requires.there in
    let few : c.args.site.now.count < 2 ^ 32 = c.requires.site.few in
    let same = ap (λ (l : List ℕ). get_or l c.args.i 0) c.as_slice.ensures in
    search (rules, low, few, same)

pub returns-clause-value : goal.returns-clause-value
returns-clause-value c =
    ap (λ (l : List ℕ). get_or l c.args.i 0 + c.args.method) c.as_slice.ensures
    ∙ method_value c.args.design.now c.args.site.now c.requires.site c.args.i c.args.method c.requires.there

pub returns-clause-bound : goal.returns-clause-bound
returns-clause-bound c =
    subst (λ (l : List ℕ). get_or l c.args.i 0 + c.args.method < c.args.site.now.count) (sym c.as_slice.ensures)
    (method_bound c.args.design.now c.args.site.now c.requires.site c.args.i c.args.method c.requires.there)
