use Rattle.std.proofs.Common.{◌≡◌, ◌≢◌, ◌∙◌, sym, arith}
use Rattle.pm_class.specs.Class.{class_of}
use Rattle.pm_elab.specs.Sites.{site_of}
use Rattle.pm_build.proofs.Makings.{make_none, make_refused, make_fails, make_found, make_deep, make_new}
use Rattle.pm_build.proofs.Outcomes.{elabs_as, elabs_err, elabs_gives, same_result}
use Rattle.pm_build.proofs.make.+make_at.Goals as goal

pub returns-in-None : goal.returns-in-None
returns-in-None t c =
    λ known. make_none (site_of c.args.site.now) c.args.name.now c.args.given.now c.args.elaboration.now c.args.level (sym c.in-None.ensures)

pub returns-in-None-level : goal.returns-in-None-level
returns-in-None-level t c =
    rw c.in-None-level.is (elabs_as _ _ _ _
    (make_refused (site_of c.args.site.now) c.args.name.now c.args.given.now c.args.elaboration.now (class_of c.in-Some.class) (sym c.in-Some.ensures))
    (elabs_gives _ _ _ c.refused.ensures))

pub returns-in_err-values : goal.returns-in_err-values
returns-in_err-values t c =
    rw c.in-Some-level.is (elabs_err _ _ _ _ c.from_residual.ensures.1
    (λ known. make_fails (site_of c.args.site.now) c.args.name.now c.args.given.now c.args.elaboration.now c.in-Some-level.left (class_of c.in-Some.class) _
    (sym c.in-Some.ensures) (rw c.construct_in-construct.ensures at (c.in_err-values.ensures known))))

pub returns-in-Some-2 : goal.returns-in-Some-2
returns-in-Some-2 t c =
    let ok = rw c.construct_in-construct.ensures at c.in_ok-values.ensures in
    let found = same_result _ _ (rw c.as_slice.ensures at c.in_ok-kind.ensures) ∙ c.in-Some-2.is in
    rw c.in-Some-level.is (make_found (site_of c.args.site.now) c.args.name.now c.args.given.now c.args.elaboration.now c.in-Some-level.left (class_of c.in-Some.class) _ _ _
    (sym c.in-Some.ensures) ok found)

pub returns-then-left-eq0 : goal.returns-then-left-eq0
returns-then-left-eq0 t c =
    let ok = rw c.construct_in-construct.ensures at c.in_ok-values.ensures in
    let found = same_result _ _ (rw c.as_slice.ensures at c.in_ok-kind.ensures) ∙ c.in-None-2.is in
    λ known. rw c.in-Some-level.is (make_deep (site_of c.args.site.now) c.args.name.now c.args.given.now c.args.elaboration.now c.in-Some-level.left (class_of c.in-Some.class) _ _
    (omega (arith, c.if-left-eq0.true)) (sym c.in-Some.ensures) ok found)

pub returns : goal.returns
returns t c =
    let ok = rw c.construct_in-construct.ensures at c.in_ok-values.ensures in
    let found = same_result _ _ (rw c.as_slice.ensures at c.in_ok-kind.ensures) ∙ c.in-None-2.is in
    rw c.in-Some-level.is (elabs_as _ _ _ _
    (make_new (site_of c.args.site.now) c.args.name.now c.args.given.now c.args.elaboration.now c.in-Some-level.left (class_of c.in-Some.class) _ _
    (omega (arith, c.if-left-eq0.false)) (sym c.in-Some.ensures) ok found)
    c.constructed.ensures)
