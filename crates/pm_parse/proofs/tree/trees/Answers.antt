use Rattle.std.proofs.Common.{◌≡◌, ◌∙◌, ◌++◌, ◌-◌, ◌<◌, List, [], ◌∷◌, IsTrue, ap, arith, is_some, length, length-append, subst, sym, take}
use Rattle.std.proofs.lemmas.List.Elements.{All-take}
use Rattle.std.proofs.lemmas.Result.{IfOk-weaker}
use Rattle.pm_parse.specs.declared.entry.Entry.{Entry}
use Rattle.pm_parse.proofs.LastOnes.{no_last, some_last}
use Rattle.pm_parse.proofs.Trees.{AreMade, all_made, none_made, one_made}
use Rattle.pm_parse.proofs.tree.trees.Goals as goal

pub loop-last-init : goal.loop-last-init
loop-last-init c = record { made = subst (AreMade c.args.entries c.args.entries) (sym c.new-after.ensures) (none_made c.args.entries); said = c.requires }

pub loop-last-smaller : goal.loop-last-smaller
loop-last-smaller c =
    let last = some_last c.loop-last.entries c.as_slice.result.now c.in-Some.last.now c.as_slice.ensures c.in-Some.ensures.value in
    let took = c.take_last.ensures c.in-Some.last.now (take (length c.loop-last.entries - 1) c.loop-last.entries) last in
    shorter c.loop-last.entries c.take_last.new.entries c.in-Some.last.now (last ∙ ap (λ (es : List Entry). es ++ c.in-Some.last.now ∷ []) (sym took.0))
  where
    shorter : (entries before : List Entry) (last : Entry) → entries ≡ before ++ last ∷ [] → length before < length entries
    shorter entries before last is = omega (arith, ap length is, length-append before (last ∷ []))

pub loop-last-preserved : goal.loop-last-preserved
loop-last-preserved c =
    let last = some_last c.loop-last.entries c.as_slice.result.now c.in-Some.last.now c.as_slice.ensures c.in-Some.ensures.value in
    let took = c.take_last.ensures c.in-Some.last.now (take (length c.loop-last.entries - 1) c.loop-last.entries) last in
    record {
      made = one_made c.args.entries c.loop-last.entries c.take_last.new.entries c.in-Some.last.now c.loop-last.after c.take_deeper.new.trees c.push.new.self c.take_last.result c.in_ok-body.body
          c.loop-last.invariant.made (last ∙ ap (λ (es : List Entry). es ++ c.in-Some.last.now ∷ []) (sym took.0)) c.in_ok-body.ensures.taken c.in_ok-body.ensures.left took.1 c.in_ok-push.ensures.ok;
      said = rw took.0 (All-take (λ (e : Entry). IsTrue (is_some e.statement)) (length c.loop-last.entries - 1) c.loop-last.entries c.loop-last.invariant.said);
    }

pub returns : goal.returns
returns c =
    let none = no_last c.loop-last.entries c.as_slice.result.now c.as_slice.ensures c.in_default.ensures.value in
    IfOk-weaker c.take_all.result _ _ (λ nodes same. all_made c.args.entries c.loop-last.after nodes (subst (λ (es : List Entry). AreMade c.args.entries es c.loop-last.after) none c.loop-last.invariant.made) same) c.take_all.ensures
