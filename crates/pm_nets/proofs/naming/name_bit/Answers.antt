use Rattle.std.proofs.Common.{◌≡◌, ◌∙◌, ◌+◌, ◌<◌, ◌≤◌, ◌++◌, ℕ, List, ap, ap₂, arith, codes, get_or, length, map}
use Rattle.std.proofs.Common.{subst, sym, take}
use Rattle.std.proofs.lemmas.List.{get_or_default}
use Rattle.pm_design.specs.declared.design.Kind.{Kind}
use Rattle.pm_design.specs.declared.plan.Instance.{Instance}
use Rattle.pm_design.specs.declared.signal.Signal.{Signal}
use Rattle.pm_design.specs.Instances.{first_bits_from}
use Rattle.pm_design.specs.Layout.{instance_of}
use Rattle.pm_design.specs.Lookups.{no_signal}
use Rattle.pm_design.specs.Runnable.{kind_at}
use Rattle.pm_design.specs.Widths.{total}
use Rattle.pm_instances.specs.Laid.{laid_out}
use Rattle.pm_nets.proofs.BitNames.{begins_behind, same_instance}
use Rattle.pm_nets.proofs.naming.name_bit.Goals as goal

pub returns : goal.returns
returns c =
    let plan = laid_out c.args.design.now in
    let i : ℕ = c.instance_with-i.result in
    let s : ℕ = c.signal_with-signal.result.0 in
    let x : Instance = c.instance_at-instance.result.now in
    let own : List Signal = c.as_slice-signals.result.now in
    let are : own ≡ (kind_at plan i).signals = c.as_slice-signals.ensures
    ∙ ap (λ (k : Kind). k.signals) c.instance_kind.ensures in
    let here : x ≡ instance_of plan i =
    same_instance c.args.design.now c.args.site.now c.requires.site i x c.instance_with-i.ensures.there
    c.instance_at-instance.ensures in
    let listed : s < length own = c.signal_with-signal.ensures.there in
    let at : get_or own s c.index-signals-signal.result ≡ get_or (kind_at plan i).signals s no_signal =
    get_or_default own s c.index-signals-signal.result no_signal listed
    ∙ ap (λ (l : List Signal). get_or l s no_signal) are in
    let begins : get_or (first_bits_from x.first_bit own) s 0 ≡ x.first_bit + total (map (λ y. y.width) (take s own)) =
    begins_behind own x.first_bit s listed in
    let begun : x.first_bit ≤ c.args.flat =
    subst (λ (y : Instance). y.first_bit ≤ c.args.flat) (sym here) c.instance_with-i.ensures.from in
    let rest = c.signal_with-signal.ensures.place in
    let place : c.args.flat ≡ get_or (first_bits_from x.first_bit own) s 0 + c.signal_with-signal.result.1 =
    omega arith in
    record {
      instance = i;
      signal = s;
      there = subst (λ (l : List Instance). i < length l) c.requires.site.instances c.instance_with-i.ensures.there;
      listed = subst (λ (l : List Signal). s < length l) are listed;
      name = c.from_vec.ensures ∙ (c.in_ok-name.ensures
          ∙ ap₂ (λ (p n : List ℕ). p ++ codes "." ++ n) (c.as_slice.ensures ∙ ap (λ (y : Instance). y.path) here)
          (c.as_slice-2.ensures ∙ ap (λ (y : Signal). y.name) at));
      within =
          subst (λ (l : List Signal). c.signal_with-signal.result.1 <
          (get_or l s no_signal).width) are c.signal_with-signal.ensures.within;
      place = place
          ∙ ap₂ (λ (y : Instance) (l : List Signal). get_or
          (first_bits_from y.first_bit l) s 0 + c.signal_with-signal.result.1) here are;
    }
