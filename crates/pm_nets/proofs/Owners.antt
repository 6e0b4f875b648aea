-- The kinds and signals that parts name.
use Rattle.std.proofs.Common.{◌≡◌, ◌∙◌, ◌-◌, ◌<◌, ℕ, zero, suc, length, get_or, refl, sym, ap}
use Rattle.std.proofs.Common.{subst, arith}
use Rattle.std.specs.Prelude.{IsTrue}
use Rattle.std.specs.List.{list_all}
use Rattle.std.proofs.lemmas.List.{get_or_default}
use Rattle.pm_design.specs.declared.connection.Part.{Part}
use Rattle.pm_design.specs.declared.design.Child.{Child}
use Rattle.pm_design.specs.declared.design.Design.{Design}
use Rattle.pm_design.specs.declared.design.Kind.{Kind}
use Rattle.pm_design.specs.declared.signal.Signal.{Signal}
use Rattle.pm_design.specs.Elaborated.{is_before}
use Rattle.pm_design.specs.Lookups.{kind_of, lies_within, no_child, no_kind, no_signal, owner_kind_of, signal_of}
use Rattle.pm_instances.proofs.Numbers.{child_kind}
use Rattle.pm_nets.proofs.Parts.{child_there, signal_there}

-- the child that an owner's number names
pub child_listed : (design : Design) (kind : Kind) (part : Part) → IsTrue (lies_within design kind part) →
    (part.owner ≡ 0 → ⊥) →
    part.owner - 1 < length kind.children
child_listed design kind part within other = go part.owner refl
  where
    go : (o : ℕ) → part.owner ≡ o → part.owner - 1 < length kind.children
    go zero e = absurd (other e)
    go (suc c) e =
        let there : c < length kind.children = child_there design kind c part.signal
        (subst (λ (n : ℕ). part.signal < length (owner_kind_of design kind n).signals) e
        (signal_there design kind part within)) in
        omega arith

pub child_known : (design : Design) (kind : Kind) (c : ℕ) (x : Child) →
    IsTrue (list_all (is_before (length design.kinds)) kind.children) →
    c < length kind.children → x ≡ get_or kind.children c x → x.kind < length design.kinds
child_known design kind c x all lt at = child_kind kind.children (length design.kinds) c x all lt at

pub child_owner : (design : Design) (kind found : Kind) (part : Part) (x : Child) →
    IsTrue (lies_within design kind part) → (part.owner ≡ 0 → ⊥) →
    x ≡ get_or kind.children (part.owner - 1) x → x.kind < length design.kinds →
    found ≡ get_or design.kinds x.kind found →
    found ≡ owner_kind_of design kind part.owner
child_owner design kind found part x within other at known is = go part.owner refl
  where
    go : (o : ℕ) → part.owner ≡ o → found ≡ owner_kind_of design kind part.owner
    go zero e = absurd (other e)
    go (suc c) e =
        let less : part.owner - 1 ≡ c = ap (λ (n : ℕ). n - 1) e ∙ omega arith in
        let there : part.owner - 1 < length kind.children = child_listed design kind part within other in
        is ∙ (get_or_default design.kinds x.kind found no_kind known
        ∙ (ap (λ (y : Child). kind_of design y.kind) (at ∙ get_or_default kind.children (part.owner - 1) x
        (no_child design.kinds) there)
        ∙ (ap (λ (n : ℕ). kind_of design (get_or kind.children n (no_child design.kinds)).kind) less
        ∙ ap (owner_kind_of design kind) (sym e))))

pub ruleset owner_kinds = (child_listed, child_known, child_owner)

pub signal_listed : (design : Design) (kind owner : Kind) (part : Part) → IsTrue (lies_within design kind part) →
    owner ≡ owner_kind_of design kind part.owner → part.signal < length owner.signals
signal_listed design kind owner part within is =
    subst (λ (k : Kind). part.signal < length k.signals) (sym is) (signal_there design kind part within)

pub signal_found : (design : Design) (kind owner : Kind) (part : Part) (x : Signal) →
    IsTrue (lies_within design kind part) →
    owner ≡ owner_kind_of design kind part.owner → x ≡ get_or owner.signals part.signal x →
    x.role ≡ (signal_of design kind part).role
signal_found design kind owner part x within is at =
    ap (λ (s : Signal). s.role) (at ∙ (get_or_default owner.signals part.signal x no_signal
    (signal_listed design kind owner part within is)
    ∙ ap (λ (k : Kind). get_or k.signals part.signal no_signal) is))

pub ruleset signals = (signal_listed, signal_found)
