-- The kinds of a design that is given fit, and each has what is noted of it.
use Rattle.std.proofs.Common.{◌≡◌, ℕ, zero, suc, List, [], ◌∷◌, refl, subst, map, ap, length}
use Rattle.std.specs.Prelude.{IsTrue, Some, Ok, Err, is_some, slice_get}
use Rattle.std.proofs.lemmas.Option.{same_Some}
use Rattle.pm_design.specs.declared.design.Design.{Design}
use Rattle.pm_design.specs.declared.design.Kind.{Kind}
use Rattle.pm_syn.specs.declared.statement.Node.{Node}
use Rattle.pm_elab.specs.declared.elaboration.Elaboration.{Elaboration}
use Rattle.pm_elab.specs.declared.elaboration.MadeKind.{MadeKind}
use Rattle.pm_elab.specs.declared.elaboration.RawDesign.{RawDesign}
use Rattle.pm_elab.specs.declared.elaboration.RawKind.{RawKind}
use Rattle.pm_elab.specs.declared.parameter.Param.{Param}
use Rattle.pm_elab.specs.Elab.{Checked, and_then}
use Rattle.pm_elab.specs.Files.{Globals, build, design_of}
use Rattle.pm_elab_laws.specs.Names.{names_of}
use Rattle.pm_elab_laws.specs.Soundness.{are_good_params, declares_proper_names}
use Rattle.pm_elab_laws.proofs.Fits.{keeps_same}
use Rattle.pm_elab_laws.proofs.FittingValues.{design_made}
use Rattle.pm_elab_laws.proofs.Given.{params_good}
use Rattle.pm_elab_laws.proofs.Joined.{IsKindSound}
use Rattle.pm_elab_laws.proofs.Keeping.{On, Each}
use Rattle.pm_elab_laws.proofs.Kept.{IsKept}
use Rattle.pm_elab_laws.proofs.Sounding.{IsMade, file_sound, kind_more}
use Rattle.pm_elab_laws.proofs.Tests.{never}
use Rattle.pm_made_laws.proofs.PackedShapes.{each_name}

-- one of the kinds that were made
kept_at : (d : Design) (ks : List MadeKind) → Each (IsKindSound d) ks
    → (i : ℕ) (kind : Kind) (raw : RawKind) → slice_get (map (λ (made : MadeKind). made.kind) ks) i ≡ Some kind
    → slice_get (map (λ (made : MadeKind). made.raw) ks) i ≡ Some raw → IsKept d kind raw
kept_at d [] each i kind raw first second = never (ap is_some first)
kept_at d (k ∷ ks) each zero kind raw first second =
    subst (λ (kind : Kind). IsKept d kind raw) (same_Some k.kind kind first)
    (subst (λ (raw : RawKind). IsKept d k.kind raw) (same_Some k.raw raw second) each.0.0)
kept_at d (k ∷ ks) each (suc i) kind raw first second = kept_at d ks each.1 i kind raw first second

-- as many kinds as there is noted of
as_many : (ks : List MadeKind)
    → length (map (λ (made : MadeKind). made.kind) ks) ≡ length (map (λ (made : MadeKind). made.raw) ks)
as_many [] = refl
as_many (k ∷ ks) = ap (λ (n : ℕ). suc n) (as_many ks)

abbrev AreKept : RawDesign → Type 0
AreKept r = (k : ℕ) (kind : Kind) (raw : RawKind) → slice_get r.design.kinds k ≡ Some kind
    → slice_get r.kinds k ≡ Some raw → IsKept r.design kind raw

abbrev HasAsMany : RawDesign → Type 0
HasAsMany r = length r.design.kinds ≡ length r.kinds

-- the design of what was made
design_kept : (r : Checked ((Globals × ℕ) × Elaboration)) → On r (λ x. IsMade x.1)
    → On (and_then r (λ x. Ok (design_of x.1 x.0.0 x.0.1))) AreKept
design_kept (Err e) made = tt
design_kept (Ok x) made = kept_at e x.1.kinds (each_there x.1.kinds made.kinds)
  where
    d : Design
    d = design_made x.1

    e : Design
    e = record { kinds = map (λ (made : MadeKind). made.kind) x.1.kinds; shapes = x.1.shapes; top = x.0.1 }

    each_there : (ks : List MadeKind) → Each (IsKindSound d) ks → Each (IsKindSound e) ks
    each_there [] each = tt
    each_there (k ∷ ks) each = (kind_more d e k (keeps_same d.kinds) (keeps_same d.shapes) each.0, each_there ks each.1)

design_many : (r : Checked ((Globals × ℕ) × Elaboration)) → On (and_then r (λ x. Ok (design_of x.1 x.0.0 x.0.1))) HasAsMany
design_many (Err e) = tt
design_many (Ok x) = as_many x.1.kinds

-- each kind of a design that is given fits, with what is noted of it
pub kinds_kept : (nodes : List Node) (name : List ℕ) (params : List Param) (given : RawDesign)
    → IsTrue (declares_proper_names nodes) → IsTrue (are_good_params params) → build nodes name params ≡ Ok given
    → (k : ℕ) (kind : Kind) (raw : RawKind) → slice_get given.design.kinds k ≡ Some kind
    → slice_get given.kinds k ≡ Some raw → IsKept given.design kind raw
unfolding build
kinds_kept nodes name params given names good is =
    subst (λ (r : Checked RawDesign). On r AreKept) is
    (design_kept _ (file_sound nodes name params (each_name (names_of nodes) names) (params_good params good)))

-- something is noted of each kind, and of no other
pub kinds_noted_of : (nodes : List Node) (name : List ℕ) (params : List Param) (given : RawDesign)
    → build nodes name params ≡ Ok given → length given.design.kinds ≡ length given.kinds
unfolding build
kinds_noted_of nodes name params given is = subst (λ (r : Checked RawDesign). On r HasAsMany) is (design_many _)
