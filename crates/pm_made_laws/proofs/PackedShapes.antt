-- Each bitstruct of a design that is given is packed.
use Rattle.std.proofs.Common.{◌≡◌, ◌+◌, ◌==◌, ◌&&◌, ℕ, true, List, [], ◌∷◌, refl, subst, map, length}
use Rattle.std.specs.Prelude.{Option, Some, None, Ok, Err, nat_lt, nat_le, slice_get, IsTrue}
use Rattle.std.specs.List.{list_all}
use Rattle.std.proofs.lemmas.Bool.{and_parts}
use Rattle.pm_design.specs.declared.signal.Field.{Field}
use Rattle.pm_design.specs.declared.signal.Shape.{Shape}
use Rattle.pm_design.specs.declared.design.Design.{Design}
use Rattle.pm_design.specs.Widths.{is_width, total}
use Rattle.pm_syn.specs.Names.{is_proper_name}
use Rattle.pm_elab.specs.declared.elaboration.Elaboration.{Elaboration}
use Rattle.pm_elab.specs.declared.elaboration.RawDesign.{RawDesign}
use Rattle.pm_elab.specs.declared.parameter.Param.{Param}
use Rattle.pm_elab.specs.Elab.{Checked, and_then}
use Rattle.pm_elab.specs.Files.{Globals, build, design_of, nothing_made}
use Rattle.pm_elab_laws.specs.Names.{Words, names_of}
use Rattle.pm_elab_laws.proofs.EqualValues.{both}
use Rattle.pm_elab_laws.proofs.Constructs.{IsKind}
use Rattle.pm_elab_laws.proofs.Files.{build_runs}
use Rattle.pm_elab_laws.proofs.Fits.{all_more, has_width, shape_fits}
use Rattle.pm_elab_laws.proofs.FittingValues.{design_made, field_fits, shape_is_good}
use Rattle.pm_elab_laws.proofs.Given.{params_good}
use Rattle.pm_elab_laws.proofs.Keeping.{On, Each, Runs}
use Rattle.pm_elab_laws.proofs.Steps.{every_name}
use Rattle.pm_elab_laws.proofs.Sounding.{IsMade, file_sound}
use Rattle.pm_elab_laws.proofs.Tests.{never}
use Rattle.pm_type_laws.specs.Good.{fills, has_shape, is_field, is_packed}
use Rattle.pm_made_laws.specs.Shapes.{BitstructsArePacked}
use Rattle.pm_made_laws.proofs.Filling.{AreFilled, filling, is_filled}

-- ---- one bitstruct

-- the bitstruct that a type names
pub fills_so : (d : Design) (w : ℕ) (s : Option ℕ) → shape_fits d w s ≡ true → fills d.shapes w s ≡ true
fills_so d w None is = refl
fills_so d w (Some k) is = by (slice_get d.shapes k) is
  where
    by : (x : Option Shape) → has_width w x ≡ true → has_shape d.shapes w x ≡ true
    by None is = never is
    by (Some shape) is = is

-- a field
field_so : (d : Design) (w : ℕ) (f : Field) → field_fits d w f ≡ true → is_field d.shapes w f ≡ true
field_so d w f is =
    let first = and_parts (is_width f.width) (shape_fits d f.width f.shape && nat_le (f.lo + f.width) w) is in
    let second = and_parts (shape_fits d f.width f.shape) (nat_le (f.lo + f.width) w) first.1 in
    both (nat_le (f.lo + f.width) w) _ second.1
    (both (is_width f.width) _ first.0 (fills_so d f.width f.shape second.0))

-- a bitstruct whose fields fit and fill it
packed_so : (d : Design) (s : Shape) → shape_is_good d s ≡ true → is_filled s ≡ true → is_packed d.shapes s ≡ true
packed_so d s good filled =
    let widths = and_parts (is_width s.width) (list_all (field_fits d s.width) s.fields) good in
    let parts = and_parts (nat_lt 0 (length s.fields)) (total (map (λ (f : Field). f.width) s.fields) == s.width)
    filled in
    both (nat_lt 0 (length s.fields)) _ parts.0
    (both (total (map (λ (f : Field). f.width) s.fields) == s.width) _ parts.1
    (all_more (field_fits d s.width) (is_field d.shapes s.width) s.fields (field_so d s.width) widths.1))

-- ---- all of them

all_packed : (d : Design) (shapes : List Shape) → list_all (shape_is_good d) shapes ≡ true → AreFilled shapes
    → list_all (is_packed d.shapes) shapes ≡ true
all_packed d [] good filled = refl
all_packed d (s ∷ shapes) good filled =
    let first = and_parts (shape_is_good d s) (list_all (shape_is_good d) shapes) good in
    let second = and_parts (is_filled s) (list_all is_filled shapes) filled in
    both (is_packed d.shapes s) _ (packed_so d s first.0 second.0) (all_packed d shapes first.1 second.1)

-- what a file makes is filled
made_filled : (r : Checked ((Globals × ℕ) × Elaboration))
    → Runs filling nothing_made r (λ x n. IsKind filling nothing_made n x.1) → On r (λ x. AreFilled x.1.shapes)
unfolding filling
made_filled (Ok x) run = run.keeps.0 refl
made_filled (Err e) run = tt

abbrev ArePacked : RawDesign → Type 0
ArePacked r = IsTrue (list_all (is_packed r.design.shapes) r.design.shapes)

-- the design of what was made
design_packed : (r : Checked ((Globals × ℕ) × Elaboration)) → On r (λ x. IsMade x.1) → On r (λ x. AreFilled x.1.shapes)
    → On (and_then r (λ x. Ok (design_of x.1 x.0.0 x.0.1))) ArePacked
design_packed (Ok x) made filled = all_packed (design_made x.1) x.1.shapes made.shapes filled
design_packed (Err e) made filled = tt

every_param : (ps : List Param) → Each (λ (p : Param). Unit {0}) ps
every_param [] = tt
every_param (p ∷ ps) = (tt, every_param ps)

pub each_name : (ns : Words) → list_all is_proper_name ns ≡ true → Each (λ (n : List ℕ). is_proper_name n ≡ true) ns
each_name [] all = tt
each_name (n ∷ ns) all =
    let parts = and_parts (is_proper_name n) (list_all is_proper_name ns) all in (parts.0, each_name ns parts.1)

pub bitstructs_packed : BitstructsArePacked
unfolding build filling
bitstructs_packed nodes name params given names good is =
    subst (λ (r : Checked RawDesign). On r ArePacked) is
    (design_packed _ (file_sound nodes name params (each_name (names_of nodes) names) (params_good params good))
    (made_filled _ (build_runs filling nodes name params refl (every_name (names_of nodes)) (every_param params))))
