-- The fields of each bitstruct fill it.
use Rattle.std.proofs.Common.{◌≡◌, ◌+◌, ◌==◌, ◌&&◌, ℕ, Bool, true, List, [], ◌∷◌, refl, map, ap, length, arith}
use Rattle.std.specs.Prelude.{nat_lt}
use Rattle.std.specs.List.{list_all}
use Rattle.pm_design.specs.declared.signal.Field.{Field}
use Rattle.pm_design.specs.declared.signal.Shape.{Shape}
use Rattle.pm_design.specs.Widths.{total}
use Rattle.pm_elab.specs.Files.{width_of_fields}
use Rattle.pm_elab_laws.proofs.EqualValues.{both}
use Rattle.pm_elab_laws.proofs.Fits.{all_last}
use Rattle.pm_elab_laws.proofs.Keeping.{Keeping}
use Rattle.pm_elab_laws.proofs.Places.{any}
use Rattle.pm_elab_laws.proofs.Steps.{anywhere}

abbrev Nothing : Type 0
Nothing = Unit {0}

-- a bitstruct has a field, and its fields are as wide as it is
abbrev pub is_filled : Shape → Bool
is_filled s = nat_lt 0 (length s.fields) && total (map (λ (f : Field). f.width) s.fields) == s.width

-- each does
abbrev pub AreFilled : List Shape → Type 0
AreFilled shapes = list_all is_filled shapes ≡ true

widths_total : (fs : List Field) → total (map (λ (f : Field). f.width) fs) ≡ width_of_fields fs
widths_total [] = refl
widths_total (f ∷ fs) = ap (λ (n : ℕ). f.width + n) (widths_total fs)

-- a bitstruct that is made
pub made_filled : (name : List ℕ) (f : Field) (fs : List Field)
    → is_filled (record { name = name; fields = f ∷ fs; width = width_of_fields (f ∷ fs) }) ≡ true
made_filled name f fs =
    let same = widths_total (f ∷ fs) in
    let filled : (total (map (λ (f : Field). f.width) (f ∷ fs)) == width_of_fields (f ∷ fs)) ≡ true = grind
    (arith, same) in
    let some : nat_lt 0 (length (f ∷ fs)) ≡ true = grind arith in
    both (nat_lt 0 (length (f ∷ fs))) _ some filled

-- nothing is said of values and frames
unfoldable pub filling : Keeping
filling = record {
  Leads = λ m n. AreFilled m.shapes → AreFilled n.shapes;
  IsFine = λ m. AreFilled m.shapes;
  IsName = λ name. Nothing;
  IsParam = λ p. Nothing;
  IsType = λ m t. Nothing;
  IsValue = λ l m fr v. Nothing;
  IsItems = λ l m fr vs. Nothing;
  IsGlobal = λ m v. Nothing;
  IsFrame = λ o m f. Nothing;
  IsReady = λ o m f. Nothing;
  IsFields = λ m fs. Nothing;
  stays = λ m fine. fine;
  on = λ l m n first second fine. second (first fine);
  fine_on = λ m n leads is. leads is;
  type_on = λ m n t leads is. tt;
  value_on = λ l m n fr v leads is. tt;
  value_from = λ l m n fr v leads is. tt;
  global_on = λ m n v leads is. tt;
  frame_on = λ o m n f leads is. tt;
  fields_on = λ m n fs leads is. tt;
  steps = λ m less fine. fine;
  ready = λ o m f less is. tt;
  unready = λ o m f is. tt;
  int_value = λ m fr n. tt;
  own_value = λ m fr. tt;
  const_value = λ m fr w constant. tt;
  class_value = λ m n. tt;
  param_value = λ m p is. tt;
  named_type = λ m name. anywhere _;
  global_value = λ m fr v is. tt;
  plain_value = λ l m fr v plain is. tt;
  local_value = λ o m f name is. anywhere _;
  rule_value = λ l k m fr t u first second. tt;
  block_value = λ o m f name is. anywhere _;
  attribute_value = λ o l m site name v fine frame is. any _;
  element_value = λ l m fr line v n is. any _;
  slice_value = λ l m fr line v lo hi is. any _;
  called_value = λ l m fr f line gs each. any _;
  items_none = λ m fr. tt;
  items_more = λ l m n fr vs v less leads items is. tt;
  items_value = λ l m fr vs is. tt;
  type_of_value = λ l m fr line v is. any _;
  kind_value = λ m fr name vs fine. anywhere _;
  component_frame = λ m name ps vs fine names each. tt;
  interface_frame = λ m name ps vs fine names each. tt;
  interface_value = λ l m fr name f is. tt;
  assigned_frame = λ o m n to v line f leads fine ready aimed is. any _;
  connected_frame = λ o k l m n a b line f leads fine ready first second. any _;
  lambda_frame = λ o m n v e line f leads ready is. any _;
  state_frame = λ o m n to t v line f leads ready aimed type is. any _;
  constrained_frame = λ o m n gs line f leads ready each. any _;
  block_frame = λ o m name s after below line f ready names. any _;
  loop_frame = λ o m name n f is. tt;
  method_frame = λ o m name types g line nodes f made is names arguments result. any _;
  kept = λ o m fr vs f made is each. (λ fine. fine, tt);
  fields_none = λ m. tt;
  fields_more = λ m line fs name t is type. any _;
  shape_kept = λ m name f fs is. (
    λ fine. all_last is_filled m.shapes _ fine (made_filled name f fs),
    tt,
  );
}
