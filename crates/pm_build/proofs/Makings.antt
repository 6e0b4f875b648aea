-- What the call of a class does, by what is found on the way.
use Rattle.std.proofs.Common.{◌≡◌, ◌∙◌, ℕ, zero, suc, ◌+◌, ◌-◌, ◌<◌, List, refl, ap, sym, arith}
use Rattle.std.specs.Prelude.{Option, Some, None, Ok, Err}
use Rattle.pm_values.specs.declared.fault.BuildFault.{BuildFault}
use Rattle.pm_values.specs.declared.fault.BuildFault.TheVariants.{BuildDepth, WrongKind}
use Rattle.pm_values.specs.declared.value.Value.{Value}
use Rattle.pm_elab.specs.declared.call.Given.{Given}
use Rattle.pm_elab.specs.declared.elaboration.Elaboration.{Elaboration}
use Rattle.pm_elab.specs.Classes.{Class, class_named, construct_in, arguments}
use Rattle.pm_elab.specs.Constructs.{Made, make_at, make_to, make_by, made_by, made_with, made_or, made_already, kind_made, constructed, too_deep, refuse, refused_at, class_call_by, new_child}
use Rattle.pm_elab.specs.Elab.{Checked, Elab, and_then}
use Rattle.pm_elab.specs.Sites.{Site}

-- how many constructs may be nested, and one more where any may
abbrev pub levels : Option ℕ → ℕ
levels None = 0
levels (Some n) = n + 1

module _ (site : Site) (name : List ℕ) (gs : List Given) (m : Elaboration) where
  -- no class of the name
  by_none : (made : Made) → class_named site.file.nodes name ≡ None → make_by made site name gs m ≡ Err (WrongKind site.line)
  unfolding make_by
  by_none made none = ap (λ (c : Option Class). class_call_by c (made_by made site name gs) site.line m) none

  pub make_none : (level : Option ℕ) → class_named site.file.nodes name ≡ None → make_at level site name gs m ≡ Err (WrongKind site.line)
  unfolding make_at make_to refuse
  make_none None none = ap (λ (c : Option Class). class_call_by c (refused_at site.line gs) site.line m) none
  make_none (Some zero) none = by_none too_deep none
  make_none (Some (suc n)) none = by_none (constructed refuse (make_to n)) none

  pub make_refused : (c : Class) → class_named site.file.nodes name ≡ Some c → make_at None site name gs m ≡ refused_at site.line gs c m
  unfolding make_at refuse
  make_refused c is = ap (λ (c : Option Class). class_call_by c (refused_at site.line gs) site.line m) is

  by_class : (made : Made) (c : Class) → class_named site.file.nodes name ≡ Some c → make_by made site name gs m ≡ made_by made site name gs c m
  unfolding make_by
  by_class made c is = ap (λ (c : Option Class). class_call_by c (made_by made site name gs) site.line m) is

  by_err : (made : Made) (c : Class) (e : BuildFault) → class_named site.file.nodes name ≡ Some c
      → arguments refuse site.file (construct_in c.lines) gs site.line m ≡ Err e → make_by made site name gs m ≡ Err e
  by_err made c e is fails =
      by_class made c is
      ∙ ap (λ (r : Checked (List Value × Elaboration)). and_then r (λ p. made_with made site.file name c p.0 site.line p.1)) fails

  by_ok : (made : Made) (c : Class) (vs : List Value) (n : Elaboration) → class_named site.file.nodes name ≡ Some c
      → arguments refuse site.file (construct_in c.lines) gs site.line m ≡ Ok (vs, n) → (o : Option ℕ) → made_already c.class (kind_made n.kinds name vs) ≡ o
      → make_by made site name gs m ≡ made_or o (made site.file name c vs site.line) n
  unfolding made_with
  by_ok made c vs n is ok o found =
      by_class made c is
      ∙ ap (λ (r : Checked (List Value × Elaboration)). and_then r (λ p. made_with made site.file name c p.0 site.line p.1)) ok
      ∙ ap (λ (o : Option ℕ). made_or o (made site.file name c vs site.line) n) found

  pub make_fails : (left : ℕ) (c : Class) (e : BuildFault) → class_named site.file.nodes name ≡ Some c
      → arguments (make_at None) site.file (construct_in c.lines) gs site.line m ≡ Err e → make_at (Some left) site name gs m ≡ Err e
  unfolding make_at make_to
  make_fails zero c e is fails = by_err too_deep c e is fails
  make_fails (suc left) c e is fails = by_err (constructed refuse (make_to left)) c e is fails

  pub make_found : (left : ℕ) (c : Class) (vs : List Value) (n : Elaboration) (k : ℕ) → class_named site.file.nodes name ≡ Some c
      → arguments (make_at None) site.file (construct_in c.lines) gs site.line m ≡ Ok (vs, n) → made_already c.class (kind_made n.kinds name vs) ≡ Some k
      → make_at (Some left) site name gs m ≡ new_child k n
  unfolding make_at make_to
  make_found zero c vs n k is ok found = by_ok too_deep c vs n is ok (Some k) found
  make_found (suc left) c vs n k is ok found = by_ok (constructed refuse (make_to left)) c vs n is ok (Some k) found

  pub make_deep : (left : ℕ) (c : Class) (vs : List Value) (n : Elaboration) → left ≡ 0 → class_named site.file.nodes name ≡ Some c
      → arguments (make_at None) site.file (construct_in c.lines) gs site.line m ≡ Ok (vs, n) → made_already c.class (kind_made n.kinds name vs) ≡ None
      → make_at (Some left) site name gs m ≡ Err (BuildDepth site.line)
  unfolding make_at make_to too_deep
  make_deep zero c vs n none is ok found = by_ok too_deep c vs n is ok None found
  make_deep (suc left) c vs n none is ok found = absurd (omega (arith, none))

  pub make_new : (left : ℕ) (c : Class) (vs : List Value) (n : Elaboration) → 0 < left → class_named site.file.nodes name ≡ Some c
      → arguments (make_at None) site.file (construct_in c.lines) gs site.line m ≡ Ok (vs, n) → made_already c.class (kind_made n.kinds name vs) ≡ None
      → make_at (Some left) site name gs m ≡ constructed (make_at None) (make_at (Some (left - 1))) site.file name c vs site.line n
  unfolding make_at make_to
  make_new zero c vs n some is ok found = absurd (omega (arith, some))
  make_new (suc left) c vs n some is ok found =
      let less : suc left - 1 ≡ left = omega arith in
      by_ok (constructed refuse (make_to left)) c vs n is ok None found
      ∙ ap (λ j. constructed refuse (make_to j) site.file name c vs site.line n) (sym less)
