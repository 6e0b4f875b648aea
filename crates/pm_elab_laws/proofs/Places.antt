-- Places of expressions, and what an expression keeps there.
use Rattle.std.proofs.Common.{◌≡◌, ◌+◌, ℕ, ℤ, Bool, true, false, List, [], ◌∷◌, ◌++◌, refl}
use Rattle.std.specs.Prelude.{Option, Some, None, Ok, Err, nat_lt, if◌then◌else◌}
use Rattle.pm_values.specs.declared.fault.BuildFault.{BuildFault}
use Rattle.pm_values.specs.declared.fault.BuildFault.TheVariants.{BuildBudget}
use Rattle.pm_values.specs.declared.value.Value.{Value}
use Rattle.pm_values.specs.declared.value.Value.TheVariants as value
use Rattle.pm_elab.specs.declared.call.Given.{Given}
use Rattle.pm_elab.specs.declared.elaboration.Elaboration.{Elaboration}
use Rattle.pm_elab.specs.declared.elaboration.TheConstants.{MAX_STEPS}
use Rattle.pm_elab.specs.declared.frame.Frame.{Frame}
use Rattle.pm_elab.specs.Elab.{Checked, and_then, or_else, Elab, step}
use Rattle.pm_elab.specs.Expressions.{Meaning, Make, int_of}
use Rattle.pm_elab.specs.Sites.{Site, Scope, with_turn}
use Rattle.pm_elab.specs.Values.{int}
use Rattle.pm_elab_laws.specs.Names.{names_of}
use Rattle.pm_elab_laws.proofs.Keeping.{On, Each, Where, Origin, stepped, Keeping, Runs, bind, so, lifted}

-- what every line of a file sees is as it must be
pub record IsScope (k : Keeping) (m : Elaboration) (file : Scope) : Type 0 where
  pub fine : k.IsFine m
  pub names : Each (λ (p : List ℕ × Value). k.IsGlobal m p.1) file.names
  pub nodes : Each k.IsName (names_of file.nodes)

-- so is what an expression sees at its place
pub record IsSite (k : Keeping) (o : Origin) (m : Elaboration) (site : Site) : Type 0 where
  pub file : IsScope k m site.file
  pub frame : Where (k.IsFrame o m) site.frame

-- an expression keeps the facts at each place
abbrev pub IsMeaning : Keeping → Meaning → Type 0
IsMeaning k e = (o : Origin) (m : Elaboration) (site : Site) → IsSite k o m site
    → Runs k m (e.value site m) (λ v n. k.IsValue m n site.frame v)

-- the call of a class keeps the facts at each place
abbrev pub IsMake : Keeping → Make → Type 0
IsMake k make = (o : Origin) (l m : Elaboration) (site : Site) (name : List ℕ) (gs : List Given) → IsSite k o m site
    → Each (λ (g : Given). k.IsValue l m site.frame g.value) gs
    → Runs k m (make site name gs m) (λ v n. k.IsValue m n site.frame v)

-- nothing is said
pub any : {A : Type 0} (r : Checked A) → On r (λ _. Unit {0})
any (Ok a) = tt
any (Err e) = tt

pub each_so : {A : Type 0} (P Q : A → Type 0) (xs : List A) → ((a : A) → P a → Q a) → Each P xs → Each Q xs
each_so P Q [] so each = tt
each_so P Q (x ∷ xs) so each = (so x each.0, each_so P Q xs so each.1)

pub each_more : {A : Type 0} (P : A → Type 0) (xs ys : List A) → Each P xs → Each P ys → Each P (xs ++ ys)
each_more P [] ys first second = second
each_more P (x ∷ xs) ys first second = (first.0, each_more P xs ys first.1 second)

pub each_left : {A : Type 0} (P : A → Type 0) (xs ys : List A) → Each P (xs ++ ys) → Each P xs
each_left P [] ys each = tt
each_left P (x ∷ xs) ys each = (each.0, each_left P xs ys each.1)

pub each_right : {A : Type 0} (P : A → Type 0) (xs ys : List A) → Each P (xs ++ ys) → Each P ys
each_right P [] ys each = each
each_right P (x ∷ xs) ys each = each_right P xs ys each.1

pub where_so : {A : Type 0} (P Q : A → Type 0) (x : Option A) → ((a : A) → P a → Q a) → Where P x → Where Q x
where_so P Q (Some a) so is = so a is
where_so P Q None so is = tt

-- a result that is there has the property
pub found : {A : Type 0} (P : A → Type 0) (x : Option A) (e : BuildFault) → Where P x → On (or_else x e) P
found P (Some a) e is = is
found P None e is = tt

-- one of two, by a test
pub chosen : {A : Type 0} (P : A → Type 0) (b : Bool) (x y : A) → P x → P y → P (if b then x else y)
chosen P true x y first second = first
chosen P false x y first second = second

module _ (k : Keeping) where
  -- a result of which nothing is said
  pub free : {A : Type 0} (m : Elaboration) (r : Checked A) → Runs k m (and_then r (λ a. Ok (a, m))) (λ _ _. Unit {0})
  free m r = lifted k {G = λ _ _. Unit {0}} m r (any r)

  -- one of two runs, by a test
  pub fork : {A : Type 0} {G : A → Elaboration → Type 0} (m : Elaboration) (b : Bool) (p q : Elab A)
      → Runs k m (p m) G → Runs k m (q m) G
      → Runs k m (if◌then◌else◌ {A = Elab A} b p q m) G
  fork m true p q first second = first
  fork m false p q first second = second

  pub scope_on : (m n : Elaboration) (file : Scope) → k.Leads m n → IsScope k m file → IsScope k n file
  scope_on m n file leads is = record {
    fine = k.fine_on m n leads is.fine;
    names = each_so (λ (p : List ℕ × Value). k.IsGlobal m p.1) (λ (p : List ℕ × Value). k.IsGlobal n p.1) file.names
        (λ p. k.global_on m n p.1 leads) is.names;
    nodes = is.nodes;
  }

  pub site_on : (o : Origin) (m n : Elaboration) (site : Site) → k.Leads m n → IsSite k o m site → IsSite k o n site
  site_on o m n site leads is = record {
    file = scope_on m n site.file leads is.file;
    frame = where_so (k.IsFrame o m) (k.IsFrame o n) site.frame (λ f. k.frame_on o m n f leads) is.frame;
  }

  pub turn_site : (o : Origin) (m : Elaboration) (site : Site) (name : List ℕ) (n : ℤ) → IsSite k o m site
      → IsSite k o m (with_turn site name n)
  turn_site o m site name n is = record { file = is.file; frame = is.frame }

  -- an integer is a value anywhere
  pub int_any : (l m : Elaboration) (fr : Option Frame) (n : ℤ) → k.Leads l m → k.IsValue l m fr (value.Int n)
  int_any l m fr n leads = k.value_from l m m fr (value.Int n) leads (k.int_value m fr n)

  pub global_any : (l m : Elaboration) (fr : Option Frame) (v : Value) → k.Leads l m → k.IsGlobal m v
      → k.IsValue l m fr v
  global_any l m fr v leads is = k.value_from l m m fr v leads (k.global_value m fr v is)

  -- a step leads on
  pub steps : (line : ℕ) (m : Elaboration)
      → Runs k m (step line m) (λ _ n. (n ≡ stepped m) × (nat_lt m.steps MAX_STEPS ≡ true))
  unfolding step
  steps line m = by (nat_lt m.steps MAX_STEPS) refl
    where
      by : (b : Bool) → nat_lt m.steps MAX_STEPS ≡ b
          → Runs k m (if b then Ok (tt {0}, record m { steps = m.steps + 1 }) else Err (BuildBudget line))
          (λ _ n. (n ≡ stepped m) × (nat_lt m.steps MAX_STEPS ≡ true))
      by true is = record { keeps = (k.steps m is, (refl, is)) }
      by false is = record { keeps = tt }

  -- the integer that an expression gives
  pub int_runs : (e : Meaning) → IsMeaning k e → (o : Origin) (m : Elaboration) (site : Site) → IsSite k o m site
      → Runs k m (int_of e site m) (λ n l. Unit {0})
  int_runs e means o m site at = bind k m (e.value site m) _ (means o m site at) (λ x leads is. lifted k x.1
      (int site.line x.0) (any (int site.line x.0)))
