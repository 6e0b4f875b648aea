-- Steps are added, up to their bound, and what was made keeps its number.
use Rattle.std.proofs.Common.{◌≡◌, ◌∙◌, ◌≤◌, ◌<◌, ℕ, true, List, [], ◌∷◌, ◌++◌, refl, sym, map, ap, arith, ltb-true}
use Rattle.std.proofs.Common.{nat_lt, append-nil, append_assoc}
use Rattle.std.specs.Prelude.{Option, Some, None}
use Rattle.pm_syn.specs.declared.statement.Node.{Node}
use Rattle.pm_values.specs.declared.value.Value.{Value}
use Rattle.pm_values.specs.Tables.{Names}
use Rattle.pm_elab.specs.declared.call.Given.{Given}
use Rattle.pm_elab.specs.declared.class.ConstructedClass.TheVariants as class
use Rattle.pm_elab.specs.declared.elaboration.Elaboration.{Elaboration}
use Rattle.pm_elab.specs.declared.elaboration.TheConstants.{MAX_STEPS}
use Rattle.pm_elab.specs.declared.frame.Frame.{Frame}
use Rattle.pm_elab.specs.declared.parameter.Param.{Param}
use Rattle.pm_elab.specs.Constructs.{make_at}
use Rattle.pm_elab.specs.Files.{nothing_made}
use Rattle.pm_elab.specs.Sites.{Scope, Site}
use Rattle.pm_elab.specs.Statements.{body, run, run_all}
use Rattle.pm_elab_laws.specs.Names.{Words, names_of}
use Rattle.pm_elab_laws.specs.Steps.{Grows, ExpressionsOnlyAdd, LinesOnlyAdd, CallsOnlyAdd, StepsStayWithinTheirBound}
use Rattle.pm_elab_laws.proofs.Keeping.{Each, Where, Origin, stepped, Keeping, Runs, gives}
use Rattle.pm_elab_laws.proofs.Places.{IsScope, IsSite, any}
use Rattle.pm_elab_laws.proofs.Expressions.{meaning_runs}
use Rattle.pm_elab_laws.proofs.Lines.{body_runs, nodes_run}
use Rattle.pm_elab_laws.proofs.Constructs.{at_makes}
use Rattle.pm_elab_laws.proofs.Files.{build_runs}

-- what was made grows, and keeps within the steps that there are
pub record Leads (m n : Elaboration) : Type 0 where
  pub grows : Grows m n
  pub within : m.steps ≤ MAX_STEPS → n.steps ≤ MAX_STEPS

pub none : {A : Type 0} (xs : List A) → (more : List A) × (xs ≡ xs ++ more)
none xs = ([], sym (append-nil xs))

both : {A : Type 0} (xs ys zs : List A) → (more : List A) × (ys ≡ xs ++ more) → (more : List A) × (zs ≡ ys ++ more)
    → (more : List A) × (zs ≡ xs ++ more)
both {A = A} xs ys zs first second = (
  first.0 ++ second.0,
  second.1 ∙ (ap (λ (l : List A). l ++ second.0) first.1 ∙
      append_assoc xs first.0 second.0),
)

pub stays : (m : Elaboration) → Leads m m
stays m = record {
  grows = record { steps = omega arith; kinds = none m.kinds; shapes = none m.shapes };
  within = λ
      h. h;
}

pub on : (l m n : Elaboration) → Leads l m → Leads m n → Leads l n
on l m n first second = record {
  grows = record {
    steps = omega (arith, first.grows.steps, second.grows.steps);
    kinds = both l.kinds m.kinds n.kinds first.grows.kinds second.grows.kinds;
    shapes = both l.shapes m.shapes n.shapes first.grows.shapes second.grows.shapes;
  };
  within = λ h. second.within (first.within h);
}

pub steps : (m : Elaboration) → nat_lt m.steps MAX_STEPS ≡ true → Leads m (stepped m)
steps m is =
    let less : m.steps < MAX_STEPS = ltb-true _ _ is in
    record {
      grows = record { steps = omega arith; kinds = none m.kinds; shapes = none m.shapes };
      within = λ h.
          omega (arith, less);
    }

pub anywhere : {A : Type 0} (x : Option A) → Where (λ _. Unit {0}) x
anywhere (Some a) = tt
anywhere None = tt

abbrev Nothing : Type 0
Nothing = Unit {0}

-- nothing is said of values and frames
growing : Keeping
growing = record {
  Leads = Leads;
  IsFine = λ m. Nothing;
  IsName = λ name. Nothing;
  IsParam = λ p. Nothing;
  IsType = λ m t. Nothing;
  IsValue = λ l m fr v. Nothing;
  IsItems = λ l m fr vs. Nothing;
  IsGlobal = λ m v. Nothing;
  IsFrame = λ o m f. Nothing;
  IsReady = λ o m f. Nothing;
  IsFields = λ m fs. Nothing;
  stays = stays;
  on = on;
  fine_on = λ m n leads is. tt;
  type_on = λ m n t leads is. tt;
  value_on = λ l m n fr v leads is. tt;
  value_from = λ l m n fr v leads is. tt;
  global_on = λ m n v leads is. tt;
  frame_on = λ o m n f leads is. tt;
  fields_on = λ m n fs leads is. tt;
  steps = steps;
  ready = λ o m f less is. tt;
  unready = λ o m f is. tt;
  int_value = λ m fr n. tt;
  own_value = λ m fr. tt;
  const_value = λ m fr w constant. tt;
  class_value = λ m n. tt;
  param_value = λ m p is. tt;
  named_type = λ m name. anywhere _;
  global_value = λ m fr v is. tt;
  plain_value = λ l m fr v plain is. tt;
  local_value = λ o m f name is. anywhere _;
  rule_value = λ l k m fr t u first second. tt;
  block_value = λ o m f name is. anywhere _;
  attribute_value = λ o l m site name v fine frame is. any _;
  element_value = λ l m fr line v n is. any _;
  slice_value = λ l m fr line v lo hi is. any _;
  called_value = λ l m fr f line gs each. any _;
  items_none = λ m fr. tt;
  items_more = λ l m n fr vs v less leads items is. tt;
  items_value = λ l m fr vs is. tt;
  type_of_value = λ l m fr line v is. any _;
  kind_value = λ m fr name vs fine. anywhere _;
  component_frame = λ m name ps vs fine names each. tt;
  interface_frame = λ m name ps vs fine names each. tt;
  interface_value = λ l m fr name f is. tt;
  assigned_frame = λ o m n to v line f leads fine ready aimed is. any _;
  connected_frame = λ o k l m n a b line f leads fine ready first second. any _;
  lambda_frame = λ o m n v e line f leads ready is. any _;
  state_frame = λ o m n to t v line f leads ready aimed type is. any _;
  constrained_frame = λ o m n gs line f leads ready each. any _;
  block_frame = λ o m name s after below line f ready names. any _;
  loop_frame = λ o m name n f is. tt;
  method_frame = λ o m name types g line nodes f made is names arguments result. any _;
  kept = λ o m fr vs f made is each. (
    record {
      grows = record {
        steps = omega arith;
        kinds = (_, refl);
        shapes =
            none m.shapes;
      };
      within = λ h. h;
    },
    tt,
  );
  fields_none = λ m. tt;
  fields_more = λ m line fs name t is type. any _;
  shape_kept = λ m name f fs is. (
    record {
      grows = record {
        steps = omega arith;
        kinds = none m.kinds;
        shapes =
            (_, refl);
      };
      within = λ h. h;
    },
    tt,
  );
}

pub every_name : (names : Words) → Each (λ name. Nothing) names
every_name [] = tt
every_name (n ∷ ns) = (tt, every_name ns)

every_param : (ps : List Param) → Each (λ p. Nothing) ps
every_param [] = tt
every_param (p ∷ ps) = (tt, every_param ps)

pub every_global : (names : Names Value) → Each (λ (p : List ℕ × Value). Nothing) names
every_global [] = tt
every_global (n ∷ ns) = (tt, every_global ns)

every_given : (gs : List Given) → Each (λ (g : Given). Nothing) gs
every_given [] = tt
every_given (g ∷ gs) = (tt, every_given gs)

scope : (m : Elaboration) (file : Scope) → IsScope growing m file
unfolding growing
scope m file = record { fine = tt; names = every_global file.names; nodes = every_name (names_of file.nodes) }

place : (o : Origin) (m : Elaboration) (site : Site) → IsSite growing o m site
unfolding growing
place o m site = record { file = scope m site.file; frame = anywhere site.frame }

abbrev origin : Elaboration → Origin
origin m = record { made = m; name = []; class = class.Component }

pub expressions_only_add : ExpressionsOnlyAdd
unfolding growing
expressions_only_add level e site m n v is =
    (gives growing m _ (meaning_runs growing (make_at level) (at_makes growing level) e (origin m) m site
    (place (origin m) m site)) v n is).0.grows

lines_run : (level : Option ℕ) (file : Scope) (nodes : List Node) (f : Frame) (m : Elaboration)
    → Runs growing m (run_all (make_at level) file nodes f m) (λ g n. Nothing)
unfolding growing body
lines_run level file nodes f m =
    body_runs growing (make_at level) (at_makes growing level) (origin m) file None (map (run (make_at level) file)
    nodes) 0 m f tt
    (nodes_run growing (make_at level) (at_makes growing level) (origin m) file nodes (every_name (names_of nodes)))
    (scope m file) tt

pub lines_only_add : LinesOnlyAdd
unfolding growing
lines_only_add level file nodes f g m n is = (gives growing m _ (lines_run level file nodes f m) g n is).0.grows

pub calls_only_add : CallsOnlyAdd
unfolding growing
calls_only_add level site name gs m n v is =
    (gives growing m _ (at_makes growing level (origin m) m m site name gs (place (origin m) m site) (every_given
    gs)) v n is).0.grows

pub steps_within : StepsStayWithinTheirBound
unfolding growing
steps_within nodes name params given made is =
    (gives growing nothing_made _ (build_runs growing nodes name params tt (every_name (names_of nodes))
    (every_param params)) given made is).0.within (omega arith)
