-- The kind of a child stands before that of the component that has it.
use Rattle.std.proofs.Common.{◌≡◌, ◌∙◌, ◌+◌, ℕ, zero, suc, Bool, true, false, List, [], ◌∷◌, ◌++◌, refl, sym, subst}
use Rattle.std.proofs.Common.{map, ap, length, arith}
use Rattle.std.specs.Prelude.{Ok, Err, if◌then◌else◌, nat_le}
use Rattle.std.specs.List.{list_all}
use Rattle.pm_design.specs.declared.body.BlockSort.{BlockSort}
use Rattle.pm_values.specs.declared.value.New.{New}
use Rattle.pm_values.specs.declared.value.New.TheVariants as new
use Rattle.pm_values.specs.declared.value.Member.{Member}
use Rattle.pm_values.specs.declared.fault.BuildFault.TheVariants.{TooManyInstances}
use Rattle.pm_values.specs.declared.value.Taken.TheVariants as taken
use Rattle.pm_elab.specs.declared.elaboration.TheConstants.{MAX_INSTANCES}
use Rattle.pm_values.specs.declared.value.Value.{Value}
use Rattle.pm_values.specs.declared.value.Value.TheVariants as value
use Rattle.pm_elab.specs.declared.elaboration.Elaboration.{Elaboration}
use Rattle.pm_elab.specs.declared.elaboration.MadeKind.{MadeKind}
use Rattle.pm_elab.specs.declared.frame.Frame.{Frame}
use Rattle.pm_elab.specs.Constructs.{component_start, interface_start}
use Rattle.pm_elab.specs.Elab.{Checked, and_then}
use Rattle.pm_elab.specs.Placing.{place_new, place_signal, place_caller, place_child, with_child, instances_in}
use Rattle.pm_elab.specs.declared.body.BodyPlace.{BodyPlace}
use Rattle.pm_elab.specs.declared.body.Code.{Code}
use Rattle.pm_elab.specs.declared.body.MethodTypes.{MethodTypes}
use Rattle.pm_elab.specs.Methods.{method_added}
use Rattle.pm_elab.specs.Placing.{local_put, attribute_set}
use Rattle.pm_elab.specs.Statements.{body_put, block_set}
use Rattle.pm_syn.specs.declared.statement.Par.{Par}
use Rattle.pm_elab_laws.specs.Children.{ChildrenStandBefore}
use Rattle.pm_elab_laws.specs.MadeValues.{is_made}
use Rattle.pm_elab_laws.specs.Names.{names_of}
use Rattle.pm_elab_laws.proofs.Keeping.{On, Each, Keeping, Runs}
use Rattle.pm_elab_laws.proofs.Places.{any}
use Rattle.pm_elab_laws.proofs.Framing.{Framing, IsPlaced, places}
use Rattle.pm_elab_laws.proofs.Joining.{connected_on}
use Rattle.pm_elab_laws.proofs.Changes.{block_on, lambda_on, state_on, constrained_on, method_on, assigned_on}
use Rattle.pm_elab_laws.proofs.EqualValues.{both}
use Rattle.pm_elab_laws.proofs.Steps.{every_name}
use Rattle.std.proofs.Common.{◌≤◌, ◌<◌}
use Rattle.std.specs.Prelude.{slice_index_or}
use Rattle.std.proofs.lemmas.Bool.{and_parts}
use Rattle.pm_design.specs.Lookups.{no_kind, kind_of}
use Rattle.pm_elab.specs.declared.elaboration.RawDesign.{RawDesign}
use Rattle.pm_elab.specs.declared.parameter.Param.{Param}
use Rattle.pm_elab.specs.Files.{Globals, build, design_of, nothing_made}
use Rattle.pm_elab.specs.Statements.{has_block}
use Rattle.pm_elab_laws.proofs.Places.{each_more}
use Rattle.pm_elab_laws.proofs.Constructs.{IsKind}
use Rattle.pm_elab_laws.proofs.Files.{build_runs}
use Rattle.std.proofs.Common.{ltb-true}
use Rattle.std.specs.Prelude.{nat_lt, Option, Some, None, IsTrue}
use Rattle.pm_design.specs.declared.design.Child.{Child}
use Rattle.pm_design.specs.declared.connection.Term.{Term}
use Rattle.pm_design.specs.Elaborated.{is_before}
use Rattle.pm_elab.specs.declared.frame.Local.{Local}
use Rattle.pm_elab.specs.declared.parameter.ParamValue.{ParamValue}
use Rattle.pm_elab.specs.declared.parameter.ParamValue.TheVariants as given
use Rattle.pm_elab.specs.Constructs.{is_kind_of, locals_from, members_of, kind_from, kind_made}
use Rattle.pm_elab.specs.Files.{value_of}
use Rattle.pm_elab.specs.Sites.{named_width}
use Rattle.pm_values.specs.Tables.{Names, put}
use Rattle.pm_values.specs.declared.value.Value.{Value-F}
use Rattle.pm_elab_laws.proofs.Places.{each_so, where_so}
use Rattle.pm_elab_laws.proofs.Keeping.{Where}
use Rattle.pm_elab_laws.proofs.MadeValues.{made_member, member_is, rolled, made_items, made_news, made_interface}
use Rattle.pm_elab_laws.proofs.MadeValues.{made_new, made_taken, made_int, made_own, made_more}
use Rattle.pm_elab_laws.proofs.MadeCalls.{called_made}
use Rattle.pm_elab_laws.proofs.MadeAttributes.{put_each, get_each, each_item, each_member, element_made, slice_made}
use Rattle.pm_elab_laws.proofs.MadeAttributes.{attribute_made}

abbrev Nothing : Type 0
Nothing = Unit {0}

abbrev Made : ℕ → Value → Type 0
Made n v = is_made n v ≡ true

abbrev LocalMade : ℕ → Local → Type 0
LocalMade n l = is_made n l.value ≡ true

-- what is in a frame is of one of so many kinds
record IsHeld (n : ℕ) (f : Frame) : Type 0 where
  children : list_all (is_before n) f.kind.children ≡ true
  attributes : Each (λ (p : List ℕ × Value). is_made n p.1 ≡ true) f.raw.attributes
  locals : Each (λ (p : List ℕ × Local). is_made n p.1.value ≡ true) f.raw.locals

-- each kind's children are of kinds before it, where so many stand before
abbrev AreBefore : ℕ → List MadeKind → Type 0
AreBefore i [] = Unit {0}
AreBefore i (k ∷ ks) = (list_all (is_before i) k.kind.children ≡ true) × AreBefore (suc i) ks

abbrev KindsHeld : ℕ → List MadeKind → Type 0
KindsHeld n ks = Each (λ (k : MadeKind). Each (λ (p : List ℕ × Value). is_made n p.1 ≡ true) k.raw.attributes) ks

record IsOrdered (m : Elaboration) : Type 0 where
  children : AreBefore 0 m.kinds
  attributes : KindsHeld (length m.kinds) m.kinds

record Onward (m n : Elaboration) : Type 0 where
  more : length m.kinds ≤ length n.kinds
  fine : IsOrdered m → IsOrdered n

children_more : (n m : ℕ) (cs : List Child) → n ≤ m → list_all (is_before n) cs ≡ true
    → list_all (is_before m) cs ≡ true
children_more n m [] le is = refl
children_more n m (c ∷ cs) le is =
    let parts = and_parts (nat_lt c.kind n) (list_all (is_before n) cs) is in
    let less : c.kind < n = ltb-true _ _ parts.0 in
    let here : nat_lt c.kind m ≡ true = grind (arith, less, le) in
    both (nat_lt c.kind m) (list_all (is_before m) cs) here (children_more n m cs le parts.1)

child_last : (n : ℕ) (cs : List Child) (c : Child) → list_all (is_before n) cs ≡ true → nat_lt c.kind n ≡ true
    → list_all (is_before n) (cs ++ c ∷ []) ≡ true
child_last n [] c is less = both (nat_lt c.kind n) true less refl
child_last n (d ∷ cs) c is less =
    let parts = and_parts (nat_lt d.kind n) (list_all (is_before n) cs) is in
    both (nat_lt d.kind n) (list_all (is_before n) (cs ++ c ∷ [])) parts.0 (child_last n cs c parts.1 less)

names_more : (n m : ℕ) (names : Names Value) → n ≤ m → Each (λ (p : List ℕ × Value). is_made n p.1 ≡ true) names
    → Each (λ (p : List ℕ × Value). is_made m p.1 ≡ true) names
names_more n m names le each = each_so (λ (p : List ℕ × Value). is_made n p.1 ≡ true) (λ (p : List ℕ × Value).
    is_made m p.1 ≡ true) names (λ p. made_more n m le p.1) each

held_more : (n m : ℕ) (f : Frame) → n ≤ m → IsHeld n f → IsHeld m f
held_more n m f le is = record {
  children = children_more n m f.kind.children le is.children;
  attributes = names_more n m f.raw.attributes le is.attributes;
  locals = each_so (λ (p : List ℕ × Local). is_made n p.1.value ≡ true) (λ (p : List ℕ × Local). is_made m p.1.value
      ≡ true) f.raw.locals (λ p. made_more n m le p.1.value) is.locals;
}

before_last : (i : ℕ) (ks : List MadeKind) (k : MadeKind) → AreBefore i ks
    → list_all (is_before (i + length ks)) k.kind.children ≡ true → AreBefore i (ks ++ k ∷ [])
before_last i [] k each last = (subst (λ (n : ℕ). list_all (is_before n) k.kind.children ≡ true) (omega arith) last, tt)
before_last i (c ∷ ks) k each last = (
  each.0,
  before_last (suc i) ks k each.1 (subst (λ (n : ℕ). list_all
      (is_before n) k.kind.children ≡ true) (omega arith) last),
)

length_last : (ks : List MadeKind) (k : MadeKind) → length (ks ++ k ∷ []) ≡ length ks + 1
length_last [] k = refl
length_last (c ∷ ks) k = let rest = length_last ks k in omega (arith, rest)

-- ---- frames

module _ (n : ℕ) where
  framing : Framing
  framing = record {
    IsFine = IsHeld n;
    Grows = λ f g. Nothing;
    IsGood = λ f v. is_made n v ≡ true;
    IsHeld = λ f v. is_made n v ≡ true;
    stays = λ f. tt;
    on = λ f g h first second. tt;
    good_on = λ f g v grows good. good;
    held_on = λ f g v grows good. good;
    items = λ f vs good. each_item n vs (sym (made_items n vs) ∙ good);
    Long = λ n. Nothing;
    Names = λ ns. Nothing;
    items_long = λ f vs good. tt;
    news_names = λ f ms good. tt;
    members_names = λ f ms good. tt;
    items_held = λ f vs long each. made_items n vs ∙ all_items vs each;
    news = λ f ms good. each_member n ms (sym (made_news n ms) ∙ good);
    members = λ f ms good. each_member n ms (sym (made_interface n ms) ∙ good);
    members_held = λ f ms names each. made_interface n ms ∙ all_members ms each;
    left = λ f x is good. good;
  }
    where
      all_items : (vs : List Value) → Each (λ (v : Value). is_made n v ≡ true) vs
          → list_all (λ b. b) (map (is_made n) vs) ≡ true
      all_items [] each = refl
      all_items (v ∷ vs) each = both (is_made n v) (list_all (λ b. b) (map (is_made n) vs)) each.0 (all_items vs each.1)

      all_members : (ms : List Member) → Each (λ (m : Member). is_made n m.value ≡ true) ms
          → list_all (λ b. b) (map (made_member n) ms) ≡ true
      all_members [] each = refl
      all_members (m ∷ ms) each = both (made_member n m) (list_all (λ b. b) (map (made_member n) ms)) (member_is n m
          ∙ each.0) (all_members ms each.1)

  news : (kinds : List MadeKind) (line : ℕ) (x : New) (at : List ℕ) (f : Frame) → IsHeld n f
      → is_made n (value.New x) ≡ true → On (place_new kinds x at line f) (IsPlaced framing f)
  unfolding framing place_new place_child place_signal place_caller
  news kinds line (new.Signal role t) at f is good = record {
    fine = record {
      children = is.children;
      attributes =
          is.attributes;
      locals = is.locals;
    };
    grows = tt;
    held = made_taken n _;
  }
  news kinds line (new.Child c) at f is good = by (nat_le (f.kind.instances + instances_in kinds c) MAX_INSTANCES)
    where
      by : (b : Bool) → On {A = Frame × Value} (if b then Ok (
        with_child f (record {
          name = at;
          kind = c;
          line =
              line;
        }) (instances_in kinds c),
        value.Taken (taken.Child (length f.kind.children)),
      ) else Err
          (TooManyInstances line)) (IsPlaced framing f)
      by true = record {
        fine = record {
          children = child_last n f.kind.children (record { name = at; kind = c; line = line })
              is.children (sym (made_new n (new.Child c)) ∙ good);
          attributes = is.attributes;
          locals = is.locals;
        };
        grows = tt;
        held = made_taken n (taken.Child (length f.kind.children));
      }
      by false = tt
  news kinds line (new.Caller types) at f is good = record {
    fine = record {
      children = is.children;
      attributes =
          is.attributes;
      locals = is.locals;
    };
    grows = tt;
    held = made_taken n _;
  }
  news kinds line (new.Callee c) at f is good = record { fine = is; grows = tt; held = made_taken n (taken.Method c) }
  news kinds line (new.Deque d) at f is good = tt

  placed : (r : Checked (Frame × Value)) (f : Frame) → On r (IsPlaced framing f)
      → On r (λ r. IsHeld n r.0 × (is_made n r.1 ≡ true))
  unfolding framing
  placed (Ok r) f is = (is.fine, is.held)
  placed (Err e) f is = tt

  fine_named : (f : Frame) → IsHeld n f → (framing).IsFine f
  unfolding framing
  fine_named f is = is

  good_named : (f : Frame) (v : Value) → is_made n v ≡ true → (framing).IsGood f v
  unfolding framing
  good_named f v good = good

  other : (f g : Frame) → f.kind.children ≡ g.kind.children → f.raw.attributes ≡ g.raw.attributes
      → f.raw.locals ≡ g.raw.locals → IsHeld n f → IsHeld n g
  other f g a b c is = record {
    children = subst (λ (cs : List Child). list_all (is_before n) cs ≡ true) a is.children;
    attributes = subst (Each (λ (p : List ℕ × Value). is_made n p.1 ≡ true)) b is.attributes;
    locals = subst (Each (λ (p : List ℕ × Local). is_made n p.1.value ≡ true)) c is.locals;
  }

  body_named : (f : Frame) (p : BodyPlace) (line : ℕ) (c : Code) → IsHeld n f → IsHeld n (body_put p line c f)
  unfolding body_put
  body_named f p line c is = other f _ refl refl refl is

  block_named : (f : Frame) (at : List ℕ) (s : BlockSort) → has_block f at ≡ false → IsHeld n f
      → IsHeld n (block_set at s f)
  unfolding block_set
  block_named f at s there is = other f _ refl refl refl is

  method_named : (f : Frame) (at : List ℕ) (types : MethodTypes) → IsHeld n f → IsHeld n (method_added at types f)
  unfolding method_added
  method_named f at types is = other f _ refl refl refl is

  local_named : (f : Frame) (at : List ℕ) (v : Value) → is_made n v ≡ true → IsHeld n f → IsHeld n (local_put at v f)
  unfolding local_put
  local_named f at v good is = record {
    children = is.children;
    attributes = is.attributes;
    locals = put_each
        (LocalMade n) f.raw.locals at _ is.locals good;
  }

  attribute_named : (f : Frame) (at : List ℕ) (v : Value) → is_made n v ≡ true → IsHeld n f
      → IsHeld n (attribute_set at v f)
  unfolding attribute_set
  attribute_named f at v good is = record {
    children = is.children;
    attributes = put_each (Made n) f.raw.attributes
        at v is.attributes good;
    locals = is.locals;
  }

  locals_held : (ps : List Par) (vs : List Value) (names : Names Local)
      → Each (λ (p : List ℕ × Local). is_made n p.1.value ≡ true) names → Each (λ (v : Value). is_made n v ≡ true) vs
      → Each (λ (p : List ℕ × Local). is_made n p.1.value ≡ true) (locals_from names ps vs)
  locals_held [] vs names first second = first
  locals_held (p ∷ ps) [] names first second = first
  locals_held (p ∷ ps) (v ∷ vs) names first second =
      locals_held ps vs (put names p.name (record { value = v; reassigned = false })) (put_each (LocalMade n) names
      p.name (record { value = v; reassigned = false }) first second.0) second.1

  component_named : (name : List ℕ) (ps : List Par) (vs : List Value) → Each (λ (v : Value). is_made n v ≡ true) vs
      → IsHeld n (component_start name ps vs)
  unfolding component_start
  component_named name ps vs each = record {
    children = refl;
    attributes = (made_taken n _, tt);
    locals =
        locals_held ps vs [] tt each;
  }

  interface_named : (name : List ℕ) (ps : List Par) (vs : List Value) → Each (λ (v : Value). is_made n v ≡ true) vs
      → IsHeld n (interface_start name ps vs)
  unfolding interface_start
  interface_named name ps vs each = record { children = refl; attributes = tt; locals = locals_held ps vs [] tt each }

  members_held : (names : Names Value) → Each (λ (p : List ℕ × Value). is_made n p.1 ≡ true) names
      → is_made n (value.NewInterface (members_of names)) ≡ true
  unfolding members_of
  members_held names each = made_news n (members_of names) ∙ all names each
    where
      all : (names : Names Value) → Each (λ (p : List ℕ × Value). is_made n p.1 ≡ true) names
          → list_all (λ b. b) (map (made_member n) (map (λ (p : List ℕ × Value). record { name = p.0; value = p.1 })
          names)) ≡ true
      all [] each = refl
      all (p ∷ ps) each = both (made_member n (record { name = p.0; value = p.1 })) _ (member_is n
          (record { name = p.0; value = p.1 }) ∙ each.0) (all ps each.1)

  items_held : (vs : List Value) → Each (λ (v : Value). is_made n v ≡ true) vs → is_made n (value.Items vs) ≡ true
  items_held vs each = made_items n vs ∙ all vs each
    where
      all : (vs : List Value) → Each (λ (v : Value). is_made n v ≡ true) vs
          → list_all (λ b. b) (map (is_made n) vs) ≡ true
      all [] each = refl
      all (v ∷ vs) each = both (is_made n v) (list_all (λ b. b) (map (is_made n) vs)) each.0 (all vs each.1)

  params_held : (p : ParamValue) → is_made n (value_of p) ≡ true
  params_held (given.Int i) = made_int n i
  params_held (given.Width w) = ap (is_made n) (sym (value.rolls-Type _)) ∙ rolled n (Value-F.Type _)

  types_held : (w : Option ℕ) → Where (Made n) (elim w as (λ _. Option Value) [
    | Some width ↦ Some
        (value.Type (record { width = width; shape = None }))
    | None ↦ None
  ])
  types_held (Some w) = ap (is_made n) (sym (value.rolls-Type _)) ∙ rolled n (Value-F.Type _)
  types_held None = tt

-- a kind that was made is there
pub kinds_found : (i : ℕ) (ks : List MadeKind) (name : List ℕ) (vs : List Value)
    → Where (λ (k : ℕ). k < i + length ks) (kind_from i ks name vs)
kinds_found i [] name vs = tt
kinds_found i (c ∷ ks) name vs = by (is_kind_of name vs c) (where_so (λ (k : ℕ). k < i + 1 + length ks)
    (λ (k : ℕ). k < i + length (c ∷ ks)) (kind_from (i + 1) ks name vs) (λ k less. omega (arith, less)) (kinds_found
    (i + 1) ks name vs))
  where
    by : (b : Bool) → Where (λ (k : ℕ). k < i + length (c ∷ ks)) (kind_from (i + 1) ks name vs)
        → Where (λ (k : ℕ). k < i + length (c ∷ ks)) (if b then Some i else kind_from (i + 1) ks name vs)
    by true rest = omega arith
    by false rest = rest

child_made : (n k : ℕ) → k < n → is_made n (value.New (new.Child k)) ≡ true
child_made n k less = let here : nat_lt k n ≡ true = grind (arith, less) in made_new n (new.Child k) ∙ here

kind_there : (m : Elaboration) (name : List ℕ) (vs : List Value)
    → Where (λ (k : ℕ). is_made (length m.kinds) (value.New (new.Child k)) ≡ true) (kind_made m.kinds name vs)
unfolding kind_made
kind_there m name vs = where_so (λ (k : ℕ). k < 0 + length m.kinds) (λ (k : ℕ). is_made (length m.kinds)
    (value.New (new.Child k)) ≡ true) (kind_from 0 m.kinds name vs) (λ k less. child_made (length m.kinds) k
    (omega (arith, less))) (kinds_found 0 m.kinds name vs)

kept_kinds : (m : Elaboration) (vs : List Value) (f : Frame) → IsHeld (length m.kinds) f
    → Onward m (record m { kinds = m.kinds ++ record { arguments = vs; kind = f.kind; raw = f.raw } ∷ [] })
kept_kinds m vs f is =
    let k : MadeKind = record { arguments = vs; kind = f.kind; raw = f.raw } in
    let size : length (m.kinds ++ k ∷ []) ≡ length m.kinds + 1 = length_last m.kinds k in
    let le : length m.kinds ≤ length (m.kinds ++ k ∷ []) = omega (arith, size) in
    record {
      more = le;
      fine = λ fine. record {
        children = before_last 0 m.kinds k fine.children (subst (λ (n : ℕ). list_all (is_before n) f.kind.children ≡
            true) (omega arith) is.children);
        attributes = each_more _ m.kinds (k ∷ [])
            (each_so _ _ m.kinds (λ (c : MadeKind). names_more (length m.kinds) (length (m.kinds ++ k ∷ []))
            c.raw.attributes le) fine.attributes)
            (names_more (length m.kinds) (length (m.kinds ++ k ∷ [])) f.raw.attributes le is.attributes, tt);
      };
    }

last_less : (ks : List MadeKind) (k : MadeKind) → length ks < length (ks ++ k ∷ [])
last_less ks k = let size = length_last ks k in omega (arith, size)

terms_held : (n : ℕ) (t : Option Term) → Where (λ (t : Term). is_made n (value.Term t) ≡ true) t
terms_held n (Some t) = ap (is_made n) (sym (value.rolls-Term t)) ∙ rolled n (Value-F.Term t)
terms_held n None = tt

ordering : Keeping
unfolding framing
ordering = record {
  Leads = Onward;
  IsFine = IsOrdered;
  IsName = λ name. Nothing;
  IsParam = λ p. Nothing;
  IsType = λ m t. Nothing;
  IsValue = λ l m fr v. is_made (length m.kinds) v ≡ true;
  IsItems = λ l m fr vs. Each (λ (v : Value). is_made (length m.kinds) v ≡ true) vs;
  IsGlobal = λ m v. is_made (length m.kinds) v ≡ true;
  IsFrame = λ o m f. IsHeld (length m.kinds) f;
  IsReady = λ o m f. IsHeld (length m.kinds) f;
  IsFields = λ m fs. Nothing;
  stays = λ m. record { more = omega arith; fine = λ fine. fine };
  on = λ l m n first second. record {
    more = omega (arith, first.more, second.more);
    fine = λ fine. second.fine
        (first.fine fine);
  };
  fine_on = λ m n leads is. leads.fine is;
  type_on = λ m n t leads is. tt;
  value_on = λ l m n fr v leads is. made_more (length m.kinds) (length n.kinds) leads.more v is;
  value_from = λ l m n fr v leads is. is;
  global_on = λ m n v leads is. made_more (length m.kinds) (length n.kinds) leads.more v is;
  frame_on = λ o m n f leads is. held_more (length m.kinds) (length n.kinds) f leads.more is;
  fields_on = λ m n fs leads is. tt;
  steps = λ m less. record {
    more = omega arith;
    fine = λ fine. record {
      children = fine.children;
      attributes =
          fine.attributes;
    };
  };
  ready = λ o m f less is. is;
  unready = λ o m f is. is;
  int_value = λ m fr n. made_int (length m.kinds) n;
  own_value = λ m fr. made_own (length m.kinds);
  const_value = λ m fr w constant. ap (is_made (length m.kinds)) (sym (value.rolls-Const w)) ∙ rolled (length m.kinds)
      (Value-F.Const w);
  class_value = λ m n. ap (is_made (length m.kinds)) (sym (value.rolls-Class n)) ∙ rolled (length m.kinds)
      (Value-F.Class n);
  param_value = λ m p is. params_held (length m.kinds) p;
  named_type = λ m name. types_held (length m.kinds) (named_width name);
  global_value = λ m fr v is. is;
  plain_value = λ l m fr v plain is. is;
  local_value = λ o m f name is. get_each (LocalMade (length m.kinds)) f.raw.locals name is.locals;
  rule_value = λ l k m fr t u first second. ap (is_made (length m.kinds)) (sym (value.rolls-Rule t u)) ∙ rolled
      (length m.kinds) (Value-F.Rule t u);
  block_value = λ o m f name is. terms_held (length m.kinds) _;
  attribute_value = λ o l m site name v fine frame is. attribute_made (length m.kinds) m site name v fine.attributes
      (where_so (IsHeld (length m.kinds)) _ site.frame (λ f held. held.attributes) frame) is;
  element_value = λ l m fr line v n is. element_made (length m.kinds) line v n is;
  slice_value = λ l m fr line v lo hi is. slice_made (length m.kinds) line v lo hi;
  called_value = λ l m fr f line gs each. called_made (length m.kinds) f line gs;
  items_none = λ m fr. tt;
  items_more = λ l m n fr vs v less leads items is. each_more (λ (v : Value). is_made (length n.kinds) v ≡ true) vs
      (v ∷ []) (each_so (λ (v : Value). is_made (length m.kinds) v ≡ true) (λ (v : Value). is_made (length n.kinds)
      v ≡ true) vs (made_more (length m.kinds) (length n.kinds) leads.more) items) (is, tt);
  items_value = λ l m fr vs is. items_held (length m.kinds) vs is;
  type_of_value = λ l m fr line v is. any _;
  kind_value = λ m fr name vs fine. kind_there m name vs;
  component_frame = λ m name ps vs fine names each. component_named (length m.kinds) name ps vs each;
  interface_frame = λ m name ps vs fine names each. interface_named (length m.kinds) name ps vs each;
  interface_value = λ l m fr name f is. members_held (length m.kinds) f.raw.attributes is.attributes;
  assigned_frame = λ o m n to v line f leads fine ready aimed is.
      assigned_on (IsHeld (length n.kinds)) (λ f p line c. body_named (length n.kinds) f p line c) (λ f name s there
      is. block_named (length n.kinds) f name s there is) (λ f is. other (length n.kinds) f _ refl refl refl is)
      (λ f name t s is. other (length n.kinds) f _ refl refl refl is) (λ f line t u is. other (length n.kinds) f
      _ refl refl refl is)
      (λ v. is_made (length n.kinds) v ≡ true)
      (λ t. made_taken (length n.kinds) t) (λ f name v good is. local_named (length n.kinds) f name v good is)
      (λ f name v good is. attribute_named (length n.kinds) f name v good is)
      n.kinds line (λ v at f good is. placed (length n.kinds) _ f (places (framing (length n.kinds)) n.kinds line
      (news (length n.kinds) n.kinds line) v at f (fine_named (length n.kinds) f is)
      (good_named (length n.kinds) f v good))) to v f is (held_more (length m.kinds) (length n.kinds) f
      leads.more ready);
  connected_frame = λ o k l m n a b line f leads fine ready first second.
      connected_on (IsHeld (length n.kinds)) (λ f line a b same is. other (length n.kinds) f _ refl refl refl is)
      (λ f line part w is. other (length n.kinds) f _ refl refl refl is) (λ f line c d same is. other
      (length n.kinds) f _ refl refl refl is) (λ f line is. other (length n.kinds) f _ refl refl refl is)
      n.kinds line a b f (held_more (length m.kinds) (length n.kinds) f leads.more ready);
  lambda_frame = λ o m n v e line f leads ready is. lambda_on (IsHeld (length n.kinds)) (λ f p line c. body_named
      (length n.kinds) f p line c) (λ f name s there is. block_named (length n.kinds) f name s there is)
      (λ f is. other (length n.kinds) f _ refl refl refl is) (λ f name t s is. other (length n.kinds) f _ refl refl
      refl is) (λ f line t u is. other (length n.kinds) f _ refl refl refl is)
      (λ v. is_made (length n.kinds) v ≡ true)
      (λ t. made_taken (length n.kinds) t) (λ f name v good is. local_named (length n.kinds) f name v good is)
      (λ f name v good is. attribute_named (length n.kinds) f name v good is) v e line f
      (held_more (length m.kinds) (length n.kinds) f leads.more ready);
  state_frame = λ o m n to t v line f leads ready aimed type is. state_on (IsHeld (length n.kinds)) (λ f p line c.
      body_named (length n.kinds) f p line c) (λ f name s there is. block_named (length n.kinds) f name s there is)
      (λ f is. other (length n.kinds) f _ refl refl refl is) (λ f name t s is. other (length n.kinds) f _ refl refl
      refl is) (λ f line t u is. other (length n.kinds) f _ refl refl refl is)
      (λ v. is_made (length n.kinds) v ≡ true)
      (λ t. made_taken (length n.kinds) t) (λ f name v good is. local_named (length n.kinds) f name v good is)
      (λ f name v good is. attribute_named (length n.kinds) f name v good is) to t v line f
      (held_more (length m.kinds) (length n.kinds) f leads.more ready);
  constrained_frame = λ o m n gs line f leads ready each. constrained_on (IsHeld (length n.kinds)) (λ f p line c.
      body_named (length n.kinds) f p line c) (λ f name s there is. block_named (length n.kinds) f name s there is)
      (λ f is. other (length n.kinds) f _ refl refl refl is) (λ f name t s is. other (length n.kinds) f _ refl refl
      refl is) (λ f line t u is. other (length n.kinds) f _ refl refl refl is)
      (λ v. is_made (length n.kinds) v ≡ true)
      (λ t. made_taken (length n.kinds) t) (λ f name v good is. local_named (length n.kinds) f name v good is)
      (λ f name v good is. attribute_named (length n.kinds) f name v good is) gs line f
      (held_more (length m.kinds) (length n.kinds) f leads.more ready);
  block_frame = λ o m name s after below line f ready names. block_on (IsHeld (length m.kinds)) (λ f p line c.
      body_named (length m.kinds) f p line c) (λ f name s there is. block_named (length m.kinds) f name s there is)
      (λ f is. other (length m.kinds) f _ refl refl refl is) (λ f name t s is. other (length m.kinds) f _ refl refl
      refl is) (λ f line t u is. other (length m.kinds) f _ refl refl refl is)
      (λ v. is_made (length m.kinds) v ≡ true)
      (λ t. made_taken (length m.kinds) t) (λ f name v good is. local_named (length m.kinds) f name v good is)
      (λ f name v good is. attribute_named (length m.kinds) f name v good is) name s after below line f ready;
  loop_frame = λ o m name n f is. local_named (length m.kinds) f name (value.Int n) (made_int (length m.kinds) n) is;
  method_frame = λ o m name types g line nodes f made is names arguments result. method_on (IsHeld (length m.kinds))
      (λ f p line c. body_named (length m.kinds) f p line c) (λ f name s there is. block_named (length m.kinds) f
      name s there is) (λ f is. other (length m.kinds) f _ refl refl refl is) (λ f name t s is. other
      (length m.kinds) f _ refl refl refl is) (λ f line t u is. other (length m.kinds) f _ refl refl refl is)
      (λ v. is_made (length m.kinds) v ≡ true)
      (λ t. made_taken (length m.kinds) t) (λ f name v good is. local_named (length m.kinds) f name v good is)
      (λ f name v good is. attribute_named (length m.kinds) f name v good is) (λ f name types is. method_named (length m.kinds) f name types is) name types g line nodes f is;
  kept = λ o m fr vs f made is each. (kept_kinds m vs f is, child_made _ (length m.kinds) (last_less m.kinds _));
  fields_none = λ m. tt;
  fields_more = λ m line fs name t is type. any _;
  shape_kept = λ m name f fs is. (
    record {
      more = omega arith;
      fine = λ fine. record {
        children = fine.children;
        attributes = fine.attributes;
      };
    },
    ap (is_made (length m.kinds)) (sym (value.rolls-Type _)) ∙ rolled
        (length m.kinds) (Value-F.Type _),
  );
}

before_at : (i : ℕ) (ks : List MadeKind) → AreBefore i ks → (k : ℕ)
    → k < length (map (λ (made : MadeKind). made.kind) ks)
    → list_all (is_before (i + k)) (slice_index_or (map (λ (made : MadeKind). made.kind) ks) k no_kind).children ≡ true
before_at i [] each k less = absurd (omega (arith, less))
before_at i (c ∷ ks) each zero less = subst (λ (n : ℕ). list_all (is_before n) c.kind.children ≡ true) (omega arith)
    each.0
before_at i (c ∷ ks) each (suc k) less =
    subst (λ (n : ℕ). list_all (is_before n) (slice_index_or (map (λ (made : MadeKind). made.kind) ks) k
    no_kind).children ≡ true) (omega arith) (before_at (suc i) ks each.1 k (omega (arith, less)))

pub kinds_length : (ks : List MadeKind) → length (map (λ (made : MadeKind). made.kind) ks) ≡ length ks
kinds_length [] = refl
kinds_length (k ∷ ks) = let rest = kinds_length ks in omega (arith, rest)

every_param : (ps : List Param) → Each (λ (p : Param). Nothing) ps
every_param [] = tt
every_param (p ∷ ps) = (tt, every_param ps)

abbrev Stands : RawDesign → Type 0
Stands d = (d.design.top < length d.design.kinds) × ((k : ℕ) → k < length d.design.kinds
    → IsTrue (list_all (is_before k) (kind_of d.design k).children))

top_less : (n k : ℕ) → is_made n (value.New (new.Child k)) ≡ true → k < n
top_less n k is = let here : nat_lt k n ≡ true = sym (made_new n (new.Child k)) ∙ is in ltb-true _ _ here

stand : (r : Checked ((Globals × ℕ) × Elaboration))
    → Runs ordering nothing_made r (λ x n. IsKind ordering nothing_made n x.1)
    → On (and_then r (λ x. Ok (design_of x.1 x.0.0 x.0.1))) Stands
unfolding ordering
stand (Ok x) run =
    let fine = run.keeps.0.fine (record { children = tt; attributes = tt }) in
    let top : x.0.1 < length x.1.kinds = top_less (length x.1.kinds) x.0.1 (run.keeps.1 None) in (
      subst (λ (n : ℕ). x.0.1 < n) (sym (kinds_length x.1.kinds)) top,
      λ k less. subst (λ (n : ℕ). list_all (is_before n) (slice_index_or (map (λ (made : MadeKind). made.kind)
          x.1.kinds) k no_kind).children ≡ true) (omega arith) (before_at 0 x.1.kinds fine.children k less),
    )
stand (Err e) run = tt

pub children_before : ChildrenStandBefore
unfolding ordering build
children_before nodes name params given is =
    subst (λ (r : Checked RawDesign). On r Stands) is
    (stand _ (build_runs ordering nodes name params (record { children = tt; attributes = tt })
    (every_name (names_of nodes)) (every_param params)))
