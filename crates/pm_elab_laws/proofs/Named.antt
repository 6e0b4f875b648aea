-- The names of a component while it is made.
use Rattle.std.proofs.Common.{◌≡◌, ◌⊎◌, ◌∙◌, ◌||◌, ℕ, Bool, true, false, not, List, [], ◌∷◌, ◌++◌, refl, sym, subst}
use Rattle.std.proofs.Common.{map, ap, ap₂, length, inl, inr}
use Rattle.std.specs.Prelude.{Option, Some, None, Ok, Err, bytes_eq, codes, is_some, if◌then◌else◌}
use Rattle.std.specs.List.{list_all}
use Rattle.std.proofs.lemmas.Bool.{and_parts}
use Rattle.std.proofs.lemmas.List.{map-append}
use Rattle.std.proofs.lemmas.Slice.Eq.{bytes_eq-Decides}
use Rattle.pm_design.specs.declared.body.Block.{Block}
use Rattle.pm_design.specs.declared.body.BlockSort.{BlockSort}
use Rattle.pm_design.specs.declared.body.BlockSort.TheVariants as block
use Rattle.pm_design.specs.declared.design.Child.{Child}
use Rattle.pm_design.specs.declared.design.Kind.{Kind}
use Rattle.pm_design.specs.declared.signal.Signal.{Signal}
use Rattle.pm_design.specs.Elaborated.{member_names}
use Rattle.pm_design.specs.Names.{IsMemberName, all_differ}
use Rattle.pm_syn.specs.Names.{is_keyword, is_proper_name}
use Rattle.pm_syn.specs.declared.expression.Expr.{Expr}
use Rattle.pm_syn.specs.declared.statement.Node.{Node}
use Rattle.pm_syn.specs.declared.statement.Par.{Par}
use Rattle.pm_syn.specs.declared.statement.Stmt.{Stmt}
use Rattle.pm_values.specs.declared.fault.BuildFault.{BuildFault}
use Rattle.pm_values.specs.declared.fault.BuildFault.TheVariants.{WrongKind, SameName, BadArguments}
use Rattle.pm_values.specs.declared.reference.ValueType.{ValueType}
use Rattle.pm_values.specs.declared.value.Member.{Member}
use Rattle.pm_values.specs.declared.value.Taken.TheVariants as taken
use Rattle.pm_values.specs.declared.value.Value.{Value, Value-F, out-Value}
use Rattle.pm_values.specs.Tables.{Names, get, put}
use Rattle.pm_elab.specs.declared.body.BodyPlace.TheVariants as at
use Rattle.pm_elab.specs.declared.body.Code.{Code}
use Rattle.pm_elab.specs.declared.body.Code.TheVariants as code
use Rattle.pm_elab.specs.declared.body.MethodTypes.{MethodTypes}
use Rattle.pm_elab.specs.declared.call.Given.{Given}
use Rattle.pm_elab.specs.declared.class.ConstructedClass.{ConstructedClass}
use Rattle.pm_elab.specs.declared.class.ConstructedClass.TheVariants as class
use Rattle.pm_elab.specs.declared.elaboration.MadeKind.{MadeKind}
use Rattle.pm_elab.specs.declared.frame.Frame.{Frame}
use Rattle.pm_elab.specs.declared.target.Target.{Target}
use Rattle.pm_elab.specs.declared.target.Target.TheVariants as target
use Rattle.pm_elab.specs.Connections.{connected}
use Rattle.pm_elab.specs.Constructs.{component_start, interface_start}
use Rattle.pm_elab.specs.Elab.{Checked}
use Rattle.pm_elab.specs.Functions.{are_unnamed}
use Rattle.pm_elab.specs.Methods.{GuardLine, guard_put, method_added, named_method, method_set, method_put}
use Rattle.pm_elab.specs.Placing.{local_put, attribute_set, place, component_attribute, interface_member}
use Rattle.pm_elab.specs.Placing.{attribute_put_in, attribute_put, local_assigned, assigned}
use Rattle.pm_elab.specs.Statements.{has_block, body_put, block_set, block_put, block_def, body_nodes, lambda_name}
use Rattle.pm_elab.specs.Statements.{one_lambda_more, lambda_put, lambda_at, lambda_block, start_of, with_state}
use Rattle.pm_elab.specs.Statements.{state_set, state_named, state_to, state_put, rule_at, rule_put, rules_put}
use Rattle.pm_elab.specs.Statements.{constrained}
use Rattle.pm_elab.specs.Values.{is_settled, is_attribute, is_member}
use Rattle.pm_elab_laws.proofs.Changes.{if_so, unless_so}
use Rattle.pm_elab_laws.proofs.EqualValues.{both}
use Rattle.pm_elab_laws.proofs.Fits.{all_last}
use Rattle.pm_elab_laws.proofs.Framing.{chain}
use Rattle.pm_elab_laws.proofs.Joining.{in_either, connected_on}
use Rattle.pm_elab_laws.proofs.Keeping.{On, Each, IsAimed}
use Rattle.pm_elab_laws.proofs.MemberNames.{Covers, Apart, apart_turned, covers_self, apart_below, comparable}
use Rattle.pm_elab_laws.proofs.MemberNames.{proper_covered, proper_apart, lambda_proper}
use Rattle.pm_elab_laws.proofs.Places.{any, each_so}
use Rattle.pm_elab_laws.proofs.PlacedNames.{AreMembers, IsFree, IsPlacedBelow, each_added}
use Rattle.pm_elab_laws.proofs.Tests.{good_names, never}

-- a name stands below the attribute that has it
pub record IsRooted (attributes : Names Value) (name : List ℕ) : Type 0 where
  pub root : List ℕ
  pub proper : is_proper_name root ≡ true
  pub there : is_some (get attributes root) ≡ true
  pub no_clock : root ≡ codes "clk" → ⊥
  pub covers : Covers root name

-- names are as they must be
pub record IsNamed (f : Frame) : Type 0 where
  pub class_named : is_proper_name f.kind.class ≡ true
  pub blocks_named : list_all (λ (b : Block). is_proper_name b.name) f.kind.blocks ≡ true
  pub attributes_named : good_names (map (λ (p : List ℕ × Value). p.0) f.raw.attributes) ≡ true
  pub members : AreMembers (member_names f.kind)
  pub rooted : Each (IsRooted f.raw.attributes) (member_names f.kind)

-- so are those of a kind that was made
pub record IsKindNamed (kind : Kind) : Type 0 where
  pub class_named : is_proper_name kind.class ≡ true
  pub blocks_named : list_all (λ (b : Block). is_proper_name b.name) kind.blocks ≡ true
  pub members : AreMembers (member_names kind)
  pub no_clock : Each (λ (n : List ℕ). Covers (codes "clk") n → ⊥) (member_names kind)

clock_proper : is_proper_name (codes "clk") ≡ true
unfolding is_keyword
clock_proper = refl

rooted_no_clock : (attributes : Names Value) (n : List ℕ) → IsRooted attributes n → Covers (codes "clk") n → ⊥
rooted_no_clock attributes n is below = by (comparable is.root (codes "clk") n is.covers below)
  where
    by : Covers is.root (codes "clk") ⊎ Covers (codes "clk") is.root → ⊥
    by (inl over) = is.no_clock (sym (proper_covered is.root (codes "clk") clock_proper over))
    by (inr under) = is.no_clock (proper_covered (codes "clk") is.root is.proper under)

pub kind_named : (f : Frame) → IsNamed f → IsKindNamed f.kind
kind_named f is = record {
  class_named = is.class_named;
  blocks_named = is.blocks_named;
  members = is.members;
  no_clock = each_so (IsRooted f.raw.attributes) (λ (n : List ℕ). Covers (codes "clk") n
      → ⊥) (member_names f.kind) (rooted_no_clock f.raw.attributes) is.rooted;
}

-- a change of what has no names
pub named_same : (f g : Frame) → f.kind.class ≡ g.kind.class → f.kind.blocks ≡ g.kind.blocks
    → f.kind.signals ≡ g.kind.signals → f.kind.children ≡ g.kind.children
    → f.raw.attributes ≡ g.raw.attributes → IsNamed f → IsNamed g
named_same f g same blocks signals children attributes is =
    let names : member_names f.kind ≡ member_names g.kind =
    ap₂ (λ (ss : List Signal) (cs : List Child). map (λ (s : Signal). s.name) ss ++ map (λ (c : Child). c.name) cs)
    signals children in
    record {
      class_named = subst (λ (n : List ℕ). is_proper_name n ≡ true) same is.class_named;
      blocks_named = subst (λ (bs : List Block). list_all (λ (b : Block). is_proper_name b.name) bs ≡ true) blocks
          is.blocks_named;
      attributes_named = subst (λ (ns : Names Value). good_names (map (λ (p : List ℕ × Value). p.0) ns) ≡ true)
          attributes is.attributes_named;
      members = subst AreMembers names is.members;
      rooted = subst (λ (ns : Names Value). Each (IsRooted ns) (member_names g.kind)) attributes
          (subst (Each (IsRooted f.raw.attributes)) names is.rooted);
    }

-- ---- a further attribute

none_false : {A : Type 0} → true ≡ false → A
none_false is = never (sym is)

put_new : (names : Names Value) (name : List ℕ) (v : Value) → is_some (get names name) ≡ false
    → put names name v ≡ names ++ (name, v) ∷ []
put_new [] name v none = refl
put_new (p ∷ ps) name v none = by (bytes_eq name p.0) (put_new ps name v) none
  where
    by : (b : Bool) → (is_some (get ps name) ≡ false → put ps name v ≡ ps ++ (name, v) ∷ [])
        → is_some (if b then Some p.1 else get ps name) ≡ false
        → (if b then (p.0, v) ∷ ps else p ∷ put ps name v) ≡ p ∷ (ps ++ (name, v) ∷ [])
    by true rest none = none_false none
    by false rest none = ap (λ (qs : Names Value). p ∷ qs) (rest none)

there_more : (names : Names Value) (root : List ℕ) (x : List ℕ × Value) → is_some (get names root) ≡ true
    → is_some (get (names ++ x ∷ []) root) ≡ true
there_more [] root x there = never there
there_more (p ∷ ps) root x there = by (bytes_eq root p.0) (there_more ps root x) there
  where
    by : (b : Bool) → (is_some (get ps root) ≡ true → is_some (get (ps ++ x ∷ []) root) ≡ true)
        → is_some (if b then Some p.1 else get ps root) ≡ true
        → is_some (if b then Some p.1 else get (ps ++ x ∷ []) root) ≡ true
    by true rest there = refl
    by false rest there = rest there

there_last : (names : Names Value) (name : List ℕ) (v : Value) → is_some (get (names ++ (name, v) ∷ []) name) ≡ true
there_last [] name v = ap (λ (b : Bool). is_some (if b then Some v else None)) ((bytes_eq-Decides name name).1 refl)
there_last (p ∷ ps) name v = by (bytes_eq name p.0) (there_last ps name v)
  where
    by : (b : Bool) → is_some (get (ps ++ (name, v) ∷ []) name) ≡ true
        → is_some (if b then Some p.1 else get (ps ++ (name, v) ∷ []) name) ≡ true
    by true last = refl
    by false last = last

differ_more : (name : List ℕ) (ns : List (List ℕ)) (last : List ℕ)
    → list_all (λ other. not (bytes_eq name other)) ns ≡ true → bytes_eq name last ≡ false
    → list_all (λ other. not (bytes_eq name other)) (ns ++ last ∷ []) ≡ true
differ_more name ns last all other = all_last (λ other. not (bytes_eq name other)) ns last all (ap not other)

differ_last : (ns : List (List ℕ)) (last : List ℕ) → all_differ ns ≡ true
    → Each (λ (n : List ℕ). bytes_eq n last ≡ false) ns → all_differ (ns ++ last ∷ []) ≡ true
differ_last [] last all each = refl
differ_last (n ∷ ns) last all each =
    let parts = and_parts (list_all (λ other. not (bytes_eq n other)) ns) (all_differ ns) all in
    both (list_all (λ other. not (bytes_eq n other)) (ns ++ last ∷ [])) _ (differ_more n ns last parts.0 each.0)
    (differ_last ns last parts.1 each.1)

turned : (a b : List ℕ) → bytes_eq a b ≡ false → bytes_eq b a ≡ false
turned a b is = by (bytes_eq b a) refl
  where
    by : (c : Bool) → bytes_eq b a ≡ c → c ≡ false
    by false same = refl
    by true same = none_false (sym ((bytes_eq-Decides a b).1 (sym ((bytes_eq-Decides b a).0 same))) ∙ is)

others_differ : (names : Names Value) (name : List ℕ) → is_some (get names name) ≡ false
    → Each (λ (n : List ℕ). bytes_eq n name ≡ false) (map (λ (p : List ℕ × Value). p.0) names)
others_differ [] name none = tt
others_differ (p ∷ ps) name none = by (bytes_eq name p.0) refl (others_differ ps name) none
  where
    by : (b : Bool) → bytes_eq name p.0 ≡ b → (is_some (get ps name) ≡ false
        → Each (λ (n : List ℕ). bytes_eq n name ≡ false) (map (λ (p : List ℕ × Value). p.0) ps))
        → is_some (if b then Some p.1 else get ps name) ≡ false
        → (bytes_eq p.0 name ≡ false) × Each (λ (n : List ℕ). bytes_eq n name ≡ false) (map (λ (p : List ℕ × Value).
        p.0) ps)
    by true same rest none = none_false none
    by false same rest none = (turned name p.0 same, rest none)

names_more : (names : Names Value) (name : List ℕ) (v : Value) → is_proper_name name ≡ true
    → is_some (get names name) ≡ false → good_names (map (λ (p : List ℕ × Value). p.0) names) ≡ true
    → good_names (map (λ (p : List ℕ × Value). p.0) (names ++ (name, v) ∷ [])) ≡ true
names_more names name v proper none good =
    let ns : List (List ℕ) = map (λ (p : List ℕ × Value). p.0) names in
    let parts = and_parts (list_all is_proper_name ns) (all_differ ns) good in
    ap good_names (map-append (λ (p : List ℕ × Value). p.0) names ((name, v) ∷ []))
    ∙ both (list_all is_proper_name (ns ++ name ∷ [])) _ (all_last is_proper_name ns name parts.0 proper)
    (differ_last ns name parts.1 (others_differ names name none))

rooted_more : (names : Names Value) (x : List ℕ × Value) (n : List ℕ) → IsRooted names n → IsRooted (names ++ x ∷ []) n
rooted_more names x n is = record {
  root = is.root;
  proper = is.proper;
  there = there_more names is.root x is.there;
  no_clock = is.no_clock;
  covers = is.covers;
}

-- a further attribute below which nothing stands
attribute_named : (f : Frame) (name : List ℕ) (v : Value) → is_proper_name name ≡ true
    → is_some (get f.raw.attributes name) ≡ false → IsNamed f → IsNamed (attribute_set name v f)
unfolding attribute_set
attribute_named f name v proper none is =
    let more = sym (put_new f.raw.attributes name v none) in
    record {
      class_named = is.class_named;
      blocks_named = is.blocks_named;
      attributes_named = subst (λ (ns : Names Value). good_names (map (λ (p : List ℕ × Value). p.0) ns) ≡ true) more
          (names_more f.raw.attributes name v proper none is.attributes_named);
      members = is.members;
      rooted = subst (λ (ns : Names Value). Each (IsRooted ns) (member_names f.kind)) more
          (each_so (IsRooted f.raw.attributes) (IsRooted (f.raw.attributes ++ (name, v) ∷ [])) (member_names f.kind)
          (rooted_more f.raw.attributes (name, v)) is.rooted);
    }

-- a further attribute, and what was placed below it
placed_named : (f g : Frame) (name : List ℕ) (v : Value) → is_proper_name name ≡ true → (name ≡ codes "clk" → ⊥)
    → is_some (get f.raw.attributes name) ≡ false → IsPlacedBelow name f g
    → IsNamed f → IsNamed (attribute_set name v g)
unfolding attribute_set
placed_named f g name v proper no_clock none placed is =
    let more : f.raw.attributes ++ (name, v) ∷ [] ≡ put g.raw.attributes name v =
    sym (put_new f.raw.attributes name v none) ∙ ap (λ (ns : Names Value). put ns name v) (sym placed.attributes) in
    record {
      class_named = subst (λ (n : List ℕ). is_proper_name n ≡ true) (sym placed.class) is.class_named;
      blocks_named = subst (λ (bs : List Block). list_all (λ (b : Block). is_proper_name b.name) bs ≡ true)
          (sym placed.blocks) is.blocks_named;
      attributes_named = subst (λ (ns : Names Value). good_names (map (λ (p : List ℕ × Value). p.0) ns) ≡ true) more
          (names_more f.raw.attributes name v proper none is.attributes_named);
      members = placed.members;
      rooted = subst (λ (ns : Names Value). Each (IsRooted ns) (member_names g.kind)) more
          (each_added (IsRooted (f.raw.attributes ++ (name, v) ∷ [])) name f g placed
          (each_so (IsRooted f.raw.attributes) (IsRooted (f.raw.attributes ++ (name, v) ∷ [])) (member_names f.kind)
          (rooted_more f.raw.attributes (name, v)) is.rooted)
          (λ n below. record {
            root = name;
            proper = proper;
            there = there_last f.raw.attributes name v;
            no_clock =
                no_clock;
            covers = below;
          }));
    }

-- a name that no attribute has is free
pub name_free : (f : Frame) (name : List ℕ) → is_proper_name name ≡ true
    → is_some (get f.raw.attributes name) ≡ false → IsNamed f → IsFree name f
name_free f name proper none is = each_so (IsRooted f.raw.attributes) (Apart name) (member_names f.kind) (λ n root.
    apart_turned n name (apart_below root.root name n (proper_apart root.root name root.proper proper (λ same.
    never (sym (subst (λ (r : List ℕ). is_some (get f.raw.attributes r) ≡ false) (sym same) none) ∙ root.there)))
    root.covers)) is.rooted

-- an answer unless a test holds
pub unless_with : {A : Type 0} (P : A → Type 0) (b : Bool) (e : BuildFault) (r : Checked A) → (b ≡ false → On r P)
    → On (if b then Err e else r) P
unless_with P true e r so = tt
unless_with P false e r so = so refl

pub if_with : {A : Type 0} (P : A → Type 0) (b : Bool) (e : BuildFault) (r : Checked A) → (b ≡ true → On r P)
    → On (if b then r else Err e) P
if_with P true e r so = so refl
if_with P false e r so = tt

-- ---- statements

aside : (f g : Frame) → f.kind ≡ g.kind → f.raw.attributes ≡ g.raw.attributes → IsNamed f → IsNamed g
aside f g kind attributes is =
    named_same f g (ap (λ (k : Kind). k.class) kind) (ap (λ (k : Kind). k.blocks) kind)
    (ap (λ (k : Kind). k.signals) kind) (ap (λ (k : Kind). k.children) kind) attributes is

put_on : (name : List ℕ) (s : BlockSort) (line : ℕ) (x : Code) (f : Frame) → is_proper_name name ≡ true → IsNamed f
    → On (block_put name s line x f) IsNamed
unfolding block_put block_set body_put
put_on name s line x f proper is = unless_so IsNamed (has_block f name) (SameName line)
    (Ok (body_put (at.Block (length f.kind.blocks)) line x (block_set name s f))) (record {
      class_named = is.class_named;
      blocks_named = all_last (λ (b : Block). is_proper_name b.name) f.kind.blocks _ is.blocks_named proper;
      attributes_named = is.attributes_named;
      members = is.members;
      rooted = is.rooted;
    })

pub block_named_on : (name : List ℕ) (s : BlockSort) (after : Option Stmt) (below : List Node) (line : ℕ)
    (f : Frame) → is_proper_name name ≡ true → IsNamed f
    → On (block_def name s after below line f) IsNamed
unfolding block_def
block_named_on name s after below line f proper is = in_either IsNamed f.class line _ (put_on name s line
    (code.Statements (body_nodes after below line)) f proper is)

lambda_at_on : (e : Expr) (line : ℕ) (f : Frame) (v : Value-F Value Member) → IsNamed f
    → On (lambda_at e line f v) IsNamed
unfolding lambda_put
lambda_at_on e line f (Value-F.Taken (taken.Signal r)) is =
    chain IsNamed IsNamed (block_put (lambda_name f.lambdas) block.Update line (code.Lambda r e) f) _
    (put_on (lambda_name f.lambdas) block.Update line (code.Lambda r e) f (lambda_proper f.lambdas) is)
    (λ g more. aside g (one_lambda_more g) refl refl more)
lambda_at_on e line f _ is = tt

pub lambda_named_on : (v : Value) (e : Expr) (line : ℕ) (f : Frame) → IsNamed f → On (lambda_block v e line f) IsNamed
unfolding lambda_block
lambda_named_on v e line f is = in_either IsNamed f.class line _ (lambda_at_on e line f (out-Value v) is)

state_at_on : (name : List ℕ) (t : ValueType) (v : Value) (line : ℕ) (f : Frame) → is_proper_name name ≡ true
    → IsNamed f → On (state_named name t v line f) IsNamed
unfolding state_named state_set
state_at_on name t v line f proper is = unless_so IsNamed (bytes_eq name (codes "clk")) (WrongKind line) _
    (chain (λ _. Unit {0}) IsNamed (start_of line t.width v) _ (any (start_of line t.width v)) (λ s _.
    unless_with IsNamed (is_some (get f.raw.attributes name)) (SameName line) (Ok (state_set name t s f)) (λ none.
    attribute_named (with_state f name t s) name _ proper none (named_same f (with_state f name t s) refl refl refl
    refl refl is))))

state_to_on : (to : Target) (t : ValueType) (v : Value) (line : ℕ) (f : Frame)
    → IsAimed (λ name. is_proper_name name ≡ true) to → IsNamed f → On (state_to to t v line f) IsNamed
state_to_on (target.Attribute name) t v line f aimed is = state_at_on name t v line f aimed is
state_to_on (target.Local name) t v line f aimed is = tt
state_to_on target.Other t v line f aimed is = tt

pub state_named_on : (to : Target) (t : ValueType) (v : Value) (line : ℕ) (f : Frame)
    → IsAimed (λ name. is_proper_name name ≡ true) to → IsNamed f → On (state_put to t v line f) IsNamed
unfolding state_put
state_named_on to t v line f aimed is = in_either IsNamed f.class line _ (state_to_on to t v line f aimed is)

rule_on : (line : ℕ) (f : Frame) (x : Value-F Value Member) → IsNamed f → On (rule_at line f x) IsNamed
rule_on line f (Value-F.Rule t u) is = named_same f _ refl refl refl refl refl is
rule_on line f _ is = tt

rules_on : (gs : List Given) (line : ℕ) (f : Frame) → IsNamed f → On (rules_put gs line f) IsNamed
unfolding rules_put rule_put
rules_on [] line f is = is
rules_on (g ∷ gs) line f is = chain IsNamed IsNamed (rule_put g.value line f) _ (rule_on line f (out-Value g.value)
    is) (λ h more. rules_on gs line h more)

pub constrained_named_on : (gs : List Given) (line : ℕ) (f : Frame) → IsNamed f → On (constrained gs line f) IsNamed
unfolding constrained
constrained_named_on gs line f is = if_so IsNamed (are_unnamed gs) (BadArguments line) _ (in_either IsNamed f.class
    line _ (rules_on gs line f is))

pub connected_named_on : (kinds : List MadeKind) (line : ℕ) (a b : Value) (f : Frame) → IsNamed f
    → On (connected kinds a b line f) IsNamed
connected_named_on kinds line a b f is =
    connected_on IsNamed (λ f line a b same is. named_same f _ refl refl refl refl refl is) (λ f line part w is.
    named_same f _ refl refl refl refl refl is)
    (λ f line c d same is. named_same f _ refl refl refl refl refl is) (λ f line is. named_same f _ refl refl refl
    refl refl is) kinds line a b f is

guard_on : (n : ℕ) (g : Option GuardLine) (f : Frame) → IsNamed f → IsNamed (guard_put n g f)
unfolding guard_put body_put
guard_on n None f is = is
guard_on n (Some g) f is = named_same f _ refl refl refl refl refl is

pub method_named_on : (name : List ℕ) (t : MethodTypes) (g : Option GuardLine) (line : ℕ) (nodes : List Node)
    (f : Frame) → is_proper_name name ≡ true → IsNamed f
    → On (method_put name t g line nodes f) IsNamed
unfolding method_put method_set named_method method_added body_put
method_named_on name t g line nodes f proper is =
    unless_with IsNamed (bytes_eq name (codes "clk") || is_some (get f.raw.attributes name)) (SameName line)
    (Ok (method_set name t g line nodes f)) (λ unused.
    named_same (guard_put (length f.kind.methods) g (named_method name t f)) _ refl refl refl refl refl
    (guard_on (length f.kind.methods) g (named_method name t f)
    (attribute_named (method_added name t f) name _ proper (second_false (bytes_eq name (codes "clk"))
    (is_some (get f.raw.attributes name)) unused) (named_same f (method_added name t f) refl refl refl refl refl
    is))))
  where
    second_false : (a b : Bool) → (a || b) ≡ false → b ≡ false
    second_false false b is = is
    second_false true b is = none_false is

pub local_named_on : (f : Frame) (name : List ℕ) (v : Value) → IsNamed f → IsNamed (local_put name v f)
unfolding local_put
local_named_on f name v is = named_same f _ refl refl refl refl refl is

interface_on : (name : List ℕ) (v : Value) (line : ℕ) (f : Frame) → is_proper_name name ≡ true → IsNamed f
    → On (interface_member name v line f) IsNamed
unfolding interface_member
interface_on name v line f proper is = if_so IsNamed (is_member v) (WrongKind line) _
    (unless_with IsNamed (is_some (get f.raw.attributes name)) (SameName line) (Ok (attribute_set name v f))
    (λ none. attribute_named f name v proper none is))

module _ (kinds : List MadeKind) (line : ℕ) where
  component_on : (name : List ℕ) (v : Value) (f : Frame) → is_proper_name name ≡ true → IsNamed f
      → (is_attribute v ≡ true → is_some (get f.raw.attributes name) ≡ false
      → On (place v kinds name line f) (λ r. IsPlacedBelow name f r.0))
      → On (component_attribute kinds name v line f) IsNamed
  unfolding component_attribute
  component_on name v f proper is places = unless_with IsNamed (bytes_eq name (codes "clk")) (WrongKind line) _
      (λ no_clock.
      if_with IsNamed (is_attribute v) (WrongKind line) _ (λ sort.
      unless_with IsNamed (is_some (get f.raw.attributes name)) (SameName line) _ (λ none.
      chain (λ (r : Frame × Value). IsPlacedBelow name f r.0) IsNamed (place v kinds name line f) _ (places sort
      none) (λ r placed.
      placed_named f r.0 name r.1 proper (λ same. none_false (sym ((bytes_eq-Decides name (codes "clk")).1 same) ∙
      no_clock)) none placed is))))

  pub assigned_named_on : (to : Target) (v : Value) (f : Frame) → IsAimed (λ name. is_proper_name name ≡ true) to
      → IsNamed f
      → ((name : List ℕ) → is_proper_name name ≡ true → is_attribute v ≡ true
      → is_some (get f.raw.attributes name) ≡ false
      → On (place v kinds name line f) (λ r. IsPlacedBelow name f r.0))
      → On (assigned to kinds v line f) IsNamed
  unfolding assigned attribute_put local_assigned
  assigned_named_on (target.Local name) v f aimed is places = if_so IsNamed (is_settled v) (WrongKind line)
      (Ok (local_put name v f)) (local_named_on f name v is)
  assigned_named_on target.Other v f aimed is places = tt
  assigned_named_on (target.Attribute name) v f aimed is places = by f.class
    where
      by : (s : ConstructedClass) → On (attribute_put_in s kinds name v line f) IsNamed
      by class.Component = component_on name v f aimed is (places name aimed)
      by class.Interface = interface_on name v line f aimed is

-- ---- frames at first

reset_proper : is_proper_name (codes "reset") ≡ true
unfolding is_keyword
reset_proper = refl

pub component_named : (name : List ℕ) (ps : List Par) (vs : List Value) → is_proper_name name ≡ true
    → IsNamed (component_start name ps vs)
unfolding component_start
component_named name ps vs proper = record {
  class_named = proper;
  blocks_named = refl;
  attributes_named = both (list_all is_proper_name (codes "reset" ∷ [])) true (both (is_proper_name (codes "reset"))
      true reset_proper refl) refl;
  members = record { named = (IsMemberName.plain (codes "reset") reset_proper, tt); apart = (tt, tt) };
  rooted = (
    record {
      root = codes "reset";
      proper = reset_proper;
      there = refl;
      no_clock = λ same. never ((bytes_eq-Decides (codes "reset") (codes "clk")).1 same);
      covers = covers_self (codes "reset");
    },
    tt,
  );
}

pub interface_named : (name : List ℕ) (ps : List Par) (vs : List Value) → is_proper_name name ≡ true
    → IsNamed (interface_start name ps vs)
unfolding interface_start
interface_named name ps vs proper = record {
  class_named = proper;
  blocks_named = refl;
  attributes_named = refl;
  members = record { named = tt; apart = tt };
  rooted = tt;
}
