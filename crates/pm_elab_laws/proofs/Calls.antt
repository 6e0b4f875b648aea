-- Calls.
use Rattle.std.proofs.Common.{◌≡◌, ℕ, ℤ, true, List, [], ◌∷◌, ◌++◌}
use Rattle.std.specs.Prelude.{Option, Some, None, Ok, Err, is_some}
use Rattle.pm_bits.specs.Word.{Word}
use Rattle.pm_design.specs.declared.connection.Term.{Term}
use Rattle.pm_values.specs.declared.fault.BuildFault.{BuildFault}
use Rattle.pm_values.specs.declared.fault.BuildFault.TheVariants.{IntRange, WrongKind}
use Rattle.pm_values.specs.declared.value.Member.{Member}
use Rattle.pm_values.specs.declared.value.Value.{Value, Value-F, out-Value}
use Rattle.pm_values.specs.declared.value.Value.TheVariants as value
use Rattle.pm_elab.specs.declared.call.Called.{Called}
use Rattle.pm_elab.specs.declared.call.Called.TheVariants as calls
use Rattle.pm_elab.specs.declared.call.Given.{Given}
use Rattle.pm_elab.specs.declared.elaboration.Elaboration.{Elaboration}
use Rattle.pm_elab.specs.declared.frame.Frame.{Frame}
use Rattle.pm_elab.specs.declared.function.Function.{Function}
use Rattle.pm_elab.specs.declared.function.Function.TheVariants as function
use Rattle.pm_elab.specs.Elab.{Checked, and_then, or_else}
use Rattle.pm_elab.specs.Expressions.{Make, Meaning, Passed, function_by, called_by, callee, one_given, given_from}
use Rattle.pm_elab.specs.Expressions.{blocks_of, block_from, block_named, only_name, named_block, function_call}
use Rattle.pm_elab.specs.Expressions.{block_call_by, block_call, only_literal, constant_given, constant_call}
use Rattle.pm_elab.specs.Expressions.{constant_literal, type_call_by, type_call, class_call, value_call_at, value_call}
use Rattle.pm_elab.specs.Expressions.{call_of, call}
use Rattle.pm_elab.specs.Functions.{only}
use Rattle.pm_elab.specs.Sites.{Site}
use Rattle.pm_elab.specs.Values.{constant, constant_of, int, literal_constant, literal_of}
use Rattle.pm_elab_laws.proofs.Constants.{IsConstant, is_constant, constant_is, literal_is}
use Rattle.pm_elab_laws.proofs.Keeping.{On, Each, Where, Origin, Keeping, Runs, bind, lifted, done, failed}
use Rattle.pm_elab_laws.proofs.Places.{IsSite, IsMeaning, IsMake, each_so, each_more, site_on, fork}
use Rattle.pm_elab_laws.proofs.Operators.{from, on_from}

-- arguments that keep the facts
abbrev pub ArePassed : Keeping → List Passed → Type 0
ArePassed k ps = Each (λ (p : Passed). IsMeaning k p.meaning) ps

-- values of arguments that are as they must be
abbrev pub AreGiven : Keeping → Elaboration → Elaboration → Option Frame → List Given → Type 0
AreGiven k l m fr gs = Each (λ (g : Given). k.IsValue l m fr g.value) gs

-- what is called is as it must be
abbrev pub IsCalled : Keeping → Elaboration → Elaboration → Option Frame → Called → Type 0
IsCalled k l m fr (calls.Function f) = Unit {0}
IsCalled k l m fr (calls.Value v) = k.IsValue l m fr v

module _ (k : Keeping) where
  pub given_on : (l m n : Elaboration) (fr : Option Frame) (gs : List Given) → k.Leads m n → AreGiven k l m fr gs
      → AreGiven k l n fr gs
  given_on l m n fr gs leads each = each_so (λ (g : Given). k.IsValue l m fr g.value) (λ (g : Given). k.IsValue l n
      fr g.value) gs (λ g. k.value_on l m n fr g.value leads) each

  pub given_before : (l m n : Elaboration) (fr : Option Frame) (gs : List Given) → k.Leads l m
      → AreGiven k m n fr gs → AreGiven k l n fr gs
  given_before l m n fr gs leads each = each_so (λ (g : Given). k.IsValue m n fr g.value) (λ (g : Given). k.IsValue
      l n fr g.value) gs (λ g. k.value_from l m n fr g.value leads) each

  given_from_runs : (ps : List Passed) (gs : List Given) (o : Origin) (l m : Elaboration) (site : Site)
      → ArePassed k ps → IsSite k o m site → k.Leads l m → AreGiven k l m site.frame gs
      → Runs k m (given_from gs ps site m) (λ hs n. AreGiven k l n site.frame hs)
  unfolding given_from one_given
  given_from_runs [] gs o l m site means at leads is = done k m gs is
  given_from_runs (p ∷ ps) gs o l m site means at leads is =
      bind k {G = λ (g : Given) (n : Elaboration). k.IsValue m n site.frame g.value} m _ _
      (bind k m _ _ (means.0 o m site at) (λ x onward value. done k x.1 _ value)) (λ x onward value.
      given_from_runs ps (gs ++ x.0 ∷ []) o l x.1 site means.1 (site_on k o m x.1 site onward at) (k.on l m x.1
      leads onward)
      (each_more (λ (g : Given). k.IsValue l x.1 site.frame g.value) gs (x.0 ∷ []) (given_on l m x.1 site.frame gs
      onward is) (k.value_from l m x.1 site.frame x.0.value leads value, tt)))

  -- the values of arguments
  pub given_runs : (ps : List Passed) (o : Origin) (m : Elaboration) (site : Site) → ArePassed k ps
      → IsSite k o m site → Runs k m (given_from [] ps site m) (λ gs n. AreGiven k m n site.frame gs)
  given_runs ps o m site means at = given_from_runs ps [] o m m site means at (k.stays m) tt

  function_runs : (f : Function) (ps : List Passed) (o : Origin) (m : Elaboration) (site : Site) → ArePassed k ps
      → IsSite k o m site
      → Runs k m (function_call f ps site m) (λ v n. k.IsValue m n site.frame v)
  unfolding function_call
  function_runs f ps o m site means at = bind k m _ _ (given_runs ps o m site means at) (λ x leads is.
      lifted k x.1 _ (on_from k m x.1 site.frame _ leads (k.called_value m x.1 site.frame f site.line x.0 is)))

  block_term : (o : Origin) (m : Elaboration) (fr : Option Frame) (name : List ℕ) → Where (k.IsFrame o m) fr
      → Where (λ (t : Term). k.IsValue m m fr (value.Term t)) (block_from 0 (blocks_of fr) name)
  block_term o m None name is = tt
  block_term o m (Some f) name is = k.block_value o m f name is

  named_term : (o : Origin) (m : Elaboration) (site : Site) (name : Option (List ℕ))
      → Where (k.IsFrame o m) site.frame → Where (λ (t : Term). k.IsValue m m site.frame (value.Term t))
      (named_block site name)
  unfolding block_named
  named_term o m site None is = tt
  named_term o m site (Some name) is = block_term o m site.frame name is

  block_call_by_runs : (t : Option Term) (ps : List Passed) (o : Origin) (m : Elaboration) (site : Site)
      → ArePassed k ps → IsSite k o m site → Where (λ (t : Term). k.IsValue m m site.frame (value.Term t)) t
      → Runs k m (block_call_by t ps site m) (λ v n. k.IsValue m n site.frame v)
  block_call_by_runs (Some t) ps o m site means at is = done k m _ is
  block_call_by_runs None ps o m site means at is = function_runs function.Block ps o m site means at

  block_call_runs : (ps : List Passed) (o : Origin) (m : Elaboration) (site : Site) → ArePassed k ps
      → IsSite k o m site → Runs k m (block_call ps site m) (λ v n. k.IsValue m n site.frame v)
  unfolding block_call
  block_call_runs ps o m site means at = block_call_by_runs (named_block site (only_name ps)) ps o m site means at
      (named_term o m site (only_name ps) at.frame)

  const_on : (l m : Elaboration) (fr : Option Frame) (r : Checked Word) → k.Leads l m
      → On r (λ w. is_constant w ≡ true) → On (and_then r (λ w. Ok (value.Const w))) (k.IsValue l m fr)
  const_on l m fr (Ok w) leads is = k.value_from l m m fr (value.Const w) leads (k.const_value m fr w is)
  const_on l m fr (Err e) leads is = tt

  word_on : (w : Option Word) (e : BuildFault) → IsConstant w → On (or_else w e) (λ w. is_constant w ≡ true)
  word_on None e is = tt
  word_on (Some w) e is = is

  constant_word : (line width : ℕ) (v : Value) → On (constant line width v) (λ w. is_constant w ≡ true)
  unfolding constant
  constant_word line width v = by (int line v)
    where
      by : (r : Checked ℤ)
          → On (and_then r (λ n. or_else (constant_of width n) (IntRange line))) (λ w. is_constant w ≡ true)
      by (Ok n) = word_on (constant_of width n) (IntRange line) (constant_is width n)
      by (Err e) = tt

  literal_word : (line width n : ℕ) → On (literal_constant line width n) (λ w. is_constant w ≡ true)
  unfolding literal_constant
  literal_word line width n = word_on (literal_of width n) (IntRange line) (literal_is width n)

  constant_on : (l m : Elaboration) (fr : Option Frame) (line width : ℕ) (r : Checked Value) → k.Leads l m
      → On (and_then r (λ v. and_then (constant line width v) (λ w. Ok (value.Const w)))) (k.IsValue l m fr)
  constant_on l m fr line width (Ok v) leads = const_on l m fr (constant line width v) leads (constant_word line
      width v)
  constant_on l m fr line width (Err e) leads = tt

  constant_runs : (width : ℕ) (ps : List Passed) (o : Origin) (m : Elaboration) (site : Site) → ArePassed k ps
      → IsSite k o m site → Runs k m (constant_call width ps site m) (λ v n. k.IsValue m n site.frame v)
  unfolding constant_call constant_given
  constant_runs width ps o m site means at = bind k m _ _ (given_runs ps o m site means at) (λ x leads is. lifted k
      x.1 _ (constant_on m x.1 site.frame site.line width (only site.line x.0) leads))

  type_call_by_runs : (n : Option ℕ) (width : ℕ) (ps : List Passed) (o : Origin) (m : Elaboration) (site : Site)
      → ArePassed k ps → IsSite k o m site
      → Runs k m (type_call_by n width ps site m) (λ v n. k.IsValue m n site.frame v)
  unfolding constant_literal
  type_call_by_runs (Some n) width ps o m site means at = lifted k m _ (const_on m m site.frame (literal_constant
      site.line width n) (k.stays m) (literal_word site.line width n))
  type_call_by_runs None width ps o m site means at = constant_runs width ps o m site means at

  class_call_runs : (make : Make) → IsMake k make
      → (name : List ℕ) (ps : List Passed) (o : Origin) (m : Elaboration) (site : Site) → ArePassed k ps
      → IsSite k o m site
      → Runs k m (class_call make name ps site m) (λ v n. k.IsValue m n site.frame v)
  unfolding class_call
  class_call_runs make makes name ps o m site means at = bind k m _ _ (given_runs ps o m site means at) (λ x leads is.
      from k m x.1 site.frame _ leads (makes o m x.1 site name x.0 (site_on k o m x.1 site leads at) is))

  value_call_at_runs : (make : Make) → IsMake k make → (w : Value-F Value Member) (ps : List Passed) (o : Origin)
      (m : Elaboration) (site : Site) → ArePassed k ps → IsSite k o m site
      → Runs k m (value_call_at make w ps site m) (λ v n. k.IsValue m n site.frame v)
  unfolding type_call
  value_call_at_runs make makes (Value-F.Type t) ps o m site means at = fork k m (is_some t.shape) _ _
      (failed k m (WrongKind site.line)) (type_call_by_runs (only_literal ps) t.width ps o m site means at)
  value_call_at_runs make makes (Value-F.Class n) ps o m site means at = class_call_runs make makes n ps o m site
      means at
  value_call_at_runs make makes (Value-F.Int n) ps o m site means at = failed k m (WrongKind site.line)
  value_call_at_runs make makes (Value-F.Const w) ps o m site means at = failed k m (WrongKind site.line)
  value_call_at_runs make makes (Value-F.Items vs) ps o m site means at = failed k m (WrongKind site.line)
  value_call_at_runs make makes Value-F.Own ps o m site means at = failed k m (WrongKind site.line)
  value_call_at_runs make makes (Value-F.New n) ps o m site means at = failed k m (WrongKind site.line)
  value_call_at_runs make makes (Value-F.NewInterface ms) ps o m site means at = failed k m (WrongKind site.line)
  value_call_at_runs make makes (Value-F.Taken t) ps o m site means at = failed k m (WrongKind site.line)
  value_call_at_runs make makes (Value-F.Interface ms) ps o m site means at = failed k m (WrongKind site.line)
  value_call_at_runs make makes (Value-F.Term t) ps o m site means at = failed k m (WrongKind site.line)
  value_call_at_runs make makes (Value-F.Rule t u) ps o m site means at = failed k m (WrongKind site.line)

  -- a call, once it is known what is called
  pub call_of_runs : (make : Make) → IsMake k make → (c : Called) (ps : List Passed) (o : Origin) (m : Elaboration)
      (site : Site) → ArePassed k ps → IsSite k o m site
      → Runs k m (call_of make c ps site m) (λ v n. k.IsValue m n site.frame v)
  unfolding call_of value_call
  call_of_runs make makes (calls.Value v) ps o m site means at = value_call_at_runs make makes (out-Value v) ps o m
      site means at
  call_of_runs make makes (calls.Function function.Block) ps o m site means at = block_call_runs ps o m site means at
  call_of_runs make makes (calls.Function function.InPort) ps o m site means at = function_runs function.InPort ps o
      m site means at
  call_of_runs make makes (calls.Function function.OutPort) ps o m site means at = function_runs function.OutPort ps
      o m site means at
  call_of_runs make makes (calls.Function function.Wire) ps o m site means at = function_runs function.Wire ps o m
      site means at
  call_of_runs make makes (calls.Function function.MakeBits) ps o m site means at = function_runs function.MakeBits
      ps o m site means at
  call_of_runs make makes (calls.Function function.CeilingLog) ps o m site means at = function_runs
      function.CeilingLog ps o m site means at
  call_of_runs make makes (calls.Function function.Length) ps o m site means at = function_runs function.Length ps o
      m site means at
  call_of_runs make makes (calls.Function function.Connect) ps o m site means at = function_runs function.Connect ps
      o m site means at
  call_of_runs make makes (calls.Function function.Deque) ps o m site means at = function_runs function.Deque ps o m
      site means at
  call_of_runs make makes (calls.Function function.CallerPort) ps o m site means at = function_runs
      function.CallerPort ps o m site means at
  call_of_runs make makes (calls.Function function.CalleePort) ps o m site means at = function_runs
      function.CalleePort ps o m site means at
  call_of_runs make makes (calls.Function function.Readers) ps o m site means at = function_runs function.Readers ps
      o m site means at
  call_of_runs make makes (calls.Function function.Writers) ps o m site means at = function_runs function.Writers ps
      o m site means at
  call_of_runs make makes (calls.Function function.Callers) ps o m site means at = function_runs function.Callers ps
      o m site means at

  called_by_runs : (f : Option Function) (e : Meaning) → IsMeaning k e
      → (o : Origin) (m : Elaboration) (site : Site) → IsSite k o m site
      → Runs k m (called_by f e site m) (λ c n. IsCalled k m n site.frame c)
  called_by_runs (Some f) e means o m site at = done k m (calls.Function f) tt
  called_by_runs None e means o m site at = bind k m _ _ (means o m site at) (λ x leads is. done k x.1 (calls.Value
      x.0) is)

  -- what is called
  pub callee_runs : (e : Meaning) → IsMeaning k e → (o : Origin) (m : Elaboration) (site : Site) → IsSite k o m site
      → Runs k m (callee e site m) (λ c n. IsCalled k m n site.frame c)
  unfolding callee
  callee_runs e means o m site at = called_by_runs (function_by site e.name) e means o m site at

  -- a call
  pub call_runs : (make : Make) → IsMake k make → (e : Meaning) (ps : List Passed) → IsMeaning k e → ArePassed k ps
      → (o : Origin) (m : Elaboration) (site : Site) → IsSite k o m site
      → Runs k m (call make e ps site m) (λ v n. k.IsValue m n site.frame v)
  unfolding call
  call_runs make makes e ps first means o m site at = bind k m _ _ (callee_runs e first o m site at) (λ x leads is.
      from k m x.1 site.frame _ leads (call_of_runs make makes x.0 ps o x.1 site means (site_on k o m x.1 site leads
      at)))
