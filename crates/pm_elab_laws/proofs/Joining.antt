-- What a component keeps while parts of it are connected.
use Rattle.std.proofs.Common.{◌≡◌, ◌&&◌, ◌||◌, ℕ, ℤ, Bool, true, false, List, [], ◌∷◌, sym, subst, map}
use Rattle.std.specs.Prelude.{Option, Some, None, Ok, Err, if◌then◌else◌}
use Rattle.std.specs.Str.{bytes_eq}
use Rattle.pm_bits.specs.Word.{Word}
use Rattle.pm_design.specs.declared.connection.Callee.{Callee}
use Rattle.pm_design.specs.declared.connection.Part.{Part}
use Rattle.pm_values.specs.declared.fault.BuildFault.TheVariants.{WrongKind}
use Rattle.pm_values.specs.declared.reference.Reference.{Reference}
use Rattle.pm_values.specs.declared.value.Member.{Member, Member-F, fold-roll-Member, roll-Member}
use Rattle.pm_values.specs.declared.value.Taken.TheVariants as taken
use Rattle.pm_values.specs.declared.value.Value.{Value, Value-F, fold-roll-Value, out-Value, roll-Value, roll-out-Value}
use Rattle.pm_values.specs.declared.value.Value.TheFolds.{ind-Value, map-Value, map-Member}
use Rattle.pm_elab.specs.declared.class.ConstructedClass.{ConstructedClass}
use Rattle.pm_elab.specs.declared.class.ConstructedClass.TheVariants as class
use Rattle.pm_elab.specs.declared.elaboration.MadeKind.{MadeKind}
use Rattle.pm_elab.specs.declared.frame.Frame.{Frame}
use Rattle.pm_elab.specs.Attributes.{member_named}
use Rattle.pm_elab.specs.Connections.{in_class, is_reset, with_join, join_signals, with_tie, tie, tied_int}
use Rattle.pm_elab.specs.Connections.{tied_constant, tie_int, tie_constant, is_caller, with_bind, bind, equal_calls}
use Rattle.pm_elab.specs.Connections.{same_type, type_of_reference, signal_end_at, signal_end, int_end_at, int_end}
use Rattle.pm_elab.specs.Connections.{constant_end_at, constant_end, method_end_at, method_end, ends_at, ends, matching}
use Rattle.pm_elab.specs.Connections.{Joining, MemberJoining, join_named, join_in, join_members, join_items}
use Rattle.pm_elab.specs.Connections.{join_interface_at, join_interface, join_list_at, join_list, join_int_at, join_int}
use Rattle.pm_elab.specs.Connections.{joining_of, member_joining, join_member, named_joining, with_mismatch}
use Rattle.pm_elab.specs.Connections.{join_interfaces, is_interface, connection, connected}
use Rattle.pm_elab.specs.Elab.{Checked}
use Rattle.pm_elab_laws.proofs.Keeping.{On, Each, Where}
use Rattle.pm_elab_laws.proofs.Framing.{chain}

-- an answer that depends on the sort of the frame has the property
pub in_either : (P : Frame → Type 0) (s : ConstructedClass) (line : ℕ) (r : Checked Frame) → On r P
    → On (in_class s line r) P
in_either P class.Component line r is = is
in_either P class.Interface line r is = tt

-- facts of values that are connected
pub record Ends : Type 1 where
  pub IsEnd : Value → Type 0
  pub IsSignal : Reference → Type 0
  pub IsCall : Callee → Type 0
  pub items : (vs : List Value) → IsEnd (roll-Value (Value-F.Items vs)) → Each IsEnd vs
  pub members : (ms : List Member) → IsEnd (roll-Value (Value-F.Interface ms)) → Each (λ (m : Member). IsEnd m.value) ms
  pub signals : (r : Reference) → IsEnd (roll-Value (Value-F.Taken (taken.Signal r))) → IsSignal r
  pub calls : (c : Callee) → IsEnd (roll-Value (Value-F.Taken (taken.Method c))) → IsCall c

module _ (ends_are : Ends) (P : Frame → Type 0) (kinds : List MadeKind) (line : ℕ)
    (joins : (f : Frame) (r q : Reference) → ends_are.IsSignal r → ends_are.IsSignal q → P f
    → P (with_join f line r.part q.part (same_type (type_of_reference r) (type_of_reference q))))
    (ties : (f : Frame) (r : Reference) (w : Option Word) → ends_are.IsSignal r → P f → P (with_tie f line r.part w))
    (binds : (f : Frame) (c d : Callee) → ends_are.IsCall c → ends_are.IsCall d → P f
    → P (with_bind f line c d (equal_calls kinds f c d)))
    (mismatches : (f : Frame) → P f → P (with_mismatch f line)) where
  abbrev Opens : Value-F Value Member → Type 0
  Opens x = ends_are.IsEnd (roll-Value x)

  opened : (v : Value) → ends_are.IsEnd v → Opens (out-Value v)
  opened v good = subst ends_are.IsEnd (sym (roll-out-Value v)) good

  signals_on : (r q : Reference) (f : Frame) → ends_are.IsSignal r → ends_are.IsSignal q → P f
      → On (join_signals r q line f) P
  unfolding join_signals
  signals_on r q f first second is = by (is_reset r.part || is_reset q.part)
    where
      by : (b : Bool) → On (if b then Err (WrongKind line) else Ok (with_join f line r.part q.part
          (same_type (type_of_reference r) (type_of_reference q)))) P
      by true = tt
      by false = joins f r q first second is

  tie_on : (r : Reference) (w : Option Word) (f : Frame) → ends_are.IsSignal r → P f → On (tie r w line f) P
  unfolding tie
  tie_on r w f good is = by (is_reset r.part)
    where
      by : (b : Bool) → On (if b then Err (WrongKind line) else Ok (with_tie f line r.part w)) P
      by true = tt
      by false = ties f r w good is

  bind_on : (c d : Callee) (f : Frame) → ends_are.IsCall c → ends_are.IsCall d → P f → On (bind kinds c d line f) P
  unfolding bind
  bind_on c d f first second is = by (is_caller c || is_caller d)
    where
      by : (b : Bool) → On (if b then Ok (with_bind f line c d (equal_calls kinds f c d)) else Err (WrongKind line)) P
      by true = binds f c d first second is
      by false = tt

  signal_at_on : (r : Reference) (f : Frame) (v : Value-F Value Member) → ends_are.IsSignal r → Opens v → P f
      → On (signal_end_at r line f v) P
  unfolding tie_int tie_constant
  signal_at_on r f (Value-F.Taken (taken.Signal q)) good end is = signals_on r q f good (ends_are.signals q end) is
  signal_at_on r f (Value-F.Int n) good end is = tie_on r (tied_int r n) f good is
  signal_at_on r f (Value-F.Const w) good end is = tie_on r (tied_constant r w) f good is
  signal_at_on r f _ good end is = tt

  signal_on : (r : Reference) (v : Value) (f : Frame) → ends_are.IsSignal r → ends_are.IsEnd v → P f
      → On (signal_end r v line f) P
  unfolding signal_end
  signal_on r v f good end is = signal_at_on r f (out-Value v) good (opened v end) is

  int_at_on : (n : ℤ) (f : Frame) (v : Value-F Value Member) → Opens v → P f → On (int_end_at n line f v) P
  unfolding tie_int
  int_at_on n f (Value-F.Taken (taken.Signal r)) end is = tie_on r (tied_int r n) f (ends_are.signals r end) is
  int_at_on n f _ end is = tt

  int_on : (n : ℤ) (v : Value) (f : Frame) → ends_are.IsEnd v → P f → On (int_end n v line f) P
  unfolding int_end
  int_on n v f end is = int_at_on n f (out-Value v) (opened v end) is

  constant_at_on : (w : Word) (f : Frame) (v : Value-F Value Member) → Opens v → P f → On (constant_end_at w line f v) P
  unfolding tie_constant
  constant_at_on w f (Value-F.Taken (taken.Signal r)) end is = tie_on r (tied_constant r w) f (ends_are.signals r
      end) is
  constant_at_on w f _ end is = tt

  constant_on : (w : Word) (v : Value) (f : Frame) → ends_are.IsEnd v → P f → On (constant_end w v line f) P
  unfolding constant_end
  constant_on w v f end is = constant_at_on w f (out-Value v) (opened v end) is

  method_at_on : (c : Callee) (f : Frame) (v : Value-F Value Member) → ends_are.IsCall c → Opens v → P f
      → On (method_end_at kinds c line f v) P
  method_at_on c f (Value-F.Taken (taken.Method d)) good end is = bind_on c d f good (ends_are.calls d end) is
  method_at_on c f _ good end is = tt

  method_on : (c : Callee) (v : Value) (f : Frame) → ends_are.IsCall c → ends_are.IsEnd v → P f
      → On (method_end kinds c v line f) P
  unfolding method_end
  method_on c v f good end is = method_at_on c f (out-Value v) good (opened v end) is

  ends_at_on : (v : Value) (f : Frame) (u : Value-F Value Member) → ends_are.IsEnd v → Opens u → P f
      → On (ends_at kinds v line f u) P
  ends_at_on v f (Value-F.Taken (taken.Signal r)) end other is = signal_on r v f (ends_are.signals r other) end is
  ends_at_on v f (Value-F.Taken (taken.Method c)) end other is = method_on c v f (ends_are.calls c other) end is
  ends_at_on v f (Value-F.Int n) end other is = int_on n v f end is
  ends_at_on v f (Value-F.Const w) end other is = constant_on w v f end is
  ends_at_on v f _ end other is = tt

  -- ---- interfaces, member by member

  abbrev Joins : Value → Type 0
  Joins v = ends_are.IsEnd v → (w : Value) (f : Frame) → ends_are.IsEnd w → P f → On (join_member v kinds w line f) P

  abbrev JoinsMember : Member → Type 0
  JoinsMember m = ends_are.IsEnd m.value → (w : Value) (f : Frame) → ends_are.IsEnd w → P f
      → On ((named_joining m).joins kinds w line f) P

  named_on : (j : Joining) (w : Option Value) (f : Frame) → ((w : Value) (f : Frame) → ends_are.IsEnd w → P f
      → On (j kinds w line f) P)
      → Where ends_are.IsEnd w → P f → On (join_named j kinds w line f) P
  named_on j None f each end is = tt
  named_on j (Some w) f each end is = each w f end is

  named_end : (ns : List Member) (name : List ℕ) → Each (λ (m : Member). ends_are.IsEnd m.value) ns
      → Where ends_are.IsEnd (member_named ns name)
  unfolding member_named
  named_end [] name each = tt
  named_end (n ∷ ns) name each = by (bytes_eq n.name name) (named_end ns name each.1)
    where
      by : (b : Bool) → Where ends_are.IsEnd (member_named ns name)
          → Where ends_are.IsEnd (if b then Some n.value else member_named ns name)
      by true rest = each.0
      by false rest = rest

  members_on : (ms : List ((m : Member) × JoinsMember m)) (ns : List Member) (f : Frame)
      → Each (λ (m : Member). ends_are.IsEnd m.value) (map (λ m. m.0) ms)
      → Each (λ (m : Member). ends_are.IsEnd m.value) ns → P f
      → On (join_members (map named_joining (map (λ m. m.0) ms)) kinds ns line f) P
  unfolding join_members join_in
  members_on [] ns f first second is = is
  members_on (m ∷ ms) ns f first second is =
      chain P P (join_in (named_joining m.0) kinds ns line f) _
      (named_on (named_joining m.0).joins (member_named ns (named_joining m.0).name) f (m.1 first.0) (named_end ns
      (named_joining m.0).name second) is)
      (λ g more. members_on ms ns g first.1 second more)

  items_on : (vs : List ((v : Value) × Joins v)) (ws : List Value) (f : Frame)
      → Each ends_are.IsEnd (map (λ v. v.0) vs) → Each ends_are.IsEnd ws
      → P f → On (join_items (map join_member (map (λ v. v.0) vs)) kinds ws line f) P
  unfolding join_items
  items_on [] ws f first second is = is
  items_on (v ∷ vs) [] f first second is = is
  items_on (v ∷ vs) (w ∷ ws) f first second is =
      chain P P (join_member v.0 kinds w line f) _ (v.1 first.0 w f second.0 is) (λ g more. items_on vs ws g first.1
      second.1 more)

  interface_on : (ms : List ((m : Member) × JoinsMember m)) (f : Frame) (w : Value-F Value Member)
      → Each (λ (m : Member). ends_are.IsEnd m.value) (map (λ m. m.0) ms) → Opens w → P f
      → On (join_interface_at (map named_joining (map (λ m. m.0) ms)) kinds line f w) P
  interface_on ms f (Value-F.Interface ns) each end is = members_on ms ns f each (ends_are.members ns end) is
  interface_on ms f _ each end is = tt

  list_on : (vs : List ((v : Value) × Joins v)) (f : Frame) (w : Value-F Value Member)
      → Each ends_are.IsEnd (map (λ v. v.0) vs) → Opens w → P f
      → On (join_list_at (map join_member (map (λ v. v.0) vs)) kinds line f w) P
  list_on vs f (Value-F.Items ws) each end is = items_on vs ws f each (ends_are.items ws end) is
  list_on vs f _ each end is = tt

  int_member_on : (n : ℤ) (v : Value) (f : Frame) (w : Value-F Value Member) → P f → On (int_end n v line f) P
      → On (join_int_at n v line f w) P
  int_member_on n v f (Value-F.Int i) is other = is
  int_member_on n v f _ is other = other

  abbrev Down : Value-F ((v : Value) × Joins v) ((m : Member) × JoinsMember m) → Value-F Value Member
  Down y = map-Value ((v : Value) × Joins v) ((m : Member) × JoinsMember m) Value Member (λ v. v.0) (λ m. m.0) y

  layer : (y : Value-F ((v : Value) × Joins v) ((m : Member) × JoinsMember m)) → Opens (Down y)
      → (w : Value) (f : Frame) → ends_are.IsEnd w → P f
      → On (joining_of (map-Value Value Member Joining MemberJoining join_member named_joining (Down y)) kinds w
      line f) P
  unfolding join_interface join_list join_int
  layer (Value-F.Interface ms) own w f end is = interface_on ms f (out-Value w) (ends_are.members (map (λ m. m.0)
      ms) own) (opened w end) is
  layer (Value-F.Items vs) own w f end is = list_on vs f (out-Value w) (ends_are.items (map (λ v. v.0) vs) own)
      (opened w end) is
  layer (Value-F.Int n) own w f end is = int_member_on n w f (out-Value w) is (int_on n w f end is)
  layer (Value-F.Const c) own w f end is = constant_on c w f end is
  layer (Value-F.Taken (taken.Signal r)) own w f end is = signal_on r w f (ends_are.signals r own) end is
  layer (Value-F.Taken (taken.Method c)) own w f end is = method_on c w f (ends_are.calls c own) end is
  layer _ own w f end is = tt

  whole : (x : Value-F Value Member) (y : Value-F ((v : Value) × Joins v) ((m : Member) × JoinsMember m))
      → Down y ≡ x → Joins (roll-Value x)
  unfolding join_member named_joining
  whole x y is own w f end fine =
      let step : Value-F Value Member → Type 0 = λ z. Opens z
      → On (joining_of (map-Value Value Member Joining MemberJoining join_member named_joining z) kinds w line
      f) P in
      subst (λ (p : Joining). On (p kinds w line f) P) (sym (fold-roll-Value Joining MemberJoining joining_of
      member_joining x)) (subst step is (λ own. layer y own w f end fine) own)

  whole_member : (x : Member-F Value Member) (y : Member-F ((v : Value) × Joins v) ((m : Member) × JoinsMember m))
      → map-Member ((v : Value) × Joins v) ((m : Member) × JoinsMember m) Value Member (λ v. v.0) (λ m. m.0) y ≡ x
      → JoinsMember (roll-Member x)
  unfolding join_member named_joining
  whole_member x y is own w f end fine =
      let step : Member-F Value Member → Type 0 = λ z. ends_are.IsEnd z.value
      → On ((member_joining (map-Member Value Member Joining MemberJoining join_member named_joining z)).joins
      kinds w line f) P in
      subst (λ (p : MemberJoining). On (p.joins kinds w line f) P) (sym (fold-roll-Member Joining MemberJoining
      joining_of member_joining x)) (subst step is (λ own. y.value.1 own w f end fine) own)

  joins_on : (v : Value) → Joins v
  joins_on v = ind-Value Joins JoinsMember whole whole_member v

  -- ---- all connections

  interfaces_on : (a b : Value) (f : Frame) → ends_are.IsEnd a → ends_are.IsEnd b → P f
      → On (join_interfaces kinds a b line f) P
  unfolding join_interfaces
  interfaces_on a b f first second is = by (matching a b)
    where
      by : (c : Bool) → On (if c then join_member a kinds b line f else Ok (with_mismatch f line)) P
      by true = joins_on a first b f second is
      by false = mismatches f is

  connection_on : (a b : Value) (f : Frame) → ends_are.IsEnd a → ends_are.IsEnd b → P f
      → On (connection kinds a b line f) P
  unfolding connection ends
  connection_on a b f first second is = by (is_interface a && is_interface b)
    where
      by : (c : Bool) → On (if c then join_interfaces kinds a b line f else ends_at kinds b line f (out-Value a)) P
      by true = interfaces_on a b f first second is
      by false = ends_at_on b f (out-Value a) second (opened a first) is

  -- two values are connected
  pub joined_on : (a b : Value) (f : Frame) → ends_are.IsEnd a → ends_are.IsEnd b → P f
      → On (connected kinds a b line f) P
  unfolding connected
  joined_on a b f first second is = in_either P f.class line (connection kinds a b line f) (connection_on a b f
      first second is)

every : (vs : List Value) → Each (λ (v : Value). Unit {0}) vs
every [] = tt
every (v ∷ vs) = (tt, every vs)

every_member : (ms : List Member) → Each (λ (m : Member). Unit {0}) ms
every_member [] = tt
every_member (m ∷ ms) = (tt, every_member ms)

-- nothing is said of the ends
any_ends : Ends
any_ends = record {
  IsEnd = λ v. Unit {0};
  IsSignal = λ r. Unit {0};
  IsCall = λ c. Unit {0};
  items = λ vs end. every vs;
  members = λ ms end. every_member ms;
  signals = λ r end. tt;
  calls = λ c end. tt;
}

-- two values of which nothing is said are connected
pub connected_on : (P : Frame → Type 0)
    (joins : (f : Frame) (line : ℕ) (a b : Part) (same : Bool) → P f → P (with_join f line a b same))
    (ties : (f : Frame) (line : ℕ) (part : Part) (w : Option Word) → P f → P (with_tie f line part w))
    (binds : (f : Frame) (line : ℕ) (c d : Callee) (same : Bool) → P f → P (with_bind f line c d same))
    (mismatches : (f : Frame) (line : ℕ) → P f → P (with_mismatch f line))
    (kinds : List MadeKind) (line : ℕ) (a b : Value) (f : Frame) → P f → On (connected kinds a b line f) P
unfolding any_ends
connected_on P joins ties binds mismatches kinds line a b f is =
    joined_on any_ends P kinds line (λ f r q first second is. joins f line r.part q.part _ is) (λ f r w good is.
    ties f line r.part w is)
    (λ f c d first second is. binds f line c d _ is) (λ f is. mismatches f line is) a b f tt tt is
