-- A design with bodies names what it named without them.
use Rattle.std.proofs.Common.{◌≡◌, ◌∙◌, ◌+◌, ◌^◌, ◌==◌, ◌&&◌, ◌||◌, ◌≤◌, ℕ, zero, suc, Bool, true, false, List, [], ◌∷◌, refl, sym, ap, ap₂, subst, map, length, drop}
use Rattle.std.proofs.Math.Path.{fun_ext}
use Rattle.std.specs.Prelude.{IsTrue, nat_lt, nat_le, not, if◌then◌else◌, Option, Some, None, slice_index_or}
use Rattle.std.specs.List.{list_all}
use Rattle.std.specs.Str.{bytes_eq}
use Rattle.std.specs.Prelude.{take}
use Rattle.pm_design.specs.declared.body.Block.{Block}
use Rattle.pm_design.specs.declared.body.BlockSort.{BlockSort}
use Rattle.pm_design.specs.declared.body.BlockSort.TheVariants as block_sort
use Rattle.pm_design.specs.declared.body.Ex.{Ex}
use Rattle.pm_design.specs.declared.body.Method.{Method}
use Rattle.pm_design.specs.declared.connection.Callee.{Callee}
use Rattle.pm_design.specs.declared.connection.Callee.TheVariants as callee
use Rattle.pm_design.specs.declared.connection.Part.{Part}
use Rattle.pm_design.specs.declared.connection.Term.{Term}
use Rattle.pm_design.specs.declared.connection.Term.TheVariants as term
use Rattle.pm_design.specs.declared.design.Child.{Child}
use Rattle.pm_design.specs.declared.design.Design.{Design}
use Rattle.pm_design.specs.declared.design.Kind.{Kind}
use Rattle.pm_design.specs.declared.signal.Signal.{Signal}
use Rattle.pm_design.specs.Elaborated.{IsElaboratedKind, are_alike, is_good_method, is_good_term, is_shape_or_none}
use Rattle.pm_design.specs.Lookups.{Signature, caller_signature, is_input, is_port, is_readable, is_whole, is_writable, kind_of, lies_within, method_signature, no_kind, no_signal, owner_kind_of, signal_of, signature_of}
use Rattle.pm_design.specs.Names.{all_differ}
use Rattle.pm_design.specs.Settings.{progress_of}
use Rattle.pm_design.specs.Sound.{block_sight, holdings_of, is_sound_answer, is_sound_block, is_sound_guard, is_sound_method, may_change, may_write, method_sight}
use Rattle.pm_design.specs.Typing.{Sight, has_width, is_sound}
use Rattle.pm_design.specs.Widths.{total, is_width}
use Rattle.pm_syn.specs.Names.{is_proper_name}
use Rattle.pm_types.specs.declared.bodies.TypedBody.{TypedBody}
use Rattle.pm_types.specs.declared.filling.Filling.{Filling}
use Rattle.pm_types.specs.Filled.{filled, filled_block, filled_blocks, filled_kind, filled_kinds, filled_methods, first, with_filling, with_guard}

-- ---- one kind

-- how a method is called
abbrev signed : Method → Signature
signed m = record { there = true; arguments = m.arguments; answer = m.result }

method_kept : (m : Method) (f : Option Filling) (g : Option Ex) → signed (with_guard (with_filling m f) g) ≡ signed m
method_kept m None None = refl
method_kept m None (Some g) = refl
method_kept m (Some f) None = refl
method_kept m (Some f) (Some g) = refl

signatures_kept : (ms : List Method) (fs : List (Option Filling)) (gs : List (Option Ex)) (k : ℕ)
    → method_signature (filled_methods ms fs gs) k ≡ method_signature ms k
unfolding filled_methods
signatures_kept [] fs gs k = refl
signatures_kept (m ∷ ms) fs gs zero = method_kept m (first fs) (first gs)
signatures_kept (m ∷ ms) fs gs (suc k) = signatures_kept ms (drop 1 fs) (drop 1 gs) k

name_kept : (b : Block) (f : Option Filling) → (filled_block b f).name ≡ b.name
name_kept b None = refl
name_kept b (Some f) = refl

names_kept : (bs : List Block) (fs : List (Option Filling))
    → map (λ (b : Block). b.name) (filled_blocks bs fs) ≡ map (λ (b : Block). b.name) bs
unfolding filled_blocks
names_kept [] fs = refl
names_kept (b ∷ bs) fs =
    ap₂ (λ (n : List ℕ) (ns : List (List ℕ)). n ∷ ns) (name_kept b (first fs)) (names_kept bs (drop 1 fs))

names_passed : (bs : List Block) (fs : List (Option Filling))
    → list_all (λ (b : Block). is_proper_name b.name) (filled_blocks bs fs) ≡ list_all (λ (b : Block). is_proper_name b.name) bs
unfolding filled_blocks
names_passed [] fs = refl
names_passed (b ∷ bs) fs =
    ap₂ (λ (n : List ℕ) (rest : Bool). is_proper_name n && rest) (name_kept b (first fs)) (names_passed bs (drop 1 fs))

blocks_counted : (bs : List Block) (fs : List (Option Filling)) → length (filled_blocks bs fs) ≡ length bs
unfolding filled_blocks
blocks_counted [] fs = refl
blocks_counted (b ∷ bs) fs = ap (λ (n : ℕ). suc n) (blocks_counted bs (drop 1 fs))

module _ (kind : Kind) (ts : List TypedBody) where
  signature_in : (m : ℕ) → method_signature (filled_kind kind ts).methods m ≡ method_signature kind.methods m
  unfolding filled_kind
  signature_in m = signatures_kept kind.methods _ _ m

-- ---- all kinds

-- what bodies leave as it is, they leave so in each kind
looked_up : {A : Type 0} (f : Kind → A) → ((k : Kind) (ts : List TypedBody) → f (filled_kind k ts) ≡ f k)
    → (ks : List Kind) (bodies : List (List TypedBody)) (i : ℕ)
    → f (slice_index_or (filled_kinds ks bodies) i no_kind) ≡ f (slice_index_or ks i no_kind)
unfolding filled_kinds
looked_up f same [] bodies i = refl
looked_up f same (k ∷ ks) [] zero = refl
looked_up f same (k ∷ ks) [] (suc i) = looked_up f same ks [] i
looked_up f same (k ∷ ks) (ts ∷ rest) zero = same k ts
looked_up f same (k ∷ ks) (ts ∷ rest) (suc i) = looked_up f same ks rest i

pub kinds_counted : (ks : List Kind) (bodies : List (List TypedBody)) → length (filled_kinds ks bodies) ≡ length ks
unfolding filled_kinds
kinds_counted [] bodies = refl
kinds_counted (k ∷ ks) [] = ap (λ (n : ℕ). suc n) (kinds_counted ks [])
kinds_counted (k ∷ ks) (ts ∷ rest) = ap (λ (n : ℕ). suc n) (kinds_counted ks rest)

module _ (d : Design) (bodies : List (List TypedBody)) where
  abbrev whole : Design
  whole = filled d bodies

  kind_signals : (i : ℕ) → (kind_of whole i).signals ≡ (kind_of d i).signals
  unfolding filled_kind
  kind_signals i = looked_up (λ (k : Kind). k.signals) (λ k ts. refl) d.kinds bodies i

  kind_callers : (p i : ℕ) → caller_signature (kind_of whole i).callers p ≡ caller_signature (kind_of d i).callers p
  unfolding filled_kind
  kind_callers p i = looked_up (λ (k : Kind). caller_signature k.callers p) (λ k ts. refl) d.kinds bodies i

  kind_methods : (m i : ℕ) → method_signature (kind_of whole i).methods m ≡ method_signature (kind_of d i).methods m
  kind_methods m i = looked_up (λ (k : Kind). method_signature k.methods m) (λ k ts. signature_in k ts m) d.kinds bodies i

  kind_instances : (i : ℕ) → (kind_of whole i).instances ≡ (kind_of d i).instances
  unfolding filled_kind
  kind_instances i = looked_up (λ (k : Kind). k.instances) (λ k ts. refl) d.kinds bodies i

  -- the number of the kind of a child
  abbrev number_of : List Child → ℕ → ℕ → ℕ
  number_of children c past = (slice_index_or children c (record { name = []; kind = past; line = 0 })).kind

  number_kept : (children : List Child) (c : ℕ) → number_of children c (length whole.kinds) ≡ number_of children c (length d.kinds)
  number_kept children c = ap (number_of children c) (kinds_counted d.kinds bodies)

  pub shape_kept : is_shape_or_none whole ≡ is_shape_or_none d
  shape_kept = fun_ext by
    where
      by : (s : Option ℕ) → is_shape_or_none whole s ≡ is_shape_or_none d s
      by None = refl
      by (Some s) = refl

  module _ (kind : Kind) (ts : List TypedBody) where
    abbrev here : Kind
    here = filled_kind kind ts

    owner_signals : (o : ℕ) → (owner_kind_of whole here o).signals ≡ (owner_kind_of d kind o).signals
    unfolding filled_kind
    owner_signals zero = refl
    owner_signals (suc c) =
        ap (λ (i : ℕ). (kind_of whole i).signals) (number_kept kind.children c) ∙ kind_signals (number_of kind.children c (length d.kinds))

    signal_kept : (p : Part) → signal_of whole here p ≡ signal_of d kind p
    signal_kept p = ap (λ (ss : List Signal). slice_index_or ss p.signal no_signal) (owner_signals p.owner)

    lies_kept : lies_within whole here ≡ lies_within d kind
    lies_kept = fun_ext (λ p. ap (λ (s : Signal). nat_lt 0 p.width && nat_le (p.lo + p.width) s.width) (signal_kept p))

    reads_kept : is_readable whole here ≡ is_readable d kind
    reads_kept =
        fun_ext (λ p. ap (λ (s : Signal). (nat_lt 0 p.width && nat_le (p.lo + p.width) s.width) && (p.owner == 0 || is_port s.role)) (signal_kept p))

    writable_kept : (p : Part) → is_writable whole here p ≡ is_writable d kind p
    writable_kept p =
        ap (λ (s : Signal). (nat_lt 0 p.width && nat_le (p.lo + p.width) s.width) && (if p.owner == 0 then not (is_input s.role) else is_input s.role)) (signal_kept p)

    whole_kept : (p : Part) → is_whole whole here p ≡ is_whole d kind p
    whole_kept p = ap (λ (s : Signal). p.lo == 0 && p.width == s.width) (signal_kept p)

    writes_kept : (sort : BlockSort) → may_write whole here sort ≡ may_write d kind sort
    writes_kept block_sort.Update = fun_ext writable_kept
    writes_kept block_sort.Once = fun_ext writable_kept
    writes_kept block_sort.Edge = fun_ext (λ p. ap₂ (λ (a b : Bool). a && b) (writable_kept p) (whole_kept p))

    signature_kept : (c : Callee) → signature_of whole here c ≡ signature_of d kind c
    unfolding filled_kind
    signature_kept (callee.Own m) = signature_in kind ts m
    signature_kept (callee.Port p) = refl
    signature_kept (callee.Child c m) =
        ap (λ (i : ℕ). method_signature (kind_of whole i).methods m) (number_kept kind.children c)
        ∙ kind_methods m (number_of kind.children c (length d.kinds))
    signature_kept (callee.ChildPort c p) =
        ap (λ (i : ℕ). caller_signature (kind_of whole i).callers p) (number_kept kind.children c)
        ∙ kind_callers p (number_of kind.children c (length d.kinds))

    calls_kept : signature_of whole here ≡ signature_of d kind
    calls_kept = fun_ext signature_kept

    -- ---- bodies

    -- a sight with this to read, to write and to call
    abbrev seeing : Bool → List ℕ → (Part → Bool) → (Part → Bool) → (Callee → Signature) → Sight
    seeing changes temps reads writes calls = record {
      reads = reads;
      writes = writes;
      states = holdings_of kind;
      changes = changes;
      calls = calls;
      temps = temps;
    }

    block_sight_kept : (b : Block) → block_sight whole here b ≡ block_sight d kind b
    unfolding filled_kind
    block_sight_kept b =
        ap (λ (reads : Part → Bool). seeing (may_change b.sort) b.temps reads (may_write whole here b.sort) (signature_of whole here)) reads_kept
        ∙ (ap (λ (writes : Part → Bool). seeing (may_change b.sort) b.temps (is_readable d kind) writes (signature_of whole here)) (writes_kept b.sort)
        ∙ ap (λ (calls : Callee → Signature). seeing (may_change b.sort) b.temps (is_readable d kind) (may_write d kind b.sort) calls) calls_kept)

    method_sight_kept : (temps : List ℕ) → method_sight whole here temps ≡ method_sight d kind temps
    unfolding filled_kind
    method_sight_kept temps =
        ap (λ (reads : Part → Bool). seeing true temps reads (λ part. false) (signature_of whole here)) reads_kept
        ∙ ap (λ (calls : Callee → Signature). seeing true temps (is_readable d kind) (λ part. false) calls) calls_kept

    pub block_kept : is_sound_block whole here ≡ is_sound_block d kind
    block_kept =
        fun_ext (λ b. ap (λ (s : Sight). list_all (is_sound s) b.body && (progress_of 0 b.body).fine) (block_sight_kept b))

    guard_kept : (g : Option Ex) → is_sound_guard whole here g ≡ is_sound_guard d kind g
    guard_kept None = refl
    guard_kept (Some e) = ap (λ (s : Sight). has_width s 1 e) (method_sight_kept [])

    pub sound_method_kept : is_sound_method whole here ≡ is_sound_method d kind
    sound_method_kept =
        fun_ext (λ m. ap₂ (λ (s : Sight) (guard : Bool).
        bytes_eq (take (length m.arguments) m.temps) m.arguments
        && (list_all (is_sound s) m.body && ((progress_of (length m.arguments) m.body).fine
        && (guard && is_sound_answer s (progress_of (length m.arguments) m.body) m.result m.answer))))
        (method_sight_kept m.temps) (guard_kept m.guard))

    -- ---- what elaboration gives

    term_kept : (t : Term) → is_good_term whole here t ≡ is_good_term d kind t
    unfolding filled_kind
    term_kept (term.Block b) = ap (λ (n : ℕ). nat_lt b n) (blocks_counted kind.blocks _)
    term_kept (term.Reads p) = ap (λ (lies : Part → Bool). lies p) lies_kept
    term_kept (term.Writes p) = ap (λ (lies : Part → Bool). lies p) lies_kept
    term_kept (term.Calls c) = ap (λ (s : Signature). s.there) (signature_kept c)
    term_kept term.Wrong = refl

    -- a kind that elaboration gives, with bodies whose temporaries have good widths
    pub kind_elaborated : (index : ℕ) → IsElaboratedKind d index kind
        → IsTrue (list_all (λ (b : Block). list_all is_width b.temps) here.blocks) → IsTrue (list_all is_good_method here.methods)
        → IsElaboratedKind whole index here
    unfolding filled_kind
    kind_elaborated index is blocks methods = record {
      named = record {
        class = is.named.class;
        blocks = names_passed kind.blocks _ ∙ is.named.blocks;
        blocks_differ = subst (λ (ns : List (List ℕ)). IsTrue (all_differ ns)) (sym (names_kept kind.blocks _)) is.named.blocks_differ;
        members = is.named.members;
        members_apart = is.named.members_apart;
        no_clock = is.named.no_clock;
        one_reset = is.named.one_reset;
      };
      sized = record {
        signals = is.sized.signals;
        states = is.sized.states;
        blocks = subst (λ (n : ℕ). n ≤ 2 ^ 20) (sym (blocks_counted kind.blocks _)) is.sized.blocks;
        instances = is.sized.instances ∙ ap (λ (f : ℕ → ℕ). 1 + total (map (λ (c : Child). f c.kind) kind.children)) (sym (fun_ext kind_instances));
        few_instances = is.sized.few_instances;
      };
      reset = is.reset;
      signals = subst (λ (shape : Option ℕ → Bool). IsTrue (list_all (λ (s : Signal). is_width s.width && shape s.shape) kind.signals)) (sym shape_kept) is.signals;
      states = is.states;
      children = is.children;
      methods = methods;
      callers = is.callers;
      joins = subst (λ (lies : Part → Bool). IsTrue (list_all (λ j. lies j.a && (lies j.b && (not j.equal_types || j.a.width == j.b.width))) kind.joins)) (sym lies_kept) is.joins;
      ties = subst (λ (lies : Part → Bool). IsTrue (list_all (λ t. lies t.part) kind.ties)) (sym lies_kept) is.ties;
      binds = subst (λ (calls : Callee → Signature). IsTrue (list_all (λ b. (calls b.a).there && ((calls b.b).there && (not b.equal_types || are_alike (calls b.a) (calls b.b)))) kind.binds)) (sym calls_kept) is.binds;
      blocks = blocks;
      rules = subst (λ (good : Term → Bool). IsTrue (list_all (λ r. good r.before && good r.after) kind.rules)) (sym (fun_ext term_kept)) is.rules;
    }
