-- What callees name is there.
use Rattle.std.proofs.Common.{◌≡◌, ◌∙◌, ◌<◌, ◌≤◌, ◌⊎◌, ℕ, zero, suc, List, [], ◌∷◌, length, refl, sym, ap, subst}
use Rattle.std.proofs.Common.{inl, inr, arith}
use Rattle.std.specs.Prelude.{IsTrue}
use Rattle.std.proofs.lemmas.Bool.{cases_lt, false≢true}
use Rattle.std.proofs.lemmas.List.{get_or_past}
use Rattle.pm_design.specs.declared.body.Method.{Method}
use Rattle.pm_design.specs.declared.connection.Callee.{Callee}
use Rattle.pm_design.specs.declared.connection.Callee.TheVariants as callee
use Rattle.pm_design.specs.declared.connection.Caller.{Caller}
use Rattle.pm_design.specs.declared.design.Child.{Child}
use Rattle.pm_design.specs.declared.design.Design.{Design}
use Rattle.pm_design.specs.declared.design.Kind.{Kind}
use Rattle.pm_design.specs.Calls.{child_of, end_of}
use Rattle.pm_design.specs.Elaborated.{IsElaborated}
use Rattle.pm_design.specs.Instances.{instances_of}
use Rattle.pm_design.specs.Lookups.{caller_signature, child_kind_of, kind_of, method_signature, no_child, no_kind}
use Rattle.pm_design.specs.Lookups.{signature_of}
use Rattle.pm_design.specs.Runnable.{kind_at}
use Rattle.pm_instances.specs.Laid.{laid_out}
use Rattle.pm_instances.proofs.Placed.{is_laid}
use Rattle.pm_callees.specs.Ends.{IsThere}

pub method_there : (ms : List Method) (m : ℕ) → IsTrue (method_signature ms m).there → m < length ms
method_there [] m there = absurd (false≢true there)
method_there (x ∷ xs) zero there = omega arith
method_there (x ∷ xs) (suc m) there = let l : m < length xs = method_there xs m there in omega arith

pub caller_there : (cs : List Caller) (p : ℕ) → IsTrue (caller_signature cs p).there → p < length cs
caller_there [] p there = absurd (false≢true there)
caller_there (x ∷ xs) zero there = omega arith
caller_there (x ∷ xs) (suc p) there = let l : p < length xs = caller_there xs p there in omega arith

-- a child past the end has no kind
past_child : (design : Design) (kind : Kind) (c : ℕ) → length kind.children ≤ c → child_kind_of design kind c ≡ no_kind
past_child design kind c le =
    ap (λ (x : Child). kind_of design x.kind) (get_or_past kind.children c (no_child design.kinds) le)
    ∙ get_or_past design.kinds (length design.kinds) no_kind (omega arith)

-- a child whose kind has something is there
child_there : (design : Design) (kind : Kind) (c n : ℕ) (count : Kind → ℕ) → count no_kind ≡ 0 →
    n < count (child_kind_of design kind c) → c < length kind.children
child_there design kind c n count none lt = go (cases_lt c (length kind.children))
  where
    go : (c < length kind.children) ⊎ (length kind.children ≤ c) → c < length kind.children
    go (inl less) = less
    go (inr le) =
        let empty : count (child_kind_of design kind c) ≡ 0 = ap count (past_child design kind c le) ∙ none in
        absurd (omega arith)

pub child_method : (design : Design) (kind : Kind) (c m : ℕ) →
    IsTrue (signature_of design kind (callee.Child c m)).there → c < length kind.children
child_method design kind c m there =
    child_there design kind c m (λ (k : Kind). length k.methods) refl
    (method_there (child_kind_of design kind c).methods m there)

pub child_port : (design : Design) (kind : Kind) (c p : ℕ) →
    IsTrue (signature_of design kind (callee.ChildPort c p)).there → c < length kind.children
child_port design kind c p there =
    child_there design kind c p (λ (k : Kind). length k.callers) refl
    (caller_there (child_kind_of design kind c).callers p there)

-- the kind of a child's instance
child_known : (design : Design) → IsElaborated design → (i c : ℕ) → i < length (instances_of design) →
    c < length (kind_at (laid_out design) i).children →
    kind_at (laid_out design) (child_of (laid_out design) i c) ≡ child_kind_of design (kind_at (laid_out design) i) c
child_known design elaborated i c lt within =
    ap (kind_of design) ((is_laid design elaborated).children i c lt within).1

-- what a callee of an instance names
pub callee_there : (design : Design) → IsElaborated design → (i : ℕ) (m : Callee) → i < length (instances_of design) →
    IsTrue (signature_of design (kind_at (laid_out design) i) m).there →
    IsThere (laid_out design) (end_of (laid_out design) i m)
callee_there design elaborated i (callee.Own m) lt there =
    (lt, method_there (kind_at (laid_out design) i).methods m there)
callee_there design elaborated i (callee.Child c m) lt there =
    let within = child_method design (kind_at (laid_out design) i) c m there in (
      ((is_laid design elaborated).children i c lt within).0,
      subst (λ (k : Kind). m < length k.methods) (sym (child_known design elaborated i c lt within))
          (method_there (child_kind_of design (kind_at (laid_out design) i) c).methods m there),
    )
callee_there design elaborated i (callee.Port p) lt there =
    (lt, caller_there (kind_at (laid_out design) i).callers p there)
callee_there design elaborated i (callee.ChildPort c p) lt there =
    let within = child_port design (kind_at (laid_out design) i) c p there in (
      ((is_laid design elaborated).children i c lt within).0,
      subst (λ (k : Kind). p < length k.callers) (sym (child_known design elaborated i c lt within))
          (caller_there (child_kind_of design (kind_at (laid_out design) i) c).callers p there),
    )

pub callee_is : (design : Design) → IsElaborated design → (i : ℕ) (m n : Callee) → i < length (instances_of design) →
    m ≡ n → IsTrue (signature_of design (kind_at (laid_out design) i) m).there →
    IsThere (laid_out design) (end_of (laid_out design) i n)
callee_is design elaborated i m n lt same there =
    callee_there design elaborated i n lt
    (subst (λ (k : Callee). IsTrue (signature_of design (kind_at (laid_out design) i) k).there) same there)
