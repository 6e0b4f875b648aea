-- Whether tokens are of a form or not: it is decided for a form that is made of parts, once it is decided for each part.
use Rattle.std.proofs.Common.{◌≡◌, ◌⊎◌, ◌<◌, ◌+◌, ◌++◌, ℕ, suc, Bool, IsTrue, List, [], ◌∷◌, length, arith, inl, inr, refl, sym, ap, subst}
use Rattle.std.proofs.lemmas.Bool.{both_ways, cases_Bool}
use Rattle.std.proofs.lemmas.List.{length-append}
use Rattle.pm_syn.specs.declared.token.Token.{Token}

-- ---- decisions

-- it holds, or it doesn't
abbrev pub Decision : Type 0 → Type 0
Decision P = P ⊎ (P → ⊥)

-- a test decides
pub test_decides : (b : Bool) → Decision (IsTrue b)
test_decides b = elim (cases_Bool b) [ inl is ↦ inl is | inr never ↦ inr (λ is. both_ways b never is) ]

-- both hold, or not both
pub both_decided : (P Q : Type 0) → Decision P → Decision Q → Decision (P × Q)
both_decided P Q (inl p) (inl q) = inl (p, q)
both_decided P Q (inl p) (inr never) = inr (λ both. never both.1)
both_decided P Q (inr never) q = inr (λ both. never both.0)

-- one of both holds, or neither
pub either_decided : (P Q : Type 0) → Decision P → Decision Q → Decision (P ⊎ Q)
either_decided P Q (inl p) q = inl (inl p)
either_decided P Q (inr no_p) (inl q) = inl (inr q)
either_decided P Q (inr no_p) (inr no_q) = inr (λ one. neither one) where
  neither : P ⊎ Q → ⊥
  neither (inl p) = no_p p
  neither (inr q) = no_q q

-- one way to make something holds, or the other ways decide
pub or_else : {P Q : Type 0} → Decision P → (P → Q) → ((P → ⊥) → Decision Q) → Decision Q
or_else (inl p) make others = inl (make p)
or_else (inr never) make others = others never

-- what means the same is decided
pub decided_same : {P Q : Type 0} → (P → Q) → (Q → P) → Decision P → Decision Q
decided_same to from (inl p) = inl (to p)
decided_same to from (inr never) = inr (λ q. never (from q))

-- ---- forms of tokens

-- something is spelled by the tokens
abbrev pub Found : {A : Type 0} → (List Token → A → Type 0) → List Token → Type 0
Found {A} Spelled tokens = (one : A) × Spelled tokens one

-- no tokens
pub data IsEmpty : List Token → Type 0 where
  empty : IsEmpty []

-- a token that passes the test, and the rest
pub data Next (test : Token → Bool) (Rest : List Token → Type 0) : List Token → Type 0 where
  next : (token : Token) (rest : List Token) → IsTrue (test token) → Rest rest → Next test Rest (token ∷ rest)

-- a prefix and the rest
pub data Split (Prefix Rest : List Token → Type 0) : List Token → Type 0 where
  split : (prefix rest : List Token) → Prefix prefix → Rest rest → Split Prefix Rest (prefix ++ rest)

-- ---- deciding forms

-- it is decided whether fewer tokens than so many are of the form
abbrev pub Decided : ℕ → (List Token → Type 0) → Type 0
Decided n Form = (tokens : List Token) → length tokens < n → Decision (Form tokens)

pub fewer : (n : ℕ) (Form : List Token → Type 0) → Decided (suc n) Form → Decided n Form
fewer n Form decided tokens below = decided tokens (omega arith)

-- there is no token
abbrev IsNone : List Token → Type 0
IsNone [] = Unit {0}
IsNone (token ∷ tokens) = ⊥

empty_none : (tokens : List Token) → IsEmpty tokens → IsNone tokens
empty_none _ IsEmpty.empty = tt

pub decide_empty : (n : ℕ) → Decided n IsEmpty
decide_empty n [] below = inl IsEmpty.empty
decide_empty n (token ∷ tokens) below = inr (empty_none (token ∷ tokens))

-- what a token and the rest are
abbrev NextParts : (Token → Bool) → (List Token → Type 0) → List Token → Type 0
NextParts test Rest [] = ⊥
NextParts test Rest (token ∷ rest) = IsTrue (test token) × Rest rest

next_parts : (test : Token → Bool) (Rest : List Token → Type 0) (tokens : List Token) → Next test Rest tokens → NextParts test Rest tokens
next_parts test Rest _ (Next.next token rest is held) = (is, held)

parts_next : (test : Token → Bool) (Rest : List Token → Type 0) (tokens : List Token) → NextParts test Rest tokens → Next test Rest tokens
parts_next test Rest [] never = absurd never
parts_next test Rest (token ∷ rest) parts = Next.next token rest parts.0 parts.1

pub decide_next : (n : ℕ) (test : Token → Bool) (Rest : List Token → Type 0) → Decided n Rest → Decided (suc n) (Next test Rest)
decide_next n test Rest decided [] below = inr (λ held. next_parts test Rest [] held)
decide_next n test Rest decided (token ∷ rest) below =
    decided_same (parts_next test Rest (token ∷ rest)) (next_parts test Rest (token ∷ rest))
    (both_decided (IsTrue (test token)) (Rest rest) (test_decides (test token)) (decided rest (omega arith)))

pub next_within : (n : ℕ) (test : Token → Bool) (Rest : List Token → Type 0) → Decided n Rest → Decided n (Next test Rest)
next_within n test Rest decided = fewer n (Next test Rest) (decide_next n test Rest decided)

-- the same where the form says the test
pub after : {n : ℕ} {test : Token → Bool} {Rest : List Token → Type 0} → Decided n Rest → Decided n (Next test Rest)
after {n} {test} {Rest} decided = next_within n test Rest decided

-- a list is cut into a prefix and the rest
abbrev Cut : (List Token → Type 0) → (List Token → Type 0) → List Token → Type 0
Cut Prefix Rest tokens = (prefix : List Token) × (rest : List Token) × (tokens ≡ prefix ++ rest) × Prefix prefix × Rest rest

-- there is one way to cut no tokens
empty_cut : (Prefix Rest : List Token → Type 0) (prefix rest : List Token) → [] ≡ prefix ++ rest → Prefix prefix → Rest rest → Prefix [] × Rest []
empty_cut Prefix Rest [] rest is held others = (held, subst Rest (sym is) others)
empty_cut Prefix Rest (first ∷ prefix) rest is held others = cc

-- the first token is in the rest, or in the prefix
first_cut : (Prefix Rest : List Token → Type 0) (token : Token) (tokens prefix rest : List Token) → token ∷ tokens ≡ prefix ++ rest → Prefix prefix → Rest rest
    → (Prefix [] × Rest (token ∷ tokens)) ⊎ Cut (λ (ts : List Token). Prefix (token ∷ ts)) Rest tokens
first_cut Prefix Rest token tokens [] rest is held others = inl (held, subst Rest (sym is) others)
first_cut Prefix Rest token tokens (first ∷ prefix) rest is held others =
    let head : token ≡ first = cc in
    let tail : tokens ≡ prefix ++ rest = cc in
    inr (prefix, rest, tail, subst (λ (t : Token). Prefix (t ∷ prefix)) (sym head) held, others)

-- it is decided whether there is a cut, once it is decided for each
decide_cut : (Prefix Rest : List Token → Type 0) (tokens : List Token) → ((prefix rest : List Token) → tokens ≡ prefix ++ rest → Decision (Prefix prefix × Rest rest)) → Decision (Cut Prefix Rest tokens)
decide_cut Prefix Rest [] each =
    elim (each [] [] refl) [
      | inl held ↦ inl ([], [], refl, held.0, held.1)
      | inr never ↦ inr (λ cut. never (empty_cut Prefix Rest cut.0 cut.1 cut.2 cut.3 cut.4))
    ]
decide_cut Prefix Rest (token ∷ tokens) each =
    elim (each [] (token ∷ tokens) refl) [
      | inl held ↦ inl ([], token ∷ tokens, refl, held.0, held.1)
      | inr no_first ↦
          elim (decide_cut (λ (ts : List Token). Prefix (token ∷ ts)) Rest tokens (λ prefix rest is. each (token ∷ prefix) rest (ap (λ (ts : List Token). token ∷ ts) is))) [
            | inl cut ↦ inl (token ∷ cut.0, cut.1, ap (λ (ts : List Token). token ∷ ts) cut.2, cut.3, cut.4)
            | inr no_later ↦ inr (λ cut. elim (first_cut Prefix Rest token tokens cut.0 cut.1 cut.2 cut.3 cut.4) [ inl first ↦ no_first first | inr later ↦ no_later later ])
          ]
    ]

cut_split : (Prefix Rest : List Token → Type 0) (tokens : List Token) → Cut Prefix Rest tokens → Split Prefix Rest tokens
cut_split Prefix Rest tokens cut = subst (Split Prefix Rest) (sym cut.2) (Split.split cut.0 cut.1 cut.3 cut.4)

split_cut : (Prefix Rest : List Token → Type 0) (tokens : List Token) → Split Prefix Rest tokens → Cut Prefix Rest tokens
split_cut Prefix Rest _ (Split.split prefix rest held others) = (prefix, rest, refl, held, others)

-- a prefix and the rest, each of at most all tokens
pub decide_split : (n : ℕ) (Prefix Rest : List Token → Type 0) → Decided n Prefix → Decided n Rest → Decided n (Split Prefix Rest)
decide_split n Prefix Rest prefixes rests tokens below =
    decided_same (cut_split Prefix Rest tokens) (split_cut Prefix Rest tokens)
    (decide_cut Prefix Rest tokens (λ prefix rest is.
    let count : length tokens ≡ length prefix + length rest = rw is (length-append prefix rest) in
    both_decided (Prefix prefix) (Rest rest) (prefixes prefix (omega arith)) (rests rest (omega arith))))

-- the same where the form says the parts
pub in_two : {n : ℕ} {Prefix Rest : List Token → Type 0} → Decided n Prefix → Decided n Rest → Decided n (Split Prefix Rest)
in_two {n} {Prefix} {Rest} prefixes rests = decide_split n Prefix Rest prefixes rests

-- a prefix, a token that passes the test, and the rest, each of fewer tokens
pub decide_split_at : (n : ℕ) (Prefix : List Token → Type 0) (test : Token → Bool) (Rest : List Token → Type 0) → Decided n Prefix → Decided n Rest → Decided (suc n) (Split Prefix (Next test Rest))
decide_split_at n Prefix test Rest prefixes rests tokens below =
    decided_same (cut_split Prefix (Next test Rest) tokens) (split_cut Prefix (Next test Rest) tokens) (decide_cut Prefix (Next test Rest) tokens each) where
      each : (prefix rest : List Token) → tokens ≡ prefix ++ rest → Decision (Prefix prefix × Next test Rest rest)
      each prefix [] is = inr (λ both. next_parts test Rest [] both.1)
      each prefix (token ∷ rest) is =
          let count : length tokens ≡ length prefix + length (token ∷ rest) = rw is (length-append prefix (token ∷ rest)) in
          both_decided (Prefix prefix) (Next test Rest (token ∷ rest)) (prefixes prefix (omega arith)) (decide_next n test Rest rests (token ∷ rest) (omega arith))
