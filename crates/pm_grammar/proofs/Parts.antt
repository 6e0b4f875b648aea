-- What comes after an opening token, and before a closing one.
use Rattle.std.proofs.Common.{◌≡◌, ◌<◌, ◌∷◌, ◌++◌, Bool, false, IsTrue, List, [], length, append_assoc, arith, refl, sym, ap, subst, ◌∙◌}
use Rattle.std.specs.Prelude.{Option, Some, None}
use Rattle.std.proofs.lemmas.Bool.{false≢true}
use Rattle.pm_syn.specs.declared.expression.Expr.{Expr}
use Rattle.pm_syn.specs.declared.token.Token.{Token}
use Rattle.pm_grammar.specs.Expressions.{Spells}
use Rattle.pm_grammar.specs.Prefixes.{IsAfter, IsNotFirst, begins_with}
use Rattle.pm_grammar.specs.Reading.{Begins, IsOnly, IsOnlyBeginning, IsRead, continues}
use Rattle.pm_grammar.specs.declared.level.Level.TheVariants as level

-- this first token isn't there
pub not_there : (test : Token → Bool) (tokens rest : List Token) (first : Token) → IsNotFirst test tokens → tokens ≡ first ∷ rest → IsTrue (test first) → ⊥
not_there test [] rest first none is holds = cc
not_there test (t ∷ tokens) rest first none is holds = let one : t ≡ first = cc in false≢true (sym none ∙ ap test one ∙ holds)

-- the tokens don't begin with this one
pub not_begun : (test : Token → Bool) (tokens rest : List Token) (t : Token) → begins_with test tokens ≡ false → tokens ≡ t ∷ rest → IsTrue (test t) → ⊥
not_begun test [] rest t apart is mark = cc
not_begun test (u ∷ tokens) rest t apart is mark = let one : u ≡ t = cc in false≢true (sym apart ∙ ap test one ∙ mark)

-- what comes after the first token
pub behind_first : (test : Token → Bool) (tokens tail rest : List Token) (first : Token) → IsAfter test tokens tail → tokens ≡ first ∷ rest → tail ≡ rest
behind_first test tokens tail rest first behind is = let there = behind.1 in cc

pub behind_test : (test : Token → Bool) (tokens tail rest : List Token) (first : Token) → IsAfter test tokens tail → tokens ≡ first ∷ rest → IsTrue (test first)
behind_test test tokens tail rest first behind is =
    let there = behind.1 in
    let one : behind.0 ≡ first = cc in
    subst (λ (t : Token). IsTrue (test t)) one behind.2

pub behind_shorter : (test : Token → Bool) (tokens tail : List Token) → IsAfter test tokens tail → length tail < length tokens
behind_shorter test tokens tail behind = let long : length tokens ≡ length (behind.0 ∷ tail) = ap length behind.1 in omega (arith, long)

-- ---- before a closing token

-- a prefix and the token after it
pub front_closed : (tokens front rest after : List Token) (closing : Token) → tokens ≡ front ++ rest → rest ≡ closing ∷ after → tokens ≡ (front ++ closing ∷ []) ++ after
front_closed tokens front rest after closing split there =
    split ∙ ap (λ (us : List Token). front ++ us) there ∙ sym (append_assoc front (closing ∷ []) after)

-- what is spelled, and then a closing token
abbrev pub Closed : {A : Type 0} → (Token → Bool) → (List Token → A → Type 0) → List Token → A → Type 0
Closed test Spelled us one = (ts : List Token) × (closing : Token) × (us ≡ ts ++ closing ∷ []) × Spelled ts one × IsTrue (test closing)

-- each prefix before such a token was read
abbrev pub IsOnlyTo : {A : Type 0} → (List Token → A → Type 0) → (Token → Bool) → List Token → Option (A × List Token) → Type 0
IsOnlyTo {A} Spelled test all read = (one : A) (closing : Token) (rest : List Token) → IsTrue (test closing) → Begins Spelled all one (closing ∷ rest) → IsRead read one (closing ∷ rest)

module _ {A : Type 0} (Spelled : List Token → A → Type 0) (test : Token → Bool) (tokens : List Token) where
  pub begins_closed : (rest after : List Token) (one : A) → Begins Spelled tokens one rest → IsAfter test rest after → Begins (Closed test Spelled) tokens one after
  begins_closed rest after one begins behind =
      (begins.0 ++ behind.0 ∷ [], front_closed tokens begins.0 rest after behind.0 begins.1 behind.1, (begins.0, behind.0, refl, begins.2, behind.2))

  pub closed_begins : (rest : List Token) (one : A) → Begins (Closed test Spelled) tokens one rest → (closing : Token) × Begins Spelled tokens one (closing ∷ rest) × IsTrue (test closing)
  closed_begins rest one begins =
      let ts = begins.2.0 in
      let closing = begins.2.1 in
      let split : tokens ≡ ts ++ closing ∷ rest = begins.1 ∙ ap (λ (us : List Token). us ++ rest) begins.2.2 ∙ append_assoc ts (closing ∷ []) rest in
      (closing, (ts, split, begins.2.3), begins.2.4)

  pub none_closed : IsOnlyTo Spelled test tokens None → IsOnlyBeginning (Closed test Spelled) tokens None
  none_closed only one rest begins =
      let before = closed_begins rest one begins in
      only one before.0 rest before.2 before.1

  pub unclosed : (read : A) (rest : List Token) → IsOnlyTo Spelled test tokens (Some (read, rest)) → IsNotFirst test rest → IsOnlyBeginning (Closed test Spelled) tokens None
  unclosed read rest only none one after begins =
      let before = closed_begins after one begins in
      let was = only one before.0 after before.2 before.1 in
      not_there test rest after before.0 none (sym was.1) before.2

  pub only_closed : (read : A) (rest after : List Token) → IsOnlyTo Spelled test tokens (Some (read, rest)) → IsAfter test rest after → IsOnlyBeginning (Closed test Spelled) tokens (Some (read, after))
  only_closed read rest after only behind one left begins =
      let before = closed_begins left one begins in
      let was = only one before.0 left before.2 before.1 in
      (was.0, sym (behind_first test rest after left before.0 behind (sym was.1)))

-- an expression before a token at which none continues
pub only_expression : (test : Token → Bool) (tokens : List Token) (read : Option (Expr × List Token)) → ((token : Token) → IsTrue (test token) → continues level.Conditional token ≡ false)
    → IsOnly level.Conditional tokens read → IsOnlyTo (Spells level.Conditional) test tokens read
only_expression test tokens read ends only one closing rest is begins = only one (closing ∷ rest) begins (ends closing is)

-- ---- after an opening token

abbrev pub Opened : {A : Type 0} → (Token → Bool) → (List Token → A → Type 0) → List Token → A → Type 0
Opened test Spelled us one = (opening : Token) × (ts : List Token) × (us ≡ opening ∷ ts) × Spelled ts one × IsTrue (test opening)

module _ {A : Type 0} (Spelled : List Token → A → Type 0) (test : Token → Bool) (all tokens : List Token) where
  pub opened_begins : (first : Token) (rest : List Token) (one : A) → all ≡ first ∷ tokens → Begins (Opened test Spelled) all one rest → IsTrue (test first) × Begins Spelled tokens one rest
  opened_begins first rest one is begins =
      let ts = begins.2.1 in
      let split : all ≡ begins.2.0 ∷ (ts ++ rest) = begins.1 ∙ ap (λ (us : List Token). us ++ rest) begins.2.2 in
      let same : begins.2.0 ≡ first = cc in
      let tail : tokens ≡ ts ++ rest = cc in
      (subst (λ (t : Token). IsTrue (test t)) same begins.2.4, (ts, tail, begins.2.3))
