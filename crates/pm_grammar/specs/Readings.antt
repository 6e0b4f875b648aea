-- What the functions that read tokens promise of their result, unless memory ran out: that the
-- tokens or a prefix of them spell it, and that whatever they spell is the result.
use Rattle.std.specs.Borrow.{Bor}
use Rattle.std.specs.Prelude.{◌≡◌, ◌<◌, ◌≤◌, Bool, ℕ, IfOk, List, length, Option, Some, None, Result, Ok, Err}
use Rattle.pm_syn.specs.declared.expression.Expr.{Expr}
use Rattle.pm_syn.specs.declared.token.Token.{Token}
use Rattle.pm_grammar.specs.Reading.{Begins, IsOnly, IsOnlyBefore, IsOnlyBeginning, IsOnlyUpTo}
use Rattle.pm_grammar.specs.declared.level.Level.{Level}
use Rattle.pm_grammar.specs.declared.reading.ReadFault.{ReadFault}
use Rattle.pm_grammar.specs.declared.reading.ReadFault.TheVariants as fault

-- this holds if the fault isn't that memory ran out
abbrev pub IfNotSpelled : Type 0 → ReadFault → Type 0
IfNotSpelled Holds fault.NotSpelled = Holds
IfNotSpelled Holds fault.NoMemory = Unit {0}

-- ---- all of the tokens

-- the result, if there is one, is spelled so
abbrev pub Gives : {A E : Type 0} → (A → Type 0) → Result A E → Type 0
Gives Spelled result = IfOk result Spelled

-- whatever is spelled so is the result
abbrev pub GivesEach : {A : Type 0} → (A → Type 0) → Result A ReadFault → Type 0
GivesEach {A} Spelled (Ok one) = (other : A) → Spelled other → other ≡ one
GivesEach {A} Spelled (Err cause) = IfNotSpelled ((other : A) → Spelled other → ⊥) cause

-- the result, if there is one, is spelled so after each token that passes the test
abbrev pub GivesAfter : {A E : Type 0} → (Token → Type 0) → (Token → A → Type 0) → Result A E
    → Type 0
GivesAfter Passes Spelled result =
    Gives (λ one. (first : Token) → Passes first → Spelled first one) result

-- whatever is spelled so after a token that passes the test is the result
abbrev pub GivesEachAfter : {A : Type 0} → (Token → Type 0) → (Token → A → Type 0)
    → Result A ReadFault → Type 0
GivesEachAfter Passes Spelled result =
    GivesEach (λ one. (first : Token) × Passes first × Spelled first one) result

-- ---- a prefix of the tokens

-- this holds of what was read, or of nothing if the tokens don't spell it, unless memory ran out
abbrev pub Leaves : {A : Type 0} → (Option (A × List Token) → Type 0)
    → Result (A × Bor (List Token)) ReadFault → Type 0
Leaves Holds (Ok read) = Holds (Some (read.0, read.1.now))
Leaves Holds (Err cause) = IfNotSpelled (Holds None) cause

-- a prefix spells the result, if there is one, and its rest comes after it
abbrev pub Reads : {A E : Type 0} → (List Token → A → Type 0) → List Token
    → Result (A × Bor (List Token)) E → Type 0
Reads Spelled tokens result = IfOk result (λ read. Begins Spelled tokens read.0 read.1.now)

-- whatever a prefix spells is the result, with its rest
abbrev pub ReadsEach : {A : Type 0} → (List Token → A → Type 0) → List Token
    → Result (A × Bor (List Token)) ReadFault → Type 0
ReadsEach Spelled tokens result = Leaves (IsOnlyBeginning Spelled tokens) result

-- whatever a prefix spells is the result, if a token that passes the test follows it
abbrev pub ReadsEachUpTo : {A : Type 0} → (List Token → A → Type 0) → (Token → Bool) → List Token
    → Result (A × Bor (List Token)) ReadFault → Type 0
ReadsEachUpTo Spelled test tokens result = Leaves (IsOnlyUpTo Spelled test tokens) result

-- whatever a prefix spells is the result, if this symbol follows it
abbrev pub ReadsEachBefore : {A : Type 0} → (List Token → A → Type 0) → List ℕ → List Token
    → Result (A × Bor (List Token)) ReadFault → Type 0
ReadsEachBefore Spelled symbol tokens result = Leaves (IsOnlyBefore Spelled symbol tokens) result

-- each expression of the level that a prefix spells and the rest doesn't continue is the result
abbrev pub ReadsEachExpression : Level → List Token → Result (Expr × Bor (List Token)) ReadFault
    → Type 0
ReadsEachExpression l tokens result = Leaves (IsOnly l tokens) result

-- the rest is shorter than the tokens
abbrev pub Shortens : {A E : Type 0} → List Token → Result (A × Bor (List Token)) E → Type 0
Shortens tokens result = IfOk result (λ read. length read.1.now < length tokens)

-- the rest isn't longer than the tokens
abbrev pub KeepsOrShortens : {A E : Type 0} → List Token → Result (A × Bor (List Token)) E → Type 0
KeepsOrShortens tokens result = IfOk result (λ read. length read.1.now ≤ length tokens)

-- the result is this expression, with these tokens after it, unless memory ran out
abbrev pub IsBoxed : Expr → List Token → Result (Expr × Bor (List Token)) ReadFault → Type 0
IsBoxed e rest (Ok read) = (read.0 ≡ e) × (read.1.now ≡ rest)
IsBoxed e rest (Err cause) = cause ≡ fault.NoMemory
