-- From what a call of a function that reads tokens left to what its caller leaves.
use Rattle.std.proofs.Common.{◌≡◌, ◌<◌, List, length, subst, sym}
use Rattle.std.proofs.Math.Path.{subst₂}
use Rattle.std.specs.Borrow.{Bor}
use Rattle.std.specs.Prelude.{IfOk, Option, None, Some, Result, Ok, Err}
use Rattle.std.specs.Result.{IsErr, IsErrAnd}
use Rattle.std.proofs.lemmas.Bool.{false≢true}
use Rattle.pm_syn.specs.declared.expression.Expr.{Expr}
use Rattle.pm_syn.specs.declared.token.Token.{Token}
use Rattle.pm_grammar.specs.Readings.{Gives, GivesEach, IfNotSpelled, IsBoxed, Leaves, Shortens}
use Rattle.pm_grammar.specs.declared.reading.ReadFault.{ReadFault}
use Rattle.pm_grammar.specs.declared.reading.ReadFault.TheVariants as fault

-- a call that read nothing leaves nothing to its caller
pub fault_passed : (Was Is : Type 0) (e : ReadFault) → (Was → Is) → IfNotSpelled Was e → IfNotSpelled Is e
fault_passed Was Is fault.NotSpelled to was = to was
fault_passed Was Is fault.NoMemory to was = tt

pub not_given : {B : Type 0} (Was : Type 0) (Is : Option (B × List Token) → Type 0) (r : Result (B × Bor (List Token)) ReadFault) (e : ReadFault)
    → (Was → Is None) → IsErr r × IsErrAnd r (λ error. error ≡ e) → IfNotSpelled Was e → Leaves Is r
not_given Was Is (Ok read) e to is was = absurd (false≢true is.0)
not_given Was Is (Err error) e to is was = subst (λ (f : ReadFault). Leaves Is (Err f)) (sym is.1) (fault_passed Was (Is None) e to was)

-- the same if it read a prefix
pub failed : {A B : Type 0} (Was : Option (A × List Token) → Type 0) (Is : Option (B × List Token) → Type 0) (r : Result (B × Bor (List Token)) ReadFault) (e : ReadFault)
    → (Was None → Is None) → IsErr r × IsErrAnd r (λ error. error ≡ e) → Leaves Was (Err e) → Leaves Is r
failed Was Is r e to is was = not_given (Was None) Is r e to is was

-- the same if the caller reads all of its tokens
pub nothing_given : {A : Type 0} (Was : Type 0) (Spelled : A → Type 0) (r : Result A ReadFault) (e : ReadFault) → (Was → (one : A) → Spelled one → ⊥)
    → IsErr r × IsErrAnd r (λ error. error ≡ e) → IfNotSpelled Was e → GivesEach Spelled r
nothing_given Was Spelled (Ok one) e to is was = absurd (false≢true is.0)
nothing_given {A} Was Spelled (Err error) e to is was =
    let never : Type 0 = (one : A) → Spelled one → ⊥ in
    subst (λ (f : ReadFault). IfNotSpelled never f) (sym is.1) (fault_passed Was never e to was)

-- what holds of a result that was read holds of a fault
pub none_read : {A E : Type 0} (r : Result A E) (Holds : A → Type 0) → IsErr r → IfOk r Holds
none_read (Ok read) Holds is = absurd (false≢true is)
none_read (Err error) Holds is = tt

-- what is found by a call is found so too
pub found_ok : {A E : Type 0} (r : Result (A × Bor (List Token)) E) (Found Other : A → List Token → Type 0) → ((a : A) (rest : List Token) → Found a rest → Other a rest)
    → IfOk r (λ p. Found p.0 p.1.now) → IfOk r (λ p. Other p.0 p.1.now)
found_ok (Ok p) Found Other to h = to p.0 p.1.now h
found_ok (Err e) Found Other to h = tt

-- and nothing else is read
pub only_ok : {A : Type 0} (r : Result (A × Bor (List Token)) ReadFault) (Only Other : Option (A × List Token) → Type 0) → ((read : Option (A × List Token)) → Only read → Other read)
    → Leaves Only r → Leaves Other r
only_ok (Ok p) Only Other to h = to (Some (p.0, p.1.now)) h
only_ok (Err e) Only Other to h = fault_passed (Only None) (Other None) e (to None) h

-- what all of the tokens spell was found so
pub given_as : {A E : Type 0} (P Q : A → Type 0) → ((one : A) → P one → Q one) → (r : Result A E) → Gives P r → Gives Q r
given_as P Q to (Ok one) found = to one found
given_as P Q to (Err e) found = tt

-- and they spell nothing else
pub only_given : {A : Type 0} (P Q : A → Type 0) → ((one : A) → Q one → P one) → (r : Result A ReadFault) → GivesEach P r → GivesEach Q r
only_given P Q to (Ok one) only = λ other is. only other (to other is)
only_given {A} P Q to (Err e) only = fault_passed ((one : A) → P one → ⊥) ((one : A) → Q one → ⊥) e (λ never one is. never one (to one is)) only

-- ---- an expression in a box

pub boxed_found : (Found : Expr → List Token → Type 0) (e : Expr) (rest : List Token) (r : Result (Expr × Bor (List Token)) ReadFault) → IsBoxed e rest r → Found e rest → IfOk r (λ p. Found p.0 p.1.now)
boxed_found Found e rest (Ok read) is found = subst₂ Found (sym is.0) (sym is.1) found
boxed_found Found e rest (Err cause) is found = tt

pub boxed_only : (Only : Option (Expr × List Token) → Type 0) (e : Expr) (rest : List Token) (r : Result (Expr × Bor (List Token)) ReadFault) → IsBoxed e rest r → Only (Some (e, rest)) → Leaves Only r
boxed_only Only e rest (Ok read) is only = subst₂ (λ (a : Expr) (us : List Token). Only (Some (a, us))) (sym is.0) (sym is.1) only
boxed_only Only e rest (Err fault.NotSpelled) is only = cc
boxed_only Only e rest (Err fault.NoMemory) is only = tt

pub boxed_shorter : (tokens : List Token) (e : Expr) (rest : List Token) (r : Result (Expr × Bor (List Token)) ReadFault) → IsBoxed e rest r → length rest < length tokens → Shortens tokens r
boxed_shorter tokens e rest r is short = boxed_found (λ (a : Expr) (us : List Token). length us < length tokens) e rest r is short
