-- What the result of a step of typing has.
use Rattle.std.proofs.Common.{ℕ, Bool, true, false, refl}
use Rattle.std.specs.Prelude.{IsTrue, if◌then◌else◌, Option, Some, None, Ok, Err}
use Rattle.pm_typing.specs.declared.fault.TypeFault.{TypeFault}
use Rattle.pm_typing.specs.declared.tally.Tally.{Tally}
use Rattle.pm_typing.specs.Counted.{Checked, and_then, Counted, ◌>>=◌, ◌>>◌, pure, fail, lift, node, nodes}

-- an answer that isn't a fault has the property
abbrev pub On : {A : Type 0} → (A → Type 0) → Checked A → Type 0
On P (Ok a) = P a
On P (Err e) = Unit {0}

-- so has the result of a computation, however many nodes there are so far
abbrev pub Yields : {A : Type 0} → (A → Type 0) → Counted A → Type 0
Yields {A} P c = (m : Tally) → On (λ (r : A × Tally). P r.0) (c m)

-- what there is has the property
abbrev pub Where : {A : Type 0} → (A → Type 0) → Option A → Type 0
Where P (Some a) = P a
Where P None = Unit {0}

-- ---- answers

-- the second uses what the first has
pub and_on : {A B : Type 0} (P : A → Type 0) (Q : B → Type 0) (r : Checked A) (f : A → Checked B) → On P r
    → ((a : A) → P a → On Q (f a)) → On Q (and_then r f)
and_on P Q (Ok a) f is next = next a is
and_on P Q (Err e) f is next = tt

-- by a test
pub test_on : {A : Type 0} (P : A → Type 0) (b : Bool) (x y : Checked A) → (IsTrue b → On P x) → On P y
    → On P (if b then x else y)
test_on P true x y first second = first refl
test_on P false x y first second = second

-- ---- computations

pub bind : {A B : Type 0} (P : A → Type 0) (Q : B → Type 0) (c : Counted A) (f : A → Counted B) → Yields P c
    → ((a : A) → P a → Yields Q (f a)) → Yields Q (c >>= f)
bind {A} {B} P Q c f is next m = by (c m) (is m)
  where
    by : (r : Checked (A × Tally)) → On (λ (r : A × Tally). P r.0) r
        → On (λ (r : B × Tally). Q r.0) (and_then r (λ r. f r.0 r.1))
    by (Ok r) is = next r.0 is r.1
    by (Err e) is = tt

pub done : {A : Type 0} (P : A → Type 0) (a : A) → P a → Yields P (pure a)
done P a is m = is

pub failed : {A : Type 0} (P : A → Type 0) (e : TypeFault) → Yields P (fail e)
failed P e m = tt

pub lifted : {A : Type 0} (P : A → Type 0) (r : Checked A) → On P r → Yields P (lift r)
lifted P (Ok a) is m = is
lifted P (Err e) is m = tt

-- by a test
pub test : {A : Type 0} (P : A → Type 0) (b : Bool) (x y : Counted A) → (IsTrue b → Yields P x) → Yields P y
    → Yields P (if b then x else y)
test P true x y first second = first refl
test P false x y first second = second

-- some nodes more
pub some_nodes : {A : Type 0} (P : A → Type 0) (n : ℕ) (c : Counted A) → Yields P c → Yields P (nodes n >> c)
some_nodes P n c is = bind (λ _. Unit {0}) P (nodes n) (λ _. c) (λ m. by (nodes n m)) (λ _ _. is)
  where
    by : (r : Checked ((Unit {0}) × Tally)) → On (λ (r : (Unit {0}) × Tally). Unit {0}) r
    by (Ok r) = tt
    by (Err e) = tt

-- one node more
pub a_node : {A : Type 0} (P : A → Type 0) (a : A) → P a → Yields P (node >> pure a)
unfolding node
a_node P a is = some_nodes P 1 (pure a) (done P a is)
