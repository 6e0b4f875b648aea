-- Steps on what may be there.
use Rattle.std.proofs.Common.{◌≡◌, ◌∙◌, ap, refl, Bool, true, false}
use Rattle.std.specs.Prelude.{Option, Some, None, if◌then◌else◌, option_map}
use Rattle.std.specs.Option.{option_and_then}

-- nothing is not something
pub nothing : {A : Type 0} (a : A) → None ≡ Some a → ⊥
nothing a is = cc

pub same_some : {A : Type 0} (a b : A) → Some a ≡ Some b → a ≡ b
same_some a b is = cc

-- two steps give something if and only if each does
pub stepped : {A B : Type 0} (first : Option A) (second : A → Option B) (b : B) → option_and_then second first ≡ Some b
    → (a : A) × (first ≡ Some a) × (second a ≡ Some b)
stepped (Some a) second b is = (a, refl, is)
stepped None second b is = absurd (nothing b is)

pub step_to : {A B : Type 0} (first : Option A) (second : A → Option B) (a : A) (b : B) → first ≡ Some a
    → second a ≡ Some b
    → option_and_then second first ≡ Some b
step_to first second a b one two = ap (λ o. option_and_then second o) one ∙ two

pub mapped : {A B : Type 0} (first : Option A) (f : A → B) (b : B) → option_map f first ≡ Some b → (a : A)
    × (first ≡ Some a) × (f a ≡ b)
mapped (Some a) f b is = (a, refl, same_some (f a) b is)
mapped None f b is = absurd (nothing b is)

pub map_to : {A B : Type 0} (first : Option A) (f : A → B) (a : A) → first ≡ Some a → option_map f first ≡ Some (f a)
map_to first f a is = ap (option_map f) is

-- a test gives something if and only if it is passed
pub tested : {A : Type 0} (test : Bool) (a b : A) → (if test then Some a else None) ≡ Some b → (test ≡ true) × (a ≡ b)
tested true a b is = (refl, same_some a b is)
tested false a b is = absurd (nothing b is)

pub test_to : {A : Type 0} (test : Bool) (a : A) → test ≡ true → (if test then Some a else None) ≡ Some a
test_to test a passed = rw passed refl
