-- The bytes of a name: the first, and those that continue it.
use Rattle.std.proofs.Common.{◌≡◌, ℕ, true, List, [], ◌∷◌, All, refl}
use Rattle.std.specs.List.{list_all}
use Rattle.std.proofs.lemmas.Bool.{and_parts}
use Rattle.std.proofs.lemmas.List.Elements.{All-nil, All-cons, All-head, All-tail}
use Rattle.pm_syn.specs.Bytes.{begins_name, continues_name}
use Rattle.pm_syn.specs.Names.{is_spelled_as_name}

-- the bytes all continue a name
abbrev pub AllContinue : List ℕ → Type 0
AllContinue bytes = All (λ byte. continues_name byte ≡ true) bytes

all_continue : (bytes : List ℕ) → list_all continues_name bytes ≡ true → AllContinue bytes
all_continue [] all = All-nil (λ byte. continues_name byte ≡ true)
all_continue (byte ∷ bytes) all =
    let parts = and_parts (continues_name byte) (list_all continues_name bytes) all in
    All-cons (λ byte. continues_name byte ≡ true) byte bytes parts.0 (all_continue bytes parts.1)

list_all-continue : (bytes : List ℕ) → AllContinue bytes → list_all continues_name bytes ≡ true
list_all-continue [] all = refl
list_all-continue (byte ∷ bytes) all =
    let here = All-head (λ byte. continues_name byte ≡ true) byte bytes all in
    let later = list_all-continue bytes (All-tail (λ byte. continues_name byte ≡ true) byte bytes all) in
    rw (here, later) refl

-- a name's first byte begins it, and the others continue
pub name_parts : (first : ℕ) (others : List ℕ) → is_spelled_as_name (first ∷ others) ≡ true → (begins_name first ≡ true) × AllContinue others
name_parts first others name = let parts = and_parts (begins_name first) (list_all continues_name others) name in (parts.0, all_continue others parts.1)

-- and such bytes are a name
pub name_of_parts : (first : ℕ) (others : List ℕ) → begins_name first ≡ true → AllContinue others → is_spelled_as_name (first ∷ others) ≡ true
name_of_parts first others begins all = let later = list_all-continue others all in rw (begins, later) refl
