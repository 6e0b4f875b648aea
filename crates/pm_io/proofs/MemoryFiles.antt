-- The files of a store in memory but the current one.
use Rattle.std.proofs.Common.{◌≡◌, ℕ, Bool, true, false, cond, not, List, [], ◌∷◌, Option, None, Some, refl}
use Rattle.std.proofs.lemmas.Slice.Eq.{bytes_eq-Decides}
use Rattle.std.specs.Map.{lookup}
use Rattle.std.specs.Option.{option_map_or}
use Rattle.std.specs.Str.{bytes_eq}
use Rattle.pm_io.specs.MemoryStores.{others_of}

-- a name that isn't the current file's is looked up among the others as among all
pub lookup-others_of : (name : List ℕ) (current : Option (List ℕ)) (files : List (List ℕ × List ℕ)) → option_map_or (bytes_eq name) current false ≡ false
    → lookup (bytes_eq name) (others_of current files) ≡ lookup (bytes_eq name) files
lookup-others_of name None files apart = refl
lookup-others_of name (Some created) [] apart = refl
lookup-others_of name (Some created) (file ∷ files) apart = go (bytes_eq created file.0) refl (lookup-others_of name (Some created) files apart) where
  go : (same : Bool) → bytes_eq created file.0 ≡ same → lookup (bytes_eq name) (others_of (Some created) files) ≡ lookup (bytes_eq name) files
      → lookup (bytes_eq name) (cond (not same) (file ∷ others_of (Some created) files) (others_of (Some created) files)) ≡ lookup (bytes_eq name) (file ∷ files)
  go true is rest =
      let other : bytes_eq name file.0 ≡ false = rw (← (bytes_eq-Decides created file.0).0 is) apart in
      rw other rest
  go false is rest = rw rest refl

-- the same as a set of lemmas
pub ruleset others_found = (lookup-others_of)
