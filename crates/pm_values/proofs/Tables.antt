-- Tables of names: the map that holds one, and its laws.
use Rattle.std.proofs.Common.{◌≡◌, ◌++◌, ◌∙◌, ℕ, List, [], ◌∷◌, map, refl, sym, ap, cond, Bool, true, false}
use Rattle.std.specs.Prelude.{Some, None, Vec, if◌then◌else◌, is_some}
use Rattle.std.specs.Map.{lookup}
use Rattle.std.specs.Str.{bytes_eq}
use Rattle.std.specs.declared.alloc.Global.{Global}
use Rattle.std.proofs.lemmas.Slice.Eq.{bytes_eq-Decides}
use Rattle.indexmap.specs.IndexMap.{insert_entry}
use Rattle.pm_values.specs.Tables.{Names, names_of, get, put, PutIsFound, OthersStay, NewNameIsLast, OldNameStays}

module _ {T : Type 0} where
  pub get-names_of : (name : List ℕ) (es : List (Vec ℕ Global × T)) → lookup (λ k. bytes_eq name k.items) es ≡ get (names_of es) name
  get-names_of name [] = refl
  get-names_of name (e ∷ es) = ap (cond (bytes_eq name e.0.items) (Some e.1)) (get-names_of name es)

  insert_by : (e : Vec ℕ Global × T) (es fs : List (Vec ℕ Global × T)) (name : Vec ℕ Global) (value : T) (b : Bool) → names_of fs ≡ put (names_of es) name.items value
      → names_of (if b then (e.0, value) ∷ es else e ∷ fs) ≡ (if b then (e.0.items, value) ∷ names_of es else (e.0.items, e.1) ∷ put (names_of es) name.items value)
  insert_by e es fs name value true same = refl
  insert_by e es fs name value false same = ap (λ (ps : Names T). (e.0.items, e.1) ∷ ps) same

  pub put-names_of : (es : List (Vec ℕ Global × T)) (name : Vec ℕ Global) (value : T)
      → names_of (insert_entry (λ a b. bytes_eq a.items b.items) es name value) ≡ put (names_of es) name.items value
  put-names_of [] name value = refl
  put-names_of (e ∷ es) name value =
      insert_by e es (insert_entry (λ a b. bytes_eq a.items b.items) es name value) name value (bytes_eq name.items e.0.items) (put-names_of es name value)

-- ---- laws

same_name : (name : List ℕ) → bytes_eq name name ≡ true
same_name name = (bytes_eq-Decides name name).1 refl

-- names that are tested alike are one name
equal : (a b : List ℕ) → bytes_eq a b ≡ true → a ≡ b
equal a b is = (bytes_eq-Decides a b).0 is

module _ {T : Type 0} where
  found_by : (pair : List ℕ × T) (pairs more : Names T) (name : List ℕ) (value : T) (b : Bool) → bytes_eq name pair.0 ≡ b → get more name ≡ Some value
      → get (if b then (pair.0, value) ∷ pairs else pair ∷ more) name ≡ Some value
  found_by pair pairs more name value true is rest = ap (λ b. cond b (Some value) (lookup (bytes_eq name) pairs)) is
  found_by pair pairs more name value false is rest = ap (λ b. cond b (Some pair.1) (lookup (bytes_eq name) more)) is ∙ rest

  pub put_is_found : PutIsFound T
  put_is_found [] name value = ap (λ b. cond b (Some value) None) (same_name name)
  put_is_found (pair ∷ pairs) name value = found_by pair pairs (put pairs name value) name value (bytes_eq name pair.0) refl (put_is_found pairs name value)

  stays_by : (pair : List ℕ × T) (pairs more : Names T) (name other : List ℕ) (value : T) (b : Bool) → bytes_eq name pair.0 ≡ b → bytes_eq other name ≡ false
      → get more other ≡ get pairs other → get (if b then (pair.0, value) ∷ pairs else pair ∷ more) other ≡ get (pair ∷ pairs) other
  stays_by pair pairs more name other value true is differs rest =
      let not_here : bytes_eq other pair.0 ≡ false = ap (bytes_eq other) (sym (equal name pair.0 is)) ∙ differs in
      ap (λ b. cond b (Some value) (lookup (bytes_eq other) pairs)) not_here ∙ sym (ap (λ b. cond b (Some pair.1) (lookup (bytes_eq other) pairs)) not_here)
  stays_by pair pairs more name other value false is differs rest = ap (cond (bytes_eq other pair.0) (Some pair.1)) rest

  pub others_stay : OthersStay T
  others_stay [] name other value differs = ap (λ b. cond b (Some value) None) differs
  others_stay (pair ∷ pairs) name other value differs =
      stays_by pair pairs (put pairs name value) name other value (bytes_eq name pair.0) refl differs (others_stay pairs name other value differs)

  last_by : (pair : List ℕ × T) (pairs more : Names T) (name : List ℕ) (value : T) (b : Bool) → cond b (Some pair.1) (get pairs name) ≡ None
      → (get pairs name ≡ None → more ≡ pairs ++ (name, value) ∷ []) → (if b then (pair.0, value) ∷ pairs else pair ∷ more) ≡ (pair ∷ pairs) ++ (name, value) ∷ []
  last_by pair pairs more name value true is rest = absurd cc
  last_by pair pairs more name value false is rest = ap (λ (ps : Names T). pair ∷ ps) (rest is)

  pub new_name_is_last : NewNameIsLast T
  new_name_is_last [] name value none = refl
  new_name_is_last (pair ∷ pairs) name value none = last_by pair pairs (put pairs name value) name value (bytes_eq name pair.0) none (new_name_is_last pairs name value)

  kept_by : (pair : List ℕ × T) (pairs more : Names T) (name : List ℕ) (value : T) (b : Bool) → is_some (cond b (Some pair.1) (get pairs name)) ≡ true
      → (is_some (get pairs name) ≡ true → map (λ p. p.0) more ≡ map (λ p. p.0) pairs)
      → map (λ p. p.0) (if b then (pair.0, value) ∷ pairs else pair ∷ more) ≡ map (λ p. p.0) (pair ∷ pairs)
  kept_by pair pairs more name value true is rest = refl
  kept_by pair pairs more name value false is rest = ap (λ (ps : List (List ℕ)). pair.0 ∷ ps) (rest is)

  pub old_name_stays : OldNameStays T
  old_name_stays [] name value some = absurd cc
  old_name_stays (pair ∷ pairs) name value some = kept_by pair pairs (put pairs name value) name value (bytes_eq name pair.0) some (old_name_stays pairs name value)
