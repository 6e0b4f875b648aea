-- More and more links.
use Rattle.std.proofs.Common.{◌≡◌, ◌<◌, ◌≤◌, ℕ, List, [], ◌∷◌, ◌++◌, length, get_or, refl, sym, subst, ◌∙◌, arith}
use Rattle.std.specs.List.{range_with_len}
use Rattle.std.proofs.lemmas.List.{append_assoc, append-nil, length-map, ext_get_or}
use Rattle.disjoint_sets.specs.Partitions.{IsPartition, IsNumbering, Joins}
use Rattle.disjoint_sets.specs.Unions.{united, numbers_of, count_below, is_least}
use Rattle.disjoint_sets.proofs.Chains.{single_classes, united_classes, numbers_are}

-- no link joins nothing
pub joins_none : (old : List ℕ) → Joins old old []
joins_none old = record {
  size = refl;
  sets = λ links are. subst (λ (l : List (ℕ × ℕ)). IsPartition (length old) l old) (sym (append-nil links)) are;
}

-- some links, then some more
pub joins_append : (old now new : List ℕ) (some more : List (ℕ × ℕ)) →
    Joins old now some → Joins now new more → Joins old new (some ++ more)
joins_append old now new some more first second = record {
  size = second.size ∙ first.size;
  sets = λ links are.
      subst (λ (l : List (ℕ × ℕ)). IsPartition (length old) l new) (append_assoc links some more)
      (subst (λ (n : ℕ). IsPartition n (links ++ some ++ more) new) first.size
      (second.sets (links ++ some)
      (subst (λ (n : ℕ). IsPartition n (links ++ some) now) (sym first.size) (first.sets links are))));
}

-- one link
pub joins_one : (old : List ℕ) (a b : ℕ) → a < length old → b < length old → Joins old (united old a b) ((a, b) ∷ [])
joins_one old a b la lb = record {
  size = length-map old _;
  sets = λ links are. united_classes (length old) links old a b are la lb;
}

pub joined_by : (old new : List ℕ) (a b : ℕ) → a < length old → b < length old → new ≡ united old a b →
    Joins old new ((a, b) ∷ [])
joined_by old new a b la lb is = subst (λ (l : List ℕ). Joins old l ((a, b) ∷ [])) (sym is) (joins_one old a b la lb)

pub single_by : (count : ℕ) (seen : List ℕ) → seen ≡ range_with_len 0 count → IsPartition count [] seen
single_by count seen is = subst (λ (l : List ℕ). IsPartition count [] l) (sym is) (single_classes count)

pub numbered_by : (leasts numbers : List ℕ) (sets : ℕ) → numbers ≡ numbers_of leasts →
    sets ≡ count_below (length leasts) (is_least leasts) →
    (links : List (ℕ × ℕ)) → IsPartition (length leasts) links leasts → IsNumbering (length leasts) links numbers sets
numbered_by leasts numbers sets is count links are =
    subst (λ (n : ℕ). IsNumbering (length leasts) links numbers n) (sym count)
    (subst (λ (l : List ℕ). IsNumbering (length leasts) links l (count_below (length leasts) (is_least leasts)))
    (sym is)
    (numbers_are (length leasts) links leasts are))

-- each partition has the lesser least members of another one's sets, so both have the same
pub one_partition : (count : ℕ) (links : List (ℕ × ℕ)) (one other : List ℕ) →
    IsPartition count links one → IsPartition count links other → one ≡ other
one_partition count links one other first second = ext_get_or 0 one other (first.size ∙ sym second.size) same
  where
    less : (leasts others : List ℕ) (x : ℕ) → IsPartition count links leasts → IsPartition count links others →
        x < count → get_or leasts x 0 ≤ get_or others x 0
    less leasts others x a b lt =
        let other_end : get_or leasts x 0 ≡ get_or leasts (get_or others x 0) 0 =
        a.one x (get_or others x 0) (b.member x lt) in
        let low : get_or leasts (get_or others x 0) 0 ≤ get_or others x 0 = a.least (get_or others x 0) in
        omega arith

    same : (x : ℕ) → x < length one → get_or one x 0 ≡ get_or other x 0
    same x lt =
        let below : x < count = subst (λ (n : ℕ). x < n) first.size lt in
        let down : get_or one x 0 ≤ get_or other x 0 = less one other x first second below in
        let back : get_or other x 0 ≤ get_or one x 0 = less other one x second first below in
        omega arith
