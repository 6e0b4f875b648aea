-- How many methods sets have, counted one by one.
use Rattle.std.proofs.Common.{◌≡◌, ◌∙◌, ◌+◌, ◌<◌, ◌≤◌, ◌⊎◌, ℕ, List, length, get_or, set, replicate, Bool, false}
use Rattle.std.proofs.Common.{refl, sym, ap, subst, inl, inr, arith, get_or-set_same, get_or-set_other}
use Rattle.std.proofs.lemmas.Bool.{cases_eq, cases_lt}
use Rattle.std.proofs.lemmas.List.{length-set, length-replicate, get_or-replicate}
use Rattle.pm_design.specs.declared.plan.Plan.{Plan}
use Rattle.pm_design.specs.Calls.{End}
use Rattle.pm_design.specs.Runnable.{kind_at}
use Rattle.pm_callees.specs.declared.tally.Methods.{Methods}
use Rattle.pm_callees.specs.declared.tally.Methods.TheVariants as methods
use Rattle.pm_callees.specs.Ends.{IsMethod, IsThere, ends_of}
use Rattle.pm_callees.specs.Numbers.{end_at, number_of}
use Rattle.pm_callees.specs.Tally.{AreCounted, Counted, IsBefore, IsSeen, one_more_of}

-- sets with the same methods
pub counted_same : (In Out : End → Type 0) → ((m : End) → In m → Out m) → ((m : End) → Out m → In m) →
    (count : Methods) → Counted In count → Counted Out count
counted_same In Out to from methods.Absent none = λ m has. none m (from m has)
counted_same In Out to from methods.Single single = record {
  one = single.one;
  within = to single.one single.within;
  only = λ m has. single.only m (from m has);
}
counted_same In Out to from methods.Several several = record {
  one = several.one;
  other = several.other;
  differ = several.differ;
  one_in = to several.one several.one_in;
  other_in = to several.other several.other_in;
}

-- a set with one method more
counted_more : (In Out : End → Type 0) (e : End) → Out e → (In e → ⊥) → ((m : End) → In m → Out m) →
    ((m : End) → Out m → In m ⊎ (m ≡ e)) → (count : Methods) → Counted In count → Counted Out (one_more_of count)
counted_more In Out e here new to from methods.Absent none = record {
  one = e;
  within = here;
  only = λ m has. go m (from m has);
}
  where
    go : (m : End) → In m ⊎ (m ≡ e) → m ≡ e
    go m (inl old) = absurd (none m old)
    go m (inr is) = is
counted_more In Out e here new to from methods.Single single = record {
  one = single.one;
  other = e;
  differ = λ same. new (subst (λ (m : End). In m) same single.within);
  one_in = to single.one single.within;
  other_in = here;
}
counted_more In Out e here new to from methods.Several several = record {
  one = several.one;
  other = several.other;
  differ = several.differ;
  one_in = to several.one several.one_in;
  other_in = to several.other several.other_in;
}

before_more : (e : End) (i n : ℕ) → IsBefore e i n → IsBefore e i (n + 1)
before_more e i n (inl lt) = inl lt
before_more e i n (inr here) = let lt : e.number < n = here.1 in inr (here.0, omega arith)

same_end : (m : End) (i n : ℕ) → m.port ≡ false → m.instance ≡ i → m.number ≡ n → m ≡ end_at i false n
same_end m i n port instance number =
    ap (λ (p : Bool). end_at m.instance p m.number) port
    ∙ (ap (λ (j : ℕ). end_at j false m.number) instance ∙ ap (end_at i false) number)

before_back : (m : End) (i n : ℕ) → m.port ≡ false → IsBefore m i (n + 1) → IsBefore m i n ⊎ (m ≡ end_at i false n)
before_back m i n port (inl lt) = inl (inl lt)
before_back m i n port (inr here) = go (cases_lt m.number n)
  where
    go : (m.number < n) ⊎ (n ≤ m.number) → IsBefore m i n ⊎ (m ≡ end_at i false n)
    go (inl lt) = inl (inr (here.0, lt))
    go (inr le) = let high : m.number < n + 1 = here.1 in inr (same_end m i n port here.0 (omega arith))

not_before : (i n : ℕ) (p : Bool) → IsBefore (end_at i p n) i n → ⊥
not_before i n p (inl lt) = omega arith
not_before i n p (inr here) = let lt : n < n = here.1 in omega arith

-- one method more is counted
pub method_counted : (plan : Plan) (leasts : List ℕ) (i n root : ℕ) (tally : List Methods) →
    IsThere plan (end_at i false n) → root ≡ get_or leasts (number_of plan (end_at i false n)) 0 →
    root < length leasts → AreCounted plan leasts i n tally →
    AreCounted plan leasts i (n + 1) (set tally root (one_more_of (get_or tally root methods.Absent)))
method_counted plan leasts i n root tally there is lt are = record {
  size = length-set tally root _ ∙ are.size;
  each = λ r l. each r (subst (λ (k : ℕ). r < k) (length-set tally root _) l) (cases_eq r root);
}
  where
    e : End
    e = end_at i false n

    more : (r : ℕ) (m : End) → IsSeen plan leasts i n r m → IsSeen plan leasts i (n + 1) r m
    more r m seen = (seen.0, before_more m i n seen.1, seen.2)

    within : root < length tally
    within = subst (λ (k : ℕ). root < k) (sym are.size) lt

    own : Counted (IsSeen plan leasts i (n + 1) root) (one_more_of (get_or tally root methods.Absent))
    own =
        counted_more (IsSeen plan leasts i n root) (IsSeen plan leasts i (n + 1) root) e
        ((refl, there), inr (refl, omega arith), sym is) (λ seen. not_before i n false seen.1) (more root) back
        (get_or tally root methods.Absent) (are.each root within)
      where
        back : (m : End) → IsSeen plan leasts i (n + 1) root m → IsSeen plan leasts i n root m ⊎ (m ≡ e)
        back m seen = go (before_back m i n seen.0.0 seen.1)
          where
            go : IsBefore m i n ⊎ (m ≡ e) → IsSeen plan leasts i n root m ⊎ (m ≡ e)
            go (inl old) = inl (seen.0, old, seen.2)
            go (inr same) = inr same

    other : (r : ℕ) → (r ≡ root → ⊥) → r < length tally →
        Counted (IsSeen plan leasts i (n + 1) r) (get_or tally r methods.Absent)
    other r ne l =
        counted_same (IsSeen plan leasts i n r) (IsSeen plan leasts i (n + 1) r) (more r) back
        (get_or tally r methods.Absent) (are.each r l)
      where
        back : (m : End) → IsSeen plan leasts i (n + 1) r m → IsSeen plan leasts i n r m
        back m seen = go (before_back m i n seen.0.0 seen.1)
          where
            go : IsBefore m i n ⊎ (m ≡ e) → IsSeen plan leasts i n r m
            go (inl old) = (seen.0, old, seen.2)
            go (inr same) =
                absurd (ne (sym seen.2 ∙ (ap (λ (x : End). get_or leasts (number_of plan x) 0) same ∙ sym is)))

    each : (r : ℕ) → r < length tally → (r ≡ root) ⊎ (r ≡ root → ⊥) → Counted (IsSeen plan leasts i (n + 1) r)
        (get_or (set tally root (one_more_of (get_or tally root methods.Absent))) r methods.Absent)
    each r l (inl same) =
        subst (λ (q : ℕ). Counted (IsSeen plan leasts i (n + 1) q)
        (get_or (set tally root (one_more_of (get_or tally root methods.Absent))) q methods.Absent)) (sym same)
        (subst (λ (c : Methods). Counted (IsSeen plan leasts i (n + 1) root) c)
        (sym (get_or-set_same tally root (one_more_of (get_or tally root methods.Absent)) methods.Absent within)) own)
    each r l (inr ne) =
        subst (λ (c : Methods). Counted (IsSeen plan leasts i (n + 1) r) c)
        (sym (get_or-set_other tally root r (one_more_of (get_or tally root methods.Absent)) methods.Absent ne))
        (other r ne l)

-- what stands before an instance's end stands before the next one
next_before : (m : End) (i n : ℕ) → IsBefore m i n → IsBefore m (i + 1) 0
next_before m i n (inl lt) = inl (omega arith)
next_before m i n (inr here) = let e : m.instance ≡ i = here.0 in inl (omega arith)

next_back : (plan : Plan) (m : End) (i n : ℕ) → length (kind_at plan i).methods ≤ n → IsMethod plan m →
    IsBefore m (i + 1) 0 → IsBefore m i n
next_back plan m i n le is (inr here) = let lt : m.number < 0 = here.1 in absurd (omega arith)
next_back plan m i n le is (inl lt) = go (cases_lt m.instance i)
  where
    go : (m.instance < i) ⊎ (i ≤ m.instance) → IsBefore m i n
    go (inl less) = inl less
    go (inr more) =
        let same : m.instance ≡ i = omega arith in
        let number : m.number < length (kind_at plan m.instance).methods =
        subst (λ (p : Bool). m.number < ends p) is.0 is.1.1 in
        let here : length (kind_at plan m.instance).methods ≡ length (kind_at plan i).methods =
        ap (λ (j : ℕ). length (kind_at plan j).methods) same in
        inr (same, omega arith)
      where
        ends : Bool → ℕ
        ends p = ends_of (kind_at plan m.instance) p

-- all methods of an instance are counted
pub instance_counted : (plan : Plan) (leasts : List ℕ) (i n : ℕ) (tally : List Methods) →
    length (kind_at plan i).methods ≤ n → AreCounted plan leasts i n tally → AreCounted plan leasts (i + 1) 0 tally
instance_counted plan leasts i n tally le are = record {
  size = are.size;
  each = λ r l. counted_same (IsSeen plan leasts i n r) (IsSeen plan leasts (i + 1) 0 r)
      (λ m seen. (seen.0, next_before m i n seen.1, seen.2))
      (λ m seen. (seen.0, next_back plan m i n le seen.0 seen.1, seen.2))
      (get_or tally r methods.Absent) (are.each r l);
}

-- nothing is counted yet
pub none_counted : (plan : Plan) (leasts : List ℕ) (n : ℕ) → n ≡ length leasts →
    AreCounted plan leasts 0 0 (replicate n methods.Absent)
none_counted plan leasts n is = record {
  size = length-replicate n methods.Absent ∙ is;
  each = λ r l. subst (λ (c : Methods). Counted (IsSeen plan leasts 0 0 r) c)
      (sym (get_or-replicate n r methods.Absent methods.Absent
      (subst (λ (k : ℕ). r < k) (length-replicate n methods.Absent) l)))
      (λ m seen. nothing m seen.1);
}
  where
    nothing : (m : End) → IsBefore m 0 0 → ⊥
    nothing m (inl lt) = omega arith
    nothing m (inr here) = let lt : m.number < 0 = here.1 in omega arith
