-- What is read of a range: its name, and the arguments of `range`.
use Rattle.std.proofs.Common.{◌≡◌, ◌≤◌, ◌+◌, ◌∷◌, ◌++◌, ℕ, false, IsTrue, List, [], codes, length, length-append, append_assoc, append-nil, arith, refl, sym, ap, subst, inl, inr, ◌∙◌}
use Rattle.std.specs.Prelude.{Some, None}
use Rattle.pm_syn.specs.declared.expression.Expr.{Expr}
use Rattle.pm_syn.specs.declared.token.Token.{Token}
use Rattle.pm_grammar.specs.Brackets.{OpensRange, SpellsBounds, SpellsMore}
use Rattle.pm_grammar.specs.Expressions.{Spells, SpellsRange, SpellsSequence}
use Rattle.pm_grammar.specs.Prefixes.{IsAfter, IsNotFirst}
use Rattle.pm_grammar.specs.Tokens.{is_symbol, is_name, is_word}
use Rattle.pm_grammar.specs.Reading.{Begins, IsOnly, IsOnlyBefore, IsOnlyBeginning}
use Rattle.pm_grammar.specs.declared.level.Level.TheVariants as level
use Rattle.pm_grammar.proofs.OneSymbol.{ends_parenthesis, parenthesis_no_comma}
use Rattle.pm_grammar.proofs.Parts.{Closed, front_closed, none_closed, only_closed, unclosed}
use Rattle.pm_grammar.proofs.Sequences.{more_done, more_ends, more_on, sequence_is}

-- ---- the arguments of `range`

-- each sequence up to the closing parenthesis continues from these
abbrev pub GoesOnBounds : List Token → List Expr → List Token → Type 0
GoesOnBounds tokens es rest =
    (all : List Expr) (closing : Token) (left : List Token) → IsTrue (is_symbol (codes ")") closing) → Begins SpellsBounds tokens all (closing ∷ left)
    → (us : List Token) × (more : List Expr) × (rest ≡ us ++ closing ∷ left) × (all ≡ es ++ more) × SpellsMore (Spells level.Conditional) false us more × (length all ≤ 3)

-- the first one, and what follows it
record BoundsRead (tokens : List Token) (all : List Expr) (closing : Token) (left : List Token) : Type 0 where
  pub behind : List Token
  pub first : Expr
  pub others : List Expr
  pub made : all ≡ first ∷ others
  pub first_begins : Begins (Spells level.Conditional) tokens first (behind ++ closing ∷ left)
  pub more : SpellsMore (Spells level.Conditional) false behind others
  pub few : length all ≤ 3

bounds_read : (tokens left : List Token) (all : List Expr) (closing : Token) → Begins SpellsBounds tokens all (closing ∷ left) → BoundsRead tokens all closing left
bounds_read tokens left all closing begins =
    let some = sequence_is begins.0 all begins.2.0 in
    record {
      behind = some.1;
      first = some.2;
      others = some.3;
      made = some.5;
      first_begins = (some.0, begins.1 ∙ ap (λ (us : List Token). us ++ closing ∷ left) some.4 ∙ append_assoc some.0 some.1 (closing ∷ left), some.6);
      more = some.7;
      few = begins.2.1;
    }

pub no_bounds : (tokens : List Token) → IsOnly level.Conditional tokens None → IsOnlyBefore SpellsBounds (codes ")") tokens None
no_bounds tokens only all closing left mark begins =
    let some = bounds_read tokens left all closing begins in
    only some.first (some.behind ++ closing ∷ left) some.first_begins (more_ends false some.behind left some.others closing some.more (ends_parenthesis closing mark))

pub goes_bounds : (tokens rest : List Token) (e : Expr) → IsOnly level.Conditional tokens (Some (e, rest)) → GoesOnBounds tokens (e ∷ []) rest
goes_bounds tokens rest e only all closing left mark begins =
    let some = bounds_read tokens left all closing begins in
    let was = only some.first (some.behind ++ closing ∷ left) some.first_begins (more_ends false some.behind left some.others closing some.more (ends_parenthesis closing mark)) in
    (some.behind, some.others, sym was.1, some.made ∙ ap (λ (one : Expr). one ∷ some.others) was.0, some.more, some.few)

next_bound : (tokens rest tail : List Token) (es : List Expr) → GoesOnBounds tokens es rest → IsAfter (is_symbol (codes ",")) rest tail
    → (all : List Expr) (closing : Token) (left : List Token) → IsTrue (is_symbol (codes ")") closing) → Begins SpellsBounds tokens all (closing ∷ left)
    → (us vs : List Token) × (e : Expr) × (more : List Expr) × (all ≡ es ++ e ∷ more) × (tail ≡ us ++ (vs ++ closing ∷ left)) × Spells level.Conditional us e
    × SpellsMore (Spells level.Conditional) false vs more × (length all ≤ 3)
next_bound tokens rest tail es goes comma all closing left mark begins =
    let on = goes all closing left mark begins in
    elim (more_on (Spells level.Conditional) false on.0 left rest tail on.1 closing on.4 on.2 comma (parenthesis_no_comma closing mark)) [
      | inl last ↦ let never = last.0 in cc
      | inr next ↦ (next.0, next.1, next.2, next.3, on.3 ∙ ap (λ (zs : List Expr). es ++ zs) next.4, next.5, next.6, next.7, on.5)
    ]

pub goes_bound : (tokens rest tail after : List Token) (es : List Expr) (e : Expr) → GoesOnBounds tokens es rest → IsAfter (is_symbol (codes ",")) rest tail
    → IsOnly level.Conditional tail (Some (e, after)) → GoesOnBounds tokens (es ++ e ∷ []) after
goes_bound tokens rest tail after es e goes comma only all closing left mark begins =
    let next = next_bound tokens rest tail es goes comma all closing left mark begins in
    let was = only next.2 (next.1 ++ closing ∷ left) (next.0, next.5, next.6) (more_ends false next.1 left next.3 closing next.7 (ends_parenthesis closing mark)) in
    (next.1, next.3, sym was.1, next.4 ∙ ap (λ (one : Expr). es ++ one ∷ next.3) was.0 ∙ sym (append_assoc es (e ∷ []) next.3), next.7, next.8)

pub no_bound : (tokens rest tail : List Token) (es : List Expr) → GoesOnBounds tokens es rest → IsAfter (is_symbol (codes ",")) rest tail
    → IsOnly level.Conditional tail None → IsOnlyBefore SpellsBounds (codes ")") tokens None
no_bound tokens rest tail es goes comma only all closing left mark begins =
    let next = next_bound tokens rest tail es goes comma all closing left mark begins in
    only next.2 (next.1 ++ closing ∷ left) (next.0, next.5, next.6) (more_ends false next.1 left next.3 closing next.7 (ends_parenthesis closing mark))

-- a fourth is too many
pub too_many : (tokens rest tail : List Token) (es : List Expr) → GoesOnBounds tokens es rest → IsAfter (is_symbol (codes ",")) rest tail → length es ≡ 3
    → IsOnlyBefore SpellsBounds (codes ")") tokens None
too_many tokens rest tail es goes comma three all closing left mark begins =
    let next = next_bound tokens rest tail es goes comma all closing left mark begins in
    let long : length all ≡ length es + length (next.2 ∷ next.3) = ap length next.4 ∙ length-append es (next.2 ∷ next.3) in
    let few = next.8 in
    absurd (omega (arith, long, few, three))

pub only_bounds : (tokens rest : List Token) (es : List Expr) → GoesOnBounds tokens es rest → IsNotFirst (is_symbol (codes ",")) rest → IsOnlyBefore SpellsBounds (codes ")") tokens (Some (es, rest))
only_bounds tokens rest es goes apart all closing left mark begins =
    let on = goes all closing left mark begins in
    let last = more_done (Spells level.Conditional) false on.0 left rest on.1 closing on.4 on.2 apart in
    (on.3 ∙ ap (λ (zs : List Expr). es ++ zs) last.0 ∙ append-nil es, sym last.1)

pub bounds_start : (tokens rest : List Token) (e : Expr) → Begins (Spells level.Conditional) tokens e rest → Begins SpellsSequence tokens (e ∷ []) rest
bounds_start tokens rest e begins = (begins.0, begins.1, SpellsSequence.one begins.0 e begins.2)

pub bounds_found : (tokens rest : List Token) (es : List Expr) → Begins SpellsSequence tokens es rest → length es ≤ 3 → Begins SpellsBounds tokens es rest
bounds_found tokens rest es begins few = (begins.0, begins.1, (begins.2, few))

-- ---- a range

-- a range token by token
record RangeReads (tokens : List Token) (p : List ℕ × List Expr) (left : List Token) : Type 0 where
  pub name : Token
  pub in_word : Token
  pub range : Token
  pub opening : Token
  pub tail : List Token
  pub there : tokens ≡ name ∷ in_word ∷ range ∷ opening ∷ tail
  pub named : IsTrue (is_name name)
  pub is_in : IsTrue (is_word (codes "in") in_word)
  pub is_range : IsTrue (is_word (codes "range") range)
  pub mark : IsTrue (is_symbol (codes "(") opening)
  pub word : p.0 ≡ name.text
  pub bounds : Begins (Closed (is_symbol (codes ")")) SpellsBounds) tail p.1 left

range_reads : (tokens left : List Token) (p : List ℕ × List Expr) → Begins SpellsRange tokens p left → RangeReads tokens p left
range_reads tokens left p (front, split, spelled) = go front p split spelled where
  go : (ts : List Token) (q : List ℕ × List Expr) → tokens ≡ ts ++ left → SpellsRange ts q → RangeReads tokens q left
  go _ _ is (SpellsRange.ranged ts name in_word range opening closing bounds named is_in is_range mark s few mark') = record {
    name = name;
    in_word = in_word;
    range = range;
    opening = opening;
    tail = (ts ++ closing ∷ []) ++ left;
    there = is;
    named = named;
    is_in = is_in;
    is_range = is_range;
    mark = mark;
    word = refl;
    bounds = (ts ++ closing ∷ [], refl, (ts, closing, refl, (s, few), mark'));
  }

-- nothing is read if the tokens don't open a range
pub no_range_there : (tokens : List Token) → ((name : Token) (tail : List Token) → OpensRange tokens name tail → ⊥) → IsOnlyBeginning SpellsRange tokens None
no_range_there tokens never p left begins =
    let r = range_reads tokens left p begins in
    never r.name r.tail (record { in_word = r.in_word; range = r.range; opening = r.opening; there = r.there; named = r.named; is_in = r.is_in; is_range = r.is_range; mark = r.mark })

pub no_range : (tokens tail : List Token) (name : Token) → OpensRange tokens name tail → IsOnlyBefore SpellsBounds (codes ")") tail None → IsOnlyBeginning SpellsRange tokens None
no_range tokens tail name front only p left begins =
    let r = range_reads tokens left p begins in
    let there = r.there in
    let there' = front.there in
    let same : r.tail ≡ tail = cc in
    none_closed SpellsBounds (is_symbol (codes ")")) tail only p.1 left (subst (λ (us : List Token). Begins (Closed (is_symbol (codes ")")) SpellsBounds) us p.1 left) same r.bounds)

pub open_range : (tokens tail rest : List Token) (name : Token) (es : List Expr) → OpensRange tokens name tail → IsOnlyBefore SpellsBounds (codes ")") tail (Some (es, rest))
    → IsNotFirst (is_symbol (codes ")")) rest → IsOnlyBeginning SpellsRange tokens None
open_range tokens tail rest name es front only apart p left begins =
    let r = range_reads tokens left p begins in
    let there = r.there in
    let there' = front.there in
    let same : r.tail ≡ tail = cc in
    unclosed SpellsBounds (is_symbol (codes ")")) tail es rest only apart p.1 left (subst (λ (us : List Token). Begins (Closed (is_symbol (codes ")")) SpellsBounds) us p.1 left) same r.bounds)

same_pair : (p : List ℕ × List Expr) (text : List ℕ) (es : List Expr) → p.0 ≡ text → p.1 ≡ es → p ≡ (text, es)
same_pair p text es word same = ap (λ (z : List ℕ). (z, p.1)) word ∙ ap (λ (zs : List Expr). (text, zs)) same

pub only_range : (tokens tail rest after : List Token) (name : Token) (text : List ℕ) (es : List Expr) → OpensRange tokens name tail → text ≡ name.text
    → IsOnlyBefore SpellsBounds (codes ")") tail (Some (es, rest)) → IsAfter (is_symbol (codes ")")) rest after → IsOnlyBeginning SpellsRange tokens (Some ((text, es), after))
only_range tokens tail rest after name text es front text_is only behind p left begins =
    let r = range_reads tokens left p begins in
    let there = r.there in
    let there' = front.there in
    let same : r.tail ≡ tail = cc in
    let one : r.name ≡ name = cc in
    let was = only_closed SpellsBounds (is_symbol (codes ")")) tail es rest after only behind p.1 left (subst (λ (us : List Token). Begins (Closed (is_symbol (codes ")")) SpellsBounds) us p.1 left) same r.bounds) in
    let word : p.0 ≡ text = r.word ∙ ap (λ (t : Token). t.text) one ∙ sym text_is in
    let same_bounds : ◌≡◌ {A = List Expr} p.1 es = was.0 in
    (same_pair p text es word same_bounds, was.1)

pub range_found : (tokens tail rest after : List Token) (name : Token) (text : List ℕ) (es : List Expr) → OpensRange tokens name tail → text ≡ name.text → Begins SpellsBounds tail es rest
    → IsAfter (is_symbol (codes ")")) rest after → Begins SpellsRange tokens (text, es) after
range_found tokens tail rest after name text es front text_is begins behind =
    let closed = front_closed tail begins.0 rest after behind.0 begins.1 behind.1 in
    let all : tokens ≡ name ∷ front.in_word ∷ front.range ∷ front.opening ∷ ((begins.0 ++ behind.0 ∷ []) ++ after) =
    front.there ∙ ap (λ (us : List Token). name ∷ front.in_word ∷ front.range ∷ front.opening ∷ us) closed in
    subst (λ (word : List ℕ). Begins SpellsRange tokens (word, es) after) (sym text_is) (
      name ∷ front.in_word ∷ front.range ∷ front.opening ∷ (begins.0 ++ behind.0 ∷ []),
      all,
      SpellsRange.ranged begins.0 name front.in_word front.range front.opening behind.0 es front.named front.is_in front.is_range front.mark begins.2.0 begins.2.1 behind.2,
    )
