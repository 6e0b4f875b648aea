-- What follows the first of some expressions or arguments, with commas between them.
use Rattle.std.proofs.Common.{◌≡◌, ◌⊎◌, ◌∷◌, ◌++◌, Bool, true, false, IsTrue, List, [], codes, append_assoc, append-nil, refl, sym, ap, subst, inl, inr, ◌∙◌}
use Rattle.std.proofs.lemmas.Bool.{false≢true}
use Rattle.pm_syn.specs.declared.expression.Arg.{Arg}
use Rattle.pm_syn.specs.declared.expression.Expr.{Expr}
use Rattle.pm_syn.specs.declared.token.Token.{Token}
use Rattle.pm_grammar.specs.Brackets.{SpellsMore}
use Rattle.pm_grammar.specs.Expressions.{Spells, SpellsArgument, SpellsArgumentSequence, SpellsArguments, SpellsItems, SpellsSequence}
use Rattle.pm_grammar.specs.Prefixes.{IsAfter, IsNotFirst}
use Rattle.pm_grammar.specs.Tokens.{is_symbol}
use Rattle.pm_grammar.specs.Reading.{Ends}
use Rattle.pm_grammar.specs.declared.level.Level.TheVariants as level
use Rattle.pm_grammar.proofs.OneSymbol.{ends_comma}
use Rattle.pm_grammar.proofs.Parts.{not_there}

module _ {A : Type 0} (Spelled : List Token → A → Type 0) where
  -- one more comes last
  more_end : (b : Bool) (ts us : List Token) (comma : Token) (ones : List A) (one : A) → SpellsMore Spelled false ts ones → IsTrue (is_symbol (codes ",") comma) → Spelled us one
      → SpellsMore Spelled b (ts ++ comma ∷ us) (ones ++ one ∷ [])
  more_end b _ us comma _ one SpellsMore.none mark spelled =
      subst (λ (zs : List Token). SpellsMore Spelled b (comma ∷ zs) (one ∷ [])) (append-nil us) (SpellsMore.next us [] comma one [] mark spelled SpellsMore.none)
  more_end b _ us comma _ one (SpellsMore.comma last ends mark') mark spelled = absurd (false≢true ends)
  more_end b _ us comma _ one (SpellsMore.next ts vs first head others mark' spelled' more) mark spelled =
      subst (λ (zs : List Token). SpellsMore Spelled b (first ∷ zs) (head ∷ (others ++ one ∷ []))) (sym (append_assoc ts vs (comma ∷ us)))
      (SpellsMore.next ts (vs ++ comma ∷ us) first head (others ++ one ∷ []) mark' spelled' (more_end b vs us comma others one more mark spelled))

  -- a comma comes last
  more_comma : (ts : List Token) (comma : Token) (ones : List A) → SpellsMore Spelled false ts ones → IsTrue (is_symbol (codes ",") comma) → SpellsMore Spelled true (ts ++ comma ∷ []) ones
  more_comma _ comma _ SpellsMore.none mark = SpellsMore.comma comma refl mark
  more_comma _ comma _ (SpellsMore.comma last ends mark') mark = absurd (false≢true ends)
  more_comma _ comma _ (SpellsMore.next ts vs first head others mark' spelled more) mark =
      subst (λ (zs : List Token). SpellsMore Spelled true (first ∷ zs) (head ∷ others)) (sym (append_assoc ts vs (comma ∷ [])))
      (SpellsMore.next ts (vs ++ comma ∷ []) first head others mark' spelled (more_comma vs comma others more mark))

  -- none comes last, though one may
  more_may : (b : Bool) (ts : List Token) (ones : List A) → SpellsMore Spelled false ts ones → SpellsMore Spelled b ts ones
  more_may b _ _ SpellsMore.none = SpellsMore.none
  more_may b _ _ (SpellsMore.comma last ends mark) = absurd (false≢true ends)
  more_may b _ _ (SpellsMore.next ts vs first head others mark spelled more) = SpellsMore.next ts vs first head others mark spelled (more_may b vs others more)

  -- the token after one: a comma, or what follows the last
  pub more_first : (b : Bool) (ts rest : List Token) (ones : List A) (closing : Token) → SpellsMore Spelled b ts ones
      → (t : Token) × (us : List Token) × (ts ++ closing ∷ rest ≡ t ∷ us) × (IsTrue (is_symbol (codes ",") t) ⊎ (t ≡ closing))
  more_first b _ rest _ closing SpellsMore.none = (closing, rest, refl, inr refl)
  more_first b _ rest _ closing (SpellsMore.comma last ends mark) = (last, closing ∷ rest, refl, inl mark)
  more_first b _ rest _ closing (SpellsMore.next ts vs first head others mark spelled more) = (first, (ts ++ vs) ++ closing ∷ rest, refl, inl mark)

  -- no comma is there, so nothing follows
  pub more_done : (b : Bool) (ts rest left : List Token) (ones : List A) (closing : Token) → SpellsMore Spelled b ts ones → left ≡ ts ++ closing ∷ rest → IsNotFirst (is_symbol (codes ",")) left
      → (ones ≡ []) × (left ≡ closing ∷ rest)
  more_done b _ rest left _ closing SpellsMore.none is apart = (refl, is)
  more_done b _ rest left _ closing (SpellsMore.comma last ends mark) is apart = absurd (not_there (is_symbol (codes ",")) left (closing ∷ rest) last apart is mark)
  more_done b _ rest left _ closing (SpellsMore.next ts vs first head others mark spelled more) is apart =
      absurd (not_there (is_symbol (codes ",")) left ((ts ++ vs) ++ closing ∷ rest) first apart is mark)

  -- a comma is there: it comes last, or one follows it
  pub more_on : (b : Bool) (ts rest left tail : List Token) (ones : List A) (closing : Token) → SpellsMore Spelled b ts ones → left ≡ ts ++ closing ∷ rest → IsAfter (is_symbol (codes ",")) left tail
      → is_symbol (codes ",") closing ≡ false
      → (IsTrue b × (ones ≡ []) × (tail ≡ closing ∷ rest))
      ⊎ ((us vs : List Token) × (one : A) × (others : List A) × (ones ≡ one ∷ others) × (tail ≡ us ++ (vs ++ closing ∷ rest)) × Spelled us one × SpellsMore Spelled b vs others)
  more_on b _ rest left tail _ closing SpellsMore.none is behind apart =
      let there = behind.1 in
      let same : behind.0 ≡ closing = cc in
      absurd (false≢true (sym apart ∙ ap (is_symbol (codes ",")) (sym same) ∙ behind.2))
  more_on b _ rest left tail _ closing (SpellsMore.comma last ends mark) is behind apart =
      let there = behind.1 in
      inl (ends, refl, cc)
  more_on b _ rest left tail _ closing (SpellsMore.next ts vs first head others mark spelled more) is behind apart =
      let there = behind.1 in
      let same : tail ≡ (ts ++ vs) ++ closing ∷ rest = cc in
      inr (ts, vs, head, others, refl, same ∙ append_assoc ts vs (closing ∷ rest), spelled, more)

-- an expression ends before a comma, and before what ends it
pub more_ends : (b : Bool) (ts rest : List Token) (es : List Expr) (closing : Token) → SpellsMore (Spells level.Conditional) b ts es → Ends level.Conditional (closing ∷ rest)
    → Ends level.Conditional (ts ++ closing ∷ rest)
more_ends b ts rest es closing more ends =
    let first = more_first (Spells level.Conditional) b ts rest es closing more in
    subst (Ends level.Conditional) (sym first.2) (elim first.3 [
      | inl comma ↦ ends_comma first.0 comma
      | inr same ↦ subst (λ (t : Token). Ends level.Conditional (t ∷ first.1)) (sym same) ends
    ])

-- ---- the first one, and what follows it

abbrev IsFirstAndMore : {A : Type 0} → (List Token → A → Type 0) → Bool → List Token → List A → Type 0
IsFirstAndMore {A} Spelled b ts ones = (us vs : List Token) × (one : A) × (others : List A) × (ts ≡ us ++ vs) × (ones ≡ one ∷ others) × Spelled us one × SpellsMore Spelled b vs others

module _ {A : Type 0} (Spelled : List Token → A → Type 0) where
  first_only : (ts : List Token) (one : A) → Spelled ts one → IsFirstAndMore Spelled false ts (one ∷ [])
  first_only ts one spelled = (ts, [], one, [], sym (append-nil ts), refl, spelled, SpellsMore.none)

  first_more : (ts us : List Token) (comma : Token) (ones : List A) (one : A) → IsFirstAndMore Spelled false ts ones → IsTrue (is_symbol (codes ",") comma) → Spelled us one
      → IsFirstAndMore Spelled false (ts ++ comma ∷ us) (ones ++ one ∷ [])
  first_more ts us comma ones one first mark spelled = (
    first.0,
    first.1 ++ comma ∷ us,
    first.2,
    first.3 ++ one ∷ [],
    ap (λ (zs : List Token). zs ++ comma ∷ us) first.4 ∙ append_assoc first.0 first.1 (comma ∷ us),
    ap (λ (zs : List A). zs ++ one ∷ []) first.5,
    first.6,
    more_end Spelled false first.1 us comma first.3 one first.7 mark spelled,
  )

  first_comma : (ts : List Token) (comma : Token) (ones : List A) → IsFirstAndMore Spelled false ts ones → IsTrue (is_symbol (codes ",") comma) → IsFirstAndMore Spelled true (ts ++ comma ∷ []) ones
  first_comma ts comma ones first mark = (
    first.0,
    first.1 ++ comma ∷ [],
    first.2,
    first.3,
    ap (λ (zs : List Token). zs ++ comma ∷ []) first.4 ∙ append_assoc first.0 first.1 (comma ∷ []),
    first.5,
    first.6,
    more_comma Spelled first.1 comma first.3 first.7 mark,
  )

  first_may : (ts : List Token) (ones : List A) → IsFirstAndMore Spelled false ts ones → IsFirstAndMore Spelled true ts ones
  first_may ts ones first = (first.0, first.1, first.2, first.3, first.4, first.5, first.6, more_may Spelled true first.1 first.3 first.7)

pub sequence_is : (ts : List Token) (es : List Expr) → SpellsSequence ts es → IsFirstAndMore (Spells level.Conditional) false ts es
sequence_is _ _ (SpellsSequence.one ts e s) = first_only (Spells level.Conditional) ts e s
sequence_is _ _ (SpellsSequence.more ts us comma es e s mark t) = first_more (Spells level.Conditional) ts us comma es e (sequence_is ts es s) mark t

argument_sequence_is : (ts : List Token) (arguments : List Arg) → SpellsArgumentSequence ts arguments → IsFirstAndMore SpellsArgument false ts arguments
argument_sequence_is _ _ (SpellsArgumentSequence.one_argument ts a s) = first_only SpellsArgument ts a s
argument_sequence_is _ _ (SpellsArgumentSequence.more_arguments ts us comma arguments a s mark t) =
    first_more SpellsArgument ts us comma arguments a (argument_sequence_is ts arguments s) mark t

-- nothing, or one and more
abbrev pub SpellsFrom : {A : Type 0} → (List Token → A → Type 0) → Bool → List Token → List A → Type 0
SpellsFrom Spelled b ts ones = ((ts ≡ []) × (ones ≡ [])) ⊎ IsFirstAndMore Spelled b ts ones

pub items_are : (ts : List Token) (es : List Expr) → SpellsItems ts es → SpellsFrom (Spells level.Conditional) true ts es
items_are _ _ SpellsItems.no_items = inl (refl, refl)
items_are _ _ (SpellsItems.some_items ts es s) = inr (first_may (Spells level.Conditional) ts es (sequence_is ts es s))
items_are _ _ (SpellsItems.items_comma ts comma es s mark) = inr (first_comma (Spells level.Conditional) ts comma es (sequence_is ts es s) mark)

pub arguments_are : (ts : List Token) (arguments : List Arg) → SpellsArguments ts arguments → SpellsFrom SpellsArgument true ts arguments
arguments_are _ _ SpellsArguments.no_arguments = inl (refl, refl)
arguments_are _ _ (SpellsArguments.some_arguments ts arguments s) = inr (first_may SpellsArgument ts arguments (argument_sequence_is ts arguments s))
arguments_are _ _ (SpellsArguments.arguments_comma ts comma arguments s mark) =
    inr (first_comma SpellsArgument ts comma arguments (argument_sequence_is ts arguments s) mark)
