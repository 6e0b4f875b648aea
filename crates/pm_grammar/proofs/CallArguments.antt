-- What is read of the arguments of a call.
use Rattle.std.proofs.Common.{◌≡◌, ◌⊎◌, ◌≤◌, ◌∷◌, ◌++◌, ℕ, true, false, IsTrue, List, [], codes, append_assoc, append-nil, arith, length, refl, sym, ap, subst, inl, inr, ◌∙◌}
use Rattle.std.specs.Prelude.{Option, Some, None}
use Rattle.std.proofs.lemmas.Bool.{false≢true, or_left, or_right}
use Rattle.pm_syn.specs.declared.expression.Arg.{Arg}
use Rattle.pm_syn.specs.declared.expression.Expr.{Expr}
use Rattle.pm_syn.specs.declared.token.Token.{Token}
use Rattle.pm_grammar.specs.Brackets.{IsNoParameter, IsParameter, OpensArgument, SpellsMore, ends_argument}
use Rattle.pm_grammar.specs.Expressions.{Spells, SpellsArgument, SpellsArgumentSequence, SpellsArguments}
use Rattle.pm_grammar.specs.Prefixes.{IsAfter, IsNotFirst, begins_with}
use Rattle.pm_grammar.specs.Tokens.{is_symbol, is_name}
use Rattle.pm_grammar.specs.Reading.{Begins, IsOnly, IsOnlyBefore, IsOnlyUpTo, IsRead}
use Rattle.pm_grammar.specs.declared.level.Level.TheVariants as level
use Rattle.pm_grammar.proofs.ArgumentNames.{argument_begun, no_equals}
use Rattle.pm_grammar.proofs.ExpressionStarts.{opens, parenthesis_opens}
use Rattle.pm_grammar.proofs.OneSymbol.{argument_ends, no_argument_end, parenthesis_no_comma}
use Rattle.pm_grammar.proofs.OperandStarts.{IsBegun, begun_expression}
use Rattle.pm_grammar.proofs.Parts.{not_begun, front_closed}
use Rattle.pm_grammar.proofs.Sequences.{SpellsFrom, arguments_are, more_done, more_first, more_on}

-- ---- an argument

-- each argument that a comma or a closing parenthesis follows was read
abbrev pub IsOnlyArgument : List Token → Option (Arg × List Token) → Type 0
IsOnlyArgument = IsOnlyUpTo SpellsArgument ends_argument

-- an argument without a name, or with one
record NamedReads (tokens : List Token) (a : Arg) (left : List Token) : Type 0 where
  pub name : Token
  pub tail : List Token
  pub e : Expr
  pub parameter : IsParameter tokens name tail
  pub made : a ≡ record { name = Some name.text; value = e }
  pub e_begins : Begins (Spells level.Conditional) tail e left

argument_reads : (tokens left : List Token) (a : Arg) → Begins SpellsArgument tokens a left
    → ((e : Expr) × (a ≡ record { name = None; value = e }) × Begins (Spells level.Conditional) tokens e left) ⊎ NamedReads tokens a left
argument_reads tokens left a (front, split, spelled) = go front a split spelled where
  go : (ts : List Token) (b : Arg) → tokens ≡ ts ++ left → SpellsArgument ts b
      → ((e : Expr) × (b ≡ record { name = None; value = e }) × Begins (Spells level.Conditional) tokens e left) ⊎ NamedReads tokens b left
  go _ _ is (SpellsArgument.plain ts e s) = inl (e, refl, (ts, is, s))
  go _ _ is (SpellsArgument.by_name ts name sign e named mark s) =
      inr (record { name = name; tail = ts ++ left; e = e; parameter = (sign, is, named, mark); made = refl; e_begins = (ts, refl, s) })

pub plain_found : (tokens rest : List Token) (e : Expr) → Begins (Spells level.Conditional) tokens e rest → Begins SpellsArgument tokens (record { name = None; value = e }) rest
plain_found tokens rest e begins = (begins.0, begins.1, SpellsArgument.plain begins.0 e begins.2)

pub no_plain : (tokens : List Token) → IsNoParameter tokens → IsOnly level.Conditional tokens None → IsOnlyArgument tokens None
no_plain tokens apart only a behind left ends begins = elim (argument_reads tokens (behind ∷ left) a begins) [
  | inl plain ↦ only plain.0 (behind ∷ left) plain.2 (argument_ends behind ends)
  | inr named ↦ apart named.name named.tail named.parameter
]

pub only_plain : (tokens rest : List Token) (e : Expr) → IsNoParameter tokens → IsOnly level.Conditional tokens (Some (e, rest)) → IsOnlyArgument tokens (Some (record { name = None; value = e }, rest))
only_plain tokens rest e apart only a behind left ends begins = elim (argument_reads tokens (behind ∷ left) a begins) [
  | inl plain ↦
      let was = only plain.0 (behind ∷ left) plain.2 (argument_ends behind ends) in
      (plain.1 ∙ ap (λ (one : Expr). record { name = None; value = one }) was.0, was.1)
  | inr named ↦ absurd (apart named.name named.tail named.parameter)
]

-- a name and `=` begin no expression before a comma or a closing parenthesis
pub no_plain_parameter : (tokens tail left : List Token) (name behind : Token) (e : Expr) → IsParameter tokens name tail → IsTrue (ends_argument behind)
    → Begins (Spells level.Conditional) tokens e (behind ∷ left) → ⊥
no_plain_parameter tokens tail left name behind e parameter ends (front, split, spelled) =
    go front split spelled (begun_expression level.Conditional front e spelled) where
      go : (ts : List Token) → tokens ≡ ts ++ behind ∷ left → Spells level.Conditional ts e → IsBegun opens ts → ⊥
      go [] is s begun = let e = begun.2 in cc
      go (t ∷ []) is s begun =
          let there = parameter.1 in
          let same : behind ≡ parameter.0 = cc in
          false≢true (sym (no_argument_end (codes "=") behind refl refl ends) ∙ ap (is_symbol (codes "=")) same ∙ parameter.3)
      go (t ∷ u ∷ ts) is s begun =
          let there = parameter.1 in
          let first : t ≡ name = cc in
          let second : parameter.0 ≡ u = cc in
          no_equals level.Conditional (t ∷ u ∷ ts) e s t u ts refl (subst (λ (z : Token). IsTrue (is_name z)) (sym first) parameter.2)
          (subst (λ (z : Token). IsTrue (is_symbol (codes "=") z)) second parameter.3)

pub named_found : (tokens tail rest : List Token) (name : Token) (text : List ℕ) (e : Expr) → IsParameter tokens name tail → text ≡ name.text → Begins (Spells level.Conditional) tail e rest
    → Begins SpellsArgument tokens (record { name = Some text; value = e }) rest
named_found tokens tail rest name text e parameter same begins =
    subst (λ (word : List ℕ). Begins SpellsArgument tokens (record { name = Some word; value = e }) rest) (sym same) (
      name ∷ parameter.0 ∷ begins.0,
      parameter.1 ∙ ap (λ (us : List Token). name ∷ parameter.0 ∷ us) begins.1,
      SpellsArgument.by_name begins.0 name parameter.0 e parameter.2 parameter.3 begins.2,
    )

pub no_named : (tokens tail : List Token) (name : Token) → IsParameter tokens name tail → IsOnly level.Conditional tail None → IsOnlyArgument tokens None
no_named tokens tail name parameter only a behind left ends begins = elim (argument_reads tokens (behind ∷ left) a begins) [
  | inl plain ↦ no_plain_parameter tokens tail left name behind plain.0 parameter ends plain.2
  | inr named ↦
      let there = parameter.1 in
      let there' = named.parameter.1 in
      let same : named.tail ≡ tail = cc in
      only named.e (behind ∷ left) (subst (λ (us : List Token). Begins (Spells level.Conditional) us named.e (behind ∷ left)) same named.e_begins) (argument_ends behind ends)
]

same_named : (a : Arg) (word text : List ℕ) (e f : Expr) → a ≡ record { name = Some word; value = e } → word ≡ text → e ≡ f → a ≡ record { name = Some text; value = f }
same_named a word text e f made same one =
    made ∙ ap (λ (z : List ℕ). record { name = Some z; value = e }) same ∙ ap (λ (z : Expr). record { name = Some text; value = z }) one

pub only_named : (tokens tail rest : List Token) (name : Token) (text : List ℕ) (e : Expr) → IsParameter tokens name tail → text ≡ name.text → IsOnly level.Conditional tail (Some (e, rest))
    → IsOnlyArgument tokens (Some (record { name = Some text; value = e }, rest))
only_named tokens tail rest name text e parameter text_is only a behind left ends begins = elim (argument_reads tokens (behind ∷ left) a begins) [
  | inl plain ↦ absurd (no_plain_parameter tokens tail left name behind plain.0 parameter ends plain.2)
  | inr named ↦
      let there = parameter.1 in
      let there' = named.parameter.1 in
      let same : named.tail ≡ tail = cc in
      let one : named.name ≡ name = cc in
      let was = only named.e (behind ∷ left) (subst (λ (us : List Token). Begins (Spells level.Conditional) us named.e (behind ∷ left)) same named.e_begins) (argument_ends behind ends) in
      let word : named.name.text ≡ text = ap (λ (t : Token). t.text) one ∙ sym text_is in
      (same_named a named.name.text text named.e e named.made word was.0, was.1)
]

-- ---- an argument by what opens it

pub argument_found : (tokens tail rest : List Token) (name : Option (List ℕ)) (e : Expr) → OpensArgument tokens name tail → Begins (Spells level.Conditional) tail e rest
    → Begins SpellsArgument tokens (record { name = name; value = e }) rest
argument_found _ _ rest _ e (OpensArgument.plain tokens apart) begins = plain_found tokens rest e begins
argument_found _ _ rest _ e (OpensArgument.named tokens tail name parameter) begins = named_found tokens tail rest name name.text e parameter refl begins

pub only_argument : (tokens tail rest : List Token) (name : Option (List ℕ)) (e : Expr) → OpensArgument tokens name tail → IsOnly level.Conditional tail (Some (e, rest))
    → IsOnlyArgument tokens (Some (record { name = name; value = e }, rest))
only_argument _ _ rest _ e (OpensArgument.plain tokens apart) only = only_plain tokens rest e apart only
only_argument _ _ rest _ e (OpensArgument.named tokens tail name parameter) only = only_named tokens tail rest name name.text e parameter refl only

pub no_value_opened : (tokens tail : List Token) (name : Option (List ℕ)) → OpensArgument tokens name tail → IsOnly level.Conditional tail None → IsOnlyArgument tokens None
no_value_opened _ _ _ (OpensArgument.plain tokens apart) only = no_plain tokens apart only
no_value_opened _ _ _ (OpensArgument.named tokens tail name parameter) only = no_named tokens tail name parameter only

pub opened_no_longer : (tokens tail : List Token) (name : Option (List ℕ)) → OpensArgument tokens name tail → length tail ≤ length tokens
opened_no_longer _ _ _ (OpensArgument.plain tokens apart) = omega arith
opened_no_longer _ _ _ (OpensArgument.named tokens tail name parameter) =
    let long : length tokens ≡ length (name ∷ parameter.0 ∷ tail) = ap length parameter.1 in
    omega (arith, long)

pub opened_named : (tokens tail : List Token) (name : Token) (text : List ℕ) → IsParameter tokens name tail → text ≡ name.text → OpensArgument tokens (Some text) tail
opened_named tokens tail name text parameter same = rw same (OpensArgument.named tokens tail name parameter)

-- ---- arguments

-- arguments, each with a comma after it
pub data SpellsLeading : List Token → List Arg → Type 0 where
  nothing : SpellsLeading [] []
  leading : (ts : List Token) (comma : Token) (arguments : List Arg) → SpellsArgumentSequence ts arguments → IsTrue (is_symbol (codes ",") comma) → SpellsLeading (ts ++ comma ∷ []) arguments

leading_all : (ts : List Token) (arguments : List Arg) → SpellsLeading ts arguments → SpellsArguments ts arguments
leading_all _ _ SpellsLeading.nothing = SpellsArguments.no_arguments
leading_all _ _ (SpellsLeading.leading ts comma arguments s mark) = SpellsArguments.arguments_comma ts comma arguments s mark

leading_one : (ts us : List Token) (arguments : List Arg) (a : Arg) → SpellsLeading ts arguments → SpellsArgument us a → SpellsArgumentSequence (ts ++ us) (arguments ++ a ∷ [])
leading_one _ us _ a SpellsLeading.nothing s = SpellsArgumentSequence.one_argument us a s
leading_one _ us _ a (SpellsLeading.leading ts comma arguments t mark) s =
    subst (λ (zs : List Token). SpellsArgumentSequence zs (arguments ++ a ∷ [])) (sym (append_assoc ts (comma ∷ []) us)) (SpellsArgumentSequence.more_arguments ts us comma arguments a t mark s)

pub nothing_found : (tokens : List Token) → Begins SpellsLeading tokens [] tokens
nothing_found tokens = ([], refl, SpellsLeading.nothing)

begins_one : (tokens rest after : List Token) (arguments : List Arg) (a : Arg) → Begins SpellsLeading tokens arguments rest → Begins SpellsArgument rest a after
    → Begins SpellsArgumentSequence tokens (arguments ++ a ∷ []) after
begins_one tokens rest after arguments a begins begins' = (
  begins.0 ++ begins'.0,
  begins.1 ∙ ap (λ (us : List Token). begins.0 ++ us) begins'.1 ∙ sym (append_assoc begins.0 begins'.0 after),
  leading_one begins.0 begins'.0 arguments a begins.2 begins'.2,
)

pub leading_found : (tokens rest after tail : List Token) (arguments : List Arg) (a : Arg) → Begins SpellsLeading tokens arguments rest → Begins SpellsArgument rest a after
    → IsAfter (is_symbol (codes ",")) after tail → Begins SpellsLeading tokens (arguments ++ a ∷ []) tail
leading_found tokens rest after tail arguments a begins begins' comma =
    let one = begins_one tokens rest after arguments a begins begins' in
    (one.0 ++ comma.0 ∷ [], front_closed tokens one.0 after tail comma.0 one.1 comma.1, SpellsLeading.leading one.0 comma.0 (arguments ++ a ∷ []) one.2 comma.2)

pub last_found : (tokens rest after : List Token) (arguments : List Arg) (a : Arg) → Begins SpellsLeading tokens arguments rest → Begins SpellsArgument rest a after
    → Begins SpellsArguments tokens (arguments ++ a ∷ []) after
last_found tokens rest after arguments a begins begins' =
    let one = begins_one tokens rest after arguments a begins begins' in
    (one.0, one.1, SpellsArguments.some_arguments one.0 (arguments ++ a ∷ []) one.2)

pub arguments_found : (tokens rest : List Token) (arguments : List Arg) → Begins SpellsLeading tokens arguments rest → Begins SpellsArguments tokens arguments rest
arguments_found tokens rest arguments begins = (begins.0, begins.1, leading_all begins.0 arguments begins.2)

-- the arguments up to the closing parenthesis continue from these
abbrev pub GoesOnArguments : List Token → List Arg → List Token → Type 0
GoesOnArguments tokens arguments rest =
    (all : List Arg) (closing : Token) (left : List Token) → IsTrue (is_symbol (codes ")") closing) → Begins SpellsArguments tokens all (closing ∷ left)
    → (us : List Token) × (more : List Arg) × (rest ≡ us ++ closing ∷ left) × (all ≡ arguments ++ more) × SpellsFrom SpellsArgument true us more

pub goes_arguments : (tokens : List Token) → GoesOnArguments tokens [] tokens
goes_arguments tokens all closing left mark begins = (begins.0, all, begins.1, refl, arguments_are begins.0 all begins.2)

-- the next argument, and what follows it
record ArgumentReads (rest : List Token) (arguments all : List Arg) (closing : Token) (left : List Token) : Type 0 where
  pub behind : List Token
  pub a : Arg
  pub others : List Arg
  pub made : all ≡ arguments ++ a ∷ others
  pub begins : Begins SpellsArgument rest a (behind ++ closing ∷ left)
  pub more : SpellsMore SpellsArgument true behind others

next_argument : (tokens rest : List Token) (arguments : List Arg) → begins_with (is_symbol (codes ")")) rest ≡ false → GoesOnArguments tokens arguments rest
    → (all : List Arg) (closing : Token) (left : List Token) → IsTrue (is_symbol (codes ")") closing) → Begins SpellsArguments tokens all (closing ∷ left) → ArgumentReads rest arguments all closing left
next_argument tokens rest arguments apart goes all closing left mark begins =
    let on = goes all closing left mark begins in
    elim on.4 [
      | inl ended ↦ absurd (not_begun (is_symbol (codes ")")) rest left closing apart (on.2 ∙ ap (λ (us : List Token). us ++ closing ∷ left) ended.0) mark)
      | inr some ↦ record {
        behind = some.1;
        a = some.2;
        others = some.3;
        made = on.3 ∙ ap (λ (zs : List Arg). arguments ++ zs) some.5;
        begins = (some.0, on.2 ∙ ap (λ (us : List Token). us ++ closing ∷ left) some.4 ∙ append_assoc some.0 some.1 (closing ∷ left), some.6);
        more = some.7;
      }
    ]

-- an argument ends before what follows it
argument_read : (rest left : List Token) (arguments all : List Arg) (closing : Token) (read : Option (Arg × List Token)) (one : ArgumentReads rest arguments all closing left)
    → IsTrue (is_symbol (codes ")") closing) → IsOnlyArgument rest read → IsRead read one.a (one.behind ++ closing ∷ left)
argument_read rest left arguments all closing read one mark only =
    let first = more_first SpellsArgument true one.behind left one.others closing one.more in
    let ends : IsTrue (ends_argument first.0) = elim first.3 [
      | inl comma ↦ or_left (is_symbol (codes ",") first.0) (is_symbol (codes ")") first.0) comma
      | inr same ↦ or_right (is_symbol (codes ",") first.0) (is_symbol (codes ")") first.0) (subst (λ (t : Token). IsTrue (is_symbol (codes ")") t)) (sym same) mark)
    ] in
    let moved = subst (λ (us : List Token). Begins SpellsArgument rest one.a us) first.2 one.begins in
    subst (λ (us : List Token). IsRead read one.a us) (sym first.2) (only one.a first.0 first.1 ends moved)

pub no_argument : (tokens rest : List Token) (arguments : List Arg) → begins_with (is_symbol (codes ")")) rest ≡ false → GoesOnArguments tokens arguments rest → IsOnlyArgument rest None
    → IsOnlyBefore SpellsArguments (codes ")") tokens None
no_argument tokens rest arguments apart goes only all closing left mark begins =
    let one = next_argument tokens rest arguments apart goes all closing left mark begins in
    argument_read rest left arguments all closing None one mark only

one_more : (arguments others all : List Arg) (a b : Arg) → all ≡ arguments ++ b ∷ others → b ≡ a → all ≡ (arguments ++ a ∷ []) ++ others
one_more arguments others all a b made same = made ∙ ap (λ (one : Arg). arguments ++ one ∷ others) same ∙ sym (append_assoc arguments (a ∷ []) others)

pub goes_argument : (tokens rest after tail : List Token) (arguments : List Arg) (a : Arg) → begins_with (is_symbol (codes ")")) rest ≡ false → GoesOnArguments tokens arguments rest
    → IsOnlyArgument rest (Some (a, after)) → IsAfter (is_symbol (codes ",")) after tail → GoesOnArguments tokens (arguments ++ a ∷ []) tail
goes_argument tokens rest after tail arguments a apart goes only comma all closing left mark begins =
    let one = next_argument tokens rest arguments apart goes all closing left mark begins in
    let was = argument_read rest left arguments all closing (Some (a, after)) one mark only in
    elim (more_on SpellsArgument true one.behind left after tail one.others closing one.more (sym was.1) comma (parenthesis_no_comma closing mark)) [
      | inl last ↦ ([], [], last.2, one_more arguments [] all a one.a (one.made ∙ ap (λ (zs : List Arg). arguments ++ one.a ∷ zs) last.1) was.0, inl (refl, refl))
      | inr next ↦ (
        next.0 ++ next.1,
        next.2 ∷ next.3,
        next.5 ∙ sym (append_assoc next.0 next.1 (closing ∷ left)),
        one_more arguments (next.2 ∷ next.3) all a one.a (one.made ∙ ap (λ (zs : List Arg). arguments ++ one.a ∷ zs) next.4) was.0,
        inr (next.0, next.1, next.2, next.3, refl, refl, next.6, next.7),
      )
    ]

pub only_last : (tokens rest after : List Token) (arguments : List Arg) (a : Arg) → begins_with (is_symbol (codes ")")) rest ≡ false → GoesOnArguments tokens arguments rest
    → IsOnlyArgument rest (Some (a, after)) → IsNotFirst (is_symbol (codes ",")) after → IsOnlyBefore SpellsArguments (codes ")") tokens (Some (arguments ++ a ∷ [], after))
only_last tokens rest after arguments a apart goes only none_there all closing left mark begins =
    let one = next_argument tokens rest arguments apart goes all closing left mark begins in
    let was = argument_read rest left arguments all closing (Some (a, after)) one mark only in
    let last = more_done SpellsArgument true one.behind left after one.others closing one.more (sym was.1) none_there in
    (one.made ∙ ap (λ (zs : List Arg). arguments ++ one.a ∷ zs) last.0 ∙ ap (λ (b : Arg). arguments ++ b ∷ []) was.0, sym last.1)

no_closing_argument : (tokens rest : List Token) (a : Arg) → begins_with (is_symbol (codes ")")) tokens ≡ true → Begins SpellsArgument tokens a rest → ⊥
no_closing_argument [] rest a there begins = false≢true there
no_closing_argument (t ∷ tokens) rest a there begins =
    let begun = argument_begun begins.0 a begins.2 in
    let split : ◌≡◌ {A = List Token} (t ∷ tokens) (begun.0 ∷ (begun.1 ++ rest)) = begins.1 ∙ ap (λ (us : List Token). us ++ rest) begun.2 in
    let one : t ≡ begun.0 = cc in
    false≢true (sym (parenthesis_opens t there) ∙ ap opens one ∙ begun.3)

pub only_arguments : (tokens rest : List Token) (arguments : List Arg) → begins_with (is_symbol (codes ")")) rest ≡ true → GoesOnArguments tokens arguments rest
    → IsOnlyBefore SpellsArguments (codes ")") tokens (Some (arguments, rest))
only_arguments tokens rest arguments there goes all closing left mark begins =
    let on = goes all closing left mark begins in
    elim on.4 [
      | inl ended ↦ (on.3 ∙ ap (λ (zs : List Arg). arguments ++ zs) ended.1 ∙ append-nil arguments, sym (on.2 ∙ ap (λ (us : List Token). us ++ closing ∷ left) ended.0))
      | inr some ↦ absurd (no_closing_argument rest (some.1 ++ closing ∷ left) some.2 there
          (some.0, on.2 ∙ ap (λ (us : List Token). us ++ closing ∷ left) some.4 ∙ append_assoc some.0 some.1 (closing ∷ left), some.6))
    ]
