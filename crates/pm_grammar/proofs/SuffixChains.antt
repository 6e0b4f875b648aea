-- That an expression with suffixes is an atom and its suffixes, one by one.
use Rattle.std.proofs.Common.{◌≡◌, ◌∷◌, ◌++◌, true, false, IsTrue, List, [], append_assoc, append-nil, refl, sym, ap, subst, ◌∙◌}
use Rattle.std.specs.Prelude.{Some, None}
use Rattle.std.proofs.lemmas.Bool.{false≢true, or_left, or_right}
use Rattle.pm_syn.specs.declared.expression.Expr.{Expr}
use Rattle.pm_syn.specs.declared.expression.Expr.TheViews as expr
use Rattle.pm_syn.specs.declared.token.Token.{Token}
use Rattle.pm_grammar.specs.Expressions.{Spells}
use Rattle.pm_grammar.specs.Reading.{Begins, Ends, IsOnly, IsOnlyBeginning, is_suffix}
use Rattle.pm_grammar.specs.Suffixes.{SpellsSuffix, begins_suffix}
use Rattle.pm_grammar.specs.declared.level.Level.TheVariants as level

-- more suffixes after an expression
pub data Suffixes : Expr → List Token → Expr → Type 0 where
  none : (a : Expr) → Suffixes a [] a
  next : (a b e : Expr) (ts us : List Token) → SpellsSuffix a ts b → Suffixes b us e → Suffixes a (ts ++ us) e

chain_end : (a b e : Expr) (ts us : List Token) → Suffixes a ts b → SpellsSuffix b us e → Suffixes a (ts ++ us) e
chain_end a _ e _ us (Suffixes.none _) last = subst (λ (vs : List Token). Suffixes a vs e) (append-nil us) (Suffixes.next a e e us [] last (Suffixes.none e))
chain_end a b e _ us (Suffixes.next _ c _ ts vs first chain) last =
    subst (λ (ws : List Token). Suffixes a ws e) (sym (append_assoc ts vs us)) (Suffixes.next a c e ts (vs ++ us) first (chain_end c b e vs us chain last))

-- an atom and suffixes
abbrev IsChain : List Token → Expr → Type 0
IsChain ts e = (us vs : List Token) × (a : Expr) × (ts ≡ us ++ vs) × Spells level.Atom us a × Suffixes a vs e

longer : (ts vs : List Token) (e f : Expr) → IsChain ts e → SpellsSuffix e vs f → IsChain (ts ++ vs) f
longer ts vs e f chain suffix =
    (chain.0, chain.1 ++ vs, chain.2, ap (λ (zs : List Token). zs ++ vs) chain.3 ∙ append_assoc chain.0 chain.1 vs, chain.4, chain_end chain.2 e f chain.1 vs chain.5 suffix)

postfix_is : (ts : List Token) (e : Expr) → Spells level.Postfix ts e → IsChain ts e
postfix_is ts e (Spells.as_tight _ _ _ s) = (ts, [], e, sym (append-nil ts), s, Suffixes.none e)
postfix_is _ _ (Spells.grouped_left _ ts us sign op left right groups s is t) = absurd (false≢true groups)
postfix_is _ _ (Spells.attribute ts dot name e s is is') = longer ts (dot ∷ name ∷ []) e (expr.Attr e name.text) (postfix_is ts e s) (SpellsSuffix.attribute dot name is is')
postfix_is _ _ (Spells.call ts us opening closing e arguments s is t is') =
    longer ts (opening ∷ (us ++ closing ∷ [])) e (expr.Call e arguments) (postfix_is ts e s) (SpellsSuffix.call us opening closing arguments is t is')
postfix_is _ _ (Spells.index ts us opening closing e place s is t is') =
    longer ts (opening ∷ (us ++ closing ∷ [])) e (expr.Index e place) (postfix_is ts e s) (SpellsSuffix.index us opening closing place is t is')
postfix_is _ _ (Spells.slice ts us vs opening colon closing e low high s is t is' u is'') =
    longer ts (opening ∷ (us ++ colon ∷ (vs ++ closing ∷ []))) e (expr.Slice e low high) (postfix_is ts e s) (SpellsSuffix.slice us vs opening colon closing low high is t is' u is'')

spells_longer : (ts us : List Token) (a b : Expr) → Spells level.Postfix ts a → SpellsSuffix a us b → Spells level.Postfix (ts ++ us) b
spells_longer ts _ a _ s (SpellsSuffix.attribute dot name is is') = Spells.attribute ts dot name a s is is'
spells_longer ts _ a _ s (SpellsSuffix.call us opening closing arguments is t is') = Spells.call ts us opening closing a arguments s is t is'
spells_longer ts _ a _ s (SpellsSuffix.index us opening closing place is t is') = Spells.index ts us opening closing a place s is t is'
spells_longer ts _ a _ s (SpellsSuffix.slice us vs opening colon closing low high is t is' u is'') = Spells.slice ts us vs opening colon closing a low high s is t is' u is''

-- ---- what the loop keeps

pub begins_postfix : (all rest : List Token) (a : Expr) → Begins (Spells level.Atom) all a rest → Begins (Spells level.Postfix) all a rest
begins_postfix all rest a begins = (begins.0, begins.1, Spells.as_tight level.Postfix begins.0 a begins.2)

pub begins_longer : (all rest after : List Token) (a b : Expr) → Begins (Spells level.Postfix) all a rest → Begins (SpellsSuffix a) rest b after → Begins (Spells level.Postfix) all b after
begins_longer all rest after a b begins suffix = (
  begins.0 ++ suffix.0,
  begins.1 ∙ ap (λ (us : List Token). begins.0 ++ us) suffix.1 ∙ sym (append_assoc begins.0 suffix.0 after),
  spells_longer begins.0 suffix.0 a b begins.2 suffix.2,
)

-- each reading of the whole continues from here
abbrev pub GoesOnSuffixes : List Token → Expr → List Token → Type 0
GoesOnSuffixes all a rest = (e : Expr) (left : List Token) → Begins (Spells level.Postfix) all e left → Ends level.Postfix left → (us : List Token) × (rest ≡ us ++ left) × Suffixes a us e

-- nothing continues with an atom
pub ends_atom : (rest : List Token) → Ends level.Atom rest
ends_atom [] = tt
ends_atom (t ∷ rest) = refl

pub goes_atom : (all rest : List Token) (a : Expr) → IsOnly level.Atom all (Some (a, rest)) → GoesOnSuffixes all a rest
goes_atom all rest a only e left begins ends =
    let chain = postfix_is begins.0 e begins.2 in
    let split : all ≡ chain.0 ++ (chain.1 ++ left) = begins.1 ∙ ap (λ (us : List Token). us ++ left) chain.3 ∙ append_assoc chain.0 chain.1 left in
    let was = only chain.2 (chain.1 ++ left) (chain.0, split, chain.4) (ends_atom (chain.1 ++ left)) in
    (chain.1, sym was.1, subst (λ (z : Expr). Suffixes z chain.1 e) was.0 chain.5)

pub no_atom : (all : List Token) → IsOnly level.Atom all None → IsOnly level.Postfix all None
no_atom all only e left begins ends =
    let chain = postfix_is begins.0 e begins.2 in
    let split : all ≡ chain.0 ++ (chain.1 ++ left) = begins.1 ∙ ap (λ (us : List Token). us ++ left) chain.3 ∙ append_assoc chain.0 chain.1 left in
    only chain.2 (chain.1 ++ left) (chain.0, split, chain.4) (ends_atom (chain.1 ++ left))

-- if a suffix begins, an expression with suffixes doesn't end
ended : (rest left : List Token) → begins_suffix rest ≡ true → rest ≡ left → Ends level.Postfix left → ⊥
ended [] left begins same ends = false≢true begins
ended (t ∷ rest) [] begins same ends = cc
ended (t ∷ rest) (u ∷ left) begins same ends = let one : t ≡ u = cc in false≢true (sym ends ∙ ap is_suffix (sym one) ∙ begins)

-- the next suffix, and what follows it
next_is : (a e : Expr) (rest us left : List Token) → begins_suffix rest ≡ true → rest ≡ us ++ left → Ends level.Postfix left → Suffixes a us e
    → (ts vs : List Token) × (b : Expr) × (rest ≡ ts ++ (vs ++ left)) × SpellsSuffix a ts b × Suffixes b vs e
next_is a _ rest _ left begins is ends (Suffixes.none _) = absurd (ended rest left begins is ends)
next_is a e rest _ left begins is ends (Suffixes.next _ b _ ts vs suffix chain) = (ts, vs, b, is ∙ append_assoc ts vs left, suffix, chain)

pub goes_suffix : (all rest after : List Token) (a b : Expr) → begins_suffix rest ≡ true → GoesOnSuffixes all a rest → IsOnlyBeginning (SpellsSuffix a) rest (Some (b, after)) → GoesOnSuffixes all b after
goes_suffix all rest after a b there goes only e left begins ends =
    let on = goes e left begins ends in
    let next = next_is a e rest on.0 left there on.1 ends on.2 in
    let was = only next.2 (next.1 ++ left) (next.0, next.3, next.4) in
    (next.1, sym was.1, subst (λ (z : Expr). Suffixes z next.1 e) was.0 next.5)

pub no_suffix : (all rest : List Token) (a : Expr) → begins_suffix rest ≡ true → GoesOnSuffixes all a rest → IsOnlyBeginning (SpellsSuffix a) rest None → IsOnly level.Postfix all None
no_suffix all rest a there goes only e left begins ends =
    let on = goes e left begins ends in
    let next = next_is a e rest on.0 left there on.1 ends on.2 in
    only next.2 (next.1 ++ left) (next.0, next.3, next.4)

-- no suffix begins with nothing, or where none begins
suffix_begun : (a b : Expr) (ts : List Token) → SpellsSuffix a ts b → (t : Token) × (us : List Token) × (ts ≡ t ∷ us) × IsTrue (is_suffix t)
suffix_begun a _ _ (SpellsSuffix.attribute dot name is is') = (dot, name ∷ [], refl, or_left _ _ (or_left _ _ is))
suffix_begun a _ _ (SpellsSuffix.call us opening closing arguments is t is') = (opening, us ++ closing ∷ [], refl, or_left _ _ (or_right _ _ is))
suffix_begun a _ _ (SpellsSuffix.index us opening closing place is t is') = (opening, us ++ closing ∷ [], refl, or_right _ _ is)
suffix_begun a _ _ (SpellsSuffix.slice us vs opening colon closing low high is t is' u is'') = (opening, us ++ colon ∷ (vs ++ closing ∷ []), refl, or_right _ _ is)

none_begins : (rest ws : List Token) (t : Token) → begins_suffix rest ≡ false → rest ≡ t ∷ ws → IsTrue (is_suffix t) → ⊥
none_begins [] ws t apart is there = cc
none_begins (u ∷ rest) ws t apart is there = let one : u ≡ t = cc in false≢true (sym apart ∙ ap is_suffix one ∙ there)

done_is : (a e : Expr) (rest us left : List Token) → begins_suffix rest ≡ false → rest ≡ us ++ left → Suffixes a us e → (e ≡ a) × (left ≡ rest)
done_is a _ rest _ left apart is (Suffixes.none _) = (refl, sym is)
done_is a e rest _ left apart is (Suffixes.next _ b _ ts vs suffix chain) = absurd (
    let begun = suffix_begun a b ts suffix in
    let split : rest ≡ begun.0 ∷ ((begun.1 ++ vs) ++ left) = is ∙ ap (λ (zs : List Token). (zs ++ vs) ++ left) begun.2 in
    none_begins rest ((begun.1 ++ vs) ++ left) begun.0 apart split begun.3)

pub only_postfix : (all rest : List Token) (a : Expr) → begins_suffix rest ≡ false → GoesOnSuffixes all a rest → IsOnly level.Postfix all (Some (a, rest))
only_postfix all rest a apart goes e left begins ends =
    let on = goes e left begins ends in
    done_is a e rest on.0 left apart on.1 on.2
