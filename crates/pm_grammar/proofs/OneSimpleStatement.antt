-- That tokens spell one simple statement.
use Rattle.std.proofs.Common.{◌≡◌, ◌++◌, ◌∙◌, false, true, ℕ, List, [], ◌∷◌, codes, Some, append-nil, refl, sym, ap, subst}
use Rattle.std.proofs.lemmas.Bool.{both_ways, false_from_ne_true, false≢true}
use Rattle.pm_syn.specs.declared.expression.Expr.{Expr}
use Rattle.pm_syn.specs.declared.statement.Stmt.{Stmt}
use Rattle.pm_syn.specs.declared.statement.Stmt as leaf
use Rattle.pm_syn.specs.declared.token.Token.{Token}
use Rattle.pm_syn.specs.declared.token.TokenKind.TheVariants as kind
use Rattle.pm_grammar.specs.ExpressionStatements.{SpellsAfter, SpellsWithExpression}
use Rattle.pm_grammar.specs.Prefixes.{IsNotFirst, begins_with}
use Rattle.pm_syn.specs.Names.{is_keyword}
use Rattle.pm_grammar.specs.Tokens.{is_word}
use Rattle.pm_grammar.specs.Reading.{Ends, IsOnly}
use Rattle.pm_grammar.specs.Statements.{IsExpression, SpellsSimple}
use Rattle.pm_grammar.specs.Statements as simple
use Rattle.pm_grammar.specs.declared.level.Level.TheVariants as level
use Rattle.pm_grammar.proofs.ExpressionStarts.{begins_more, opens, opens_expression}
use Rattle.pm_grammar.proofs.OneSymbol.{ends-mark, ends_colon, ends_comma, ends_equals}
use Rattle.pm_grammar.proofs.TokenTexts.{by_string, by_word, like}
use Rattle.pm_grammar.proofs.OneExpression.{only_expression_spelled, tokens_spell_one_expression}
use Rattle.pm_grammar.proofs.SimpleStatements.{assertion_read, assigned_only, assignment_ends, behind_done, behind_read, joined_only, joined_value, simple-other, simple-pass, simple-return, simple-strings, value_none, value_read, value_some}

-- an expression alone is the only reading of its tokens
only_alone : (ts : List Token) (e : Expr) → IsExpression ts e → IsOnly level.Conditional ts (Some (e, []))
only_alone ts e spelled = subst (λ (us : List Token). IsOnly level.Conditional us (Some (e, []))) (append-nil ts) (only_expression_spelled ts [] e spelled tt)

-- ---- a statement that begins with an expression

no_word : (bytes : List ℕ) (t : Token) → opens (like kind.Name bytes t) ≡ false → opens t ≡ true → is_word bytes t ≡ false
no_word bytes t apart begins = false_from_ne_true _ (λ is. both_ways (opens t) (by_word bytes t (λ t. opens t ≡ false) is apart) begins)

other_statement : (ts : List Token) (s : Stmt) → begins_with opens ts ≡ true → SpellsSimple ts s → SpellsWithExpression ts s
unfolding is_keyword
other_statement [] s begins spelled = absurd (false≢true begins)
other_statement (t ∷ ts) s begins spelled =
    simple-other (t ∷ ts) ts t refl (no_word (codes "pass") t refl begins) (no_word (codes "return") t refl begins) (no_word (codes "assert") t refl begins)
    (λ strings. both_ways (opens t) (by_string (λ t. opens t ≡ false) t strings.0 refl) begins) s spelled

-- if an expression comes first, this comes after it
behind_it : (ts rest : List Token) (target : Expr) (s : Stmt) → IsExpression ts target → Ends level.Conditional rest → SpellsSimple (ts ++ rest) s → SpellsAfter target rest s
behind_it ts rest target s first ends spelled =
    behind_read (ts ++ rest) rest target (only_expression_spelled ts rest target first ends) s
    (other_statement (ts ++ rest) s (begins_more opens ts rest (opens_expression first)) spelled)

-- `lambda` begins no expression
no_lambda : (ts : List Token) (e : Expr) → IsExpression ts e → IsNotFirst (is_word (codes "lambda")) ts
unfolding is_keyword
no_lambda [] e spelled = tt
no_lambda (t ∷ ts) e spelled = no_word (codes "lambda") t refl (opens_expression spelled)

-- ---- all of them

one_value : (ts : List Token) (e other : Expr) → IsExpression ts e → IsExpression ts other → other ≡ e
one_value ts e other spelled also = tokens_spell_one_expression ts other e also spelled

pub one_simple : (ts : List Token) (s : Stmt) → SpellsSimple ts s → (other : Stmt) → SpellsSimple ts other → other ≡ s
one_simple _ _ (simple.passed word is) other also = (simple-pass (word ∷ []) [] word refl is other also).1
one_simple _ _ (simple.returned word ts e is spelled) other also =
    let read = simple-return word ts other is also in
    read.2 ∙ ap leaf.Return (one_value ts e read.0 spelled read.1)
one_simple _ _ (simple.asserted word ts e is spelled) other also = (assertion_read ts [] e (only_alone ts e spelled) other word is also).1
one_simple _ _ (simple.asserted_saying word comma ts strings e is spelled mark said) other also =
    (assertion_read (ts ++ comma ∷ strings) (comma ∷ strings) e (only_expression_spelled ts (comma ∷ strings) e spelled (ends_comma comma mark)) other word is also).1
one_simple _ _ (simple.doc strings are) other also = simple-strings strings other are also
one_simple _ _ (simple.assigned sign ts us op target value first is spelled) other also =
    let on = behind_it ts (sign ∷ us) target other first (assignment_ends sign us op is) also in
    let read = assigned_only target us op (λ join. no_lambda us value spelled) other sign is on in
    read.2 ∙ ap (λ (v : Expr). leaf.Assign op target v) (one_value us value read.0 spelled read.1)
one_simple _ _ (simple.joined sign word colon ts us target value first is lambda mark spelled) other also =
    let on = behind_it ts (sign ∷ word ∷ colon ∷ us) target other first (ends-mark (codes "//=") level.Conditional sign (word ∷ colon ∷ us) refl is) also in
    let read = joined_value target (colon ∷ us) us other (colon, refl, mark) (joined_only target (colon ∷ us) other sign word is lambda on) in
    read.2 ∙ ap (λ (v : Expr). leaf.JoinLambda target v) (one_value us value read.0 spelled read.1)
one_simple _ _ (simple.noted colon ts us target note first is spelled) other also =
    let on = behind_it ts (colon ∷ us) target other first (ends_colon colon is) also in
    value_none target note [] other (value_read target note us [] (only_alone us note spelled) other colon is on) refl
one_simple _ _ (simple.noted_value colon sign ts us vs target note value first is spelled equals valued) other also =
    let on = behind_it ts (colon ∷ (us ++ sign ∷ vs)) target other first (ends_colon colon is) also in
    let only = only_expression_spelled us (sign ∷ vs) note spelled (ends_equals sign equals) in
    let read = value_some target note (sign ∷ vs) other (value_read target note (us ++ sign ∷ vs) (sign ∷ vs) only other colon is on) vs (sign, refl, equals) in
    read.2 ∙ ap (λ (v : Expr). leaf.Note target note (Some v)) (one_value vs value read.0 valued read.1)
one_simple _ _ (simple.done ts e spelled) other also =
    behind_done e [] other (behind_it ts [] e other spelled tt (subst (λ (us : List Token). SpellsSimple us other) (sym (append-nil ts)) also)) refl
