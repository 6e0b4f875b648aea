-- With what an argument begins: a name and `=` begin no expression.
use Rattle.std.proofs.Common.{◌≡◌, ◌∷◌, ◌++◌, ℕ, false, IsTrue, List, [], codes, refl, sym, ap, subst, ◌∙◌}
use Rattle.std.specs.Prelude.{Some}
use Rattle.std.proofs.lemmas.Bool.{false≢true}
use Rattle.std.specs.Str.{bytes_eq}
use Rattle.pm_syn.specs.declared.expression.Arg.{Arg}
use Rattle.pm_syn.specs.declared.expression.BinaryOp.{BinaryOp}
use Rattle.pm_syn.specs.declared.expression.Expr.{Expr}
use Rattle.pm_syn.specs.declared.token.Token.{Token}
use Rattle.pm_grammar.specs.Expressions.{Spells, SpellsArgument}
use Rattle.pm_grammar.specs.Levels.{operator_at, tighter}
use Rattle.pm_grammar.specs.Tokens.{is_symbol, is_name, is_word}
use Rattle.pm_grammar.specs.declared.level.Level.{Level}
use Rattle.pm_grammar.specs.declared.level.Level.TheVariants as level
use Rattle.pm_grammar.proofs.ExpressionStarts.{opens, opens_name, starts, starts_name}
use Rattle.pm_grammar.proofs.OneSymbol.{mark_no_name, no_name_of_word, no_operator, not_is_keyword, other_mark, word_no_mark}
use Rattle.pm_grammar.proofs.OperandStarts.{IsBegun, begun_expression, sign_starts}

-- the first token of an argument
pub argument_begun : (ts : List Token) (a : Arg) → SpellsArgument ts a → IsBegun opens ts
argument_begun _ _ (SpellsArgument.plain ts e s) = begun_expression level.Conditional ts e s
argument_begun _ _ (SpellsArgument.by_name ts name sign e named mark s) = (name, sign ∷ ts, refl, opens_name name named)

-- a token that isn't `=`
abbrev IsNoEquals : Token → Type 0
IsNoEquals t = IsTrue (is_symbol (codes "=") t) → ⊥

no_equals_mark : (bytes : List ℕ) (t : Token) → bytes_eq bytes (codes "=") ≡ false → IsTrue (is_symbol bytes t) → IsNoEquals t
no_equals_mark bytes t other is equals =
    let no : is_symbol (codes "=") t ≡ false = other_mark bytes (codes "=") t other is in
    cc

no_equals_word : (bytes : List ℕ) (t : Token) → IsTrue (is_word bytes t) → IsNoEquals t
no_equals_word bytes t is equals =
    let no : is_symbol (codes "=") t ≡ false = word_no_mark bytes (codes "=") t is in
    cc

no_equals_operator : (l : Level) (t : Token) (op : BinaryOp) → operator_at l t ≡ Some op → IsNoEquals t
no_equals_operator l t op is equals = let no = no_operator l t equals in cc

-- a name isn't a symbol that begins an expression
no_name_mark : (bytes : List ℕ) (t u : Token) (ts us : List Token) → IsTrue (is_symbol bytes t) → ◌≡◌ {A = List Token} (t ∷ ts) (u ∷ us) → IsTrue (is_name u) → ⊥
no_name_mark bytes t u ts us is same name =
    let no : is_name t ≡ false = mark_no_name bytes t is in
    let one : t ≡ u = cc in
    false≢true (sym no ∙ ap is_name one ∙ name)

-- what comes second after such a prefix
second : (ts ws us : List Token) (sign t u : Token) → IsBegun opens ts → ts ++ sign ∷ ws ≡ t ∷ u ∷ us → IsNoEquals sign
    → ((vs : List Token) → ts ≡ t ∷ u ∷ vs → IsNoEquals u) → IsNoEquals u
second [] ws us sign t u begun same apart inner equals = let e = begun.2 in cc
second (x ∷ []) ws us sign t u begun same apart inner equals =
    let one : sign ≡ u = cc in
    apart (subst (λ (z : Token). IsTrue (is_symbol (codes "=") z)) (sym one) equals)
second (x ∷ y ∷ ts) ws us sign t u begun same apart inner equals = inner ts (cc) equals

-- in an expression that begins with a name, `=` isn't second
pub no_equals : (l : Level) (ts : List Token) (e : Expr) → Spells l ts e → (t u : Token) (us : List Token) → ts ≡ t ∷ u ∷ us → IsTrue (is_name t)
    → IsNoEquals u
no_equals l ts e (Spells.as_tight _ _ _ s) t u us same name = no_equals (tighter l) ts e s t u us same name
no_equals _ _ _ (Spells.conditional ts vs ws if_word else_word value condition other s is t' is' u') t u us same name =
    second ts (vs ++ else_word ∷ ws) us if_word t u (begun_expression level.Disjunction ts value s) same (no_equals_word (codes "if") if_word is)
    (λ zs e. no_equals level.Disjunction ts value s t u zs e name)
no_equals _ _ _ (Spells.grouped_left l ts vs sign op left right groups s is t') t u us same name =
    second ts vs us sign t u (begun_expression l ts left s) same (no_equals_operator l sign op is)
    (λ zs e. no_equals l ts left s t u zs e name)
no_equals _ _ _ (Spells.negation ts not_word e is s) t u us same name = absurd (
    let no = no_name_of_word (codes "not") not_word not_is_keyword is in
    let one : not_word ≡ t = cc in
    false≢true (sym no ∙ ap is_name one ∙ name))
no_equals _ _ _ (Spells.comparison ts vs sign op left right s is t') t u us same name =
    second ts vs us sign t u (begun_expression level.BitOr ts left s) same (no_equals_operator level.Comparison sign op is)
    (λ zs e. no_equals level.BitOr ts left s t u zs e name)
no_equals _ _ _ (Spells.signed ts sign op e is s) t u us same name = absurd (
    let one : sign ≡ t = cc in
    let first = starts_name t name in
    false≢true (sym (sign_starts sign op is) ∙ ap starts one ∙ first))
no_equals _ _ _ (Spells.power ts vs sign op base exponent s is t') t u us same name =
    second ts vs us sign t u (begun_expression level.Postfix ts base s) same (no_equals_operator level.Power sign op is)
    (λ zs e. no_equals level.Postfix ts base s t u zs e name)
no_equals _ _ _ (Spells.attribute ts dot word e s is is') t u us same name =
    second ts (word ∷ []) us dot t u (begun_expression level.Postfix ts e s) same (no_equals_mark (codes ".") dot refl is)
    (λ zs e'. no_equals level.Postfix ts e s t u zs e' name)
no_equals _ _ _ (Spells.call ts vs opening closing e arguments s is t' is') t u us same name =
    second ts (vs ++ closing ∷ []) us opening t u (begun_expression level.Postfix ts e s) same (no_equals_mark (codes "(") opening refl is)
    (λ zs e'. no_equals level.Postfix ts e s t u zs e' name)
no_equals _ _ _ (Spells.index ts vs opening closing e place s is t' is') t u us same name =
    second ts (vs ++ closing ∷ []) us opening t u (begun_expression level.Postfix ts e s) same (no_equals_mark (codes "[") opening refl is)
    (λ zs e'. no_equals level.Postfix ts e s t u zs e' name)
no_equals _ _ _ (Spells.slice ts vs ws opening colon closing e low high s is t' is' u' is'') t u us same name =
    second ts (vs ++ colon ∷ (ws ++ closing ∷ [])) us opening t u (begun_expression level.Postfix ts e s) same (no_equals_mark (codes "[") opening refl is)
    (λ zs e'. no_equals level.Postfix ts e s t u zs e' name)
no_equals _ _ _ (Spells.named word is) t u us same name = absurd (let rest : ◌≡◌ {A = List Token} [] (u ∷ us) = cc in cc)
no_equals _ _ _ (Spells.number literal value is) t u us same name = absurd (let rest : ◌≡◌ {A = List Token} [] (u ∷ us) = cc in cc)
no_equals _ _ _ (Spells.true_word word is) t u us same name = absurd (let rest : ◌≡◌ {A = List Token} [] (u ∷ us) = cc in cc)
no_equals _ _ _ (Spells.false_word word is) t u us same name = absurd (let rest : ◌≡◌ {A = List Token} [] (u ∷ us) = cc in cc)
no_equals _ _ _ (Spells.group ts opening closing e is s is') t u us same name = absurd (no_name_mark (codes "(") opening t (ts ++ closing ∷ []) (u ∷ us) is same name)
no_equals _ _ _ (Spells.items ts opening closing es is s is') t u us same name = absurd (no_name_mark (codes "[") opening t (ts ++ closing ∷ []) (u ∷ us) is same name)
no_equals _ _ _ (Spells.each ts vs opening for_word closing e word bounds is s is' t' is'') t u us same name = absurd (no_name_mark (codes "[") opening t (ts ++ for_word ∷ (vs ++ closing ∷ [])) (u ∷ us) is same name)
