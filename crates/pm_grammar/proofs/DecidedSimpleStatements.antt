-- Whether tokens spell a simple statement.
use Rattle.std.proofs.Common.{◌≡◌, ◌++◌, ℕ, Bool, true, false, IsTrue, All, List, [], ◌∷◌, codes, inl, inr, refl}
use Rattle.std.specs.Prelude.{Some, None, is_some}
use Rattle.std.proofs.lemmas.Bool.{false≢true}
use Rattle.std.proofs.lemmas.List.Elements.{All-cons, All-head, All-nil, All-tail}
use Rattle.pm_syn.specs.declared.statement.Stmt.{Stmt}
use Rattle.pm_syn.specs.declared.statement.Stmt as leaf
use Rattle.pm_syn.specs.declared.token.Token.{Token}
use Rattle.pm_syn.specs.declared.token.TokenKind.{TokenKind}
use Rattle.pm_syn.specs.declared.token.TokenKind.TheVariants as kind
use Rattle.pm_grammar.specs.Tokens.{is_symbol, is_word}
use Rattle.pm_grammar.specs.Statements.{AreStrings, SpellsSimple, assignment_of}
use Rattle.pm_grammar.specs.declared.level.Level.TheVariants as level
use Rattle.pm_grammar.proofs.Decisions.{Decided, Decision, Found, IsEmpty, Next, Split, after, both_decided, decide_empty, decided_same, in_two, or_else, test_decides}
use Rattle.pm_grammar.proofs.DecidedExpressions.{AnyExpression, decide_fewer, has_value, value_of}

-- ---- strings

abbrev is_string_kind : TokenKind → Bool
is_string_kind kind.Str = true
is_string_kind kind.Op = false
is_string_kind kind.Name = false
is_string_kind (kind.Int value) = false

abbrev is_string : Token → Bool
is_string token = is_string_kind token.kind

string_of : (k : TokenKind) → IsTrue (is_string_kind k) → k ≡ kind.Str
string_of kind.Str is = refl
string_of kind.Op is = absurd (false≢true is)
string_of kind.Name is = absurd (false≢true is)
string_of (kind.Int value) is = absurd (false≢true is)

string_kind : (k : TokenKind) → k ≡ kind.Str → IsTrue (is_string_kind k)
string_kind k is = rw is refl

decide_string : (token : Token) → Decision (token.kind ≡ kind.Str)
decide_string token = decided_same (string_of token.kind) (string_kind token.kind) (test_decides (is_string token))

-- the token is a string
abbrev IsString : Token → Type 0
IsString token = token.kind ≡ kind.Str

decide_all_strings : (tokens : List Token) → Decision (All IsString tokens)
decide_all_strings [] = inl (All-nil IsString)
decide_all_strings (token ∷ tokens) =
    decided_same (λ both. All-cons IsString token tokens both.0 both.1) (λ all. (All-head IsString token tokens all, All-tail IsString token tokens all))
    (both_decided (IsString token) (All IsString tokens) (decide_string token) (decide_all_strings tokens))

decide_strings : (n : ℕ) → Decided n AreStrings
decide_strings n [] below = inr (λ none. none)
decide_strings n (token ∷ tokens) below = both_decided (IsString token) (All IsString tokens) (decide_string token) (decide_all_strings tokens)

-- ---- simple statements

-- an assignment
abbrev is_assignment : Token → Bool
is_assignment token = is_some (assignment_of token)

-- what follows the expression of an `assert` that says something
abbrev Saying : List Token → Type 0
Saying = Split AnyExpression (Next (is_symbol (codes ",")) AreStrings)

abbrev Lambda : List Token → Type 0
Lambda = Next (is_word (codes "lambda")) (Next (is_symbol (codes ":")) AnyExpression)

abbrev Valued : List Token → Type 0
Valued = Split AnyExpression (Next (is_symbol (codes "=")) AnyExpression)

-- the forms of simple statements
abbrev Pass : List Token → Type 0
Pass = Next (is_word (codes "pass")) IsEmpty

abbrev Returned : List Token → Type 0
Returned = Next (is_word (codes "return")) AnyExpression

abbrev Asserted : List Token → Type 0
Asserted = Next (is_word (codes "assert")) AnyExpression

abbrev AssertedSaying : List Token → Type 0
AssertedSaying = Next (is_word (codes "assert")) Saying

abbrev Assigned : List Token → Type 0
Assigned = Split AnyExpression (Next is_assignment AnyExpression)

abbrev Joined : List Token → Type 0
Joined = Split AnyExpression (Next (is_symbol (codes "//=")) Lambda)

abbrev Noted : List Token → Type 0
Noted = Split AnyExpression (Next (is_symbol (codes ":")) AnyExpression)

abbrev NotedValue : List Token → Type 0
NotedValue = Split AnyExpression (Next (is_symbol (codes ":")) Valued)

-- the tokens are of none of these forms
record IsNoSimple (tokens : List Token) : Type 0 where
  passed : Pass tokens → ⊥
  returned : Returned tokens → ⊥
  asserted : Asserted tokens → ⊥
  asserted_saying : AssertedSaying tokens → ⊥
  doc : AreStrings tokens → ⊥
  assigned : Assigned tokens → ⊥
  joined : Joined tokens → ⊥
  noted : Noted tokens → ⊥
  noted_value : NotedValue tokens → ⊥
  done : AnyExpression tokens → ⊥

no_simple : (tokens : List Token) (s : Stmt) → SpellsSimple tokens s → IsNoSimple tokens → ⊥
no_simple _ _ (SpellsSimple.passed word is) none = none.passed (Next.next word [] is IsEmpty.empty)
no_simple _ _ (SpellsSimple.returned word ts e is spelled) none = none.returned (Next.next word ts is (e, spelled))
no_simple _ _ (SpellsSimple.asserted word ts e is spelled) none = none.asserted (Next.next word ts is (e, spelled))
no_simple _ _ (SpellsSimple.asserted_saying word comma ts strings e is spelled comma_is are) none =
    none.asserted_saying (Next.next word (ts ++ comma ∷ strings) is (Split.split ts (comma ∷ strings) (e, spelled) (Next.next comma strings comma_is are)))
no_simple _ _ (SpellsSimple.doc strings are) none = none.doc are
no_simple _ _ (SpellsSimple.assigned sign ts us op target value target_is op_is value_is) none =
    none.assigned (Split.split ts (sign ∷ us) (target, target_is) (Next.next sign us (has_value (assignment_of sign) op op_is) (value, value_is)))
no_simple _ _ (SpellsSimple.joined sign word colon ts us target value target_is sign_is word_is colon_is value_is) none =
    none.joined (Split.split ts (sign ∷ word ∷ colon ∷ us) (target, target_is) (Next.next sign (word ∷ colon ∷ us) sign_is (Next.next word (colon ∷ us) word_is (Next.next colon us colon_is (value, value_is)))))
no_simple _ _ (SpellsSimple.noted colon ts us target note target_is colon_is note_is) none =
    none.noted (Split.split ts (colon ∷ us) (target, target_is) (Next.next colon us colon_is (note, note_is)))
no_simple _ _ (SpellsSimple.noted_value colon sign ts us vs target note value target_is colon_is note_is sign_is value_is) none =
    none.noted_value (Split.split ts (colon ∷ (us ++ sign ∷ vs)) (target, target_is) (Next.next colon (us ++ sign ∷ vs) colon_is (Split.split us (sign ∷ vs) (note, note_is) (Next.next sign vs sign_is (value, value_is)))))
no_simple _ _ (SpellsSimple.done ts e spelled) none = none.done (e, spelled)

passed : (tokens : List Token) → Pass tokens → Found SpellsSimple tokens
passed _ (Next.next word _ is IsEmpty.empty) = (leaf.Pass, SpellsSimple.passed word is)

returned : (tokens : List Token) → Returned tokens → Found SpellsSimple tokens
returned _ (Next.next word ts is e) = (leaf.Return e.0, SpellsSimple.returned word ts e.0 is e.1)

asserted : (tokens : List Token) → Asserted tokens → Found SpellsSimple tokens
asserted _ (Next.next word ts is e) = (leaf.Assert e.0, SpellsSimple.asserted word ts e.0 is e.1)

asserted_saying : (tokens : List Token) → AssertedSaying tokens → Found SpellsSimple tokens
asserted_saying _ (Next.next word _ is (Split.split ts _ e (Next.next comma strings comma_is are))) = (leaf.Assert e.0, SpellsSimple.asserted_saying word comma ts strings e.0 is e.1 comma_is are)

assigned : (tokens : List Token) → Assigned tokens → Found SpellsSimple tokens
assigned _ (Split.split ts _ target (Next.next sign us is value)) =
    let op = value_of (assignment_of sign) is in
    (leaf.Assign op.0 target.0 value.0, SpellsSimple.assigned sign ts us op.0 target.0 value.0 target.1 op.1 value.1)

joined : (tokens : List Token) → Joined tokens → Found SpellsSimple tokens
joined _ (Split.split ts _ target (Next.next sign _ is (Next.next word _ word_is (Next.next colon us colon_is value)))) =
    (leaf.JoinLambda target.0 value.0, SpellsSimple.joined sign word colon ts us target.0 value.0 target.1 is word_is colon_is value.1)

noted : (tokens : List Token) → Noted tokens → Found SpellsSimple tokens
noted _ (Split.split ts _ target (Next.next colon us is note)) = (leaf.Note target.0 note.0 None, SpellsSimple.noted colon ts us target.0 note.0 target.1 is note.1)

noted_value : (tokens : List Token) → NotedValue tokens → Found SpellsSimple tokens
noted_value _ (Split.split ts _ target (Next.next colon _ is (Split.split us _ note (Next.next sign vs sign_is value)))) =
    (leaf.Note target.0 note.0 (Some value.0), SpellsSimple.noted_value colon sign ts us vs target.0 note.0 value.0 target.1 is note.1 sign_is value.1)

-- expressions are decided
abbrev pub expressions : (n : ℕ) → Decided n AnyExpression
expressions n = decide_fewer n level.Conditional

decide_pass : (n : ℕ) → Decided n Pass
decide_pass n = after (decide_empty n)

decide_returned : (n : ℕ) → Decided n Returned
decide_returned n = after (expressions n)

decide_asserted : (n : ℕ) → Decided n Asserted
decide_asserted n = after (expressions n)

decide_saying : (n : ℕ) → Decided n AssertedSaying
decide_saying n = after (in_two (expressions n) (after (decide_strings n)))

decide_assigned : (n : ℕ) → Decided n Assigned
decide_assigned n = in_two (expressions n) (after (expressions n))

decide_joined : (n : ℕ) → Decided n Joined
decide_joined n = in_two (expressions n) (after (after (after (expressions n))))

decide_noted : (n : ℕ) → Decided n Noted
decide_noted n = in_two (expressions n) (after (expressions n))

decide_noted_value : (n : ℕ) → Decided n NotedValue
decide_noted_value n = in_two (expressions n) (after (in_two (expressions n) (after (expressions n))))

pub decide_simple : (n : ℕ) → Decided n (Found SpellsSimple)
decide_simple n tokens below =
    or_else (decide_pass n tokens below) (passed tokens) (λ no_pass.
    or_else (decide_returned n tokens below) (returned tokens) (λ no_return.
    or_else (decide_asserted n tokens below) (asserted tokens) (λ no_assert.
    or_else (decide_saying n tokens below) (asserted_saying tokens) (λ no_saying.
    or_else (decide_strings n tokens below) (λ are. (leaf.Doc, SpellsSimple.doc tokens are)) (λ no_doc.
    or_else (decide_assigned n tokens below) (assigned tokens) (λ no_assigned.
    or_else (decide_joined n tokens below) (joined tokens) (λ no_joined.
    or_else (decide_noted n tokens below) (noted tokens) (λ no_noted.
    or_else (decide_noted_value n tokens below) (noted_value tokens) (λ no_noted_value.
    or_else (expressions n tokens below) (λ e. (leaf.Do e.0, SpellsSimple.done tokens e.0 e.1)) (λ no_expression.
    let none : IsNoSimple tokens = record { passed = no_pass; returned = no_return; asserted = no_assert; asserted_saying = no_saying; doc = no_doc; assigned = no_assigned; joined = no_joined; noted = no_noted; noted_value = no_noted_value; done = no_expression } in
    inr (λ found. no_simple tokens found.0 found.1 none)))))))))))
