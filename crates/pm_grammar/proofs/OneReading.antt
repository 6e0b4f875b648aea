-- That what was spelled is the only reading of its tokens, if this holds of its parts.
use Rattle.std.proofs.Common.{◌≡◌, ◌++◌, ◌∙◌, Bool, false, true, if◌then◌else◌, IsTrue, List, [], ◌∷◌, codes, Option, Some, None, append_assoc, refl, sym, ap, subst, arith}
use Rattle.std.specs.Prelude.{◌&&◌, is_some}
use Rattle.std.specs.Str.{bytes_eq}
use Rattle.std.proofs.lemmas.Bool.{both_ways, false≢true, or_left, or_parts, or_right}
use Rattle.pm_syn.specs.declared.expression.Arg.{Arg}
use Rattle.pm_syn.specs.declared.expression.BinaryOp.{BinaryOp}
use Rattle.pm_syn.specs.declared.expression.BinaryOp.TheVariants as binary
use Rattle.pm_syn.specs.declared.expression.Expr.{Expr}
use Rattle.pm_syn.specs.declared.expression.Expr.TheViews as expr
use Rattle.pm_syn.specs.declared.expression.UnaryOp.{UnaryOp}
use Rattle.pm_syn.specs.declared.expression.UnaryOp.TheVariants as unary
use Rattle.pm_syn.specs.declared.token.Token.{Token}
use Rattle.pm_grammar.specs.Brackets.{SpellsLeaf, SpellsList}
use Rattle.pm_grammar.specs.Expressions.{Spells, SpellsArguments}
use Rattle.pm_grammar.specs.Prefixes.{IsNotFirst}
use Rattle.pm_grammar.specs.Levels.{groups_left, operator_at, rank, sign_of, tighter}
use Rattle.pm_grammar.specs.Tokens.{is_symbol, is_op, is_word}
use Rattle.pm_grammar.specs.Reading.{Ends, IsOnly, IsOnlyBeginning, IsOnlyBefore}
use Rattle.pm_grammar.specs.Suffixes.{SpellsSuffix, begins_suffix}
use Rattle.pm_grammar.specs.declared.level.Level.{Level}
use Rattle.pm_grammar.specs.declared.level.Level.TheVariants as level
use Rattle.pm_grammar.proofs.Atoms.{atom_of_group, atom_of_list, only_group, only_leaf}
use Rattle.pm_grammar.proofs.ExpressionStarts.{starts}
use Rattle.pm_grammar.proofs.OneSymbol.{ends_bracket, ends_colon, ends_else, ends_if, ends_parenthesis, power_ends_base}
use Rattle.pm_grammar.proofs.OperandStarts.{begun_tight, sign_starts}
use Rattle.pm_grammar.proofs.TokenTexts.{of_mark}
use Rattle.pm_grammar.proofs.Conditionals.{only_conditional, only_value}
use Rattle.pm_grammar.proofs.LevelRanks.{groups_below, tighter_within}
use Rattle.pm_grammar.proofs.OneLevel.{GoesOnAt, ends_operand, goes_at_first, goes_at_next, only_at, only_compared, only_negation, only_positive, only_uncompared}
use Rattle.pm_grammar.proofs.OperatorLevels.{ends_at, ends_tighter}
use Rattle.pm_grammar.proofs.Powers.{ends_unary, only_base, only_power, only_signed, only_unsigned}
use Rattle.pm_grammar.proofs.SuffixChains.{GoesOnSuffixes, ends_atom, goes_atom, goes_suffix, only_postfix}
use Rattle.pm_grammar.proofs.SuffixKinds.{only_attribute, only_call, only_index, only_slice, only_suffix_attribute, only_suffix_call, only_suffix_place}

-- each reading of the tokens is this one, or continues from it where the level groups to the left or has suffixes
pub record IsOnlyReading (l : Level) (ts : List Token) (e : Expr) (rest : List Token) : Type 0 where
  pub only : Ends l rest → IsOnly l (ts ++ rest) (Some (e, rest))
  pub goes : IsTrue (groups_left l) → Ends (tighter l) rest → GoesOnAt l (ts ++ rest) e rest
  pub suffixes : rank l ≡ 13 → GoesOnSuffixes (ts ++ rest) e rest

-- so it is, whatever comes after
abbrev pub IsOne : Level → List Token → Expr → Type 0
IsOne l ts e = (rest : List Token) → IsOnlyReading l ts e rest

-- the same tokens, grouped otherwise
moved : (l : Level) (all other : List Token) (read : Option (Expr × List Token)) → other ≡ all → IsOnly l all read → IsOnly l other read
moved l all other read same only = subst (λ (xs : List Token). IsOnly l xs read) (sym same) only

goes_moved : (l : Level) (all other : List Token) (e : Expr) (rest : List Token) → other ≡ all → GoesOnAt l all e rest → GoesOnAt l other e rest
goes_moved l all other e rest same goes = subst (λ (xs : List Token). GoesOnAt l xs e rest) (sym same) goes

-- a level that neither groups to the left nor has suffixes
plainly : (l : Level) (ts : List Token) (e : Expr) → groups_left l ≡ false → (rank l ≡ 13 → ⊥) → ((rest : List Token) → Ends l rest → IsOnly l (ts ++ rest) (Some (e, rest))) → IsOne l ts e
plainly l ts e ungrouped unsuffixed only rest = record {
  only = only rest;
  goes = λ groups. absurd (both_ways (groups_left l) ungrouped groups);
  suffixes = λ at. absurd (unsuffixed at);
}

-- ---- an operand alone

one_left : (l : Level) (ts : List Token) (e : Expr) → IsTrue (groups_left l) → IsOne (tighter l) ts e → IsOne l ts e
one_left l ts e groups one rest =
    let below = groups_below l groups in
    let goes = λ (ends : Ends (tighter l) rest). goes_at_first l (ts ++ rest) rest e groups ((one rest).only ends) in
    record {
      only = λ ends. only_at l (ts ++ rest) rest e (goes (ends_tighter l (tighter l) rest (tighter_within l) ends)) ends;
      goes = λ also ends. goes ends;
      suffixes = λ at. absurd (omega (arith, below, at));
    }

no_if : (rest : List Token) → Ends level.Conditional rest → IsNotFirst (is_word (codes "if")) rest
no_if [] ends = tt
no_if (t ∷ rest) ends = (or_parts _ _ ends).0

is_no_power : (test : Bool) → is_some (if test then Some binary.Pow else None) ≡ false → test ≡ false
is_no_power true is = absurd (false≢true (sym is))
is_no_power false is = refl

no_power : (rest : List Token) → Ends level.Power rest → IsNotFirst (is_symbol (codes "**")) rest
no_power [] ends = tt
no_power (t ∷ rest) ends = is_no_power (is_symbol (codes "**") t) (or_parts _ _ ends).0

no_suffix : (rest : List Token) → Ends level.Postfix rest → begins_suffix rest ≡ false
no_suffix [] ends = refl
no_suffix (t ∷ rest) ends = ends

is_none : (o : Option UnaryOp) → ((op : UnaryOp) → o ≡ Some op → ⊥) → o ≡ None
is_none None never = refl
is_none (Some op) never = absurd (never op refl)

unsigned : (ts rest : List Token) (e : Expr) → Spells level.Power ts e → IsOnly level.Power (ts ++ rest) (Some (e, rest)) → IsOnly level.Unary (ts ++ rest) (Some (e, rest))
unsigned ts rest e spelled only =
    let begun = begun_tight level.Power ts e (omega arith) spelled in
    let sign : sign_of begun.0 ≡ None = is_none (sign_of begun.0) (λ op is. both_ways (starts begun.0) (sign_starts begun.0 op is) begun.3) in
    only_unsigned (ts ++ rest) (begun.1 ++ rest) begun.0 (Some (e, rest)) (ap (λ (xs : List Token). xs ++ rest) begun.2) sign only

pub one_tight : (l : Level) (ts : List Token) (e : Expr) → Spells (tighter l) ts e → IsOne (tighter l) ts e → IsOne l ts e
one_tight level.Conditional ts e spelled one = plainly level.Conditional ts e refl (λ at. omega (arith, at)) (λ rest ends.
    only_value (ts ++ rest) rest e ((one rest).only (ends_tighter level.Conditional level.Disjunction rest (omega arith) ends)) (no_if rest ends))
one_tight level.Disjunction ts e spelled one = one_left level.Disjunction ts e refl one
one_tight level.Conjunction ts e spelled one = one_left level.Conjunction ts e refl one
one_tight level.Negation ts e spelled one = plainly level.Negation ts e refl (λ at. omega (arith, at)) (λ rest ends.
    only_positive ts rest e spelled ((one rest).only (ends_tighter level.Negation level.Comparison rest (omega arith) ends)))
one_tight level.Comparison ts e spelled one = plainly level.Comparison ts e refl (λ at. omega (arith, at)) (λ rest ends.
    only_uncompared (ts ++ rest) rest e ((one rest).only (ends_tighter level.Comparison level.BitOr rest (omega arith) ends)) ends)
one_tight level.BitOr ts e spelled one = one_left level.BitOr ts e refl one
one_tight level.BitXor ts e spelled one = one_left level.BitXor ts e refl one
one_tight level.BitAnd ts e spelled one = one_left level.BitAnd ts e refl one
one_tight level.Shift ts e spelled one = one_left level.Shift ts e refl one
one_tight level.Sum ts e spelled one = one_left level.Sum ts e refl one
one_tight level.Product ts e spelled one = one_left level.Product ts e refl one
one_tight level.Unary ts e spelled one = plainly level.Unary ts e refl (λ at. omega (arith, at)) (λ rest ends.
    unsigned ts rest e spelled ((one rest).only (ends_tighter level.Unary level.Power rest (omega arith) ends)))
one_tight level.Power ts e spelled one = plainly level.Power ts e refl (λ at. omega (arith, at)) (λ rest ends.
    only_base (ts ++ rest) rest e ((one rest).only (ends_tighter level.Power level.Postfix rest (omega arith) ends)) (no_power rest ends))
one_tight level.Postfix ts e spelled one = λ rest.
    let goes = goes_atom (ts ++ rest) rest e ((one rest).only (ends_atom rest)) in
    record {
      only = λ ends. only_postfix (ts ++ rest) rest e (no_suffix rest ends) goes;
      goes = λ groups. absurd (false≢true groups);
      suffixes = λ at. goes;
    }
one_tight level.Atom ts e spelled one = one

-- ---- operations

pub one_conditional : (ts us vs : List Token) (if_word else_word : Token) (value condition other : Expr) → IsTrue (is_word (codes "if") if_word) → IsTrue (is_word (codes "else") else_word)
    → IsOne level.Disjunction ts value → IsOne level.Disjunction us condition → IsOne level.Conditional vs other
    → IsOne level.Conditional (ts ++ if_word ∷ (us ++ else_word ∷ vs)) (expr.Cond value condition other)
one_conditional ts us vs if_word else_word value condition other is_if is_else one two three =
    plainly level.Conditional (ts ++ if_word ∷ (us ++ else_word ∷ vs)) (expr.Cond value condition other) refl (λ at. omega (arith, at)) (λ rest ends.
    let last = vs ++ rest in
    let behind = us ++ else_word ∷ last in
    let grouped : (ts ++ if_word ∷ (us ++ else_word ∷ vs)) ++ rest ≡ ts ++ if_word ∷ behind =
    append_assoc ts (if_word ∷ (us ++ else_word ∷ vs)) rest ∙ ap (λ (xs : List Token). ts ++ if_word ∷ xs) (append_assoc us (else_word ∷ vs) rest) in
    moved level.Conditional (ts ++ if_word ∷ behind) ((ts ++ if_word ∷ (us ++ else_word ∷ vs)) ++ rest) (Some (expr.Cond value condition other, rest)) grouped
    (only_conditional (ts ++ if_word ∷ behind) behind last rest value condition other
    (if_word ∷ behind, (one (if_word ∷ behind)).only (ends_if if_word behind is_if), (if_word, refl, is_if))
    (else_word ∷ last, (two (else_word ∷ last)).only (ends_else else_word last is_else), (else_word, refl, is_else))
    ((three rest).only ends)))

pub one_grouped : (l : Level) (ts us : List Token) (sign : Token) (op : BinaryOp) (left right : Expr) → IsTrue (groups_left l) → operator_at l sign ≡ Some op
    → IsOne l ts left → IsOne (tighter l) us right → IsOne l (ts ++ sign ∷ us) (expr.Binary op left right)
one_grouped l ts us sign op left right groups is one two rest =
    let below = groups_below l groups in
    let tail = us ++ rest in
    let goes = λ (ends : Ends (tighter l) rest). goes_moved l (ts ++ sign ∷ tail) ((ts ++ sign ∷ us) ++ rest) (expr.Binary op left right) rest (append_assoc ts (sign ∷ us) rest)
    (goes_at_next l (ts ++ sign ∷ tail) tail rest left right sign op groups is ((one (sign ∷ tail)).goes groups (ends_operand l sign op tail groups is)) ((two rest).only ends)) in
    record {
      only = λ ends. only_at l ((ts ++ sign ∷ us) ++ rest) rest (expr.Binary op left right) (goes (ends_tighter l (tighter l) rest (tighter_within l) ends)) ends;
      goes = λ also ends. goes ends;
      suffixes = λ at. absurd (omega (arith, below, at));
    }

pub one_negation : (ts : List Token) (word : Token) (e : Expr) → IsTrue (is_word (codes "not") word) → IsOne level.Negation ts e → IsOne level.Negation (word ∷ ts) (expr.Unary unary.Not e)
one_negation ts word e is one = plainly level.Negation (word ∷ ts) (expr.Unary unary.Not e) refl (λ at. omega (arith, at)) (λ rest ends.
    only_negation (ts ++ rest) rest word e is ((one rest).only ends))

pub one_comparison : (ts us : List Token) (sign : Token) (op : BinaryOp) (left right : Expr) → operator_at level.Comparison sign ≡ Some op
    → IsOne level.BitOr ts left → IsOne level.BitOr us right → IsOne level.Comparison (ts ++ sign ∷ us) (expr.Binary op left right)
one_comparison ts us sign op left right is one two = plainly level.Comparison (ts ++ sign ∷ us) (expr.Binary op left right) refl (λ at. omega (arith, at)) (λ rest ends.
    moved level.Comparison (ts ++ sign ∷ (us ++ rest)) ((ts ++ sign ∷ us) ++ rest) (Some (expr.Binary op left right, rest)) (append_assoc ts (sign ∷ us) rest)
    (only_compared (ts ++ sign ∷ (us ++ rest)) (us ++ rest) rest left right sign op is
    ((one (sign ∷ (us ++ rest))).only (ends_at level.Comparison level.BitOr sign op is (omega arith)))
    ((two rest).only (ends_tighter level.Comparison level.BitOr rest (omega arith) ends))))

pub one_signed : (ts : List Token) (sign : Token) (op : UnaryOp) (e : Expr) → sign_of sign ≡ Some op → IsOne level.Unary ts e → IsOne level.Unary (sign ∷ ts) (expr.Unary op e)
one_signed ts sign op e is one = plainly level.Unary (sign ∷ ts) (expr.Unary op e) refl (λ at. omega (arith, at)) (λ rest ends.
    only_signed (sign ∷ (ts ++ rest)) (ts ++ rest) rest sign op e refl is ((one rest).only ends))

power_operator : (test : Bool) (op : BinaryOp) → (if test then Some binary.Pow else None) ≡ Some op → (binary.Pow ≡ op) × (test ≡ true)
power_operator true op is = (cc, refl)
power_operator false op is = cc

pub one_power : (ts us : List Token) (sign : Token) (op : BinaryOp) (base exponent : Expr) → operator_at level.Power sign ≡ Some op
    → IsOne level.Postfix ts base → IsOne level.Unary us exponent → IsOne level.Power (ts ++ sign ∷ us) (expr.Binary op base exponent)
one_power ts us sign op base exponent is one two = plainly level.Power (ts ++ sign ∷ us) (expr.Binary op base exponent) refl (λ at. omega (arith, at)) (λ rest ends.
    let there = power_operator (is_symbol (codes "**") sign) op is in
    moved level.Power (ts ++ sign ∷ (us ++ rest)) ((ts ++ sign ∷ us) ++ rest) (Some (expr.Binary op base exponent, rest)) (append_assoc ts (sign ∷ us) rest)
    (subst (λ (o : BinaryOp). IsOnly level.Power (ts ++ sign ∷ (us ++ rest)) (Some (expr.Binary o base exponent, rest))) there.0
    (only_power (ts ++ sign ∷ (us ++ rest)) (sign ∷ (us ++ rest)) (us ++ rest) rest base exponent
    ((one (sign ∷ (us ++ rest))).only (power_ends_base sign op is)) (sign, refl, there.1)
    ((two rest).only (ends_unary rest ends)))))

-- ---- suffixes

-- each suffix there is this one
abbrev IsOneSuffix : Expr → List Token → Expr → Type 0
IsOneSuffix a vs b = (rest : List Token) → (begins_suffix (vs ++ rest) ≡ true) × IsOnlyBeginning (SpellsSuffix a) (vs ++ rest) (Some (b, rest))

one_suffix : (ts vs : List Token) (a b : Expr) → IsOne level.Postfix ts a → IsOneSuffix a vs b → IsOne level.Postfix (ts ++ vs) b
one_suffix ts vs a b one suffix rest =
    let there = suffix rest in
    let goes : GoesOnSuffixes ((ts ++ vs) ++ rest) b rest = subst (λ (xs : List Token). GoesOnSuffixes xs b rest) (sym (append_assoc ts vs rest))
    (goes_suffix (ts ++ (vs ++ rest)) (vs ++ rest) rest a b there.0 ((one (vs ++ rest)).suffixes refl) there.1) in
    record {
      only = λ ends. only_postfix ((ts ++ vs) ++ rest) rest b (no_suffix rest ends) goes;
      goes = λ groups. absurd (false≢true groups);
      suffixes = λ at. goes;
    }

pub one_attribute : (ts : List Token) (dot name : Token) (e : Expr) → IsTrue (is_symbol (codes ".") dot) → IsOne level.Postfix ts e → IsOne level.Postfix (ts ++ dot ∷ name ∷ []) (expr.Attr e name.text)
one_attribute ts dot name e is one = one_suffix ts (dot ∷ name ∷ []) e (expr.Attr e name.text) one (λ rest. (
  or_left _ _ (or_left _ _ is),
  only_suffix_attribute (dot ∷ name ∷ rest) (name ∷ rest) e (Some (expr.Attr e name.text, rest)) (dot, refl, is) (only_attribute (name ∷ rest) rest e name name.text refl refl),
))

suffix_moved : (e longer : Expr) (all other rest : List Token) → other ≡ all → IsOnlyBeginning (SpellsSuffix e) all (Some (longer, rest)) → IsOnlyBeginning (SpellsSuffix e) other (Some (longer, rest))
suffix_moved e longer all other rest same only = subst (λ (xs : List Token). IsOnlyBeginning (SpellsSuffix e) xs (Some (longer, rest))) (sym same) only

pub one_call : (ts us : List Token) (opening closing : Token) (e : Expr) (arguments : List Arg) → IsTrue (is_symbol (codes "(") opening) → IsTrue (is_symbol (codes ")") closing)
    → IsOne level.Postfix ts e → ((rest : List Token) → IsOnlyBefore SpellsArguments (codes ")") (us ++ closing ∷ rest) (Some (arguments, closing ∷ rest)))
    → IsOne level.Postfix (ts ++ opening ∷ (us ++ closing ∷ [])) (expr.Call e arguments)
one_call ts us opening closing e arguments is_open is_close one two = one_suffix ts (opening ∷ (us ++ closing ∷ [])) e (expr.Call e arguments) one (λ rest. (
  or_left _ _ (or_right _ _ is_open),
  suffix_moved e (expr.Call e arguments) (opening ∷ (us ++ closing ∷ rest)) (opening ∷ ((us ++ closing ∷ []) ++ rest)) rest (ap (λ (xs : List Token). opening ∷ xs) (append_assoc us (closing ∷ []) rest))
      (only_suffix_call (opening ∷ (us ++ closing ∷ rest)) (us ++ closing ∷ rest) e (Some (expr.Call e arguments, rest)) (opening, refl, is_open)
      (only_call (us ++ closing ∷ rest) (closing ∷ rest) rest e arguments (two rest) (closing, refl, is_close))),
))

pub one_index : (ts us : List Token) (opening closing : Token) (e place : Expr) → IsTrue (is_symbol (codes "[") opening) → IsTrue (is_symbol (codes "]") closing)
    → IsOne level.Postfix ts e → IsOne level.Conditional us place → IsOne level.Postfix (ts ++ opening ∷ (us ++ closing ∷ [])) (expr.Index e place)
one_index ts us opening closing e place is_open is_close one two = one_suffix ts (opening ∷ (us ++ closing ∷ [])) e (expr.Index e place) one (λ rest. (
  or_right _ _ is_open,
  suffix_moved e (expr.Index e place) (opening ∷ (us ++ closing ∷ rest)) (opening ∷ ((us ++ closing ∷ []) ++ rest)) rest (ap (λ (xs : List Token). opening ∷ xs) (append_assoc us (closing ∷ []) rest))
      (only_suffix_place (opening ∷ (us ++ closing ∷ rest)) (us ++ closing ∷ rest) e (Some (expr.Index e place, rest)) (opening, refl, is_open)
      (only_index (us ++ closing ∷ rest) (closing ∷ rest) rest e place ((two (closing ∷ rest)).only (ends_bracket closing is_close)) (closing, refl, is_close))),
))

pub one_slice : (ts us vs : List Token) (opening colon closing : Token) (e low high : Expr) → IsTrue (is_symbol (codes "[") opening) → IsTrue (is_symbol (codes ":") colon) → IsTrue (is_symbol (codes "]") closing)
    → IsOne level.Postfix ts e → IsOne level.Conditional us low → IsOne level.Conditional vs high
    → IsOne level.Postfix (ts ++ opening ∷ (us ++ colon ∷ (vs ++ closing ∷ []))) (expr.Slice e low high)
one_slice ts us vs opening colon closing e low high is_open is_colon is_close one two three = one_suffix ts (opening ∷ (us ++ colon ∷ (vs ++ closing ∷ []))) e (expr.Slice e low high) one (λ rest.
    let tail = vs ++ closing ∷ rest in
    let all = us ++ colon ∷ tail in
    let grouped : opening ∷ ((us ++ colon ∷ (vs ++ closing ∷ [])) ++ rest) ≡ opening ∷ all =
    ap (λ (xs : List Token). opening ∷ xs) (append_assoc us (colon ∷ (vs ++ closing ∷ [])) rest ∙ ap (λ (xs : List Token). us ++ colon ∷ xs) (append_assoc vs (closing ∷ []) rest)) in
    let no_closing : is_symbol (codes "]") colon ≡ false = of_mark (codes ":") colon (is_symbol (codes "]")) false is_colon refl in (
      or_right _ _ is_open,
      suffix_moved e (expr.Slice e low high) (opening ∷ all) (opening ∷ ((us ++ colon ∷ (vs ++ closing ∷ [])) ++ rest)) rest grouped
          (only_suffix_place (opening ∷ all) all e (Some (expr.Slice e low high, rest)) (opening, refl, is_open)
          (only_slice all (colon ∷ tail) tail (closing ∷ rest) rest e low high ((two (colon ∷ tail)).only (ends_colon colon is_colon)) no_closing (colon, refl, is_colon)
          ((three (closing ∷ rest)).only (ends_bracket closing is_close)) (closing, refl, is_close))),
    ))

-- ---- atoms

pub one_leaf : (token : Token) (e : Expr) → is_op token.kind ≡ false → ((other : Expr) → SpellsLeaf token other → other ≡ e) → IsOne level.Atom (token ∷ []) e
one_leaf token e no_mark only = plainly level.Atom (token ∷ []) e refl (λ at. omega (arith, at)) (λ rest ends.
    only_leaf (token ∷ rest) rest token e refl (ap (λ (op : Bool). op && bytes_eq token.text (codes "(")) no_mark) (ap (λ (op : Bool). op && bytes_eq token.text (codes "[")) no_mark) only)

pub one_group : (ts : List Token) (opening closing : Token) (e : Expr) → IsTrue (is_symbol (codes "(") opening) → IsTrue (is_symbol (codes ")") closing)
    → IsOne level.Conditional ts e → IsOne level.Atom (opening ∷ (ts ++ closing ∷ [])) e
one_group ts opening closing e is_open is_close one = plainly level.Atom (opening ∷ (ts ++ closing ∷ [])) e refl (λ at. omega (arith, at)) (λ rest ends.
    moved level.Atom (opening ∷ (ts ++ closing ∷ rest)) (opening ∷ ((ts ++ closing ∷ []) ++ rest)) (Some (e, rest)) (ap (λ (xs : List Token). opening ∷ xs) (append_assoc ts (closing ∷ []) rest))
    (atom_of_group (opening ∷ (ts ++ closing ∷ rest)) (ts ++ closing ∷ rest) (Some (e, rest)) (opening, refl, is_open)
    (only_group (ts ++ closing ∷ rest) (closing ∷ rest) rest e ((one (closing ∷ rest)).only (ends_parenthesis closing is_close)) (closing, refl, is_close))))

pub one_list : (ts : List Token) (opening : Token) (e : Expr) → IsTrue (is_symbol (codes "[") opening) → ((rest : List Token) → IsOnlyBeginning SpellsList (ts ++ rest) (Some (e, rest)))
    → IsOne level.Atom (opening ∷ ts) e
one_list ts opening e is_open one = plainly level.Atom (opening ∷ ts) e refl (λ at. omega (arith, at)) (λ rest ends.
    atom_of_list (opening ∷ (ts ++ rest)) (ts ++ rest) (Some (e, rest)) (opening, refl, is_open) (one rest))
