-- Proof that the logical lines of a text are cut from it.
use Rattle.std.proofs.Common.{◌≡◌, ◌<◌, ◌≤◌, ◌+◌, ℕ, Bool, true, false, if◌then◌else◌, List, [], ◌∷◌, ◌++◌, suc, map, length, take, drop, arith, refl, sym, ap, subst, ◌∙◌, append-nil, append_assoc}
use Rattle.std.specs.Prelude.{All, Option, None, Some}
use Rattle.std.specs.List.{AllPairs, between, flat_map}
use Rattle.std.specs.Option.{option_to_list, IfSome}
use Rattle.std.proofs.Math.Seq.{drop-append_seam, take-append_seam}
use Rattle.std.proofs.lemmas.Grind.{flat_map-append}
use Rattle.std.proofs.lemmas.List.{drop-drop, length-append}
use Rattle.std.proofs.lemmas.List.Elements.{All-nil, All-cons, All-push, All-pop, All-map, All-weaker}
use Rattle.std.proofs.lemmas.List.Kept.{AllPairs-cons}
use Rattle.std.proofs.lemmas.List.Quantifiers.{all_pairs_push}
use Rattle.pm_syn.specs.CutLines.{AreCutFrom, IsCutFrom, IsLineOf}
use Rattle.pm_syn.specs.Laws.{LinesAreCutFromTheText}
use Rattle.pm_syn.specs.Lexemes.{HasWidth, Lexeme, Stands}
use Rattle.pm_syn.specs.LogicalLines.{begun_after, begun_line, column_of, continued, drafts_of, ended_after, ended_lines, indentation_of, line_from, token_of}
use Rattle.pm_syn.specs.Positions.{last_line, line_after}
use Rattle.pm_syn.specs.Reading.{Reads, are_closed, brackets_of, bytes_of, line_of}
use Rattle.pm_syn.specs.Tokens.{IsLongestToken}
use Rattle.pm_syn.specs.declared.draft.Draft.{Draft}
use Rattle.pm_syn.specs.declared.lexeme.Sort.{Sort}
use Rattle.pm_syn.specs.declared.lexeme.Sort.TheVariants as sort
use Rattle.pm_syn.specs.declared.token.Line.{Line}
use Rattle.pm_syn.specs.declared.token.Token.{Token}
use Rattle.pm_syn.specs.declared.token.TokenKind.{TokenKind}
use Rattle.pm_syn.proofs.Ascending.{ascending}
use Rattle.pm_syn.proofs.FirstBytes.{token_some}
use Rattle.pm_syn.proofs.BlanksBefore.{IsBlank, blank_token, column_blanks}
use Rattle.pm_syn.proofs.LineFaults.{IsFaultless, all_faultless, first_after-faultless}
use Rattle.pm_syn.proofs.OneReading.{read_nothing, read_one}
use Rattle.pm_syn.proofs.ReadOn.{between_prefix}

-- ---- a token that is read

-- the text is what was read and what is left
pub whole : (text : List ℕ) (before : List Lexeme) (rest : List ℕ) → Reads text before rest → text ≡ bytes_of before ++ rest
whole text [] rest read = sym (read_nothing text rest read)
whole text (lexeme ∷ before) rest read =
    whole text before (lexeme.bytes ++ rest) (read_one text lexeme before rest read).0
    ∙ sym (append_assoc (bytes_of before) lexeme.bytes rest)

-- a token that comes after some bytes is cut from them all
token_cut : (prefix bytes rest : List ℕ) (kind : TokenKind) → IsLongestToken kind bytes rest → HasWidth kind
    → IsCutFrom (prefix ++ (bytes ++ rest)) (record { kind = kind; text = bytes; start = length prefix; end = length prefix + length bytes })
token_cut prefix bytes rest kind longest width =
    let text : List ℕ = prefix ++ (bytes ++ rest) in
    let begun = token_some kind bytes rest longest.spelled in
    let left : drop (length prefix) text ≡ bytes ++ rest = drop-append_seam prefix (bytes ++ rest) in
    let after : drop (length prefix + length bytes) text ≡ rest =
    sym (drop-drop (length bytes) (length prefix) text) ∙ ap (λ (part : List ℕ). drop (length bytes) part) left ∙ drop-append_seam bytes rest in
    let part : between (length prefix) (length prefix + length bytes) text ≡ bytes =
    between_prefix (length prefix) (length bytes) text ∙ ap (λ (part : List ℕ). take (length bytes) part) left ∙ take-append_seam bytes rest in
    record {
      some = omega (arith, begun);
      within = omega (arith, length-append prefix (bytes ++ rest), length-append bytes rest);
      bytes = sym part;
      longest = subst (λ (after : List ℕ). IsLongestToken kind bytes after) (sym after) longest;
      width = width;
    }

-- a token that is read is cut from the text
token_read : (text : List ℕ) (before : List Lexeme) (kind : TokenKind) (bytes rest : List ℕ) → text ≡ bytes_of before ++ (bytes ++ rest)
    → IsLongestToken kind bytes rest → HasWidth kind → IsCutFrom text (token_of before kind bytes)
token_read text before kind bytes rest is longest width =
    subst (λ (all : List ℕ). IsCutFrom all (token_of before kind bytes)) (sym is) (token_cut (bytes_of before) bytes rest kind longest width)

-- ---- the logical lines with one more lexeme

-- all logical lines after one more lexeme
abbrev pub lines_with : List Lexeme → Sort → List ℕ → List Draft
lines_with before sort bytes = ended_after before sort (ended_lines before) ++ option_to_list (begun_after before bytes sort (begun_line before))

-- a line end makes no other logical lines
pub lines-line_end : (closed : Bool) (drafts : List Draft) (begun : Option Draft)
    → (if closed then drafts ++ option_to_list begun else drafts) ++ option_to_list (if closed then None else begun)
    ≡ drafts ++ option_to_list begun
lines-line_end true drafts begun = append-nil (drafts ++ option_to_list begun)
lines-line_end false drafts begun = refl

-- ---- the order of tokens

-- the tokens of logical lines
abbrev pub tokens_in : List Draft → List Token
tokens_in drafts = flat_map (λ draft. draft.tokens) drafts

-- each token ends before all later ones start, or where one does
abbrev AreInOrder : List Token → Type 0
AreInOrder tokens = AllPairs (λ token next. token.end ≤ next.start) tokens

-- the token ends before this position, or at it
abbrev EndsBy : ℕ → Token → Type 0
EndsBy position token = token.end ≤ position

-- the tokens are in order, up to this position
record AreUpTo (position : ℕ) (tokens : List Token) : Type 0 where
  in_order : AreInOrder tokens
  past : All (EndsBy position) tokens

in_order_push : (tokens : List Token) (token : Token) → AreInOrder tokens → All (EndsBy token.start) tokens
    → AreInOrder (tokens ++ token ∷ [])
in_order_push tokens token in_order past = all_pairs_push (λ token next. token.end ≤ next.start) tokens token in_order past

later : (position next : ℕ) (tokens : List Token) → position ≤ next → AreUpTo position tokens → AreUpTo next tokens
later position next tokens more are = record {
  in_order = are.in_order;
  past = All-weaker (EndsBy position) (EndsBy next) (λ token ends. omega (arith, ends, more)) tokens are.past;
}

one_more : (tokens : List Token) (token : Token) → token.start ≤ token.end → AreUpTo token.start tokens
    → AreUpTo token.end (tokens ++ token ∷ [])
one_more tokens token some are = record {
  in_order = in_order_push tokens token are.in_order are.past;
  past = All-push (EndsBy token.end) tokens token (later token.start token.end tokens some are).past (omega arith);
}

-- a token is put after all others
pub tokens-continued : (line : ℕ) (indent : List ℕ) (drafts : List Draft) (begun : Option Draft) (token : Token)
    → tokens_in (drafts ++ continued line indent begun token ∷ []) ≡ tokens_in (drafts ++ option_to_list begun) ++ token ∷ []
tokens-continued line indent drafts None token =
    flat_map-append (λ draft. draft.tokens) drafts (continued line indent None token ∷ [])
    ∙ ap (λ (prefix : List Draft). tokens_in prefix ++ token ∷ []) (sym (append-nil drafts))
tokens-continued line indent drafts (Some draft) token =
    flat_map-append (λ draft. draft.tokens) drafts (continued line indent (Some draft) token ∷ [])
    ∙ simp (append-nil, append_assoc, flat_map-append)

order_with : (before : List Lexeme) (sort : Sort) (bytes : List ℕ) → AreUpTo (length (bytes_of before)) (tokens_in (drafts_of before))
    → AreUpTo (length (bytes_of before) + length bytes) (tokens_in (lines_with before sort bytes))
order_with before sort.Gap bytes are = later (length (bytes_of before)) _ (tokens_in (drafts_of before)) (omega arith) are
order_with before sort.LineEnd bytes are =
    rw (lines-line_end (are_closed (brackets_of before)) (ended_lines before) (begun_line before)) (
    later (length (bytes_of before)) _ (tokens_in (drafts_of before)) (omega arith) are)
order_with before (sort.Token kind) bytes are =
    subst (AreUpTo (length (bytes_of before) + length bytes)) (
    sym (tokens-continued (line_of before) (last_line (bytes_of before)) (ended_lines before) (begun_line before) (token_of before kind bytes))) (
    one_more (tokens_in (drafts_of before)) (token_of before kind bytes) (omega arith) are)

-- the tokens that were read are in order
order : (before : List Lexeme) → AreUpTo (length (bytes_of before)) (tokens_in (drafts_of before))
order [] = record { in_order = λ i j token less within. absurd (omega (arith, within)); past = All-nil (EndsBy 0) }
order (lexeme ∷ before) =
    subst (λ (position : ℕ). AreUpTo position (tokens_in (drafts_of (lexeme ∷ before)))) (sym (length-append (bytes_of before) lexeme.bytes)) (
    order_with before lexeme.sort lexeme.bytes (order before))

-- ---- logical lines as they are read

-- the logical line has tokens that are cut from the text, and its number and its indentation are those of the first
pub record IsReadFrom (text : List ℕ) (draft : Draft) : Type 0 where
  first : Token
  others : List Token
  tokens : draft.tokens ≡ first ∷ others
  pub cut : All (IsCutFrom text) draft.tokens
  number : draft.number ≡ line_after (take first.start text)
  indentation : draft.indentation ≡ indentation_of (last_line (take first.start text))
  blanks : All IsBlank (last_line (take first.start text))

-- a first token
begins : (text : List ℕ) (before : List Lexeme) (kind : TokenKind) (bytes rest : List ℕ) → text ≡ bytes_of before ++ (bytes ++ rest)
    → IsCutFrom text (token_of before kind bytes) → All IsBlank (last_line (bytes_of before))
    → IsReadFrom text (continued (line_of before) (last_line (bytes_of before)) None (token_of before kind bytes))
begins text before kind bytes rest is cut blanks =
    let prefix : take (length (bytes_of before)) text ≡ bytes_of before =
    ap (λ (all : List ℕ). take (length (bytes_of before)) all) is ∙ take-append_seam (bytes_of before) (bytes ++ rest) in
    record {
      first = token_of before kind bytes;
      others = [];
      tokens = refl;
      cut = All-cons (IsCutFrom text) (token_of before kind bytes) [] cut (All-nil (IsCutFrom text));
      number = ap line_after (sym prefix);
      indentation = ap (λ (part : List ℕ). indentation_of (last_line part)) (sym prefix);
      blanks = subst (λ (part : List ℕ). All IsBlank (last_line part)) (sym prefix) blanks;
    }

-- another token
goes_on : (text : List ℕ) (draft : Draft) (token : Token) → IsReadFrom text draft → IsCutFrom text token
    → IsReadFrom text (record draft { tokens = draft.tokens ++ token ∷ [] })
goes_on text draft token is cut = record {
  first = is.first;
  others = is.others ++ token ∷ [];
  tokens = ap (λ (tokens : List Token). tokens ++ token ∷ []) is.tokens;
  cut = All-push (IsCutFrom text) draft.tokens token is.cut cut;
  number = is.number;
  indentation = is.indentation;
  blanks = is.blanks;
}

-- a token
read_token : (text : List ℕ) (before : List Lexeme) (kind : TokenKind) (bytes rest : List ℕ) → text ≡ bytes_of before ++ (bytes ++ rest)
    → IsCutFrom text (token_of before kind bytes) → (begun : Option Draft) → (begun ≡ None → All IsBlank (last_line (bytes_of before)))
    → IfSome begun (IsReadFrom text)
    → IsReadFrom text (continued (line_of before) (last_line (bytes_of before)) begun (token_of before kind bytes))
read_token text before kind bytes rest is cut None blanks of = begins text before kind bytes rest is cut (blanks refl)
read_token text before kind bytes rest is cut (Some draft) blanks of = goes_on text draft (token_of before kind bytes) of cut

-- one more lexeme
read_with : (text : List ℕ) (before : List Lexeme) (sort : Sort) (bytes rest : List ℕ) → Reads text before (bytes ++ rest)
    → Stands sort bytes rest → All (IsReadFrom text) (drafts_of before)
    → All (IsReadFrom text) (lines_with before sort bytes)
read_with text before sort.Gap bytes rest read stands are = are
read_with text before sort.LineEnd bytes rest read stands are =
    subst (All (IsReadFrom text)) (sym (lines-line_end (are_closed (brackets_of before)) (ended_lines before) (begun_line before))) are
read_with text before (sort.Token kind) bytes rest read stands are =
    let is = whole text before (bytes ++ rest) read in
    let cut = token_read text before kind bytes rest is stands.0 stands.1 in
    let parts = All-pop (IsReadFrom text) (drafts_of before) (ended_lines before) (begun_line before) refl are in
    let draft : Draft = continued (line_of before) (last_line (bytes_of before)) (begun_line before) (token_of before kind bytes) in
    All-push (IsReadFrom text) (ended_lines before) draft parts.0 (
    read_token text before kind bytes rest is cut (begun_line before) (blank_token text before kind bytes rest read stands) parts.1)

pub all_read : (text : List ℕ) (before : List Lexeme) (rest : List ℕ) → Reads text before rest → All (IsReadFrom text) (drafts_of before)
all_read text [] rest read = All-nil (IsReadFrom text)
all_read text (lexeme ∷ before) rest read =
    let last = read_one text lexeme before rest read in
    read_with text before lexeme.sort lexeme.bytes rest last.0 last.1 (all_read text before (lexeme.bytes ++ rest) last.0)

-- ---- logical lines without faults

-- a logical line without faults is cut from the text
line_cut : (text : List ℕ) (draft : Draft) → IsReadFrom text draft → IsFaultless draft → IsLineOf text (line_from draft)
line_cut text draft is faultless = record {
  first = is.first;
  others = is.others;
  tokens = is.tokens;
  cut = is.cut;
  number = is.number;
  column = column_blanks (last_line (take is.first.start text)) (column_of draft.indentation) is.blanks (sym is.indentation ∙ faultless.indentation);
}

-- pairs of what is made of elements
AllPairs-map : {X Y : Type 0} (R : X → X → Type 0) (f : Y → X) (ys : List Y) → AllPairs (λ y next. R (f y) (f next)) ys
    → AllPairs R (map f ys)
AllPairs-map R f [] pairs = λ i j y less within. absurd (omega (arith, within))
AllPairs-map R f (y ∷ ys) pairs =
    AllPairs-cons R (f y) (map f ys) (
    All-map (R (f y)) f ys (λ k next within. pairs 0 (suc k) next (omega arith) (omega (arith, within)))) (
    AllPairs-map R f ys (λ i j next less within. pairs (suc i) (suc j) next (omega (arith, less)) (omega (arith, within))))

pub tokens_of_lines : (drafts : List Draft) → flat_map (λ (line : Line). line.tokens) (map line_from drafts) ≡ tokens_in drafts
tokens_of_lines [] = refl
tokens_of_lines (draft ∷ drafts) = ap (λ (tokens : List Token). draft.tokens ++ tokens) (tokens_of_lines drafts)

pub lines_cut : LinesAreCutFromTheText
lines_cut text lines is =
    let drafts : List Draft = drafts_of is.lexemes in
    let read = all_read text is.lexemes [] is.read in
    let faultless = all_faultless (0 ∷ []) drafts (first_after-faultless drafts is.faultless) in
    let each : All (λ draft. IsLineOf text (line_from draft)) drafts =
    λ k d within. line_cut text _ (read k d within) (faultless k d within) in
    subst (AreCutFrom text) (sym is.made) (record {
      each = All-map (IsLineOf text) line_from drafts each;
      ascend = AllPairs-map (λ line next. line.number < next.number) line_from drafts (ascending text is.lexemes [] is.read);
      in_order = subst AreInOrder (sym (tokens_of_lines drafts)) (order is.lexemes).in_order;
    })
