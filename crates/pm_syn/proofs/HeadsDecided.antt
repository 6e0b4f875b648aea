-- What is at the start of a text that is not at its end: a lexeme, a literal whose number has more than 128 bits, or nothing.
use Rattle.std.proofs.Common.{◌≡◌, ◌==◌, ◌⊎◌, ◌++◌, ℕ, true, false, List, [], ◌∷◌, length, take, drop, Option, Some, None, refl, inl, inr, ap, sym, subst, ◌∙◌, take-append-drop, arith}
use Rattle.std.specs.Prelude.{take_while}
use Rattle.std.specs.Char.{is_ascii_digit}
use Rattle.std.proofs.lemmas.Bool.{cases_Bool, eqb-true}
use Rattle.std.proofs.lemmas.List.{length-take-le}
use Rattle.pm_io.specs.declared.lines.TheConstants.{LF, CR}
use Rattle.pm_syn.specs.BadTokens.{BeginsNothing, HasWideLiteral, SpellsNoToken}
use Rattle.pm_syn.specs.Bytes.{begins_name, continues_name}
use Rattle.pm_syn.specs.Heads.{HasNoHead, HasNoOperator, IsHead, IsLongestLiteral}
use Rattle.pm_syn.specs.Lexemes.{HasWidth, Lexeme, Stands}
use Rattle.pm_syn.specs.Strings.{string_length}
use Rattle.pm_syn.specs.declared.lexeme.Head.{Head}
use Rattle.pm_syn.specs.declared.lexeme.Sort.{Sort}
use Rattle.pm_syn.specs.declared.lexeme.Sort.TheVariants as sort
use Rattle.pm_syn.specs.declared.number.Literal.{Literal}
use Rattle.pm_syn.specs.declared.token.TokenKind.TheVariants as kind
use Rattle.pm_syn.proofs.FirstBytes.{class_of_sort, is_layout, lexeme_first, literal_first, name_first, no_token_at_layout, other_class, token_begins}
use Rattle.pm_syn.proofs.HeadsAt.{literal_head, longest_literal, name_head, no_head_at_backslash, no_head_at_line_end, operator_head, string_head}
use Rattle.pm_syn.proofs.LineEndsThere.{line_end_there, up_to_line_end}
use Rattle.pm_syn.proofs.LongestPrefixes.{longest_literal_there, longest_operator_there}
use Rattle.pm_syn.proofs.StringLengths.{string_length_within}
use Rattle.pm_syn.proofs.TokenKinds.{one_token}

-- a lexeme is at the start of the text
pub record HasLexeme (text : List ℕ) : Type 0 where
  pub lexeme : Lexeme
  pub after : List ℕ
  pub is : text ≡ lexeme.bytes ++ after
  pub stands : Stands lexeme.sort lexeme.bytes after

-- ---- tokens

lexeme_of_head : (text : List ℕ) (head : Head) → IsHead text head → HasLexeme text
lexeme_of_head text head is = record {
  lexeme = record { sort = head.sort; bytes = take head.length text };
  after = drop head.length text;
  is = sym (take-append-drop head.length text);
  stands = is.stands;
}

-- what is read of a number
read_cases : (read : Option ℕ) → (read ≡ None) ⊎ ((number : ℕ) × (read ≡ Some number))
read_cases None = inl refl
read_cases (Some number) = inr (number, refl)

wide_literal : (a : ℕ) (others : List ℕ) (literal : Literal) → string_length (a ∷ others) ≡ None → is_ascii_digit a ≡ true
    → IsLongestLiteral (a ∷ others) literal → literal.number ≡ None → HasWideLiteral (a ∷ others)
wide_literal a others literal no_string digit longest is =
    let text = a ∷ others in
    let count = literal.length in
    record {
      number = longest.number;
      bytes = take count text;
      after = drop count text;
      is = sym (take-append-drop count text);
      longest = record {
        spelled = longest.spelled;
        longest = λ other start rest same token.
            rw (length-take-le count text longest.within) (longest_literal a others literal no_string digit longest other start rest (same ∙ take-append-drop count text) token);
      };
      wide = (rw is at longest.read);
    }

no_token_spelled : (a : ℕ) (others : List ℕ) → string_length (a ∷ others) ≡ None → begins_name a ≡ false → is_ascii_digit a ≡ false
    → HasNoOperator (a ∷ others) → SpellsNoToken (a ∷ others)
no_token_spelled a others no_string no_name no_digit none kind.Name bytes after is token =
    let name = name_first a others bytes after (sym is) token in cc
no_token_spelled a others no_string no_name no_digit none (kind.Int n) bytes after is token =
    let digit = literal_first n a others bytes after (sym is) token in cc
no_token_spelled a others no_string no_name no_digit none kind.Str bytes after is token =
    let other : string_length (a ∷ others) ≡ Some (length bytes) = subst (λ all. string_length all ≡ Some (length bytes)) (sym is) token in cc
no_token_spelled a others no_string no_name no_digit none kind.Op bytes after is token = none bytes after (sym is) token

token_without_string : (a : ℕ) (others : List ℕ) → string_length (a ∷ others) ≡ None
    → HasLexeme (a ∷ others) ⊎ HasWideLiteral (a ∷ others) ⊎ SpellsNoToken (a ∷ others)
token_without_string a others no_string = elim (cases_Bool (begins_name a)) [
  | inl name ↦ inl (lexeme_of_head (a ∷ others) _ (
      name_head (a ∷ others) (length (take_while continues_name (a ∷ others))) (omega arith) no_string name refl))
  | inr no_name ↦ elim (cases_Bool (is_ascii_digit a)) [
    | inl digit ↦
        let found = longest_literal_there (a ∷ others) (omega arith) digit in
        elim (read_cases found.0.number) [
          | inl wide ↦ inr (inl (wide_literal a others found.0 no_string digit found.1 wide))
          | inr read ↦ inl (lexeme_of_head (a ∷ others) _ (literal_head (a ∷ others) found.0 read.0 (omega arith) no_string digit found.1 read.1))
        ]
    | inr no_digit ↦ elim (longest_operator_there (a ∷ others)) [
      | inl found ↦ inl (lexeme_of_head (a ∷ others) _ (operator_head (a ∷ others) found.0 (omega arith) no_string no_name no_digit found.1))
      | inr none ↦ inr (inr (no_token_spelled a others no_string no_name no_digit none))
    ]
  ]
]

token_there : (a : ℕ) (others : List ℕ) → HasLexeme (a ∷ others) ⊎ HasWideLiteral (a ∷ others) ⊎ SpellsNoToken (a ∷ others)
token_there a others = elim (read_cases (string_length (a ∷ others))) [
  | inl no_string ↦ token_without_string a others no_string
  | inr string ↦ inl (lexeme_of_head (a ∷ others) _ (
      string_head (a ∷ others) string.0 string.1 (string_length_within (a ∷ others) string.0 string.1)))
]

-- ---- the start of a text

-- where there is no lexeme and no token is spelled, there is nothing
nothing_there : (text : List ℕ) → HasNoHead text → SpellsNoToken text → BeginsNothing text
nothing_there text none no_token = record {
  no_token = no_token;
  no_gap = λ bytes after is gap. none (record { sort = sort.Gap; bytes = bytes }) after is gap;
  no_line_end = λ bytes after is ends. none (record { sort = sort.LineEnd; bytes = bytes }) after is ends;
}

-- no token is spelled where the first byte is one of layout
layout_spells_none : (a : ℕ) (others : List ℕ) → is_layout a ≡ true → SpellsNoToken (a ∷ others)
layout_spells_none a others layout kind bytes after is token = no_token_at_layout a others layout kind bytes after (sym is) token

-- no gap and no line end begins with another byte
other_begins : (a : ℕ) (others : List ℕ) → is_layout a ≡ false → (kept : Sort) (bytes after : List ℕ) → a ∷ others ≡ bytes ++ after
    → Stands kept bytes after → 2 ≡ class_of_sort kept
other_begins a others other kept bytes after is stands = sym (other_class a other) ∙ lexeme_first a others kept bytes after is stands

nothing_with_other : (a : ℕ) (others : List ℕ) → is_layout a ≡ false → SpellsNoToken (a ∷ others) → BeginsNothing (a ∷ others)
nothing_with_other a others other no_token = record {
  no_token = no_token;
  no_gap = λ bytes after is gap. (let class = other_begins a others other sort.Gap bytes after is gap in omega (arith, class));
  no_line_end = λ bytes after is ends. (let class = other_begins a others other sort.LineEnd bytes after is ends in omega (arith, class));
}

-- the text begins with a lexeme, a literal that is too wide, or nothing
abbrev pub IsDecided : List ℕ → Type 0
IsDecided text = HasLexeme text ⊎ HasWideLiteral text ⊎ BeginsNothing text

decided_comment : (others : List ℕ) → IsDecided (35 ∷ others)
decided_comment others =
    let comment = up_to_line_end others in
    inl (record {
      lexeme = record { sort = sort.Gap; bytes = 35 ∷ comment.line };
      after = comment.after;
      is = ap (λ (bytes : List ℕ). 35 ∷ bytes) comment.is;
      stands = inr (inr (inl (record { text = comment.line; spelled = refl; on_one_line = comment.on_one_line; to_its_end = comment.ends })));
    })

decided_backslash : (others : List ℕ) → IsDecided (92 ∷ others)
decided_backslash others = elim (line_end_there others) [
  | inl found ↦ inl (record {
    lexeme = record { sort = sort.Gap; bytes = 92 ∷ found.bytes };
    after = found.after;
    is = ap (λ (bytes : List ℕ). 92 ∷ bytes) found.is;
    stands = inr (inr (inr (record { line_end = found.bytes; spelled = refl; ends = found.ends })));
  })
  | inr none ↦ inr (inr (nothing_there (92 ∷ others) (no_head_at_backslash (92 ∷ others) (omega arith) refl none) (layout_spells_none 92 others refl)))
]

decided_line_end : (a : ℕ) (others : List ℕ) → (a ≡ LF) ⊎ (a ≡ CR) → is_layout a ≡ true → IsDecided (a ∷ others)
decided_line_end a others first layout = elim (line_end_there (a ∷ others)) [
  | inl found ↦ inl (record {
    lexeme = record { sort = sort.LineEnd; bytes = found.bytes };
    after = found.after;
    is = found.is;
    stands = found.ends;
  })
  | inr none ↦ inr (inr (nothing_there (a ∷ others) (no_head_at_line_end (a ∷ others) (omega arith) first none) (layout_spells_none a others layout)))
]

decided_token : (a : ℕ) (others : List ℕ) → is_layout a ≡ false → IsDecided (a ∷ others)
decided_token a others other = elim (token_there a others) [
  | inl found ↦ inl found
  | inr (inl wide) ↦ inr (inl wide)
  | inr (inr none) ↦ inr (inr (nothing_with_other a others other none))
]

decided_blank : (a : ℕ) (others : List ℕ) → (a ≡ 32) ⊎ (a ≡ 9) → IsDecided (a ∷ others)
decided_blank a others (inl blank) = inl (record {
  lexeme = record { sort = sort.Gap; bytes = 32 ∷ [] };
  after = others;
  is = ap (λ (byte : ℕ). byte ∷ others) blank;
  stands = inl refl;
})
decided_blank a others (inr tab) = inl (record {
  lexeme = record { sort = sort.Gap; bytes = 9 ∷ [] };
  after = others;
  is = ap (λ (byte : ℕ). byte ∷ others) tab;
  stands = inr (inl refl);
})

pub decided : (a : ℕ) (others : List ℕ) → IsDecided (a ∷ others)
decided a others = elim (cases_Bool (a == 32)) [
  | inl blank ↦ decided_blank a others (inl (eqb-true a 32 blank))
  | inr no_blank ↦ elim (cases_Bool (a == 9)) [
    | inl tab ↦ decided_blank a others (inr (eqb-true a 9 tab))
    | inr no_tab ↦ elim (cases_Bool (a == 35)) [
      | inl comment ↦ subst (λ (byte : ℕ). IsDecided (byte ∷ others)) (sym (eqb-true a 35 comment)) (decided_comment others)
      | inr no_comment ↦ elim (cases_Bool (a == 92)) [
        | inl slash ↦ subst (λ (byte : ℕ). IsDecided (byte ∷ others)) (sym (eqb-true a 92 slash)) (decided_backslash others)
        | inr no_slash ↦ elim (cases_Bool (a == LF)) [
          | inl short ↦ decided_line_end a others (inl (eqb-true a LF short)) (rw (eqb-true a LF short) refl)
          | inr no_short ↦ elim (cases_Bool (a == CR)) [
            | inl long ↦ decided_line_end a others (inr (eqb-true a CR long)) (rw (eqb-true a CR long) refl)
            | inr no_long ↦ decided_token a others (rw (no_blank, no_tab, no_comment, no_slash, no_short, no_long) refl)
          ]
        ]
      ]
    ]
  ]
]

-- there is no lexeme where a literal is too wide
wide_no_head : (text : List ℕ) → HasWideLiteral text → HasNoHead text
wide_no_head text wide lexeme after is stands =
    let begun = token_begins (kind.Int wide.number) wide.bytes wide.after wide.longest.spelled in
    let whole : begun.0 ∷ begun.1 ++ wide.after ≡ lexeme.bytes ++ after =
    ap (λ (bytes : List ℕ). bytes ++ wide.after) (sym begun.2) ∙ sym wide.is ∙ is in
    go lexeme.sort stands (sym begun.3 ∙ lexeme_first begun.0 (begun.1 ++ wide.after) lexeme.sort lexeme.bytes after whole stands) where
      go : (kept : Sort) → Stands kept lexeme.bytes after → 2 ≡ class_of_sort kept → ⊥
      go sort.Gap gap class = omega (arith, class)
      go sort.LineEnd ends class = omega (arith, class)
      go (sort.Token other) token class =
          let same = one_token (kind.Int wide.number) other wide.bytes lexeme.bytes wide.after after wide.longest token.0 (sym wide.is ∙ is) in
          let width : HasWidth (kind.Int wide.number) = subst HasWidth (sym same.0) token.1 in
          omega (arith, width, wide.wide)

-- there is no lexeme where there is nothing
nothing_no_head : (text : List ℕ) → BeginsNothing text → HasNoHead text
nothing_no_head text none lexeme after is stands = go lexeme.sort stands where
  go : (kept : Sort) → Stands kept lexeme.bytes after → ⊥
  go sort.Gap gap = none.no_gap lexeme.bytes after is gap
  go sort.LineEnd ends = none.no_line_end lexeme.bytes after is ends
  go (sort.Token other) token = none.no_token other lexeme.bytes after is token.0.spelled

pub no_head : (text : List ℕ) → HasWideLiteral text ⊎ BeginsNothing text → HasNoHead text
no_head text (inl wide) = wide_no_head text wide
no_head text (inr none) = nothing_no_head text none
