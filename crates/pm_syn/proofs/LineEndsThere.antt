-- The end of a line that is the next in a text, and the line end with which a text begins.
use Rattle.std.proofs.Common.{◌≡◌, ◌≢◌, ◌==◌, ◌⊎◌, ◌++◌, ℕ, true, false, List, [], ◌∷◌, refl, inl, inr, ap, ◌∙◌}
use Rattle.std.proofs.lemmas.Bool.{cases_Bool, eqb-true}
use Rattle.std.proofs.lemmas.List.Elements.{All-nil, All-cons}
use Rattle.pm_io.specs.Lines.{HasNoLineEnd}
use Rattle.pm_io.specs.declared.lines.TheConstants.{LF, CR}
use Rattle.pm_syn.specs.Bytes.{IsAtLineEnd, IsLineEnd}

-- the bytes up to the end of the line
pub record UpToLineEnd (text : List ℕ) : Type 0 where
  pub line : List ℕ
  pub after : List ℕ
  pub is : text ≡ line ++ after
  pub on_one_line : HasNoLineEnd line
  pub ends : IsAtLineEnd after

pub up_to_line_end : (text : List ℕ) → UpToLineEnd text
up_to_line_end [] = record { line = []; after = []; is = refl; on_one_line = All-nil (λ byte. byte ≢ LF); ends = tt }
up_to_line_end (byte ∷ text) = elim (cases_Bool (byte == LF)) [
  | inl ends ↦ record { line = []; after = byte ∷ text; is = refl; on_one_line = All-nil (λ byte. byte ≢ LF); ends = eqb-true byte LF ends }
  | inr other ↦
      let rest = up_to_line_end text in
      let inside : byte ≢ LF = λ same. not_end byte same other in
      record {
        line = byte ∷ rest.line;
        after = rest.after;
        is = ap (λ (bytes : List ℕ). byte ∷ bytes) rest.is;
        on_one_line = All-cons (λ byte. byte ≢ LF) byte rest.line inside rest.on_one_line;
        ends = rest.ends;
      }
] where
  not_end : (byte : ℕ) → byte ≡ LF → (byte == LF) ≡ false → ⊥
  not_end byte same other = let wrong : true ≡ false = rw same at other in cc

-- a line end at the start of a text
pub record HasLineEnd (text : List ℕ) : Type 0 where
  pub bytes : List ℕ
  pub after : List ℕ
  pub is : text ≡ bytes ++ after
  pub ends : IsLineEnd bytes

abbrev pub HasNoLineEndThere : List ℕ → Type 0
HasNoLineEndThere text = (bytes after : List ℕ) → text ≡ bytes ++ after → IsLineEnd bytes → ⊥

-- the first byte of a line end
line_end_first : (a : ℕ) (others bytes after : List ℕ) → a ∷ others ≡ bytes ++ after → IsLineEnd bytes
    → (a ≡ LF) ⊎ ((a ≡ CR) × (others ≡ LF ∷ after))
line_end_first a others bytes after is (inl short) =
    let same : a ∷ others ≡ LF ∷ after = is ∙ ap (λ (line_end : List ℕ). line_end ++ after) short in inl (cc)
line_end_first a others bytes after is (inr long) =
    let same : a ∷ others ≡ CR ∷ LF ∷ after = is ∙ ap (λ (line_end : List ℕ). line_end ++ after) long in inr (cc, cc)

pub line_end_there : (text : List ℕ) → HasLineEnd text ⊎ HasNoLineEndThere text
line_end_there [] = inr (λ bytes after is ends. none bytes after is ends) where
  none : (bytes after : List ℕ) → [] ≡ bytes ++ after → IsLineEnd bytes → ⊥
  none bytes after is (inl short) = let wrong : [] ≡ LF ∷ after = is ∙ ap (λ (line_end : List ℕ). line_end ++ after) short in cc
  none bytes after is (inr long) = let wrong : [] ≡ CR ∷ LF ∷ after = is ∙ ap (λ (line_end : List ℕ). line_end ++ after) long in cc
line_end_there (a ∷ others) = elim (cases_Bool (a == LF)) [
  | inl short ↦ inl (record {
    bytes = LF ∷ [];
    after = others;
    is = ap (λ (byte : ℕ). byte ∷ others) (eqb-true a LF short);
    ends = inl refl;
  })
  | inr other ↦ after_return a others other
] where
  no_short : (a : ℕ) → (a == LF) ≡ false → a ≡ LF → ⊥
  no_short a other same = let wrong : true ≡ false = rw same at other in cc

  after_return : (a : ℕ) (others : List ℕ) → (a == LF) ≡ false → HasLineEnd (a ∷ others) ⊎ HasNoLineEndThere (a ∷ others)
  after_return a [] other = inr (λ bytes after is ends. (elim (line_end_first a [] bytes after is ends) [
    | inl short ↦ no_short a other short
    | inr long ↦ let wrong : [] ≡ LF ∷ after = long.1 in cc
  ]))
  after_return a (next ∷ others) other = elim (cases_Bool (a == CR)) [
    | inl returns ↦ elim (cases_Bool (next == LF)) [
      | inl ends ↦ inl (record {
        bytes = CR ∷ LF ∷ [];
        after = others;
        is = ap (λ (byte : ℕ). byte ∷ next ∷ others) (eqb-true a CR returns) ∙ ap (λ (byte : ℕ). CR ∷ byte ∷ others) (eqb-true next LF ends);
        ends = inr refl;
      })
      | inr goes_on ↦ inr (λ bytes after is ends. (elim (line_end_first a (next ∷ others) bytes after is ends) [
        | inl short ↦ no_short a other short
        | inr long ↦ let first : next ≡ LF = let e : next ∷ others ≡ LF ∷ after = long.1 in cc in no_short next goes_on first
      ]))
    ]
    | inr none ↦ inr (λ bytes after is ends. (elim (line_end_first a (next ∷ others) bytes after is ends) [
      | inl short ↦ no_short a other short
      | inr long ↦ let wrong : true ≡ false = rw long.0 at none in cc
    ]))
  ]
