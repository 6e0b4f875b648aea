-- Proof that each text can be read up to its end or up to a bad token.
use Rattle.std.proofs.Common.{◌≡◌, ◌⊎◌, ◌≤◌, ◌++◌, ℕ, zero, suc, List, [], ◌∷◌, length, Option, Some, None, refl, inl, inr, ap, subst, arith}
use Rattle.std.proofs.lemmas.List.{length-append}
use Rattle.pm_syn.specs.Lexemes.{Lexeme}
use Rattle.pm_syn.specs.Reading.{Reads, Stops, begin, next, at_end, at_no_lexeme, at_misfit, brackets_of, line_of, misfit, unclosed}
use Rattle.pm_syn.proofs.FirstBytes.{lexeme_begins}
use Rattle.pm_syn.proofs.HeadsDecided.{HasLexeme, decided, no_head}

-- the text was read as far as it can be
pub record IsReadOut (text : List ℕ) : Type 0 where
  pub lexemes : List Lexeme
  pub rest : List ℕ
  pub bad_token : Option ℕ
  pub read : Reads text lexemes rest
  pub stopped : Stops lexemes rest bad_token

-- whether a lexeme is a misfit
misfit_cases : (found : Option ℕ) → (found ≡ None) ⊎ ((line : ℕ) × (found ≡ Some line))
misfit_cases None = inl refl
misfit_cases (Some line) = inr (line, refl)

-- a lexeme leaves fewer bytes
fewer_left : (rest : List ℕ) (here : HasLexeme rest) (count : ℕ) → length rest ≤ suc count → length here.after ≤ count
fewer_left rest here count within =
    let begun = lexeme_begins here.lexeme.sort here.lexeme.bytes here.after here.stands in
    omega (arith, within, ap length here.is, length-append here.lexeme.bytes here.after, ap length begun.2)

read_out_from : (text : List ℕ) (before : List Lexeme) (rest : List ℕ) (count : ℕ) → length rest ≤ count → Reads text before rest → IsReadOut text
read_out_from text before [] count within read = record {
  lexemes = before;
  rest = [];
  bad_token = unclosed (brackets_of before);
  read = read;
  stopped = at_end before;
}
read_out_from text before (byte ∷ rest) zero within read = absurd (omega (arith, within))
read_out_from text before (byte ∷ rest) (suc count) within read = elim (decided byte rest) [
  | inl here ↦
      let left : Reads text before (here.lexeme.bytes ++ here.after) = subst (Reads text before) here.is read in
      elim (misfit_cases (misfit before here.lexeme)) [
        | inl fits ↦
            read_out_from text (here.lexeme ∷ before) here.after count (fewer_left (byte ∷ rest) here count within) (
            next before here.lexeme here.after left here.stands fits)
        | inr bad ↦ record {
          lexemes = before;
          rest = here.lexeme.bytes ++ here.after;
          bad_token = Some bad.0;
          read = left;
          stopped = at_misfit before here.lexeme here.after bad.0 here.stands bad.1;
        }
      ]
  | inr none ↦ record {
    lexemes = before;
    rest = byte ∷ rest;
    bad_token = Some (line_of before);
    read = read;
    stopped = at_no_lexeme before (byte ∷ rest) (λ wrong. cc) (no_head (byte ∷ rest) none);
  }
]

-- each text can be read as far as it can be
pub read_out : (text : List ℕ) → IsReadOut text
read_out text = read_out_from text [] text (length text) (omega arith) begin
