-- Where a comment ends.
use Rattle.std.proofs.Common.{◌≡◌, ◌∙◌, ℕ, zero, suc, ◌<◌, ◌≤◌, List, [], ◌∷◌, length, take, drop, get_or, ap, sym, arith}
use Rattle.std.proofs.lemmas.Bool.{eqb-true, eq-eqb}
use Rattle.std.proofs.lemmas.List.{drop_more, get_or-take, length-take, get_or_default, drop_all}
use Rattle.memchr.specs.Find.{NoneBefore, Nowhere, Passes, is_byte}
use Rattle.pm_io.specs.Lines.{HasNoLineEnd}
use Rattle.pm_io.specs.declared.lines.TheConstants.{LF}
use Rattle.pm_syn.specs.Lexemes.{IsComment}

-- no LF is in a prefix of a text that has none
clean_prefix : (first : ℕ) (rest : List ℕ) (count : ℕ) → count ≤ length rest → Nowhere (Passes (is_byte LF) (first ∷ rest)) 0 (suc count)
    → HasNoLineEnd (take count rest)
clean_prefix first rest count within nowhere k d inside is =
    let below : k < count = omega (arith, length-take count rest) in
    let same : get_or rest k 0 ≡ LF = get_or_default rest k 0 d (omega arith) ∙ sym (get_or-take count rest k d below) ∙ is in
    nowhere (suc k) (omega arith) (omega arith) (eq-eqb (get_or rest k 0) LF same)

-- the comment before an LF that no other is before
pub comment_before : (text : List ℕ) (end : ℕ) → get_or text 0 0 ≡ 35 → NoneBefore (Passes (is_byte LF) text) 0 (length text) end → Passes (is_byte LF) text end
    → IsComment (take end text) (drop end text)
comment_before [] end begun none here = absurd (omega (arith, none.high))
comment_before (first ∷ rest) zero begun none here = let is : first ≡ LF = eqb-true first LF here in absurd (omega arith)
comment_before (first ∷ rest) (suc end) begun none here = record {
  text = take end rest;
  spelled = ap (λ (byte : ℕ). byte ∷ take end rest) begun;
  on_one_line = clean_prefix first rest end (omega (arith, none.high)) none.before;
  to_its_end = rw (drop_more rest end 0 (omega (arith, none.high))) (eqb-true (get_or rest end 0) LF here);
}

-- the comment that no LF ends
pub comment_to_end : (text : List ℕ) → get_or text 0 0 ≡ 35 → 0 < length text → Nowhere (Passes (is_byte LF) text) 0 (length text)
    → IsComment (take (length text) text) (drop (length text) text)
comment_to_end [] begun some none = absurd (omega arith)
comment_to_end (first ∷ rest) begun some none = record {
  text = take (length rest) rest;
  spelled = ap (λ (byte : ℕ). byte ∷ take (length rest) rest) begun;
  on_one_line = clean_prefix first rest (length rest) (omega arith) none;
  to_its_end = rw (drop_all (length rest) rest (omega arith)) tt;
}
