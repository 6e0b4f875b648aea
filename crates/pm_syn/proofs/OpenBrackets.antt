-- The outermost of the brackets that are open.
use Rattle.std.proofs.Common.{◌≡◌, ◌++◌, List, [], ◌∷◌, refl, ◌∙◌, ap}
use Rattle.std.specs.Prelude.{Some, reverse, slice_get, option_map}
use Rattle.std.proofs.lemmas.List.{reverse-append}
use Rattle.pm_syn.specs.Reading.{unclosed}
use Rattle.pm_syn.specs.declared.bracket.Bracket.{Bracket}

-- the last bracket is the outermost
unclosed-append : (inner : List Bracket) (outermost : Bracket) → unclosed (inner ++ outermost ∷ []) ≡ Some outermost.line
unclosed-append [] outermost = refl
unclosed-append (bracket ∷ []) outermost = refl
unclosed-append (bracket ∷ next ∷ inner) outermost = unclosed-append (next ∷ inner) outermost

pub unclosed-reverse : (brackets : List Bracket) → unclosed (reverse brackets) ≡ option_map (λ bracket. bracket.line) (slice_get brackets 0)
unclosed-reverse [] = refl
unclosed-reverse (outermost ∷ brackets) = ap unclosed (reverse-append (outermost ∷ []) brackets) ∙ unclosed-append (reverse brackets) outermost
