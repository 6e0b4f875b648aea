-- A logical line with one more token.
use Rattle.std.proofs.Common.{◌≡◌, ◌∙◌, ◌++◌, ℕ, List, [], ◌∷◌, Option, Some, ap}
use Rattle.pm_syn.specs.LogicalLines.{opened, continued}
use Rattle.pm_syn.specs.declared.draft.Draft.{Draft}
use Rattle.pm_syn.specs.declared.token.TokenKind.{TokenKind}

pub continued_by : (line : ℕ) (indent : List ℕ) (begun given : Option Draft) (kind : TokenKind) (text copy : List ℕ) (start end : ℕ) (made grown : Draft)
    → given ≡ begun → copy ≡ text → made ≡ opened line indent given
    → grown ≡ record made { tokens = made.tokens ++ (record { kind = kind; text = copy; start = start; end = end }) ∷ [] }
    → Some grown ≡ Some (continued line indent begun (record { kind = kind; text = text; start = start; end = end }))
continued_by line indent begun given kind text copy start end made grown same copied is_made is_grown =
    ap Some (is_grown
    ∙ ap (λ (draft : Draft). record draft { tokens = draft.tokens ++ (record { kind = kind; text = copy; start = start; end = end }) ∷ [] }) (is_made ∙ ap (λ (b : Option Draft). opened line indent b) same)
    ∙ ap (λ (bytes : List ℕ). continued line indent begun (record { kind = kind; text = bytes; start = start; end = end })) copied)
