-- Lent bodies that are sorted by line.
use Rattle.std.proofs.Common.{◌≡◌, ◌∙◌, ℕ, ap, List, map, nat_cmp}
use Rattle.std.specs.List.Sorted.{IsNonDecreasingBy, IsStableByKey}
use denote.Ref.{Bor}
use Rattle.pm_elab.specs.declared.body.RawBody.{RawBody}
use Rattle.pm_types.specs.ByLine.{by_line}
use Rattle.pm_types.proofs.ByRank.{by_rank-from_sort, map_by_rank}

-- a lent body's line
abbrev pub line_of : Bor RawBody → ℕ
line_of r = r.now.line

pub in_line : (bodies : List RawBody) (old new : List (Bor RawBody)) → map (λ r. r.now) old ≡ bodies
    → IsNonDecreasingBy line_of new → IsStableByKey line_of nat_cmp old new → map (λ r. r.now) new ≡ by_line bodies
in_line bodies old new are sorted stable =
    ap (map (λ r. r.now)) (by_rank-from_sort line_of old new sorted stable) ∙ map_by_rank (λ r. r.now) (λ b. b.line) old ∙ ap by_line are
