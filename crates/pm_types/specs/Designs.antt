-- The bodies of a design: kinds in order, the bodies of a kind by line.
use Rattle.std.specs.Prelude.{List, [], ◌∷◌, ◌++◌, Ok}
use Rattle.pm_design.specs.declared.design.Design.{Design}
use Rattle.pm_design.specs.declared.design.Kind.{Kind}
use Rattle.pm_elab.specs.declared.body.RawBody.{RawBody}
use Rattle.pm_elab.specs.declared.elaboration.RawDesign.{RawDesign}
use Rattle.pm_elab.specs.declared.elaboration.RawKind.{RawKind}
use Rattle.pm_typing.specs.declared.tally.Tally.{Tally}
use Rattle.pm_typing.specs.Counted.{Checked, and_then, Counted, ◌>>=◌, pure}
use Rattle.pm_types.specs.declared.bodies.TypedBody.{TypedBody}
use Rattle.pm_types.specs.Bodies.{whole_body}
use Rattle.pm_types.specs.ByLine.{by_line}
use Rattle.pm_types.specs.Filled.{filled}

-- bodies one after the other, behind those that stand
unfoldable pub bodies_from : List TypedBody → RawDesign → Kind → RawKind → List RawBody → Counted (List TypedBody)
bodies_from done design kind raw [] = pure done
bodies_from done design kind raw (b ∷ bs) =
    whole_body design kind raw b >>= (λ t. bodies_from (done ++ t ∷ []) design kind raw bs)

-- nothing is counted yet
abbrev pub no_nodes : Tally
no_nodes = record { nodes = 0; line = 0 }

-- the bodies of a kind, which are counted together
unfoldable pub kind_bodies : RawDesign → Kind → RawKind → Checked (List TypedBody)
kind_bodies design kind raw = and_then (bodies_from [] design kind raw (by_line raw.bodies) no_nodes) (λ r. Ok r.0)

-- the bodies of kinds, one after the other, behind those that stand
unfoldable pub all_bodies_from : List (List TypedBody) → RawDesign → List Kind → List RawKind → Checked (List (List TypedBody))
all_bodies_from done design (kind ∷ kinds) (raw ∷ raws) =
    and_then (kind_bodies design kind raw) (λ ts. all_bodies_from (done ++ ts ∷ []) design kinds raws)
all_bodies_from done design _ _ = Ok done

-- the bodies of a design
abbrev pub all_bodies : RawDesign → Checked (List (List TypedBody))
all_bodies design = all_bodies_from [] design design.design.kinds design.kinds

-- the typed design, or the first fault
unfoldable pub typed_design : RawDesign → Checked Design
typed_design raw = and_then (all_bodies raw) (λ bodies. Ok (filled raw.design bodies))
