-- The places of a part.
use std.Path.{fun_ext}
use Rattle.std.proofs.Common.{◌≡◌, ℕ, List, ap, add_assoc}
use Rattle.std.specs.Prelude.{slice_index_or}
use Rattle.pm_design.specs.declared.connection.Part.{Part}
use Rattle.pm_design.specs.Layout.{Layout, net_from, first_bit_of, flat_part}
use Rattle.pm_block.specs.Plans.{names_of}
use Rattle.pm_block.specs.Value.{places_of}

-- the nets from a part's first flat bit on are the places that its names are
pub places_of_part : (scope : List (List ℕ)) (layout : Layout) (p : Part) → net_from layout (flat_part scope p).bit ≡ places_of (names_of scope layout) p
places_of_part scope layout p = fun_ext (λ i. ap (λ (k : ℕ). slice_index_or layout.net_of k 0) (add_assoc (first_bit_of scope p.owner p.signal) p.lo i))
