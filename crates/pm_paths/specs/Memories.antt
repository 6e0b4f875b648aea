-- What a memory has at a place.
use Rattle.std.specs.Prelude.{List, [], ◌∷◌}
use Rattle.pm_bits.specs.Word.{Word}
use Rattle.pm_block.specs.Places.{Items, Valuation}
use Rattle.pm_block.specs.Run.{Memory}
use Rattle.pm_touched.specs.Events.{Place}
use Rattle.pm_touched.specs.Events.Place.{Bit, Object}

-- the bit of a net, or the items of a state object
abbrev pub words_at : Valuation → Items → Place → List Word
words_at v items (Bit n) = (record { width = 1; value = v n }) ∷ []
words_at v items (Object k) = items k

-- what a memory has at a place
abbrev pub at : Memory → Place → List Word
at m q = words_at m.places m.items q
