-- The words of whole signals.
use Rattle.std.specs.Prelude.{ℕ, slice_index_or}
use Rattle.pm_bits.specs.Word.{Word}
use Rattle.pm_design.specs.declared.plan.FlatPart.{FlatPart}
use Rattle.pm_design.specs.Layout.{Layout, net_from}
use Rattle.pm_block.specs.Places.{Valuation, word_at}

-- the flat bits of a signal, by its number among the signals of all instances, of which the top's are the first
abbrev pub signal_part : Layout → ℕ → FlatPart
signal_part layout n = slice_index_or layout.signals n (record { bit = 0; width = 0 })

-- the word of a signal
abbrev pub signal_word : Layout → Valuation → ℕ → Word
signal_word layout at n = word_at (net_from layout (signal_part layout n).bit) (signal_part layout n).width at
