use Rattle.std.proofs.Common.{length}
use Rattle.pm_io.specs.Lines.{lines_of}
use Rattle.order_file.proofs.Orders.{IsReadSoFar}
use Rattle.order_file.proofs.order.numbers_of.Given as goal

-- the lines so far are read
abbrev pub invariant-lines : goal.invariant-lines
invariant-lines l = IsReadSoFar l.blocks l.text l.rest l.order

abbrev pub decreases-lines : goal.decreases-lines
decreases-lines l = length (lines_of l.rest)
