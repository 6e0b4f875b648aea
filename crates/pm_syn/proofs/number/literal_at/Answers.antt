use Rattle.std.proofs.Common.{◌<◌, ℕ, List, [], ◌∷◌, length, arith}
use Rattle.pm_syn.specs.Heads.{BeginsWithDigit}
use Rattle.pm_syn.proofs.Literals.{longest-decimal, longest-zero}
use Rattle.pm_syn.proofs.number.literal_at.Goals as goal

pub returns-then-text-ne48 : goal.returns-then-text-ne48
returns-then-text-ne48 c = longest-decimal c.args.text.now c.digits_at.result c.if-text-ne48.true c.digits_at.ensures

-- a text that begins with a digit is not empty
some_byte : (base : ℕ) (text : List ℕ) → BeginsWithDigit base text → 0 < length text
some_byte base [] begins = absurd begins
some_byte base (byte ∷ text) begins = omega arith

pub returns-in-None : goal.returns-in-None
returns-in-None c = let text = c.args.text.now in longest-zero text (some_byte 10 text c.requires) c.if-text-ne48.false c.in-None.ensures
