-- `numerals::number` meets its contract: turn by turn the bytes passed are digits and say the value, and ten digits fit in 64 bits.
-- Assumes nothing.
use Rattle.numerals.specs.NumeralLaws.{Reading}
use Rattle.numerals.proofs.number.Given as goal

abbrev pub invariant-loop-byte : goal.invariant-loop-byte
invariant-loop-byte l = Reading l.word l.byte-index l.value
