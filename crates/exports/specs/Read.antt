-- What cs_read answers, by what the slot reads as.
-- Assumes nothing.
use Rattle.std.specs.Prelude.{ℕ}
use Rattle.header.specs.declared.head.Head.{Head}
use Rattle.format.specs.Reading.{Reading, number_of, place_of, read_head}
use Rattle.exports.specs.declared.reading.ReadResult.{ReadResult}

-- "A good letter answers 0 with its header's numbers and place 0." "Unless stated, every other number in a refusal's result is 0."
abbrev pub numbers : ℕ → ℕ → Head → ReadResult
numbers number place h = record {
  number = number;
  place = place;
  t = h.told.order.t;
  f = h.told.order.f;
  n = h.told.order.n;
  key = h.told.key;
  keeper = h.keeper;
  stamp = h.stamp;
  length = h.length;
}

-- of a good letter and of a faulty one
abbrev pub read_result : Reading → ReadResult
read_result r = numbers (number_of r) (place_of r) (read_head r)
