-- What cs_compare answers: the comparison's own numbers, in C's struct.
-- Assumes nothing.
use Rattle.compare.specs.Compare.{Compared}
use Rattle.compare.specs.Compare.{compared}
use Rattle.exports.specs.declared.comparing.CompareResult.{CompareResult}

-- C's struct, as the comparison's
abbrev pub compared_as : CompareResult → Compared
compared_as r = compared r.number r.count
