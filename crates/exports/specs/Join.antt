-- What cs_join answers: the join's own numbers, in C's struct.
-- Assumes nothing.
use Rattle.join.specs.Join.{Joined}
use Rattle.exports.specs.declared.joining.JoinResult.{JoinResult}

-- C's struct, as the join's
abbrev pub joined_as : JoinResult → Joined
joined_as r = record { number = r.number; usable = r.usable; need = r.need; set = r.set; trials = r.trials }
