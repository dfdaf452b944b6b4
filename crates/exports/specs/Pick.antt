-- What cs_pick answers: the pick's own numbers, in C's struct.
-- Assumes nothing.
use Rattle.pick.specs.Pick.{Picked}
use Rattle.pick.specs.Pick.{picked}
use Rattle.exports.specs.declared.picking.PickResult.{PickResult}

-- C's struct, as the pick's
abbrev pub picked_as : PickResult → Picked
picked_as r = picked r.number r.stamp r.length
