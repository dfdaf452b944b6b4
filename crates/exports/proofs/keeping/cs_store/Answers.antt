-- `exports::keeping::cs_store` meets its contract: a fault's place is small.
-- Assumes nothing.
use Rattle.std.proofs.Common.{arith}
use Rattle.exports.specs.StorePlace.{small_store_place}
use Rattle.exports.proofs.keeping.cs_store.Goals as goal

pub overflow_cast-result : goal.overflow_cast-result
overflow_cast-result c =
    omega (arith, c.in-Err.ensures.place, small_store_place c.as_told.result c.args.keeper c.args.held.now c.args.letter.now)
