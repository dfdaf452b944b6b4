-- `moving::cutting::is_lent` meets its contract: its tests are the definition's, in their order.
-- Assumes nothing.
use Rattle.std.proofs.Common.{arith}
use Rattle.header.specs.Chain.{chain}
use Rattle.moving.proofs.cutting.is_lent.Goals as goal

pub lent_right-requires : goal.lent_right-requires
lent_right-requires c =
    let terms = c.requires.of_terms in
    record { order_t = terms.of_told.of_order.t_most; order_n = terms.of_told.of_order.n_most; length = terms.length_most; each = omega arith }

pub returns-then-letter-eq2048 : goal.returns-then-letter-eq2048
returns-then-letter-eq2048 c = rw (← c.lent_right.ensures) (search chain)

pub returns-else-letter-eq2048 : goal.returns-else-letter-eq2048
returns-else-letter-eq2048 c = search chain
