-- `shares::lent::lent_right` meets its contract: the two tests are the definition's.
-- Assumes nothing.
use Rattle.std.proofs.Common.{mul-le-mul, arith}
use Rattle.shares.proofs.lent.lent_right.Goals as goal

pub overflow_mul-l : goal.overflow_mul-l
overflow_mul-l c = omega (arith, mul-le-mul c.requires.length c.requires.order_t)

pub overflow_mul-result : goal.overflow_mul-result
overflow_mul-result c = omega (arith, mul-le-mul c.requires.each c.requires.order_n)
