-- `exports::reading::good` meets its contract: a lawful head's numbers fit 32 bits.
-- Assumes nothing.
use Rattle.std.proofs.Common.{arith}
use Rattle.header.specs.HeadLaws.{lawful_head_facts}
use Rattle.exports.proofs.reading.good.Goals as goal

pub overflow_cast-result : goal.overflow_cast-result
overflow_cast-result c = omega (arith, lawful_head_facts _ c.requires)

pub overflow_cast-result-2 : goal.overflow_cast-result-2
overflow_cast-result-2 c = omega (arith, lawful_head_facts _ c.requires)

pub overflow_cast-result-3 : goal.overflow_cast-result-3
overflow_cast-result-3 c = omega (arith, lawful_head_facts _ c.requires)

pub overflow_cast-result-4 : goal.overflow_cast-result-4
overflow_cast-result-4 c = omega (arith, lawful_head_facts _ c.requires)

pub overflow_cast-result-5 : goal.overflow_cast-result-5
overflow_cast-result-5 c = omega (arith, lawful_head_facts _ c.requires)

pub overflow_cast-result-6 : goal.overflow_cast-result-6
overflow_cast-result-6 c = omega (arith, lawful_head_facts _ c.requires)
