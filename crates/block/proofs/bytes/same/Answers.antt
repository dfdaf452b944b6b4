-- `block::bytes::same` meets its contract: the bytes passed are the same until two of them are not.
-- Assumes nothing.
use Rattle.std.proofs.Common.{ap, arith, length}
use Rattle.lists.specs.Passed.{passed_more, passed_all}
use Rattle.lists.specs.SameBytes.{apart_not_same}
use Rattle.block.proofs.bytes.same.Goals as goal

pub returns-then-a-b : goal.returns-then-a-b
returns-then-a-b c = apart_not_same _ _ (λ same. c.if-a-b.true (ap length same))

pub loop-i-preserved : goal.loop-i-preserved
loop-i-preserved c = passed_more c.loop-i.invariant c.loop-i-test.true

pub returns : goal.returns
returns c = passed_all c.loop-i.same c.loop-i.invariant c.loop-i-test.false (omega arith)
