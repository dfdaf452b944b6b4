-- `names::ended` meets its contract: the name is laid over zeros.
-- Assumes nothing.
use Rattle.std.proofs.Common.{arith}
use Rattle.names.proofs.Naming.{laid_closed, closed_last}
use Rattle.names.proofs.ended.Goals as goal

pub returns-clause-ended : goal.returns-clause-ended
returns-clause-ended c = closed_last (omega arith) (laid_closed c.put.ensures (omega arith))

pub returns-clause-closed : goal.returns-clause-closed
returns-clause-closed c = laid_closed c.put.ensures (omega arith)
