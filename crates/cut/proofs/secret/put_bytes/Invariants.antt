-- `cut::secret::put_bytes` meets its contract: the row is filled from the front with the secret.
-- Assumes nothing.
use Rattle.std.proofs.Common.{get_or}
use Rattle.lists.specs.Filling.{Filling}
use Rattle.cut.proofs.secret.put_bytes.Given as goal

abbrev pub invariant-loop-i : goal.invariant-loop-i
invariant-loop-i l = Filling (λ k. get_or l.secret k 0) l.initial.row l.i l.row
