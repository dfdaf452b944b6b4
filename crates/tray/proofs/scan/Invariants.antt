-- `tray::scan` meets its contract, keeper by keeper. A slot is usable as it reads.
-- Assumes nothing.
use Rattle.tray.proofs.Scanning.{ScannedTo}
use Rattle.tray.proofs.scan.Given as goal

abbrev pub invariant-loop-k : goal.invariant-loop-k
invariant-loop-k l = ScannedTo l.terms.told l.terms.stamp l.l l.tray l.set l.rows l.k
