-- `agree::agreement::agreement` meets its contract: before each turn the set has kept step so far. The measure is the words left.
-- Assumes nothing.
use Rattle.std.proofs.Common.{◌-◌, ◌≤◌}
use Rattle.agree.specs.Kept.{Kept}
use Rattle.field.specs.Modulo.{mod257}
use Rattle.lists.specs.KeeperSet.{member}
use Rattle.weigh.specs.Weigh.{row_word}
use Rattle.agree.proofs.agreement.agreement.Given as goal

abbrev pub invariant-words : goal.invariant-words
invariant-words l = (l.start ≤ l.l) × Kept mod257 l.t l.f 16 (member l.fn.usable.bits) (row_word l.rows) l.l l.set.bits l.start

abbrev pub decreases-words : goal.decreases-words
decreases-words l = l.l - l.start
