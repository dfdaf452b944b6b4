-- `cut::letters::write_letters` meets its contract: before each turn the letters of the first k keepers stand.
-- Assumes nothing.
use Rattle.std.proofs.Common.{suc, ◌*◌}
use Rattle.cut.specs.Letters.{letter_from}
use Rattle.field.specs.Modulo.{mod257}
use Rattle.shares.specs.Laying.{Laying}
use Rattle.cut.proofs.letters.write_letters.Given as goal

abbrev pub invariant-loop-k : goal.invariant-loop-k
invariant-loop-k l =
    Laying 2048 (λ i. letter_from mod257 l.terms.told l.terms.stamp l.columns l.terms.length (suc i)) (2048 * l.terms.told.order.n) l.k l.tray
