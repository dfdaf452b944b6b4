-- `join::agreed` meets its contract: the size of what was found says whether it is an agreement.
-- Assumes nothing.
use Rattle.std.proofs.Common.{◌≡◌, None, refl, arith, rules}
use Rattle.join.specs.Judged.{agreed_found, apart_found}
use Rattle.join.proofs.agreed.Goals as goal

pub returns-in_err-set : goal.returns-in_err-set
returns-in_err-set c =
    let is : c.from_residual.result ≡ None = search rules in
    rw is (c.in_err-set.ensures.found.none refl)

pub returns-then-count-need : goal.returns-then-count-need
returns-then-count-need c = apart_found c.requires.need_is c.in_ok-set.ensures.found (omega arith)

pub returns-else-count-need : goal.returns-else-count-need
returns-else-count-need c = agreed_found c.requires.need_is c.in_ok-set.ensures.found (omega arith)
