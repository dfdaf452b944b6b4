-- `agree::agreement::column` meets its contract: the words so far are those of the first k rows.
-- Assumes nothing.
use Rattle.std.proofs.Common.{ℕ, refl, ap, ◌∙◌, List, set, rules}
use Rattle.lists.specs.Listed.{listed, set-listed}
use Rattle.agree.proofs.agreement.column.Invariants.{at}
use Rattle.agree.proofs.agreement.column.Goals as goal

pub loop-k-init : goal.loop-k-init
unfolding listed
loop-k-init c = refl

pub loop-k-preserved : goal.loop-k-preserved
loop-k-preserved c =
    let here = c.loop-k in
    let a = c.args in
    ap (λ (w : List ℕ). set w here.k (at a.rows.now a.i here.k)) here.invariant ∙ set-listed (at a.rows.now a.i) here.k _ (search rules)
