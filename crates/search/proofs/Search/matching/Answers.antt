-- `search::Search::matching` meets its contract: the set so far is that of the keepers up to k that pass.
-- Assumes nothing.
use Rattle.std.proofs.Common.{refl, sym, ◌∙◌}
use Rattle.lists.specs.KeeperSet.{keeper_set}
use Rattle.lists.specs.KeeperSetLaws.{keeper_set_lt, keeper_set_joined, keeper_set_skipped}
use Rattle.search.proofs.Search.matching.Goals as goal
use Rattle.search.proofs.Search.matching.Goals.{then-matches, else-matches}

pub loop-k-init : goal.loop-k-init
unfolding keeper_set
loop-k-init c = refl

pub with-set-requires-clause-behind : goal.with-set-requires-clause-behind
with-set-requires-clause-behind c = rw c.loop-k.invariant (keeper_set_lt _ c.loop-k.k)

pub loop-k-preserved : goal.loop-k-preserved
loop-k-preserved c =
    let here = c.loop-k in
    let passes = sym c.matches.ensures in
    elim c.if-matches.branch [
      | then-matches w ↦ rw (w.set-is, w.with-set.ensures, c.loop-k.invariant) (sym (keeper_set_joined _ here.k (passes ∙ w.if-matches.true)))
      | else-matches w ↦ rw (w.set-is, c.loop-k.invariant) (sym (keeper_set_skipped _ here.k (passes ∙ w.if-matches.false)))
    ]
