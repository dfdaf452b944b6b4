-- `search::Search::tried` meets its contract: the points are the base, and what is carried from them lies on the one polynomial through them.
-- Assumes nothing.
use Rattle.std.proofs.Common.{ℕ, ◌+◌, ◌-◌, ◌≤◌, ◌≡◌, List, arith}
use Rattle.field.proofs.Laws.{mod257_field}
use Rattle.field.specs.Modulo.{mod257}
use Rattle.lists.specs.Below.{below_any}
use Rattle.lists.specs.KeeperSet.{keeper_set, member}
use Rattle.search.specs.Base.{Base, base_keepers, keeper_points}
use Rattle.search.specs.Search.{Words, word, carried_to}
use Rattle.search.specs.TriedLaws.{Tried, tried_enough, tried_short}
use Rattle.search.proofs.Search.tried.Goals as goal

-- what was tried, whether enough match or not
tried_as : (words : List ℕ) (among base : ℕ) {t need set : ℕ} {points : List ℕ} → Words words → t + 1 ≤ need → Base t 16 (member base) points
    → set ≡ keeper_set (carried_to mod257 (member among) (word words) points) 16
    → Tried mod257 t 16 need (member among) (member base) (word words) set
tried_as words among base {points = points} w enough first carries = record {
  points = points;
  first = first;
  carries = carries;
  below = λ x. below_any 257 words (omega arith) w.below (x - 1);
  positive = omega arith;
}

pub matching-set-requires : goal.matching-set-requires
matching-set-requires c = base_keepers c.first-points.ensures

pub returns-then-self-count-clause-finds : goal.returns-then-self-count-clause-finds
returns-then-self-count-clause-finds c =
    let self = c.args.self.now in
    tried_enough mod257_field keeper_points (tried_as self.words self.among.bits c.args.base.bits self.whole self.enough c.first-points.ensures c.matching-set.ensures) (omega arith)

pub returns-else-self-count-clause-finds : goal.returns-else-self-count-clause-finds
returns-else-self-count-clause-finds c =
    let self = c.args.self.now in
    tried_short mod257_field keeper_points (tried_as self.words self.among.bits c.args.base.bits self.whole self.enough c.first-points.ensures c.matching-set.ensures) (omega arith)
