-- `search::keepers::KeeperSet::first` meets its contract: the keepers gathered so far are those up to k.
-- Assumes nothing.
use Rattle.std.proofs.Common.{ℕ, ◌+◌, ◌≤◌, ◌<◌, refl, sym, ◌∙◌, arith}
use Rattle.std.specs.Int.Count.{ones}
use Rattle.lists.specs.Chosen.{chosen}
use Rattle.lists.specs.Count.{count}
use Rattle.lists.specs.From.{from}
use Rattle.lists.specs.KeeperSet.{member}
use Rattle.lists.specs.KeeperSetLaws.{ones-member}
use Rattle.search.proofs.Gathered.{gathered_in, gathered_out, gathered_all, gathered_short}
use Rattle.search.proofs.keepers.KeeperSet.first.Goals as goal
use Rattle.search.proofs.keepers.KeeperSet.first.Goals.{then-has+else-found-t, else-has}

-- a set that has so many keepers has as many among 1..16
as_many : (set t : ℕ) → t + 1 ≤ ones set → set < 65536 → t + 1 ≤ count (member set) (from 1 16)
as_many set t h fits = omega (arith, h, ones-member 16 set fits)

pub loop-k-init : goal.loop-k-init
unfolding chosen count from
loop-k-init c = record { size = refl; so_far = refl; counted = refl; few = omega arith }

pub bounds-who-found : goal.bounds-who-found
bounds-who-found c = omega arith

pub loop-k-preserved : goal.loop-k-preserved
loop-k-preserved c =
    let of = sym c.has.ensures in
    elim c.if-has.branch [
      | then-has+else-found-t w ↦ rw (w.who-is, w.found-is) (gathered_in c.loop-k.invariant c.requires.t_small w.if-found-t.false (of ∙ w.if-has.true))
      | else-has w ↦ rw (w.who-is, w.found-is) (gathered_out c.loop-k.invariant (of ∙ w.if-has.false))
    ]

pub returns-then-found-t : goal.returns-then-found-t
returns-then-found-t c =
    gathered_all c.loop-k.invariant (as_many c.args.self.bits c.args.t c.requires.enough (omega arith)) c.requires.t_small c.loop-k-test.true c.if-found-t.true (sym c.has.ensures ∙ c.if-has.true)

pub returns-after-loop-k : goal.returns-after-loop-k
returns-after-loop-k c =
    absurd (gathered_short c.loop-k.invariant (as_many c.args.self.bits c.args.t c.requires.enough (omega arith)) (omega arith))
