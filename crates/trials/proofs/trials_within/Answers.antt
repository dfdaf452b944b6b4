-- `trials::trials_within` meets its contract: the place that is counted is that of the first set within.
-- Assumes nothing.
use Rattle.std.proofs.Common.{◌+◌, ◌∙◌, arith}
use Rattle.lists.specs.Chosen.{chosen}
use Rattle.lists.specs.From.{from}
use Rattle.lists.specs.KeeperSet.{member}
use Rattle.trials.proofs.Left.{usable_many_lem}
use Rattle.trials.proofs.Lowest.{place-trials}
use Rattle.trials.proofs.trials_within.Goals as goal

pub counted-requires : goal.counted-requires
counted-requires c =
    record {
      small = omega (arith, c.requires.t_small);
      bound = omega arith;
      size = c.count-many.ensures ∙ usable_many_lem c.args.usable.bits (omega arith);
      enough = omega (arith, c.requires.enough);
    }

pub returns : goal.returns
returns c = c.counted.ensures ∙ place-trials (member c.args.set.bits) (chosen (member c.args.usable.bits) (from 1 16)) (c.args.t + 1) c.requires.enough
