-- `pick::joined` meets its contract: the join is done in a room of zeros, and its number is answered.
-- Assumes nothing.
use Rattle.std.proofs.Common.{refl}
use Rattle.join.specs.Join.{joined_of}
use Rattle.join.specs.Room.{take_zeros}
use Rattle.pick.specs.JoinGivesLaws.{accepted}
use Rattle.pick.specs.Ranks.{length_in}
use Rattle.pick.proofs.joined.Goals as goal

pub join_over-requires-clause-not_refused : goal.join_over-requires-clause-not_refused
join_over-requires-clause-not_refused c = let asked = c.requires.joinable in rw (take_zeros (length_in c.args.rank) 952 asked.terms.length_most) (accepted _ _ _ _ asked.terms asked.slots)

pub returns : goal.returns
returns c = (
  record {
    result = joined_of c.join_over.result;
    left = c.join_over.new.room;
    done = rw (take_zeros (length_in c.args.rank) 952 c.requires.joinable.terms.length_most) at c.join_over.ensures.0;
    numbered = refl;
  },
  c.join_over.ensures.1,
)
