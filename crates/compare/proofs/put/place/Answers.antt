-- `compare::put::place` meets its contract: word i of the bytes is what stands at place i.
-- Assumes nothing.
use Rattle.compare.specs.Compare.{difference}
use Rattle.compare.proofs.CompareLaws.{raw_word_lem}
use Rattle.compare.proofs.put.place.Goals as goal

pub returns : goal.returns
unfolding difference
returns c =
    let args = c.args in
    rw (c.word_at-before.ensures, c.word_at-after.ensures, ← raw_word_lem args.first.now, ← raw_word_lem args.second.now)
