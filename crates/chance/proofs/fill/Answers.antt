-- `chance::fill` meets its contract: where as many words are there as are wanted, each of them is at most 256.
-- Assumes nothing.
use Rattle.chance.specs.DrawLaws.{begun_all}
use Rattle.chance.proofs.fill.Goals as goal

pub returns-then-count-words : goal.returns-then-count-words
returns-then-count-words c = begun_all c.calls.invariant.1 c.if-count-words.true

pub returns-then-count-words-2 : goal.returns-then-count-words-2
returns-then-count-words-2 c = begun_all c.calls.invariant.1 c.if-count-words-2.true
