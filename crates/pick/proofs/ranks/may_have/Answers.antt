-- `pick::ranks::may_have` meets its contract, test by test.
-- Assumes nothing.
use Rattle.header.specs.Equal.{head_eq}
use Rattle.pick.specs.Ranks.{may_have}
use Rattle.pick.proofs.ranks.may_have.Goals as goal

-- the first test holds, and the second decides
pub returns-then-is_lawful : goal.returns-then-is_lawful
unfolding may_have
returns-then-is_lawful c = rw (← c.head_for.ensures, ← head_eq _ _ _ c.eq.ensures, ← c.is_lawful.ensures, c.if-is_lawful.true)

-- it fails
pub returns-else-is_lawful : goal.returns-else-is_lawful
unfolding may_have
returns-else-is_lawful c = rw (← c.is_lawful.ensures, c.if-is_lawful.false)
