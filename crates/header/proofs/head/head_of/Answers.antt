-- `header::head::head_of` meets its contract: its parts are the definition's.
-- Assumes nothing.
use Rattle.header.specs.Head.{head_of}
use Rattle.header.proofs.head.head_of.Goals as goal

pub returns : goal.returns
unfolding head_of
returns c = λ i. record { told = c.told_of-told.ensures i; keeper = c.wide.ensures i; stamp = c.stamp_of.ensures i; length = c.length_of.ensures i }
