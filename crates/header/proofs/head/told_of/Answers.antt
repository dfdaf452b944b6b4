-- `header::head::told_of` meets its contract: its parts are the definition's.
-- Assumes nothing.
use Rattle.header.proofs.head.told_of.Goals as goal

pub returns : goal.returns
returns c = λ i. record { order = c.order_of-order.ensures i; key = c.wide.ensures i }
