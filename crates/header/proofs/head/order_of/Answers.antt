-- `header::head::order_of` meets its contract: its three words are the definition's.
-- Assumes nothing.
use Rattle.header.proofs.head.order_of.Goals as goal

pub returns : goal.returns
returns c = λ i. record { t = c.wide.ensures i; f = c.wide-2.ensures i; n = c.wide-3.ensures i }
