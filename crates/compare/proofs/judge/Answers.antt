-- `compare::judge` meets its contract: a lawful order has at most sixteen keepers.
-- Assumes nothing.
use Rattle.std.proofs.Common.{sym, ◌∙◌, arith}
use Rattle.header.specs.OrderLaws.{lawful_order_facts}
use Rattle.compare.proofs.judge.Goals as goal

pub are_trays-requires : goal.are_trays-requires
are_trays-requires c = omega (arith, lawful_order_facts _ (sym c.is_lawful.ensures ∙ c.if-not-is_lawful.false))
