-- `lines::text::Text::put_decimal` meets its contract: a number below 2^32 has ten digits at most.
-- Assumes nothing.
use Rattle.std.proofs.Common.{arith, length-take}
use Rattle.lines.specs.DecimalLaws.{length-decimal}
use Rattle.lines.proofs.text.Text.put_decimal.Goals as goal

pub returns-clause-at_most : goal.returns-clause-at_most
returns-clause-at_most g c =
    let call = c.put_decimal-self-inside in
    rw (← c.self.view_is) (simp length-take (omega (arith, call.ensures.place, length-decimal 9 c.args.n (omega arith))))
