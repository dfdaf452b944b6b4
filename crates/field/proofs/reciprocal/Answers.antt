-- The code's table is the one of the definition.
use Rattle.field.specs.Modulo.{reciprocals}
use Rattle.field.proofs.reciprocal.Goals as goal

pub returns : goal.returns
unfolding reciprocals
returns c = rw c.from.ensures
