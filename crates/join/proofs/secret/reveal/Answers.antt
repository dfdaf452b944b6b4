-- `join::secret::reveal` meets its contract: the row holds the constants, and they are written where each is a byte.
-- Assumes nothing.
use Rattle.std.proofs.Common.{sym, ◌∙◌}
use Rattle.join.specs.Revealed.{reveals_bytes, reveals_wide}
use Rattle.join.proofs.secret.reveal.Goals as goal

pub put_bytes-requires-clause-bytes : goal.put_bytes-requires-clause-bytes
put_bytes-requires-clause-bytes c = sym c.within.ensures ∙ c.if-not-within.false

pub put_bytes-requires-clause-same_size : goal.put_bytes-requires-clause-same_size
put_bytes-requires-clause-same_size c = c.constants_of.auto.row ∙ c.requires.same_size

pub returns-then-not-within : goal.returns-then-not-within
returns-then-not-within c =
    reveals_wide c.constants_of.new.row c.args.room.now (rw c.requires.same_size at c.constants_of.ensures)
    (sym c.within.ensures ∙ c.if-not-within.true)

pub returns : goal.returns
returns c =
    reveals_bytes c.constants_of.new.row c.args.room.now (rw c.requires.same_size at c.constants_of.ensures)
    (sym c.within.ensures ∙ c.if-not-within.false) _ c.put_bytes.ensures
