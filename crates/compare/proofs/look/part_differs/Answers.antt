-- `compare::look::part_differs` meets its contract: the parts lent are sixteen bytes long.
-- Assumes nothing.
use Rattle.std.proofs.Common.{◌+◌, ◌-◌, ◌*◌, ◌≡◌, refl, ◌∙◌, Bool, true, false, arith}
use Rattle.lists.specs.Count.{bit}
use Rattle.compare.specs.Parts.{part_differs}
use Rattle.std.specs.Int.{from_bool}
use Rattle.compare.proofs.look.part_differs.Goals as goal

one_byte : (b : Bool) → from_bool b ≡ bit b
one_byte true = refl
one_byte false = refl

pub returns : goal.returns
unfolding part_differs
returns c =
    let at = 16 * c.args.p in
    let whole : at + 16 - at ≡ 16 = omega arith in
    c.from.ensures ∙ rw (rw whole at c.same.ensures) (one_byte _)
