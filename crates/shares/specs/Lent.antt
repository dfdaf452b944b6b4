-- What a cut is lent with its constants: random words, and room for each keeper.
-- Assumes nothing.
use Rattle.std.specs.Prelude.{ℕ, ◌*◌, Bool, cond, ◌&&◌, List, eqb, length}
use Rattle.block.specs.Check.{all_at_most}
use Rattle.header.specs.declared.order.Order.{Order}

-- "exactly L*t random words" for L constants, and room of so many numbers for each keeper
abbrev pub lent_right : Order → ℕ → ℕ → ℕ → ℕ → Bool
lent_right order l words each room = eqb words (l * order.t) && eqb room (each * order.n)

-- 4, "a lent part has the wrong length"; 5, "a random word above 256", or a constant above 256, which no byte is; 0 where nothing is wrong
unfoldable pub lent_number : Order → List ℕ → List ℕ → ℕ → List ℕ → ℕ
lent_number order constants random each room =
    cond (lent_right order (length constants) (length random) each (length room)) (cond (all_at_most 256 constants && all_at_most 256 random) 0 5) 4
