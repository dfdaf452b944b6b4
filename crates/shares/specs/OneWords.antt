-- One cut of words.
-- Assumes nothing.
use Rattle.std.specs.Prelude.{ℕ, ◌*◌, ◌≡◌, true, List, length}
use Rattle.lists.specs.Below.{Below}
use Rattle.algebra.specs.Field.{Ops}
use Rattle.header.specs.declared.order.Order.{Order}
use Rattle.header.specs.Order.{lawful_order}
use Rattle.header.specs.Terms.{lawful_length}

-- What one cut of words is given: a lawful order and length, constants that are field words, and "exactly L*t random words".
pub record OneWords (O : Ops) (order : Order) (constants random : List ℕ) : Type 0 where
  pub order_lawful : lawful_order order ≡ true
  pub length_lawful : lawful_length (length constants) ≡ true
  pub constants_below : Below O.q constants
  pub random_size : length random ≡ length constants * order.t
  pub random_below : Below O.q random
