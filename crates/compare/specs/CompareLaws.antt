-- What it says that a comparison is not refused for its order or its trays.
-- Assumes nothing.
use Rattle.std.specs.Prelude.{ℕ, ◌*◌, ◌≡◌, List, length}
use Rattle.header.specs.declared.order.Order.{Order}
use Rattle.header.specs.OrderLaws.{OrderFacts}

pub record CompareFacts (order : Order) (first second : List ℕ) : Type 0 where
  pub of_order : OrderFacts order
  pub first_slots : length first ≡ 2048 * order.n
  pub second_slots : length second ≡ 2048 * order.n
