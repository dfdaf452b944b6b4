-- The old keepers that a weighing is told, and those that its sub-letters name: "an old keeper repeated, missing, not told".
-- Assumes nothing.
use Rattle.std.specs.Prelude.{ℕ, Bool, not, List, eqb, length, get_or}
use Rattle.lists.specs.AllTo.{all_to}
use Rattle.header.specs.declared.order.Order.{Order}
use Rattle.header.specs.Order.{lawful_keeper}

-- each of them is a keeper of the order
unfoldable pub all_keepers : Order → List ℕ → Bool
all_keepers order keepers = all_to (λ i. lawful_keeper order (get_or keepers i 0)) (length keepers)

-- none of the first k numbers is x
unfoldable pub none_is : ℕ → List ℕ → ℕ → Bool
none_is x xs k = all_to (λ i. not (eqb (get_or xs i 0) x)) k

-- none is repeated
unfoldable pub differ : List ℕ → Bool
differ xs = all_to (λ i. none_is (get_or xs i 0) xs i) (length xs)

-- each of the first is among the second
unfoldable pub each_in : List ℕ → List ℕ → Bool
each_in xs ys = all_to (λ i. not (none_is (get_or xs i 0) ys (length ys))) (length xs)
