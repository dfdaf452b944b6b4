-- What is found of the parts of two trays of n slots says where the trays differ.
-- Assumes nothing.
use Prim.Native.Nat.{ℕ, ◌*◌, ◌≤◌}
use mathlib.Core.Path.{◌≡◌, sym, ap, ◌∙◌}
use mathlib.Core.List.{List, ◌++◌, map}
use native.Mathlib.Nat.{zero-add}
use native.Mathlib.Omega.{arith}
use lib.ListN.{length, take, drop, length-map, length-take}
use Rattle.lists.specs.Below.{Below}
use Rattle.lists.specs.Chosen.{chosen, below_chosen}
use Rattle.lists.specs.ChosenFrom.{chosen_most}
use Rattle.lists.specs.From.{from, below_from}
use Rattle.header.specs.declared.order.Order.{Order}
use Rattle.compare.specs.Compare.{differs, difference, differences}
use Rattle.compare.specs.CompareLaws.{CompareFacts}
use Rattle.compare.specs.Parts.{part_differs, in_parts, HaveParts, Looked, Laid}
use Rattle.compare.proofs.PartLaws.{in_parts_all}

-- a slot has 128 parts
pub trays_have_parts : {order : Order} {first second : List ℕ} → CompareFacts order first second → HaveParts first second (128 * order.n)
trays_have_parts facts = record { few = omega (arith, facts); in_first = omega (arith, facts); in_second = omega (arith, facts) }

module _ (order : Order) {first second old left : List ℕ} {parts : ℕ} (looked : Looked first second (128 * order.n) old left parts) where
  found : take parts left ≡ chosen (part_differs first second) (from 0 (128 * order.n))
  found = looked.listed

  -- as many as there are, and no more than there is room for
  pub found_size : parts ≡ length (take parts left)
  found_size = looked.many ∙ ap length (sym found)

  pub found_within : parts ≤ length left
  found_within = omega (arith, found_size, length-take parts left)

  pub found_few : length (take parts left) ≤ 128 * order.n
  found_few = omega (arith, found_size, looked.many, chosen_most (part_differs first second) 0 (128 * order.n))

  pub found_below : Below (128 * order.n) (take parts left)
  found_below = rw found (below_chosen (128 * order.n) (part_differs first second) (from 0 (128 * order.n)) (below_from (128 * order.n) 0 (128 * order.n) (omega arith)))

  places : in_parts first second (take parts left) ≡ chosen (differs first second) (from 0 (1024 * order.n))
  places =
      let all : 8 * (128 * order.n) ≡ 1024 * order.n = omega arith in
      ap (in_parts first second) found ∙ (in_parts_all first second (128 * order.n) ∙ ap (λ k. chosen (differs first second) (from 0 k)) all)

  pub rows_are : map (difference first second) (in_parts first second (take parts left)) ≡ differences order first second
  unfolding differences
  rows_are = ap (map (difference first second)) places

  pub words_are : length (in_parts first second (take parts left)) ≡ length (differences order first second)
  words_are = sym (length-map (in_parts first second (take parts left)) (difference first second)) ∙ ap (λ (rows : List (List ℕ)). length rows) rows_are

  pub laid_are : {list left' : List (List ℕ)} {many : ℕ} → Laid (difference first second) list 0 (in_parts first second (take parts left)) left' many
      → left' ≡ differences order first second ++ drop (length (differences order first second)) list
  laid_are laid = laid.laid ∙ rw (rows_are, zero-add)

  pub count_is : {list left' : List (List ℕ)} {many : ℕ} → Laid (difference first second) list 0 (in_parts first second (take parts left)) left' many
      → many ≡ length (differences order first second)
  count_is laid = omega (arith, laid.behind, words_are)
