-- `trays::comparing::compare_trays` meets its contract: the places that are told stand at the front of the list.
-- Assumes nothing.
use Rattle.std.proofs.Common.{ℕ, ◌≤◌, ◌≡◌, refl, sym, List, arith, length-append, length-take-le}
use Rattle.std.proofs.Math.ListN.{length}
use Rattle.header.specs.declared.order.Order.{Order}
use Rattle.compare.specs.Compare.{Compared, CompareDone, refused, short, told}
use Rattle.trays.proofs.comparing.compare_trays.Goals as goal

within : {order : Order} {first second : List ℕ} {list left : List (List ℕ)} {result : Compared}
    → CompareDone order first second list result left → result.number ≡ 0 → result.count ≤ length left
within (refused h) e = absurd (h e)
within (short h l) e = absurd (omega arith)
within {order} {first} {second} (told h l) e = rw length-append (omega arith)

pub slice_bounds-list-end : goal.slice_bounds-list-end
slice_bounds-list-end c = within c.in-Ok.ensures refl

pub slice_bounds-say_all-end : goal.slice_bounds-say_all-end
slice_bounds-say_all-end c = sym (length-take-le _ _ (within c.in-Ok.ensures refl))
