-- What `==` says of two orders, of what two letters are of, and of two heads: the tests of the definitions.
-- Assumes nothing.
use Rattle.std.specs.Prelude.{◌≡◌, Bool, ◌&&◌, eqb}
use Rattle.header.specs.declared.order.Order.{Order}
use Rattle.header.specs.declared.told.Told.{Told}
use Rattle.header.specs.declared.head.Head.{Head}
use Rattle.header.specs.Order.{same_order}
use Rattle.header.specs.Told.{same_told}
use Rattle.header.specs.Head.{same_head}

pub order_eq : (a b : Order) (r : Bool) → r ≡ (eqb a.t b.t && (eqb a.f b.f && eqb a.n b.n)) → r ≡ same_order a b
unfolding same_order
order_eq a b r e = e

pub told_eq : (a b : Told) (r : Bool)
    → r ≡ ((eqb a.order.t b.order.t && (eqb a.order.f b.order.f && eqb a.order.n b.order.n)) && eqb a.key b.key)
    → r ≡ same_told a b
unfolding same_order same_told
told_eq a b r e = e

pub head_eq : (a b : Head) (r : Bool)
    → r ≡ (((eqb a.told.order.t b.told.order.t && (eqb a.told.order.f b.told.order.f && eqb a.told.order.n b.told.order.n)) && eqb a.told.key b.told.key)
    && (eqb a.keeper b.keeper && (eqb a.stamp b.stamp && eqb a.length b.length)))
    → r ≡ same_head a b
unfolding same_order same_told same_head
head_eq a b r e = e
