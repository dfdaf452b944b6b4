-- A field whose words a letter holds, and which tells an order's keepers apart.
-- Assumes nothing.
use Rattle.std.specs.Prelude.{◌<◌, ◌≤◌, ◌≡◌, true}
use Rattle.std.proofs.Common.{arith}
use Rattle.algebra.specs.Field.{Ops, IsField}
use Rattle.field.specs.Modulo.{mod257}
use Rattle.field.proofs.Laws.{mod257_field}
use Rattle.header.specs.declared.order.Order.{Order}
use Rattle.header.specs.Order.{lawful_order}
use Rattle.header.specs.OrderLaws.{lawful_order_facts}

pub record LetterField (O : Ops) : Type 0 where
  pub laws : IsField O
  pub least : 16 < O.q
  pub most : O.q ≤ 257

pub keepers_apart : {O : Ops} → LetterField O → (order : Order) → lawful_order order ≡ true → order.n < O.q
keepers_apart F order e = omega (arith, F.least, lawful_order_facts order e)

pub mod257-letters : LetterField mod257
mod257-letters = record { laws = mod257_field; least = omega arith; most = omega arith }
