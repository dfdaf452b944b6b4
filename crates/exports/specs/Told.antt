-- An order, and what a letter is of, as callers tell them.
-- Assumes nothing.
use Rattle.std.specs.Prelude.{ℕ}
use Rattle.header.specs.declared.order.Order.{Order}
use Rattle.header.specs.declared.told.Told.{Told}

-- three numbers: t, f and n
abbrev pub order_told : ℕ → ℕ → ℕ → Order
order_told t f n = record { t = t; f = f; n = n }

-- "the key number beside the order"
abbrev pub as_told : ℕ → ℕ → ℕ → ℕ → Told
as_told t f n key = record { order = order_told t f n; key = key }
