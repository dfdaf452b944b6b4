-- The order.
-- Assumes nothing.
use Rattle.std.specs.Prelude.{ℕ, ◌+◌, ◌*◌, Bool, ◌&&◌, leb, eqb}
use Rattle.header.specs.declared.order.Order.{Order}

-- "It is lawful if t is 1..7, f is at most t, and n lies between t+4f+1 and 16."
unfoldable pub lawful_order : Order → Bool
lawful_order o = leb 1 o.t && (leb o.t 7 && (leb o.f o.t && (leb (o.t + 4 * o.f + 1) o.n && leb o.n 16)))

-- "Keepers are numbered 1..n."
unfoldable pub lawful_keeper : Order → ℕ → Bool
lawful_keeper o keeper = leb 1 keeper && leb keeper o.n

-- the same t, f and n
unfoldable pub same_order : Order → Order → Bool
same_order a b = eqb a.t b.t && (eqb a.f b.f && eqb a.n b.n)
