-- What a letter is of, as calls are told it: an order, and the number of a key.
-- Assumes nothing.
use Rattle.std.specs.Prelude.{ℕ, Bool, ◌&&◌, leb, eqb}
use Rattle.header.specs.declared.told.Told.{Told}
use Rattle.header.specs.Order.{lawful_order, same_order}

-- "the key number, 0..255"
abbrev pub lawful_key : ℕ → Bool
lawful_key key = leb key 255

-- lawful, where number 1 finds neither "order not lawful" nor "a key number above 255"
unfoldable pub lawful_told : Told → Bool
lawful_told told = lawful_order told.order && lawful_key told.key

-- the same order and key
unfoldable pub same_told : Told → Told → Bool
same_told a b = same_order a.order b.order && eqb a.key b.key
