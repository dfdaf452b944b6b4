-- What every call with a secret is told: an order and a key, a stamp and a length.
-- Assumes nothing.
use Rattle.std.specs.Prelude.{ℕ, Bool, cond, ◌&&◌, leb}
use Rattle.header.specs.declared.told.Told.{Told}
use Rattle.header.specs.Told.{lawful_told}

-- "A stamp is 1..4,294,967,295."
abbrev pub lawful_stamp : ℕ → Bool
lawful_stamp s = leb 1 s && leb s 4294967295

-- "A secret has L bytes, 1..952."
abbrev pub lawful_length : ℕ → Bool
lawful_length l = leb 1 l && leb l 952

-- 1, "order not lawful" or "a key number above 255"; 2, "L outside 1..952"; 3, "stamp 0"; 0 where nothing is wrong. "Where several apply, the smallest number wins".
unfoldable pub terms_number : Told → ℕ → ℕ → ℕ
terms_number told stamp l = cond (lawful_told told) (cond (lawful_length l) (cond (lawful_stamp stamp) 0 3) 2) 1
