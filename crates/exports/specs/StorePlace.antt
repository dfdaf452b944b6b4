-- The place that storing answers is small, as the place of any fault is.
-- Assumes nothing.
use Rattle.std.specs.Prelude.{ℕ, ◌<◌, Bool, true, false, cond, ◌&&◌, List, eqb, length}
use Rattle.std.proofs.Common.{arith}
use Rattle.header.specs.declared.told.Told.{Told}
use Rattle.format.specs.Reading.{read_of, place_of}
use Rattle.format.specs.ReadingBounds.{small_place}
use Rattle.desk.specs.Desk.{desk_right, store_place}

pub small_or_none : (test : Bool) (place : ℕ) → place < 512 → cond test place 0 < 512
small_or_none true place h = h
small_or_none false place h = omega arith

pub small_store_place : (told : Told) (keeper : ℕ) (held letter : List ℕ) → store_place told keeper held letter < 512
unfolding store_place
small_store_place told keeper held letter =
    small_or_none (desk_right told keeper && (eqb (length held) 2048 && eqb (length letter) 2048)) (place_of (read_of letter)) (small_place letter)
