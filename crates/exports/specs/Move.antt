-- What a move is told, as callers tell it, and what its two calls answer, in C's structs.
-- Assumes nothing.
use Rattle.std.specs.Prelude.{ℕ}
use Rattle.moving.specs.Cutting.{Cutting}
use Rattle.moving.specs.declared.terms.Move.{Move}
use Rattle.sub_letters.specs.Judging.{Weighing}
use Rattle.exports.specs.declared.hosts.MoveCutResult.{MoveCutResult}
use Rattle.exports.specs.declared.hosts.MoveWeighResult.{MoveWeighResult}
use Rattle.exports.specs.Told.{order_told, as_told}

-- "Both calls are told both orders, key, length and new stamp"
abbrev pub as_move : ℕ → ℕ → ℕ → ℕ → ℕ → ℕ → ℕ → ℕ → ℕ → Move
as_move old-t old-f old-n t f n key length stamp =
    record { old = order_told old-t old-f old-n; told = as_told t f n key; stamp = stamp; length = length }

-- C's struct, as the cutting's
abbrev pub cut_as : MoveCutResult → Cutting
cut_as r = record { number = r.number; place = r.place }

-- C's struct, as the weighing's
abbrev pub weighed_as : MoveWeighResult → Weighing
weighed_as r = record { number = r.number; letter = r.letter; place = r.place }
