-- The new tray of a move, where one old keeper draws other random words.
-- Assumes nothing.
use Rattle.std.specs.Prelude.{ℕ, List}
use Rattle.algebra.specs.Field.{Ops}
use Rattle.cut.specs.Cut.{cut_tray}
use Rattle.moving.specs.declared.terms.Move.{Move}
use Rattle.moving.specs.Move.{old_told}
use Rattle.moved.specs.Moved.{moved_tray}
use Rattle.moved.specs.OneChanged.{instead}
use Rattle.moved.specs.TheMove.{held_in}

-- the moved tray of one old cut, with other random words drawn by old keeper number j
abbrev pub moved_instead : Ops → Move → ℕ → List ℕ → List ℕ → List ℕ → (ℕ → List ℕ) → ℕ → List ℕ → List ℕ
moved_instead O m stamp secret first froms random j drawn =
    moved_tray O m froms (held_in (cut_tray O (old_told m) stamp secret first) m.length froms) (instead random j drawn)
