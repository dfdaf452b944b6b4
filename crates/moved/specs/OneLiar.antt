-- What one lying old keeper puts in the place of its list.
-- Assumes nothing.
use Rattle.std.specs.Prelude.{ℕ, ◌≡◌, List}
use Rattle.algebra.specs.Field.{Ops}
use Rattle.cut.specs.Cut.{cut_tray}
use Rattle.moving.specs.declared.terms.Move.{Move}
use Rattle.moved.specs.Moved.{OneMove, moved_tray, carried_random}
use Rattle.moved.specs.OneChanged.{instead}

-- words that old keeper number j cuts instead of its share words, in a move as any other, so that the new tray is a cut's of these wrong words
pub record Spoils (O : Ops) (m : Move) (froms : List ℕ) (shares random : ℕ → List ℕ) (j : ℕ) (wrong : List ℕ) : Type 0 where
  pub lie : List ℕ
  pub a_move : OneMove O m froms (instead shares j lie) random
  pub tray : moved_tray O m froms (instead shares j lie) random ≡ cut_tray O m.told m.stamp wrong (carried_random O m froms random)
