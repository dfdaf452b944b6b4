-- One lying old keeper spoils a move, and no check of the move finds it: whatever the others hold, it can choose the words that it cuts again so that the new tray is,
-- byte for byte, what the cut writes for any other list of words.
-- Assumes nothing.
use Rattle.std.specs.Prelude.{ℕ, ◌<◌, ◌≡◌, List, length}
use Rattle.std.proofs.Common.{ap, ◌∙◌}
use Rattle.lists.specs.Below.{Below}
use Rattle.algebra.specs.Field.{Ops}
use Rattle.cut.specs.Cut.{cut_tray}
use Rattle.cut.specs.LetterField.{LetterField}
use Rattle.moving.specs.declared.terms.Move.{Move}
use Rattle.moved.specs.Moved.{OneMove, carried_random}
use Rattle.moved.proofs.MovedTray.{moved_cut}
use Rattle.moved.specs.OneChanged.{instead}
use Rattle.moved.proofs.OneChanged.{instead_has, giving, length_giving, below_giving, giving_gives}
use Rattle.moved.proofs.TheMove.{zero_points}
use Rattle.moved.specs.OneLiar.{Spoils}

module _ {O : Ops} (F : LetterField O) {m : Move} {froms : List ℕ} {shares random : ℕ → List ℕ} (M : OneMove O m froms shares random)
    (j : ℕ) (l : j < length froms) (wrong : List ℕ) (s : length wrong ≡ m.length) (b : Below O.q wrong) where
  abbrev chosen : List ℕ
  chosen = giving F.laws froms (zero_points F M) shares j l m.length wrong

  lying_move : OneMove O m froms (instead shares j chosen) random
  lying_move = record {
    old_lawful = M.old_lawful;
    told_lawful = M.told_lawful;
    stamp_lawful = M.stamp_lawful;
    length_lawful = M.length_lawful;
    many = M.many;
    different = M.different;
    keepers = M.keepers;
    shares_size = λ k h. instead_has (λ ws. length ws ≡ m.length) shares j chosen k (length_giving F.laws froms (zero_points F M) shares j l m.length wrong) (M.shares_size k h);
    shares_below = λ k h. instead_has (Below O.q) shares j chosen k (below_giving F.laws froms (zero_points F M) shares j l m.length wrong) (M.shares_below k h);
    random_size = M.random_size;
    random_below = M.random_below;
  }

  -- there are such words, whoever lies and whatever it wants
  pub one_liar : Spoils O m froms shares random j wrong
  one_liar = record {
    lie = chosen;
    a_move = lying_move;
    tray = moved_cut F lying_move
        ∙ ap (λ (ws : List ℕ). cut_tray O m.told m.stamp ws (carried_random O m froms random)) (giving_gives F.laws froms (zero_points F M) shares j l m.length wrong s b);
  }
