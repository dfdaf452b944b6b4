-- What the new keepers weigh are letters of one cut, whatever words the old keepers cut again: of the carried words, with the carried random words. So the
-- letters weighed of any t+1 old keepers' sub-letters, lies among their words or not, lie on polynomials again and join to something: a lie shows in no letter
-- that a new keeper weighs, and only a join or a comparison after the move tells.
-- Each old keeper's sub-letters are of one cutting here. One that hands its sub-letters of different words to different new keepers makes no such move.
-- Assumes nothing.
use Rattle.std.specs.Prelude.{ℕ, suc, ◌≡◌, List}
use Rattle.std.proofs.Common.{arith}
use Rattle.lists.specs.Pieces.{pieces_same}
use Rattle.algebra.specs.Field.{Ops}
use Rattle.header.specs.OrderLaws.{facts_lawful_order}
use Rattle.cut.specs.Cut.{cut_tray}
use Rattle.cut.specs.LetterField.{LetterField}
use Rattle.cut.specs.OneCut.{OneCut}
use Rattle.moving.specs.declared.terms.Move.{Move}
use Rattle.moved.proofs.CarriedPolynomials.{length-sums, below_sums}
use Rattle.moved.proofs.Handed.{new_order}
use Rattle.moved.specs.Moved.{OneMove, moved_tray, carried_words, carried_random}
use Rattle.moved.proofs.MovedLetters.{weighed_letter_lem}

module _ {O : Ops} (F : LetterField O) {m : Move} {froms : List ℕ} {shares random : ℕ → List ℕ} (M : OneMove O m froms shares random) where
  -- the new tray is what one cut writes
  pub moved_cut : moved_tray O m froms shares random ≡ cut_tray O m.told m.stamp (carried_words O m froms shares) (carried_random O m froms random)
  unfolding moved_tray cut_tray
  moved_cut = pieces_same _ _ m.told.order.n (λ k l. weighed_letter_lem F M (suc k) (omega arith))

  -- and such a cut is lawful
  pub moved_one_cut : OneCut O m.told m.stamp (carried_words O m froms shares) (carried_random O m froms random)
  moved_one_cut =
      let many = length-sums O froms shares m.length in
      record {
        of_words = record {
          order_lawful = facts_lawful_order m.told.order (new_order F M);
          length_lawful = rw many M.length_lawful;
          constants_below = below_sums O froms shares m.length F.laws;
          random_size = rw many (length-sums O froms random _);
          random_below = below_sums O froms random _ F.laws;
        };
        told_lawful = M.told_lawful;
        stamp_lawful = M.stamp_lawful;
      }
