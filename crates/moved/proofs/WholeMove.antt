-- The theorem of the move through the promises of both calls: where each of t+1 old keepers cuts its letter of one cut again, and a new keeper weighs what they
-- hand it, no call refuses, and the new keeper has its letter of a cut of the same secret.
-- Assumes nothing.
use Rattle.std.specs.Prelude.{ℕ, ◌*◌, ◌<◌, ◌≡◌, length, get_or}
use Rattle.std.proofs.Math.Path.{ap}
use Rattle.std.proofs.Common.{subst, ◌∙◌}
use mathlib.Core.List.{List}
use Rattle.lists.specs.Pieces.{pieces, pieces_same}
use Rattle.algebra.specs.Field.{Ops}
use Rattle.header.specs.OrderLaws.{KeeperFacts}
use Rattle.tray.specs.Tray.{slot_of}
use Rattle.cut.specs.Cut.{cut_tray}
use Rattle.cut.specs.LetterField.{LetterField}
use Rattle.cut.specs.OneCut.{OneCut}
use Rattle.moving.specs.Cutting.{Cutting}
use Rattle.moving.specs.declared.terms.Move.{Move}
use Rattle.moving.specs.Cutting.{MoveCutDone}
use Rattle.moving.specs.Move.{old_told}
use Rattle.sub_letters.specs.Judging.{Weighing}
use Rattle.sub_letters.specs.Judging.{only}
use Rattle.weighing.specs.Weighing.{WeighDone}
use Rattle.moved.proofs.CutAgain.{cut-letter_done}
use Rattle.moved.specs.Moved.{OneMove, handed_to, carried_random}
use Rattle.moved.specs.TheMove.{held_in}
use Rattle.moved.proofs.TheMove.{carried_secret}
use Rattle.moved.specs.Weighed.{SameKeepers}
use Rattle.moved.proofs.Weighed.{weigh_done}

module _ {O : Ops} (F : LetterField O) {m : Move} {stamp : ℕ} {secret first : List ℕ} (C : OneCut O (old_told m) stamp secret first) (s : length secret ≡ m.length)
    {froms : List ℕ} {random : ℕ → List ℕ} (M : OneMove O m froms (held_in (cut_tray O (old_told m) stamp secret first) m.length froms) random) (later : stamp < m.stamp)
    (trays cuts : ℕ → List ℕ) (answers : ℕ → Cutting) (room : (k : ℕ) → k < length froms → length (trays k) ≡ 2048 * m.told.order.n)
    (each : (k : ℕ) → k < length froms
    → MoveCutDone O m (get_or froms k 0) (slot_of (cut_tray O (old_told m) stamp secret first) (get_or froms k 0)) (random k) (trays k) (answers k) (cuts k)) where
  -- every cutting answers 0
  pub all_cut : (k : ℕ) → k < length froms → answers k ≡ record { number = 0; place = 0 }
  all_cut k l = (cut-letter_done F C s M later k l (room k l) (each k l)).0

  -- slot x of what each left, end to end, is what x is handed
  handed : (x : ℕ) → pieces (λ k. slot_of (cuts k) x) (length froms) ≡ handed_to O m froms (held_in (cut_tray O (old_told m) stamp secret first) m.length froms) random x
  unfolding handed_to
  handed x = pieces_same _ _ (length froms) (λ k l. ap (λ (left : List ℕ). slot_of left x) (cut-letter_done F C s M later k l (room k l) (each k l)).1)

  -- and the weighing answers 0 and leaves the letter that "the cut writes for the same secret, with random words that are the same weighted sums"
  pub all_moved : {keepers : List ℕ} → SameKeepers froms keepers → (x : ℕ) → KeeperFacts m.told.order x → {slot left : List ℕ} {answer : Weighing} → length slot ≡ 2048
      → WeighDone O m keepers x (pieces (λ k. slot_of (cuts k) x) (length froms)) slot answer left
      → (answer ≡ only 0) × (left ≡ slot_of (cut_tray O m.told m.stamp secret (carried_random O m froms random)) x)
  all_moved {keepers} S x new {slot} {left} {answer} whole D =
      let done = weigh_done F M S x new whole (subst (λ (letters : List ℕ). WeighDone O m keepers x letters slot answer left) (handed x) D) in
      (done.0, done.1 ∙ ap (λ (ws : List ℕ). slot_of (cut_tray O m.told m.stamp ws (carried_random O m froms random)) x) (carried_secret F C s M))
