-- What a new keeper weighs is a letter of the cut of the carried words with the carried random words.
-- Assumes nothing.
use Rattle.std.specs.Prelude.{ℕ, suc, ◌<◌, ◌≡◌, length, get_or}
use Rattle.std.proofs.Math.Path.{sym, ap₂}
use Rattle.std.proofs.Common.{ap, ◌∙◌}
use mathlib.Core.List.{List}
use Rattle.lists.specs.Listed.{listed_same}
use Rattle.algebra.specs.Combine.{factors}
use Rattle.algebra.specs.Field.{Ops}
use Rattle.algebra.specs.Mixed.{mixed, mixed_same}
use Rattle.algebra.specs.Poly.{eval}
use Rattle.header.specs.OrderLaws.{KeeperFacts}
use Rattle.format.specs.Letter.{letter_bytes}
use Rattle.format.specs.Reading.{shares_of}
use Rattle.tray.specs.Tray.{head_for, slot_of}
use Rattle.shares.specs.Shares.{share_words}
use Rattle.shares.specs.ShareWords.{polynomial_of, get_d_share_words, share_words-listed}
use Rattle.cut.specs.Cut.{letter_of}
use Rattle.cut.specs.LetterField.{LetterField}
use Rattle.moving.specs.declared.terms.Move.{Move}
use Rattle.sub_letters.specs.Subs.{froms_of}
use Rattle.weighing.specs.Weighing.{weighed_words, weighed_letter}
use Rattle.moved.proofs.CarriedPolynomials.{length-sums, sums_value}
use Rattle.moved.proofs.Handed.{shares_handed, froms_handed}
use Rattle.moved.specs.Moved.{OneMove, handed_to, carried_words, carried_random}

module _ {O : Ops} (F : LetterField O) {m : Move} {froms : List ℕ} {shares random : ℕ → List ℕ} (M : OneMove O m froms shares random)
    (x : ℕ) (new : KeeperFacts m.told.order x) where
  -- all that x is handed
  abbrev letters : List ℕ
  letters = handed_to O m froms shares random x

  -- word i of what old keeper number k handed it
  word_handed : (i : ℕ) → i < m.length → (k : ℕ) → k < length froms
      → get_or (shares_of (slot_of letters (suc k)) m.length) i 0 ≡ eval O (polynomial_of m.told.order.t (shares k) (random k) i) x
  word_handed i h k l =
      ap (λ (ws : List ℕ). get_or ws i 0) (shares_handed F M x new k l)
      ∙ get_d_share_words O m.told.order.t x (shares k) (random k) i (rw (M.shares_size k l) h)

  weighed_word : (i : ℕ) → i < m.length
      → mixed O (factors O (froms_of letters (length froms)) 0) (length froms) (λ k. get_or (shares_of (slot_of letters (suc k)) m.length) i 0)
      ≡ eval O (polynomial_of m.told.order.t (carried_words O m froms shares) (carried_random O m froms random) i) x
  weighed_word i h =
      rw (froms_handed F M x new)
      (mixed_same O (factors O froms 0) (length froms) _ _ (word_handed i h)
      ∙ sums_value F.laws froms shares random m.length m.told.order.t M.random_size i h x)

  -- "weighs the t+1 sub-letters with the factors that carry the old values to zero, and adds them"
  pub weighed_words_lem : weighed_words O letters (length froms) m.length
      ≡ share_words O m.told.order.t x (carried_words O m froms shares) (carried_random O m froms random)
  unfolding weighed_words
  weighed_words_lem =
      listed_same _ _ m.length weighed_word
      ∙ sym (rw (length-sums O froms shares m.length) at (share_words-listed O m.told.order.t x (carried_words O m froms shares) (carried_random O m froms random)))

  pub weighed_letter_lem : weighed_letter O m x letters (length froms)
      ≡ letter_of O m.told m.stamp (carried_words O m froms shares) (carried_random O m froms random) x
  unfolding weighed_letter letter_of
  weighed_letter_lem =
      ap₂ (λ (n : ℕ) (ws : List ℕ). letter_bytes (head_for m.told m.stamp n x) ws) (sym (length-sums O froms shares m.length)) weighed_words_lem
