-- The theorem of the move: letters of one cut, cut again by t+1 old keepers and weighed by the new keepers, are the letters of a cut of the same secret.
-- Assumes nothing.
use Rattle.std.specs.Prelude.{ℕ, ◌<◌, ◌≡◌, refl, List, ◌∷◌, length, get_or}
use Rattle.std.proofs.Common.{sym, ap, ◌∙◌, arith, ext_get_or}
use Rattle.lists.specs.Below.{below_cons}
use Rattle.lists.specs.Member.{in_every}
use Rattle.algebra.specs.Field.{Ops}
use Rattle.algebra.specs.Points.{Points}
use Rattle.algebra.specs.Poly.{eval, eval-zero}
use Rattle.shares.specs.ShareWords.{polynomial_of, get_d_share_words}
use Rattle.cut.specs.Cut.{cut_tray}
use Rattle.cut.specs.LetterField.{LetterField}
use Rattle.cut.specs.OneCut.{OneCut, shares_cut}
use Rattle.moving.specs.declared.terms.Move.{Move}
use Rattle.moving.specs.Move.{old_told}
use Rattle.moved.proofs.CarriedPolynomials.{length-sums}
use Rattle.moved.proofs.CarriedValue.{carried_value, degree_polynomial}
use Rattle.moved.proofs.Handed.{old_keeper, old_small}
use Rattle.moved.specs.Moved.{OneMove, moved_tray, carried_words, carried_random}
use Rattle.moved.proofs.MovedTray.{moved_cut, moved_one_cut}
use Rattle.moved.specs.TheMove.{held_in}

-- the old keepers are points
pub old_points : {O : Ops} (F : LetterField O) {m : Move} {froms : List ℕ} {shares random : ℕ → List ℕ} → OneMove O m froms shares random → Points O.q froms
old_points F M = record { below = λ k l. omega (arith, F.least, old_small F M k l); different = M.different }

-- and none of them is 0
pub zero_points : {O : Ops} (F : LetterField O) {m : Move} {froms : List ℕ} {shares random : ℕ → List ℕ} → OneMove O m froms shares random → Points O.q (0 ∷ froms)
zero_points {O} F {froms = froms} M =
    let P = old_points F M in
    record {
      below = below_cons O.q 0 froms (omega (arith, F.least)) P.below;
      different = (λ i. in_every (λ x. x ≡ 0 → ⊥) froms (λ k l e. omega (arith, old_keeper F M k l)) 0 i refl, P.different);
    }

module _ {O : Ops} (F : LetterField O) {m : Move} {stamp : ℕ} {secret first : List ℕ} (C : OneCut O (old_told m) stamp secret first) (s : length secret ≡ m.length)
    {froms : List ℕ} {random : ℕ → List ℕ} (M : OneMove O m froms (held_in (cut_tray O (old_told m) stamp secret first) m.length froms) random) where
  -- what the old keepers hold
  abbrev held : ℕ → List ℕ
  held = held_in (cut_tray O (old_told m) stamp secret first) m.length froms

  -- their words at place i are values of the old polynomial
  held_word : (i : ℕ) → i < length secret → (k : ℕ) → k < length froms
      → get_or (held k) i 0 ≡ eval O (polynomial_of m.old.t secret first i) (get_or froms k 0)
  held_word i h k l =
      ap (λ (ws : List ℕ). get_or ws i 0) (rw s at (shares_cut F C (get_or froms k 0) (old_keeper F M k l)))
      ∙ get_d_share_words O m.old.t (get_or froms k 0) secret first i h

  carried-word : (i : ℕ) → i < length secret → get_or (carried_words O m froms held) i 0 ≡ get_or secret i 0
  carried-word i h =
      let W = C.of_words in
      carried_value F.laws froms m.old.t (old_points F M) (omega (arith, M.many)) held m.length (polynomial_of m.old.t secret first i)
      (degree_polynomial O m.old.t secret first W.constants_below W.random_size W.random_below i h) i (omega arith) (held_word i h)
      ∙ eval-zero F.laws (get_or secret i 0) _ (W.constants_below i h)

  -- what is carried is the secret
  pub carried_secret : carried_words O m froms held ≡ secret
  carried_secret =
      ext_get_or 0 (carried_words O m froms held) secret (length-sums O froms held m.length ∙ sym s)
      (λ i h. carried-word i (omega (arith, length-sums O froms held m.length)))

  -- "Where the old letters came from one cut, the new tray is byte for byte what the cut writes for the same secret, with random words that are the same
  -- weighted sums."
  pub the_move : moved_tray O m froms held random ≡ cut_tray O m.told m.stamp secret (carried_random O m froms random)
  the_move = moved_cut F M ∙ ap (λ (ws : List ℕ). cut_tray O m.told m.stamp ws (carried_random O m froms random)) carried_secret

  -- and such a cut is lawful
  pub the_move_cut : OneCut O m.told m.stamp secret (carried_random O m froms random)
  the_move_cut = rw carried_secret at (moved_one_cut F M)
