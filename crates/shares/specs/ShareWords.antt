-- A keeper's share words, one by one.
-- Assumes nothing.
use Prim.Native.Nat.{ℕ, zero, suc, ◌*◌, ◌<◌}
use Rattle.std.specs.Prelude.{◌≡◌, length, get_or, take, drop}
use Rattle.std.proofs.Math.Path.{refl, ap}
use mathlib.Core.List.{List, [], ◌∷◌}
use Rattle.std.proofs.Math.Nat.{zero-mul, add_comm}
use Rattle.std.proofs.Common.{suc-mul, le_of_suc-le-suc, not-suc-le-zero}
use Rattle.std.proofs.Math.Seq.{drop-drop}
use Rattle.lists.specs.Below.{Below}
use Rattle.lists.specs.Listed.{listed, listed_is, below_listed}
use Rattle.algebra.specs.Field.{Ops, IsField}
use Rattle.algebra.specs.Poly.{eval, eval_lt}
use Rattle.shares.specs.Shares.{share_words}

-- the polynomial of constant i
abbrev pub polynomial_of : ℕ → List ℕ → List ℕ → ℕ → List ℕ
polynomial_of t constants random i = get_or constants i 0 ∷ take t (drop (i * t) random)

module _ (O : Ops) (t x : ℕ) where
  pub length-share_words : (constants random : List ℕ) → length (share_words O t x constants random) ≡ length constants
  unfolding share_words
  length-share_words [] random = refl
  length-share_words (c ∷ cs) random = ap suc (length-share_words cs (drop t random))

  pub get_d_share_words : (constants random : List ℕ) (i : ℕ) → i < length constants
      → get_or (share_words O t x constants random) i 0 ≡ eval O (polynomial_of t constants random i) x
  unfolding share_words
  get_d_share_words [] random i h = absurd (not-suc-le-zero h)
  get_d_share_words (c ∷ cs) random zero h = rw zero-mul
  get_d_share_words (c ∷ cs) random (suc i) h =
      rw (suc-mul, add_comm (i * t) t, ← drop-drop (i * t) t random) (get_d_share_words cs (drop t random) i (le_of_suc-le-suc h))

  pub share_words-listed : (constants random : List ℕ)
      → share_words O t x constants random ≡ listed (λ i. eval O (polynomial_of t constants random i) x) (length constants)
  share_words-listed constants random =
      listed_is _ (length constants) (share_words O t x constants random) (length-share_words constants random) (get_d_share_words constants random)

  pub below_share_words : IsField O → (constants random : List ℕ) → Below O.q (share_words O t x constants random)
  below_share_words F constants random =
      rw share_words-listed (below_listed O.q _ (length constants) (λ i h. eval_lt F (polynomial_of t constants random i) x))
