-- The share words of a letter's blocks, end to end, are its share words and zeros.
-- Assumes nothing.
use Rattle.std.specs.Prelude.{ℕ, ◌+◌, ◌*◌, ◌<◌, ◌≡◌, List, ◌++◌, length, take, drop}
use Rattle.std.proofs.Math.Path.{sym}
use Rattle.std.proofs.Common.{◌∙◌, arith, length-append, length-take, get_or-take, get_or-drop}
use Rattle.std.proofs.Math.ListN.{get_or, replicate, length-drop}
use Rattle.std.proofs.lemmas.List.{length-replicate}
use Rattle.lists.specs.Below.{Below, below_append, below_take, below_drop}
use Rattle.lists.specs.Listed.{listed_is}
use Rattle.lists.specs.Pieces.{pieces, pieces_same, pieces-parts}
use Rattle.lists.specs.Zeros.{get_d_append_zeros, below_zeros}
use Rattle.format.specs.Letter.{block_shares}

module _ (shares : List ℕ) (k more : ℕ) (size : length shares + more ≡ k * 238) where
  length_padded : length (shares ++ replicate more 0) ≡ k * 238
  length_padded = simp (length-append, length-replicate) size

  pub block_shares_padded : (p : ℕ) → p < k → block_shares shares p ≡ take 238 (drop (238 * p) (shares ++ replicate more 0))
  unfolding block_shares
  block_shares_padded p h =
      sym
      (listed_is (λ i. get_or shares (238 * p + i) 0) 238 (take 238 (drop (238 * p) (shares ++ replicate more 0)))
      (rw (length-take, length-drop, length_padded) (omega arith))
      (λ i l. rw (get_or-take 238 (drop (238 * p) (shares ++ replicate more 0)) i 0 l, get_or-drop) (get_d_append_zeros shares more (238 * p + i))))

  pub pieces-shares : pieces (block_shares shares) k ≡ shares ++ replicate more 0
  pieces-shares =
      pieces_same (block_shares shares) (λ p. take 238 (drop (238 * p) (shares ++ replicate more 0))) k block_shares_padded
      ∙ pieces-parts 238 k (shares ++ replicate more 0) length_padded

  pub below_block_shares : Below 257 shares → (p : ℕ) → p < k → Below 257 (block_shares shares p)
  below_block_shares below p h =
      rw (block_shares_padded p h)
      (below_take 257 238 (drop (238 * p) (shares ++ replicate more 0))
      (below_drop 257 (238 * p) (shares ++ replicate more 0) (below_append 257 shares (replicate more 0) below (below_zeros 256 more))))
