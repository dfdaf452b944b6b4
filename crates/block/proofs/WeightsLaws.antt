-- The laws of the weights: the table's rule tested once over all entries, and what that says at each index.
-- Assumes nothing.
use Rattle.std.proofs.Common.{ℕ, ◌%◌, ◌^◌, ◌<◌, ◌≡◌, refl, Bool, true, eqb, length, get_or, eqb-true}
use Rattle.lists.specs.Every.{every, every-at}
use Rattle.block.specs.Weights.{weights}

pub length-weights : length weights ≡ 254
unfolding weights
length-weights = refl

-- "word i times 3^i, .. modulo 257"
abbrev is_weight : ℕ → ℕ → Bool
is_weight i entry = eqb entry (3 ^ i % 257)

tested : every is_weight 0 weights ≡ true
unfolding weights
tested = refl

pub weight-at : (i : ℕ) → i < 254 → get_or weights i 0 ≡ 3 ^ i % 257
unfolding weights
weight-at i h = eqb-true _ _ (every-at is_weight weights tested i h)

-- "weight 128 is 256 and weight 253 is 238"
pub known_weights : (get_or weights 128 0 ≡ 256) × (get_or weights 253 0 ≡ 238)
unfolding weights
known_weights = (refl, refl)
