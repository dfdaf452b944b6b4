-- Lists that name the same old keepers.
-- Assumes nothing.
use Rattle.std.specs.Prelude.{ℕ, ◌≡◌, List}
use Rattle.std.proofs.Math.ListN.{length}
use Rattle.lists.specs.Different.{Different}
use Rattle.lists.specs.Member.{In}

-- "the t+1 old keepers" that a weighing is told: those of the move, each once, in any order
pub record SameKeepers (froms keepers : List ℕ) : Type 0 where
  pub many : length keepers ≡ length froms
  pub different : Different keepers
  pub known : (x : ℕ) → In x keepers → In x froms
  pub named : (x : ℕ) → In x froms → In x keepers
