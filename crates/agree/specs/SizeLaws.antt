-- "The size of the agreement is the number of ones in that set": that size beside need says whether there is an agreement.
-- Assumes nothing.
use Rattle.std.specs.Prelude.{ℕ, ◌+◌, ◌≤◌, ◌<◌, ◌≡◌, Bool, List}
use Rattle.std.proofs.Math.Path.{ap}
use Rattle.std.proofs.Common.{◌∙◌, arith}
use Rattle.std.proofs.Math.Logic.{by_cases}
use Rattle.std.proofs.Math.Decide.{dec_lt}
use Rattle.std.specs.Int.Count.{ones}
use Rattle.lists.specs.KeeperSetLaws.{ones-keeper_set}
use Rattle.algebra.specs.Field.{Ops}
use Rattle.agree.specs.Agreement.{agreeing, needed, Reaches}
use Rattle.agree.specs.Kept.{Agreed, Found}

module _ {O : Ops} {t f n : ℕ} {usable : ℕ → Bool} {words : ℕ → ℕ → ℕ} {l set : ℕ} where
  agreed_reaches : Agreed O t f n usable words l set → needed t f n usable ≤ ones set
  agreed_reaches a =
      let size = ap ones a.agree ∙ ones-keeper_set (agreeing O usable words l a.polynomials) n in
      omega (arith, a.reaches.enough)

  -- such a set has t + 1 keepers to carry from
  pub agreed_size : Agreed O t f n usable words l set → t + 1 ≤ ones set
  agreed_size a = omega (arith, agreed_reaches a)

  pub few_agree : Found O t f n usable words l set → ones set < needed t f n usable → (ps : List (List ℕ)) → Reaches O t f n usable words l ps → ⊥
  few_agree found few = by_cases (dec_lt 0 set) (λ some. absurd (omega (arith, agreed_reaches (found.some (λ z. omega arith))))) (λ none. found.none (omega arith))

  pub enough_agree : Found O t f n usable words l set → needed t f n usable ≤ ones set → Agreed O t f n usable words l set
  unfolding ones
  enough_agree found enough = found.some (λ z. let size : ones set ≡ 0 = ap ones z in omega arith)
