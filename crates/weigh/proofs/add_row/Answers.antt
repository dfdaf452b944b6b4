-- `weigh::add_row` meets its contract: turn by turn the sums' front has the row's words times the factor added, and the rest is as it was.
-- Assumes nothing.
use Rattle.std.proofs.Common.{ℕ, suc, ◌+◌, ◌*◌, ◌≤◌, ◌<◌, ◌≡◌, refl, List, ◌++◌, mul-le-mul, arith, length, drop, get_or, length-set, drop-cons}
use Rattle.std.proofs.lemmas.List.{get_or_at}
use Rattle.lists.specs.Listed.{listed, length-listed, set-listed}
use Rattle.weigh.specs.Weigh.{Addition}
use Rattle.weigh.proofs.add_row.Invariants.{added}
use Rattle.weigh.proofs.add_row.Goals as goal

-- behind the front the list is as it was
behind : (f : ℕ → ℕ) (i : ℕ) (xs : List ℕ) → i < length xs → get_or (listed f i ++ drop i xs) i 0 ≡ get_or xs i 0
behind f i xs h = rw (drop-cons xs i 0 h) (get_or_at (listed f i) (get_or xs i 0) (drop (suc i) xs) 0 i (length-listed f i))

module _ {sums row : List ℕ} {times : ℕ} (given : Addition sums row times) (i : ℕ) (h : i < length sums) where
  word_le : get_or row i 0 ≤ 256
  word_le = omega (arith, given.words i (omega arith))

  product_le : get_or row i 0 * times ≤ 65536
  product_le = mul-le-mul {n₂ = 256} {m₂ = 256} word_le given.word

  sum_le : get_or (listed (added sums row times) i ++ drop i sums) i 0 + get_or row i 0 * times ≤ 589824
  sum_le = rw (behind (added sums row times) i sums h) (omega (arith, given.room i h, product_le))

pub loop-i-init : goal.loop-i-init
unfolding listed
loop-i-init c = (refl, refl)

pub overflow_add-sum : goal.overflow_add-sum
overflow_add-sum c =
    let here = c.loop-i in
    let e = sum_le c.requires here.i (omega arith) in
    rw (here.invariant.1, c.from.ensures, c.from-in-loop-i.ensures) (omega arith)

pub loop-i-preserved : goal.loop-i-preserved
loop-i-preserved c =
    let here = c.loop-i in
    let args = c.args in
    let f = added args.sums.now args.row.now args.factor in
    let within : here.i < length args.sums.now = omega arith in (
      simp length-set here.invariant.0,
      rw (here.invariant.1, c.from.ensures, c.from-in-loop-i.ensures, behind f here.i args.sums.now within) (set-listed f here.i args.sums.now within),
    )
