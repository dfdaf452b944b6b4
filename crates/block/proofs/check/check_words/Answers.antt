-- `block::check::check_words` meets its contract: turn by turn the sums are those of the words passed, and minus them are the check words.
-- Assumes nothing.
use Rattle.std.proofs.Common.{ℕ, ◌+◌, ◌*◌, ◌%◌, ◌^◌, ◌≤◌, ◌<◌, ◌≡◌, refl, ap₂, ◌∙◌, List, [], ◌∷◌, mul-le-mul, add-one, arith, get_or}
use Rattle.block.specs.ExchangedLaws.{plain_minus, weighted_minus}
use Rattle.block.specs.Weights.{weights}
use Rattle.block.proofs.WeightsLaws.{weight-at}
use Rattle.lists.specs.Total.{total}
use native.Mathlib.Nat.{le-pred_of_lt}
use Rattle.block.proofs.check.check_words.Invariants.{Summed}
use Rattle.block.proofs.check.check_words.Goals as goal

summed_none : (row : List ℕ) → Summed row 0 0 0
unfolding total
summed_none row = record { plain_is = refl; weighted_is = refl; plain_le = omega arith; weighted_le = omega arith }

product_le : (w weight i : ℕ) → w < 65536 → weight ≡ 3 ^ i % 257 → w * weight ≤ 65535 * 256
product_le w weight i h e =
    let small : weight ≤ 256 = omega arith in
    mul-le-mul (le-pred_of_lt h) small

summed_more : (row : List ℕ) (plain weighted weight i w : ℕ) → Summed row plain weighted i → w ≡ get_or row i 0 → w < 65536 → weight ≡ 3 ^ i % 257
    → Summed row (plain + w) (weighted + w * weight) (i + 1)
unfolding total
summed_more row plain weighted weight i w s e h g = rw add-one record {
  plain_is = rw (e, s.plain_is);
  weighted_is = rw (e, s.weighted_is, g);
  plain_le = let p = s.plain_le in omega arith;
  weighted_le = let p = s.weighted_le in omega (arith, product_le w weight i h g);
}

pub loop-i-init : goal.loop-i-init
loop-i-init c = summed_none c.args.row.now

pub overflow_add-plain : goal.overflow_add-plain
overflow_add-plain c = omega (arith, c.type_inv.row c.loop-i.i)

pub overflow_mul-weighted : goal.overflow_mul-weighted
unfolding weights
overflow_mul-weighted c =
    let small : c.from-word.result < 65536 = omega (arith, c.type_inv.row c.loop-i.i) in
    let weight : c.from.result ≡ 3 ^ c.loop-i.i % 257 = c.from.ensures ∙ weight-at c.loop-i.i c.loop-i-test.true in
    omega (arith, product_le c.from-word.result c.from.result c.loop-i.i small weight)

pub overflow_add-weighted : goal.overflow_add-weighted
unfolding weights
overflow_add-weighted c =
    let small : c.from-word.result < 65536 = omega (arith, c.type_inv.row c.loop-i.i) in
    let weight : c.from.result ≡ 3 ^ c.loop-i.i % 257 = c.from.ensures ∙ weight-at c.loop-i.i c.loop-i-test.true in
    omega (arith, product_le c.from-word.result c.from.result c.loop-i.i small weight)

pub loop-i-preserved : goal.loop-i-preserved
unfolding weights
loop-i-preserved c =
    let here = c.loop-i in
    let small : c.from-word.result < 65536 = omega (arith, c.type_inv.row c.loop-i.i) in
    let weight : c.from.result ≡ 3 ^ here.i % 257 = c.from.ensures ∙ weight-at here.i c.loop-i-test.true in
    summed_more c.args.row.now here.plain here.weighted c.from.result here.i c.from-word.result here.invariant c.from-word.ensures small weight

pub returns : goal.returns
returns c =
    let row = c.args.row.now in
    let end : c.loop-i.i ≡ 254 = omega arith in
    let sums = rw end at c.loop-i.invariant in
    ap₂ {C = List ℕ} (λ plain weighted. plain ∷ weighted ∷ [])
    (c.minus.ensures ∙ rw sums.plain_is (plain_minus row c.requires))
    (c.minus-2.ensures ∙ rw sums.weighted_is (weighted_minus row c.requires))
