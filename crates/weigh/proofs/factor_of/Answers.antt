-- `weigh::factor_of` meets its contract: turn by turn the fraction is the factor against the points passed.
-- Assumes nothing.
use Rattle.std.proofs.Common.{ℕ, ◌+◌, ◌<◌, ◌≡◌, refl, sym, ap, ◌∙◌, List, add-one, arith, length, get_or, eq-eqb, ne_eqb}
use Rattle.algebra.specs.Factor.{factor, factor-take}
use Rattle.algebra.specs.Fraction.{mul_four}
use Rattle.field.proofs.Fraction.{inv_product}
use Rattle.field.proofs.Laws.{mod257_field}
use Rattle.field.specs.Modulo.{mod257, reciprocals}
use Rattle.weigh.proofs.factor_of.Invariants.{Passed}
use Rattle.weigh.proofs.factor_of.Goals as goal
use Rattle.weigh.proofs.factor_of.Goals.{then-a-b, else-a-b}

module _ (points : List ℕ) (i a x above below : ℕ) (h : i < length points) (passed : Passed points i a x above below) where
  self : {above' below' : ℕ} → a ≡ get_or points i 0 → above' ≡ above → below' ≡ below → Passed points (i + 1) a x above' below'
  self e u v = rw (u, v, add-one, factor-take mod257_field points i a x h, eq-eqb a (get_or points i 0) e) passed

  other : {above' below' : ℕ} → (a ≡ get_or points i 0 → ⊥) → above' ≡ mod257.mul (mod257.sub x (get_or points i 0)) above
      → below' ≡ mod257.mul (mod257.sub a (get_or points i 0)) below → Passed points (i + 1) a x above' below'
  other n u v =
      let b = get_or points i 0 in
      rw (u, v, add-one, factor-take mod257_field points i a x h, ne_eqb a b n, ← passed, inv_product (mod257.sub a b) below)
      (sym (mul_four mod257_field (mod257.sub x b) (mod257.inv (mod257.sub a b)) above (mod257.inv below)))

pub loop-b-init : goal.loop-b-init
unfolding factor reciprocals
loop-b-init c = refl

pub loop-b-preserved : goal.loop-b-preserved
loop-b-preserved c =
    let here = c.loop-b in
    let args = c.args in
    let within : here.b-index < length args.points.now = omega arith in
    elim c.if-a-b.branch [
      | then-a-b w ↦
          other args.points.now here.b-index args.a args.x here.above here.below within here.invariant w.if-a-b.true
          (w.above-is ∙ w.mul-above.ensures ∙ ap (λ (d : ℕ). mod257.mul d here.above) w.sub.ensures)
          (w.below-is ∙ w.mul-below.ensures ∙ ap (λ (d : ℕ). mod257.mul d here.below) w.sub-then-a-b.ensures)
      | else-a-b w ↦
          self args.points.now here.b-index args.a args.x here.above here.below within here.invariant w.if-a-b.false w.above-is w.below-is
    ]
