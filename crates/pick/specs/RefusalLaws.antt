-- What it says that a pick is not refused for its order, its key or its tray, and the numbers of one that is.
-- Assumes nothing.
use Rattle.std.specs.Prelude.{ℕ, ◌*◌, ◌≡◌, refl, Bool, true, false, cond, List, ◌⊎◌, eqb, length}
use Rattle.std.proofs.Common.{inl, inr, eqb-true, eq-eqb}
use Rattle.header.specs.declared.told.Told.{Told}
use Rattle.header.specs.Told.{lawful_told}
use Rattle.header.specs.Passing.{passing}
use Rattle.header.specs.ToldLaws.{ToldFacts, lawful_told_facts}
use Rattle.pick.specs.Pick.{pick_refusal}

pub record PickFacts (told : Told) (tray : List ℕ) : Type 0 where
  pub of_told : ToldFacts told
  pub slots : length tray ≡ 2048 * told.order.n

pub pick_facts : (told : Told) (tray : List ℕ) → pick_refusal told tray ≡ 0 → PickFacts told tray
unfolding pick_refusal
pick_facts told tray e =
    let lawful = passing (lawful_told told) _ 0 e in
    let long = passing (eqb (length tray) (2048 * told.order.n)) 0 3 lawful.1 in
    record { of_told = lawful_told_facts told lawful.0; slots = eqb-true (length tray) (2048 * told.order.n) long.0 }

pub facts_picked : (told : Told) (tray : List ℕ) → lawful_told told ≡ true → length tray ≡ 2048 * told.order.n → pick_refusal told tray ≡ 0
unfolding pick_refusal
facts_picked told tray lawful slots = rw (lawful, eq-eqb (length tray) (2048 * told.order.n) slots)

one_or_four : (a b : Bool) → let number : ℕ = cond a (cond b 0 4) 1 in (number ≡ 0 → ⊥) → (number ≡ 1) ⊎ (number ≡ 4)
one_or_four true true other = absurd (other refl)
one_or_four true false other = inr refl
one_or_four false b other = inl refl

pub refusal_number : (told : Told) (tray : List ℕ) → (pick_refusal told tray ≡ 0 → ⊥) → (pick_refusal told tray ≡ 1) ⊎ (pick_refusal told tray ≡ 4)
unfolding pick_refusal
refusal_number told tray other = one_or_four (lawful_told told) (eqb (length tray) (2048 * told.order.n)) other
