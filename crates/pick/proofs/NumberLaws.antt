-- Which numbers the pick has.
-- Assumes nothing.
use Rattle.std.specs.Prelude.{ℕ, ◌≡◌, refl, List, [], ◌∷◌}
use Rattle.std.proofs.Common.{inl, inr, ⊎_elim}
use Rattle.lists.specs.Member.{In}
use Rattle.algebra.specs.Field.{Ops}
use Rattle.header.specs.declared.told.Told.{Told}
use Rattle.pick.specs.Pick.{Picked}
use Rattle.pick.specs.JoinGivesLaws.{gives_number}
use Rattle.pick.specs.Pick.{PickDone, refused, none, chosen, stuck}
use Rattle.pick.specs.PickedLaws.{large_terms}
use Rattle.pick.specs.RefusalLaws.{pick_facts, refusal_number}

-- "the pick's list becomes 1, 4, 6, 7, 8": its numbers are these, and 0
pub picked_number : {O : Ops} {told : Told} {tray : List ℕ} {result : Picked} → PickDone O told tray result → In result.number (0 ∷ 1 ∷ 4 ∷ 6 ∷ 7 ∷ 8 ∷ [])
picked_number {told = told} {tray} (refused other) = ⊎_elim (λ one. inr (inl one)) (λ four. inr (inr (inl four))) (refusal_number told tray other)
picked_number (none e f) = inr (inr (inr (inl refl)))
picked_number (chosen stamp l e first) = inl refl
picked_number {told = told} {tray} (stuck number stamp l e never first J) =
    let fails : number ≡ 0 → ⊥ = λ z. never stamp l (record { large = first.has; joins = rw z at J }) in
    ⊎_elim (λ seven. inr (inr (inr (inr (inl seven))))) (λ eight. inr (inr (inr (inr (inr (inl eight))))))
    (gives_number (large_terms told tray stamp l first.has) (pick_facts told tray e).slots J first.has fails)
