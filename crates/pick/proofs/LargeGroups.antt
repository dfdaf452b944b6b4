-- The groups of a tray by the ranks that its slots say: no group is larger than its rank tells.
-- Assumes nothing.
use Prim.Native.Nat.{ℕ, ◌+◌, ◌-◌, ◌≤◌, ◌<◌}
use mathlib.Core.Path.{◌≡◌, sym, ap, ◌∙◌}
use mathlib.Core.List.{List}
use native.Mathlib.Nat.{add-sub_cancel}
use native.Mathlib.Omega.{arith}
use lib.Dec.{eqb}
use lib.ListN.{get_or}
use borrow.Author.Tests.{eqb-true, eq-eqb}
use Rattle.lists.specs.Count.{count_mono}
use Rattle.lists.specs.From.{from, from_in}
use Rattle.header.specs.declared.told.Told.{Told}
use Rattle.header.specs.TermsLaws.{TermsFacts}
use Rattle.tray.specs.Tray.{usable, usable_many}
use Rattle.pick.specs.Ranks.{rank_of, stamp_in, length_in, rank_at, size_of, RanksOf, NextOf}
use Rattle.pick.specs.Passing.{some_passing}
use Rattle.pick.specs.Pick.{Large}
use Rattle.pick.proofs.Said.{usable_rank, rank_terms}

module _ {told : Told} {tray ranks : List ℕ} (are : RanksOf told tray ranks) where
  group_most : (stamp l : ℕ) → usable_many told stamp l tray ≤ size_of ranks told.order.n (rank_of stamp l)
  unfolding size_of
  group_most stamp l =
      count_mono (usable told stamp l tray) (λ x. eqb (get_or ranks (x - 1) 0) (rank_of stamp l)) (from 1 told.order.n)
      (λ x m u.
      let within = from_in 1 told.order.n x m in
      let keeper : x - 1 + 1 ≡ x = omega arith in
      eq-eqb _ _ (are.at (x - 1) (omega arith) ∙ usable_rank told tray (x - 1) stamp l (ap (usable told stamp l tray) keeper ∙ u)))

  module _ {bound best : ℕ} (next : NextOf ranks told.order.n (told.order.t + told.order.f + 1) bound best) where
    pub large_most : (stamp l : ℕ) → Large told tray stamp l → rank_of stamp l < bound → rank_of stamp l ≤ best
    large_most stamp l large below =
        let one = some_passing (usable told stamp l tray) told.order.n (omega arith) in
        let rank = are.at one.place one.within ∙ usable_rank told tray one.place stamp l one.passes in
        rw rank at (next.most one.place one.within) below (omega (arith, group_most stamp l))

    -- the next rank is of a lawful stamp and length
    pub next_terms : 1 ≤ best → TermsFacts told (stamp_in best) (length_in best)
    unfolding size_of
    next_terms some =
        let one = some_passing (λ x. eqb (get_or ranks (x - 1) 0) best) told.order.n (omega (arith, next.large some)) in
        let place = one.place in
        let held : get_or ranks place 0 ≡ best = ap (λ i. get_or ranks i 0) (sym (add-sub_cancel place 1)) ∙ eqb-true _ _ one.passes in
        let here : rank_at told tray place ≡ best = sym (are.at place one.within) ∙ held in
        rw here at (rank_terms told tray place (omega arith))
