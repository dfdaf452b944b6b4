-- Demands 2 and 3 hold of moved letters as they stand: the moved tray is a cut's, of the same secret.
-- Assumes nothing.
use Rattle.std.specs.Prelude.{ℕ, ◌*◌, ◌≡◌, List, length}
use Rattle.lists.specs.Below.{Below}
use Rattle.lists.specs.ExactlyOne.{ExactlyOne}
use Rattle.field.specs.Modulo.{mod257}
use Rattle.cut.specs.Cut.{cut_tray}
use Rattle.cut.specs.LetterField.{mod257-letters}
use Rattle.cut.specs.OneCut.{OneCut}
use Rattle.join.specs.Join.{Joined}
use Rattle.join.specs.Join.{JoinDone}
use Rattle.demands.specs.Altered.{EnoughLeft, AtMostAltered}
use Rattle.demands.specs.Recovery.{GivesBack}
use Rattle.demands.proofs.Recovery.{demand_2}
use Rattle.demands.specs.Secrecy.{AnyKeepers, GivesSameBytes}
use Rattle.demands.proofs.Secrecy.{demand_3}
use Rattle.moving.specs.declared.terms.Move.{Move}
use Rattle.moving.specs.Move.{old_told}
use Rattle.moved.specs.Moved.{OneMove, moved_tray}
use Rattle.moved.specs.TheMove.{held_in}
use Rattle.moved.proofs.TheMove.{the_move, the_move_cut}

-- One move of one cut's letters: of `secret`, cut under the old order with `first`, moved by the old keepers `froms`, who draw `random`.
module _ {m : Move} {stamp : ℕ} {secret first : List ℕ} (C : OneCut mod257 (old_told m) stamp secret first) (s : length secret ≡ m.length)
    {froms : List ℕ} {random : ℕ → List ℕ} (M : OneMove mod257 m froms (held_in (cut_tray mod257 (old_told m) stamp secret first) m.length froms) random) where
  -- "the new tray"
  abbrev new : List ℕ
  new = moved_tray mod257 m froms (held_in (cut_tray mod257 (old_told m) stamp secret first) m.length froms) random

  -- Demand 2, with the moved tray in the place of the cut's.
  pub demand_2_moved : {tray room left : List ℕ} {result : Joined}
      → AtMostAltered m.told m.stamp (length secret) new tray
      → JoinDone mod257 m.told m.stamp (length secret) tray room result left
      → (result.number ≡ 0 → GivesBack m.told m.stamp secret new tray result left)
      × (Below 256 secret → length tray ≡ 2048 * m.told.order.n → length room ≡ length secret → EnoughLeft m.told m.stamp (length secret) new tray
      → GivesBack m.told m.stamp secret new tray result left)
  demand_2_moved A D = let e = the_move mod257-letters C s M in rw e (demand_2 (the_move_cut mod257-letters C s M) (rw e at A) D)

  -- Demand 3, of new keepers and what they have in the moved tray: "for each list of random words for the first exactly one for the second gives those
  -- keepers the same bytes."
  pub demand_3_moved : {ks : List ℕ} → AnyKeepers m.told.order ks → (secret' : List ℕ) → length secret' ≡ length secret → Below 256 secret'
      → ExactlyOne (GivesSameBytes mod257 m.told m.stamp ks new secret')
  demand_3_moved K secret' s' b = rw (the_move mod257-letters C s M) (demand_3 (the_move_cut mod257-letters C s M) K secret' s' b)
