-- The check that a signer makes before the old letters go: the old letters and the new ones are joined, and what they give is compared. It holds whatever the
-- old keepers handed out: only of the old tray it asks what demand 2 asks of any tray, that at most f of its letters were altered.
-- Assumes nothing.
use Rattle.std.specs.Prelude.{ℕ, ◌≡◌, List, length}
use Rattle.std.proofs.Common.{◌∙◌}
use Rattle.field.specs.Modulo.{mod257}
use Rattle.cut.specs.Cut.{cut_tray}
use Rattle.cut.specs.OneCut.{OneCut}
use Rattle.join.specs.Join.{Joined}
use Rattle.join.specs.Join.{JoinDone}
use Rattle.moving.specs.declared.terms.Move.{Move}
use Rattle.moving.specs.Move.{old_told}
use Rattle.demands.specs.Altered.{AtMostAltered}
use Rattle.demands.proofs.Recovery.{demand_2}

-- the old letters give a secret, and the new ones give the same: then it is the one that was cut
pub checked_move : (m : Move) {stamp l : ℕ} {secret first old new room room' left left' : List ℕ} {result result' : Joined} → OneCut mod257 (old_told m) stamp secret first
    → AtMostAltered (old_told m) stamp (length secret) (cut_tray mod257 (old_told m) stamp secret first) old
    → JoinDone mod257 (old_told m) stamp (length secret) old room result left → result.number ≡ 0
    → JoinDone mod257 m.told m.stamp l new room' result' left' → result'.number ≡ 0
    → left' ≡ left → left' ≡ secret
checked_move m C A D given D' given' same = same ∙ ((demand_2 C A D).0 given).leaves
