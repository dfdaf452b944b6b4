-- "A clerk's machine died after sending a few letters .. and a sound, older stamp went unread": it is read now.
-- Assumes nothing.
use Rattle.std.specs.Prelude.{ℕ, ◌*◌, ◌≡◌, refl, List, length, replicate}
use Rattle.std.proofs.lemmas.List.{length-replicate}
use Rattle.lists.specs.Below.{Below}
use Rattle.algebra.specs.Field.{Ops}
use Rattle.field.specs.Modulo.{mod257}
use Rattle.header.specs.declared.told.Told.{Told}
use Rattle.agree.specs.ReachesLaws.{reaches_many}
use Rattle.cut.specs.Cut.{cut_tray}
use Rattle.cut.specs.LetterField.{LetterField, mod257-letters}
use Rattle.cut.specs.OneCut.{OneCut}
use Rattle.join.specs.Join.{judged, joined}
use Rattle.pick.specs.Pick.{Picked}
use Rattle.pick.specs.Pick.{Joining, NotBefore, picked, PickDone, chosen}
use Rattle.pick.specs.RefusalLaws.{facts_picked}
use Rattle.demands.specs.Altered.{AtMostAltered, EnoughLeft}
use Rattle.demands.proofs.JoinAnswers.{cut_not_refused}
use Rattle.demands.proofs.Recovery.{cut_agreed, gives_right}
use Rattle.demands.proofs.Same.{pick_same}
use Rattle.demands.specs.OlderWrite.{Read}

module _ {O : Ops} (F : LetterField O) {told : Told} {stamp : ℕ} {secret random tray : List ℕ} (C : OneCut O told stamp secret random)
    (A : AtMostAltered told stamp (length secret) (cut_tray O told stamp secret random) tray) (bytes : Below 256 secret) (slots : length tray ≡ 2048 * told.order.n)
    (left : EnoughLeft told stamp (length secret) (cut_tray O told stamp secret random) tray) where
  -- its letters would be joined by themselves
  joining : Joining O told tray stamp (length secret)
  joining =
      let agreed = cut_agreed F C A bytes left in
      let room : List ℕ = replicate (length secret) 0 in
      record {
        large = reaches_many agreed.reaches;
        joins = record {
          result = _;
          left = _;
          done = judged (cut_not_refused C tray room slots (length-replicate (length secret) 0)) (joined _ agreed.reaches agreed.bytes);
          numbered = refl;
        };
      }

  write_read : ((s k : ℕ) → Joining O told tray s k → NotBefore s k stamp (length secret)) → {p : Picked} → PickDone O told tray p
      → Read O told stamp secret (cut_tray O told stamp secret random) tray p
  write_read rest {p} D =
      let this : PickDone O told tray (picked 0 stamp (length secret)) =
      chosen stamp (length secret) (facts_picked told tray C.told_lawful slots) (record { has = joining; rest = rest }) in
      let same : p ≡ picked 0 stamp (length secret) = pick_same F D this in
      record { names = same; gives = λ room after result s J. gives_right F C A (rw same at J) bytes slots (rw same at s) left }

-- an older write, of one cut with at most f of its usable letters altered and enough of them left, is read where no group that joins comes before it
pub older_write : {told : Told} {stamp : ℕ} {secret random tray : List ℕ} {p : Picked} → OneCut mod257 told stamp secret random
    → AtMostAltered told stamp (length secret) (cut_tray mod257 told stamp secret random) tray → Below 256 secret → length tray ≡ 2048 * told.order.n
    → EnoughLeft told stamp (length secret) (cut_tray mod257 told stamp secret random) tray
    → ((s k : ℕ) → Joining mod257 told tray s k → NotBefore s k stamp (length secret))
    → PickDone mod257 told tray p → Read mod257 told stamp secret (cut_tray mod257 told stamp secret random) tray p
older_write C A bytes slots left rest D = write_read mod257-letters C A bytes slots left rest D
