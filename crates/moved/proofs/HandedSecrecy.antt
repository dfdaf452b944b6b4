-- Demand 3, of all that new keepers are handed: from the sub-letters of any old keeper, t new keepers together learn nothing of the words that it cuts again but how
-- many they are. It holds of each old keeper by itself, so of all that hand to them: whatever words they hold, and so whatever the secret is, each could have drawn
-- random words, and in exactly one way, that give these new keepers the same sub-letters.
-- Assumes nothing.
use Rattle.std.specs.Prelude.{ℕ, ◌*◌, ◌≤◌, ◌≡◌, List, ◌∷◌, length, get_or}
use Rattle.std.proofs.Common.{sym, arith}
use Rattle.lists.specs.Below.{Below, below_cons}
use Rattle.lists.specs.ExactlyOne.{ExactlyOne}
use Rattle.lists.specs.Member.{In, in_get_d}
use Rattle.algebra.specs.Field.{Ops}
use Rattle.algebra.specs.Points.{Points}
use Rattle.header.specs.declared.told.Told.{Told}
use Rattle.header.specs.OrderLaws.{KeeperFacts, lawful_order_facts, lawful_keeper_facts}
use Rattle.format.specs.Reading.{shares_of}
use Rattle.tray.specs.Tray.{slot_of}
use Rattle.shares.specs.Shares.{share_words}
use Rattle.cut.specs.LetterField.{LetterField}
use Rattle.cut.specs.OneCut.{OneCut}
use Rattle.demands.specs.SameShares.{GivesSame}
use Rattle.demands.proofs.SameShares.{shares_exactly_one, exactly_one_as}
use Rattle.demands.specs.Secrecy.{AnyKeepers}
use Rattle.moving.specs.Cutting.{sub_letter, sub_tray}
use Rattle.moved.proofs.SubLetters.{sub_reads, slot-sub}

-- what a new keeper reads in its sub-letter
shares-sub : {O : Ops} (F : LetterField O) {told : Told} {stamp : ℕ} {shares random : List ℕ} (C : OneCut O told stamp shares random) (from : ℕ) (small : from ≤ 256)
    (x : ℕ) → KeeperFacts told.order x
    → shares_of (slot_of (sub_tray O told stamp from shares random) x) (length shares) ≡ share_words O told.order.t x shares random
unfolding sub_letter
shares-sub F C from small x k = rw (slot-sub F C from small x k) (sub_reads F C from small x k).same_shares

module _ {O : Ops} (F : LetterField O) {told : Told} {stamp : ℕ} {ks shares random : List ℕ} (C : OneCut O told stamp shares random) (from : ℕ) (small : from ≤ 256)
    (K : AnyKeepers told.order ks) (shares' : List ℕ) (s : length shares' ≡ length shares) (b : Below O.q shares') where
  a_keeper : (x : ℕ) → In x ks → KeeperFacts told.order x
  a_keeper x m = lawful_keeper_facts told.order x (K.keepers x m)

  points : Points O.q (0 ∷ ks)
  points =
      let o = lawful_order_facts told.order C.of_words.order_lawful in
      record {
        below = below_cons O.q 0 ks (omega (arith, F.least)) (λ i h. omega (arith, F.least, o, a_keeper (get_or ks i 0) (in_get_d ks i h)));
        different = ((λ m. omega (arith, a_keeper 0 m)), K.different);
      }

  -- another cutting, of the other words
  cutting : length shares' ≡ length shares → (words : List ℕ) → length words ≡ length shares' * told.order.t → Below O.q words → OneCut O told stamp shares' words
  cutting same words size below = record {
    of_words = record {
      order_lawful = C.of_words.order_lawful;
      length_lawful = rw same C.of_words.length_lawful;
      constants_below = b;
      random_size = size;
      random_below = below;
    };
    told_lawful = C.told_lawful;
    stamp_lawful = C.stamp_lawful;
  }

  -- "for each list of random words for the first exactly one for the second gives those keepers the same bytes": the bytes are their sub-letters of one old keeper,
  -- and the lists that it holds may be any two of equal length
  pub handed_secrecy : ExactlyOne (GivesSame O told.order.t ks shares' (λ words x. slot_of (sub_tray O told stamp from shares' words) x) (slot_of (sub_tray O told stamp from shares random)))
  unfolding sub_letter
  handed_secrecy =
      exactly_one_as O told.order.t ks shares' _ _ _ _
      (λ words size below x m.
      let k = a_keeper x m in
      let D = cutting s words size below in
      (λ e. rw (slot-sub F D from small x k, slot-sub F C from small x k, s, e), λ e. cc (shares-sub F D from small x k, shares-sub F C from small x k)))
      (shares_exactly_one F.laws told.order.t ks K.many points shares shares' random (sym s) b)
