-- Demand 3: t keepers together learn nothing but the length of the secret, or of the list of words, that is cut.
-- Assumes nothing.
use Rattle.std.specs.Prelude.{ℕ, ◌*◌, ◌≡◌, List, ◌∷◌, ◌↔◌, length, get_or}
use Rattle.std.proofs.Common.{sym, arith}
use Rattle.lists.specs.Below.{Below, below_cons}
use Rattle.lists.specs.ExactlyOne.{ExactlyOne}
use Rattle.lists.specs.Member.{In, in_get_d}
use Rattle.algebra.specs.Field.{Ops}
use Rattle.algebra.specs.Points.{Points}
use Rattle.field.specs.Modulo.{mod257}
use Rattle.header.specs.declared.order.Order.{Order}
use Rattle.header.specs.declared.told.Told.{Told}
use Rattle.header.specs.OrderLaws.{KeeperFacts, lawful_order_facts, lawful_keeper_facts}
use Rattle.tray.specs.Tray.{slot_of}
use Rattle.shares.specs.OneWords.{OneWords}
use Rattle.shares.specs.Shares.{share_words}
use Rattle.shares.specs.Words.{share_rows, row_of}
use Rattle.shares.specs.WordsLaws.{row_shares}
use Rattle.cut.specs.Cut.{letter_of, cut_tray}
use Rattle.cut.specs.LetterField.{LetterField, mod257-letters}
use Rattle.cut.specs.OneCut.{OneCut, slot-cut, shares_cut}
use Rattle.demands.specs.SameShares.{SameShares}
use Rattle.demands.proofs.SameShares.{shares_exactly_one, exactly_one_as}
use Rattle.demands.specs.Secrecy.{AnyKeepers, GivesSameBytes, GivesSameRows}

module _ {O : Ops} (F : LetterField O) {order : Order} {ks constants random : List ℕ} (W : OneWords O order constants random)
    (K : AnyKeepers order ks) (constants' : List ℕ) (s : length constants' ≡ length constants) (b : Below O.q constants') where
  a_keeper : (x : ℕ) → In x ks → KeeperFacts order x
  a_keeper x m = lawful_keeper_facts order x (K.keepers x m)

  points : Points O.q (0 ∷ ks)
  points =
      let o = lawful_order_facts order W.order_lawful in
      record {
        below = below_cons O.q 0 ks (omega (arith, F.least)) (λ i h. omega (arith, F.least, o, a_keeper (get_or ks i 0) (in_get_d ks i h)));
        different = ((λ m. omega (arith, a_keeper 0 m)), K.different);
      }

  shares_one : ExactlyOne (SameShares O order.t ks constants random constants')
  shares_one = shares_exactly_one F.laws order.t ks K.many points constants constants' random (sym s) b

  -- a keeper's row tells its share words, and they tell its row
  rows_as : (random' : List ℕ) (x : ℕ) → In x ks
      → (share_words O order.t x constants' random' ≡ share_words O order.t x constants random)
      ↔ (row_of (share_rows O order constants' random') (length constants') x ≡ row_of (share_rows O order constants random) (length constants') x)
  rows_as random' x m =
      let ours = row_shares O order constants' random' x (a_keeper x m) in
      let theirs = rw (sym s) at (row_shares O order constants random x (a_keeper x m)) in
      (λ e. cc, λ e. cc)

  -- demand 3's sentence, said of rows of any field words
  pub words_secrecy : ExactlyOne (GivesSameRows O order ks (share_rows O order constants random) constants')
  words_secrecy = exactly_one_as O order.t ks constants' _ _ _ _ (λ random' size below. rows_as random') shares_one

module _ {O : Ops} (F : LetterField O) {told : Told} {stamp : ℕ} {ks constants random : List ℕ} (C : OneCut O told stamp constants random)
    (K : AnyKeepers told.order ks) (constants' : List ℕ) (s : length constants' ≡ length constants) (b : Below O.q constants') where
  -- a keeper's letter tells its share words, and they tell its letter
  letters_as : (random' : List ℕ) → length random' ≡ length constants' * told.order.t → Below O.q random' → (x : ℕ) → In x ks
      → (share_words O told.order.t x constants' random' ≡ share_words O told.order.t x constants random)
      ↔ (slot_of (cut_tray O told stamp constants' random') x ≡ slot_of (cut_tray O told stamp constants random) x)
  unfolding letter_of
  letters_as random' size below x m =
      let k = lawful_keeper_facts told.order x (K.keepers x m) in
      let W = C.of_words in
      let D : OneCut O told stamp constants' random' = record {
        of_words = record {
          order_lawful = W.order_lawful;
          length_lawful = rw s W.length_lawful;
          constants_below = b;
          random_size = size;
          random_below = below;
        };
        told_lawful = C.told_lawful;
        stamp_lawful = C.stamp_lawful;
      } in
      (λ e. rw (slot-cut F D x k, slot-cut F C x k, s, e), λ e. cc (shares_cut F D x k, shares_cut F C x k))

  -- "For any t keepers and two secrets of equal length, for each list of random words for the first exactly one for the second gives those
  -- keepers the same bytes." Said of letters of any field words.
  pub secrecy : ExactlyOne (GivesSameBytes O told stamp ks (cut_tray O told stamp constants random) constants')
  secrecy = exactly_one_as O told.order.t ks constants' _ _ _ _ letters_as (shares_one F C.of_words K constants' s b)

-- The page's case: "modulo the prime 257", and both secrets are bytes. "Demand 3 fixes the key like the stamp": both are cut
-- under the same order, key and stamp.
pub demand_3 : {told : Told} {stamp : ℕ} {ks secret random : List ℕ} → OneCut mod257 told stamp secret random → AnyKeepers told.order ks
    → (secret' : List ℕ) → length secret' ≡ length secret → Below 256 secret' → ExactlyOne (GivesSameBytes mod257 told stamp ks (cut_tray mod257 told stamp secret random) secret')
demand_3 C K secret' s b = secrecy mod257-letters C K secret' s (λ i h. omega (arith, b i h))

-- "demand 3 holds for equally long lists of words too": each word is 0..256, and what the keepers have are rows of share words.
pub demand_3_words : {order : Order} {ks words random : List ℕ} → OneWords mod257 order words random → AnyKeepers order ks
    → (words' : List ℕ) → length words' ≡ length words → Below 257 words' → ExactlyOne (GivesSameRows mod257 order ks (share_rows mod257 order words random) words')
demand_3_words W K words' s b = words_secrecy mod257-letters W K words' s b
