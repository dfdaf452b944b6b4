-- An untouched cut tray is accepted at the first trial, with every keeper in the set: a join that always refuses is shut out.
-- Assumes nothing.
use Rattle.std.specs.Prelude.{ℕ, ◌+◌, ◌-◌, ◌<◌, ◌≡◌, Bool, true, List, length}
use Rattle.std.proofs.Common.{ap, ◌∙◌, inl, arith}
use Rattle.lists.specs.Below.{Below, below_any}
use Rattle.lists.specs.Chosen.{chosen, length-chosen, chosen_in}
use Rattle.lists.specs.Count.{count, count_all}
use Rattle.lists.specs.From.{from, length_from, from_in}
use Rattle.lists.specs.KeeperSet.{keeper_set}
use Rattle.lists.specs.KeeperSetLaws.{keeper_set_same}
use Rattle.lists.specs.SameBytes.{same_bytes_self}
use Rattle.algebra.specs.Field.{Ops}
use Rattle.header.specs.declared.told.Told.{Told}
use Rattle.header.specs.OrderLaws.{KeeperFacts, lawful_order_facts}
use Rattle.tray.specs.Tray.{slot_of, usable, usable_many, word_of}
use Rattle.tray.proofs.UsableLaws.{reads_usable}
use Rattle.agree.specs.Agreement.{needed}
use Rattle.trials.proofs.Lowest.{all_within}
use Rattle.trials.specs.Trials.{trials}
use Rattle.trials.specs.Within.{within}
use Rattle.shares.specs.Shares.{share_words}
use Rattle.shares.specs.ShareWords.{below_share_words}
use Rattle.cut.specs.Cut.{cut_tray}
use Rattle.cut.specs.LetterField.{LetterField}
use Rattle.cut.specs.OneCut.{OneCut, length-cut_tray, below_cut_tray, read_cut, shares_cut}
use Rattle.join.specs.Join.{Joined}
use Rattle.join.specs.Join.{answer, hunt, JoinDone}
use Rattle.demands.specs.Altered.{unaltered, AtMostAltered}
use Rattle.demands.proofs.Altered.{count-usable}
use Rattle.demands.proofs.Recovery.{gives_right, tried_unaltered}

module _ {O : Ops} (F : LetterField O) {told : Told} {stamp : ℕ} {secret random : List ℕ} (C : OneCut O told stamp secret random) where
  abbrev cut : List ℕ
  cut = cut_tray O told stamp secret random

  usable-cut : (x : ℕ) → KeeperFacts told.order x → usable told stamp (length secret) cut x ≡ true
  usable-cut x k = reads_usable told stamp (length secret) cut x (read_cut F C x k)

  unaltered-cut : (x : ℕ) → KeeperFacts told.order x → unaltered told stamp (length secret) cut cut x ≡ true
  unaltered-cut x k = rw (usable-cut x k) (same_bytes_self (slot_of cut x))

  all_keepers_lem : (test : ℕ → Bool) → ((x : ℕ) → KeeperFacts told.order x → test x ≡ true) → count test (from 1 told.order.n) ≡ told.order.n
  all_keepers_lem test h =
      count_all test (from 1 told.order.n) (λ x i. let b = from_in 1 told.order.n x i in h x (omega arith)) ∙ length_from 1 told.order.n

  all_usable : usable_many told stamp (length secret) cut ≡ told.order.n
  all_usable = all_keepers_lem (usable told stamp (length secret) cut) usable-cut

  none_altered : AtMostAltered told stamp (length secret) cut cut
  none_altered = record {
    bytes = below_cut_tray F C;
    few = omega (arith, count-usable told stamp (length secret) cut cut (from 1 told.order.n), all_usable, all_keepers_lem (unaltered told stamp (length secret) cut cut) unaltered-cut);
  }

  words : (x : ℕ) → KeeperFacts told.order x → usable told stamp (length secret) cut x ≡ true → (i : ℕ) → i < length secret → word_of cut (length secret) x i < O.q
  unfolding word_of
  words x k u i h = rw (shares_cut F C x k) (below_any O.q (share_words O told.order.t x secret random) (omega (arith, F.least)) (below_share_words O told.order.t x F.laws secret random) i)

  -- every set lies within the unaltered letters
  first_tried : trials (within (unaltered told stamp (length secret) cut cut)) (hunt told.order.t told.order.n (usable told stamp (length secret) cut)) ≡ 1
  first_tried =
      all_within (unaltered told stamp (length secret) cut cut) (chosen (usable told stamp (length secret) cut) (from 1 told.order.n)) (told.order.t + 1)
      (λ x m. let b = from_in 1 told.order.n x (chosen_in (usable told stamp (length secret) cut) (from 1 told.order.n) x m) in unaltered-cut x (omega arith))
      (omega (arith, length-chosen (usable told stamp (length secret) cut) (from 1 told.order.n), all_usable, lawful_order_facts told.order C.of_words.order_lawful))

  pub untouched : Below 256 secret → {room left : List ℕ} {result : Joined} → length room ≡ length secret → JoinDone O told stamp (length secret) cut room result left
      → (result ≡ answer 0 told.order.n (told.order.n - told.order.f) (keeper_set (λ x. true) told.order.n) 1) × (left ≡ secret)
  untouched bytes s D =
      let o = lawful_order_facts told.order C.of_words.order_lawful in
      let g = gives_right F C none_altered D bytes (length-cut_tray F C) s (inl (omega (arith, all_usable, o))) in
      let need : needed told.order.t told.order.f told.order.n (usable told stamp (length secret) cut) ≡ told.order.n - told.order.f = omega (arith, all_usable, o) in
      let set = keeper_set_same (unaltered told stamp (length secret) cut cut) (λ x. true) told.order.n (λ x least most. unaltered-cut x (omega arith)) in
      let one = tried_unaltered F C none_altered D words (ap (λ (r : Joined). r.number) g.answers) ∙ first_tried in
      (g.answers ∙ (λ i. answer 0 (all_usable i) (need i) (set i) (one i)), g.leaves)
