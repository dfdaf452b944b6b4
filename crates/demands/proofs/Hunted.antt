-- How long a join hunts: which set is the first, and how many there are.
-- Assumes nothing.
use Rattle.std.specs.Prelude.{ℕ, ◌+◌, ◌≤◌, ◌<◌, ◌≡◌, Bool, true, List, ◌⊎◌, length, take}
use Rattle.std.proofs.Common.{zero-le, inl, inr, arith}
use Rattle.lists.specs.Below.{Below, below_any}
use Rattle.lists.specs.Chosen.{chosen, chosen_same}
use Rattle.lists.specs.Count.{count_le_length}
use Rattle.lists.specs.From.{from, length_from, from_in}
use Rattle.lists.specs.KeeperSet.{member, keeper_set}
use Rattle.lists.specs.KeeperSetLaws.{member-keeper_set}
use Rattle.algebra.specs.Field.{Ops}
use Rattle.field.specs.Modulo.{mod257}
use Rattle.field.proofs.Laws.{mod257_field}
use Rattle.header.specs.declared.told.Told.{Told}
use Rattle.format.specs.GoodWritten.{good_written}
use Rattle.format.specs.Reading.{shares_of}
use Rattle.tray.specs.SlotLaws.{below_slot}
use Rattle.tray.specs.Tray.{head_for, slot_of, usable, usable_many, word_of}
use Rattle.tray.proofs.UsableLaws.{usable_reads}
use Rattle.agree.specs.Agreement.{agreeing, reaching, Reaches}
use Rattle.trials.proofs.BinomialsLaws.{choose_most}
use Rattle.trials.specs.Sets.{choose}
use Rattle.trials.specs.Trials.{trials, FirstGood}
use Rattle.trials.specs.Within.{within}
use Rattle.cut.specs.Cut.{cut_tray}
use Rattle.cut.specs.LetterField.{keepers_apart, mod257-letters}
use Rattle.cut.specs.OneCut.{OneCut}
use Rattle.join.specs.Join.{Joined}
use Rattle.join.specs.HuntLaws.{hunt_many, hunted_most}
use Rattle.join.specs.Join.{hunt, hunted, join_refusal, JoinDone, refused, judged, few, apart, wide, joined}
use Rattle.join.specs.Lowest.{hunt_lowest}
use Rattle.join.specs.RefusalLaws.{refusal_most, accepted_facts}
use Rattle.demands.specs.Altered.{unaltered, AtMostAltered}
use Rattle.demands.proofs.JoinAnswers.{not_refused_order}
use Rattle.demands.proofs.Recovery.{tried_unaltered}

-- at most 16 letters are usable, and t+1 is at most 8
module _ (told : Told) (stamp l : ℕ) (tray room : List ℕ) where
  at_most : join_refusal told stamp l tray room ≡ 0 → (k : ℕ) → k ≤ choose (usable_many told stamp l tray) (told.order.t + 1) → (k ≤ choose (usable_many told stamp l tray) (told.order.t + 1)) × (k ≤ 12870)
  at_most e k h =
      let facts = (accepted_facts told stamp l tray room e).of_terms.of_told.of_order in
      let fewer = count_le_length (usable told stamp l tray) (from 1 told.order.n) in
      let most = choose_most (usable_many told stamp l tray) (told.order.t + 1) (omega (arith, fewer, length_from 1 told.order.n, facts)) (omega (arith, facts)) in
      (h, omega arith)

  found_most : (O : Ops) → join_refusal told stamp l tray room ≡ 0 → (let k = hunted O told.order.t told.order.f told.order.n (usable told stamp l tray) (word_of tray l) l in
      (k ≤ choose (usable_many told stamp l tray) (told.order.t + 1)) × (k ≤ 12870))
  found_most O e = at_most e _ (hunted_most O told.order.t told.order.f told.order.n (usable told stamp l tray) (word_of tray l) l)

-- "It never exceeds m choose t+1, at most 12,870"
pub trials_most : {O : Ops} {told : Told} {stamp l : ℕ} {tray room left : List ℕ} {result : Joined} → JoinDone O told stamp l tray room result left
    → (result.trials ≤ choose result.usable (told.order.t + 1)) × (result.trials ≤ 12870)
trials_most (refused h) = (zero-le, zero-le)
trials_most (judged e (few h)) = (zero-le, zero-le)
trials_most {O} {told} {stamp} {l} {tray} {room} (judged e (apart h none)) =
    at_most told stamp l tray room e _ (omega (arith, hunt_many told.order.t told.order.n (usable told stamp l tray)))
trials_most {O} {told} {stamp} {l} {tray} {room} (judged e (wide ps R b)) = found_most told stamp l tray room O e
trials_most {O} {told} {stamp} {l} {tray} {room} (judged e (joined ps R b)) = found_most told stamp l tray room O e

-- "for 7 it is all such sets", and these are m choose t+1
pub all_tried : {O : Ops} {told : Told} {stamp l : ℕ} {tray room left : List ℕ} {result : Joined} → JoinDone O told stamp l tray room result left
    → result.number ≡ 7 → result.trials ≡ choose result.usable (told.order.t + 1)
all_tried {O} {told} {stamp} {l} {tray} {room} (refused h) z = absurd (omega (arith, refusal_most told stamp l tray room))
all_tried (judged e (few h)) z = absurd (omega arith)
all_tried {O} {told} {stamp} {l} {tray} (judged e (apart h none)) z = hunt_many told.order.t told.order.n (usable told stamp l tray)
all_tried (judged e (wide ps R b)) z = absurd (omega arith)
all_tried (judged e (joined ps R b)) z = absurd (omega arith)

module _ (told : Told) (stamp l : ℕ) (tray : List ℕ) where
  -- the set of keepers z is the first "whose polynomials match at least need letters", and the k-th
  abbrev pub FirstReaching : List ℕ → ℕ → Type 0
  FirstReaching z k =
      FirstGood (reaching mod257 told.order.t told.order.f told.order.n (usable told stamp l tray) (word_of tray l) l) (hunt told.order.t told.order.n (usable told stamp l tray)) z k

  -- a usable letter's words are field words
  words : Below 256 tray → (x : ℕ) → usable told stamp l tray x ≡ true → (i : ℕ) → word_of tray l x i < 257
  unfolding word_of
  words bytes x u i =
      below_any 257 (shares_of (slot_of tray x) l) (omega arith) (good_written (slot_of tray x) (head_for told stamp l x) (below_slot tray x 256 bytes) (usable_reads told stamp l tray x u)).below i

  module _ (ps : List (List ℕ)) where
    abbrev agrees : ℕ → Bool
    agrees = agreeing mod257 (usable told stamp l tray) (word_of tray l) l ps

    of_set : chosen (member (keeper_set agrees told.order.n)) (from 1 told.order.n) ≡ chosen agrees (from 1 told.order.n)
    of_set =
        chosen_same (member (keeper_set agrees told.order.n)) agrees (from 1 told.order.n)
        (λ x m. let b = from_in 1 told.order.n x m in member-keeper_set agrees told.order.n x b.0 (omega arith))

    lowest : Below 256 tray → told.order.n < 257 → Reaches mod257 told.order.t told.order.f told.order.n (usable told stamp l tray) (word_of tray l) l ps
        → FirstReaching (take (told.order.t + 1) (chosen (member (keeper_set agrees told.order.n)) (from 1 told.order.n)))
        (hunted mod257 told.order.t told.order.f told.order.n (usable told stamp l tray) (word_of tray l) l)
    lowest bytes below R = rw of_set (hunt_lowest mod257_field below (λ x least most u i h. words bytes x u i) R)

-- it is the t+1 lowest keepers of the set that matches, and the count is its place
pub lowest_first : {told : Told} {stamp l : ℕ} {tray room left : List ℕ} {result : Joined} → Below 256 tray → JoinDone mod257 told stamp l tray room result left
    → (result.number ≡ 0) ⊎ (result.number ≡ 8)
    → FirstReaching told stamp l tray (take (told.order.t + 1) (chosen (member result.set) (from 1 told.order.n))) result.trials
lowest_first bytes (refused h) (inl z) = absurd (h z)
lowest_first {told} {stamp} {l} {tray} {room} bytes (refused h) (inr z) = absurd (omega (arith, refusal_most told stamp l tray room))
lowest_first bytes (judged e (few h)) (inl z) = absurd (omega arith)
lowest_first bytes (judged e (few h)) (inr z) = absurd (omega arith)
lowest_first bytes (judged e (apart h none)) (inl z) = absurd (omega arith)
lowest_first bytes (judged e (apart h none)) (inr z) = absurd (omega arith)
lowest_first {told} {stamp} {l} {tray} {room} bytes (judged e (wide ps R b)) z =
    lowest told stamp l tray ps bytes (keepers_apart mod257-letters told.order (not_refused_order told stamp l tray room e)) R
lowest_first {told} {stamp} {l} {tray} {room} bytes (judged e (joined ps R b)) z =
    lowest told stamp l tray ps bytes (keepers_apart mod257-letters told.order (not_refused_order told stamp l tray room e)) R

-- of one cut, with at most f of its usable letters altered, where the secret is given, the count is that of the sets up to the first without an altered letter
pub unaltered_first : {told : Told} {stamp : ℕ} {secret random tray room left : List ℕ} {result : Joined} → OneCut mod257 told stamp secret random
    → AtMostAltered told stamp (length secret) (cut_tray mod257 told stamp secret random) tray
    → JoinDone mod257 told stamp (length secret) tray room result left → result.number ≡ 0
    → result.trials
    ≡ trials (within (unaltered told stamp (length secret) (cut_tray mod257 told stamp secret random) tray)) (hunt told.order.t told.order.n (usable told stamp (length secret) tray))
unaltered_first {told} {stamp} {secret} {tray = tray} C A D = tried_unaltered mod257-letters C A D (λ x k u i h. words told stamp (length secret) tray A.bytes x u i)
