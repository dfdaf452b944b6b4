-- What it says that a weighing is not refused, and that nothing is wrong with its sub-letters.
-- Assumes nothing.
use Rattle.std.specs.Prelude.{ℕ, zero, suc, ◌+◌, ◌*◌, ◌<◌, ◌≤◌, ◌≡◌, refl, Bool, true, false, cond, ◌&&◌, List, eqb, get_or}
use Rattle.std.proofs.Common.{sym, ◌∙◌, true≢false, ⊎_elim, eq-or-lt_of_le, eqb-true, eq-eqb}
use Rattle.std.proofs.Math.Path.{ap}
use native.Mathlib.Omega.{arith}
use Rattle.std.proofs.Math.ListN.{length}
use Rattle.lists.specs.AllToLaws.{all_to-at}
use Rattle.lists.specs.Below.{Below}
use Rattle.header.specs.declared.head.Head.{Head}
use Rattle.header.specs.FirstOf.{both_right}
use Rattle.header.specs.Head.{lawful_head, same_head}
use Rattle.header.specs.HeadLaws.{facts_lawful_head, same_head_equal}
use Rattle.header.specs.Order.{lawful_keeper}
use Rattle.header.specs.OrderLaws.{KeeperFacts, lawful_keeper_facts}
use Rattle.header.specs.Passing.{passed, passing, and_left, and_right}
use Rattle.format.specs.Reading.{Reading, Good, Bad, read_as, shares_of, number_of}
use Rattle.format.specs.GoodWritten.{good_shares}
use Rattle.format.specs.ReadingBounds.{FaultsIn, fault_facts_as, good_said}
use Rattle.tray.specs.Tray.{slot_of, head_for}
use Rattle.moving.specs.declared.terms.Move.{Move}
use Rattle.moving.specs.Lent.{MoveTerms}
use Rattle.moving.specs.MoveLaws.{move_terms}
use Rattle.moving.specs.Move.{move_number}
use Rattle.sub_letters.specs.Judging.{Weighing}
use Rattle.sub_letters.specs.Keepers.{all_keepers}
use Rattle.sub_letters.specs.Lent.{SubsLent}
use Rattle.sub_letters.specs.Subs.{froms_right}
use Rattle.sub_letters.specs.Judging.{weigh_lent, weigh_refusal, only, or_next, first_sub, fault_at, other_at, subs_answer}

-- of what is told and lent
pub record WeighRight (m : Move) (keepers : List ℕ) (keeper : ℕ) (letters slot : List ℕ) : Type 0 where
  pub terms : MoveTerms m
  pub small : Below 17 keepers
  pub of_keeper : KeeperFacts m.told.order keeper
  pub many : length keepers ≡ m.old.t + 1
  pub lent : SubsLent letters (length keepers)
  pub slot_lent : length slot ≡ 2048

module _ (m : Move) (keepers : List ℕ) (keeper : ℕ) (letters slot : List ℕ) where
  small_keepers : MoveTerms m → all_keepers m.old keepers ≡ true → Below 17 keepers
  unfolding all_keepers
  small_keepers terms all i h =
      omega (arith, terms.of_old, lawful_keeper_facts m.old (get_or keepers i 0) (all_to-at (λ i. lawful_keeper m.old (get_or keepers i 0)) (length keepers) all i h))

  pub weigh_right : weigh_refusal m keepers keeper letters slot ≡ 0 → WeighRight m keepers keeper letters slot
  unfolding weigh_refusal
  weigh_right e =
      let told = all_keepers m.old keepers && lawful_keeper m.told.order keeper in
      let right = both_right (move_number m told) _ e in
      let terms = move_terms m told right.0 in
      let lengths = (passing (weigh_lent m (length keepers) (length letters) (length slot)) 0 3 right.1).0 in
      let many : length keepers ≡ m.old.t + 1 = search passed in
      let sized : length letters ≡ 2048 * (m.old.t + 1) = search passed in
      record {
        terms = terms.0;
        small = small_keepers terms.0 (and_left (all_keepers m.old keepers) (lawful_keeper m.told.order keeper) terms.1);
        of_keeper = lawful_keeper_facts m.told.order keeper (and_right (all_keepers m.old keepers) (lawful_keeper m.told.order keeper) terms.1);
        many = many;
        lent = record { few = omega (arith, terms.0.of_old); size = omega arith };
        slot_lent = search passed;
      }

  -- the new keeper's head is lawful
  pub kept_lawful : WeighRight m keepers keeper letters slot → lawful_head (head_for m.told m.stamp m.length keeper) ≡ true
  kept_lawful W =
      facts_lawful_head (head_for m.told m.stamp m.length keeper) (record { of_terms = W.terms.of_terms; of_keeper = W.of_keeper })

-- where the number is 0, so it is of what is said first and of what is said next
both-said : (one two : Weighing) → (or_next one two).number ≡ 0 → (one.number ≡ 0) × (two.number ≡ 0)
both-said one two = step (eqb one.number 0) refl
  where
    step : (b : Bool) → eqb one.number 0 ≡ b → (cond b two one).number ≡ 0 → (one.number ≡ 0) × (two.number ≡ 0)
    step true e none = (eqb-true one.number 0 e, none)
    step false e none = absurd (true≢false (sym (eq-eqb one.number 0 none) ∙ e))

none_said : (rule : ℕ → Weighing) (k many : ℕ) → (first_sub rule k many).number ≡ 0 → (i : ℕ) → k ≤ i → i < k + many → (rule i).number ≡ 0
unfolding first_sub
none_said rule k zero e i least most = absurd (omega arith)
none_said rule k (suc many) e i least most =
    let both = both-said (rule k) (first_sub rule (suc k) many) e in
    ⊎_elim (λ (q : k ≡ i). rw (← q) both.0) (λ past. none_said rule (suc k) many both.1 i past (omega arith)) (eq-or-lt_of_le least)

-- a reading without a number is a good one
good_reading : (slot : List ℕ) → number_of (read_as 82 256 slot) ≡ 0 → (l : ℕ) → ((h : Head) → read_as 82 256 slot ≡ Good h → h.length ≡ l) → Below 257 (shares_of slot l)
good_reading slot e l long = step (read_as 82 256 slot) refl (fault_facts_as 82 256 slot) e
  where
    step : (reading : Reading) → read_as 82 256 slot ≡ reading → FaultsIn reading → number_of reading ≡ 0 → Below 257 (shares_of slot l)
    step (Good h) read facts none = rw (long h read) at (good_shares 82 256 slot h read).1
    step (Bad number place) read facts none = absurd (facts.numbered none)

module _ (m : Move) (keepers : List ℕ) (keeper : ℕ) (letters : List ℕ) where
  -- the words of sub-letters that nothing is wrong with
  pub good_words : (subs_answer m keepers keeper letters).number ≡ 0 → (k : ℕ) → k < length keepers → Below 257 (shares_of (slot_of letters (suc k)) m.length)
  unfolding subs_answer
  good_words e k h =
      let asked = head_for m.told m.stamp m.length keeper in
      let faults = first_sub (fault_at letters) 0 (length keepers) in
      let others = first_sub (other_at m keeper letters) 0 (length keepers) in
      let last = only (cond (froms_right keepers letters m.length) 0 19) in
      let first = both-said faults (or_next others last) e in
      let next = both-said others last first.1 in
      let good = none_said (fault_at letters) 0 (length keepers) first.0 k (omega arith) (omega arith) in
      let same = none_said (other_at m keeper letters) 0 (length keepers) next.0 k (omega arith) (omega arith) in
      good_reading (slot_of letters (suc k)) good m.length
      (λ g read. ap (λ (x : Head). x.length) (sym (good_said 82 256 (slot_of letters (suc k)) g read) ∙ same_head_equal _ asked (passing (same_head _ asked) 0 15 same).0))
