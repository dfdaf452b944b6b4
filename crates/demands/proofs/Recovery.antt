-- Demand 2: of a cut tray, with at most f of its usable slots altered, the join gives the secret or none; and of a tray of words, some 256.
-- Assumes nothing.
use Rattle.std.specs.Prelude.{ℕ, ◌+◌, ◌*◌, ◌≤◌, ◌<◌, ◌≡◌, Bool, true, cond, List, ◌⊎◌, length}
use Rattle.std.proofs.Common.{sym, ap, ap₂, ◌∙◌, ⊎_elim, arith}
use Rattle.lists.specs.Below.{Below}
use Rattle.lists.specs.Count.{count, count_same}
use Rattle.lists.specs.From.{from, from_in}
use Rattle.lists.specs.KeeperSetLaws.{keeper_set_same}
use Rattle.lists.specs.SameBytes.{same_bytes, same_bytes_equal, equal_same_bytes}
use Rattle.lists.specs.SameTest.{same_test, same_and}
use Rattle.algebra.specs.Field.{Ops}
use Rattle.field.specs.Modulo.{mod257}
use Rattle.block.specs.Check.{all_at_most}
use Rattle.block.specs.AtMostLaws.{below_at_most}
use Rattle.header.specs.declared.told.Told.{Told}
use Rattle.header.specs.OrderLaws.{KeeperFacts}
use Rattle.tray.specs.Tray.{slot_of, usable, usable_many, word_of}
use Rattle.agree.specs.Agreement.{matches, agreeing, Reaches, constants}
use Rattle.agree.specs.ReachesLaws.{agreeing_same}
use Rattle.trials.specs.Trials.{trials}
use Rattle.trials.specs.Within.{within}
use Rattle.cut.specs.Cut.{cut_tray}
use Rattle.cut.specs.LetterField.{LetterField, keepers_apart, mod257-letters}
use Rattle.cut.specs.OneCut.{OneCut}
use Rattle.join.specs.Join.{Joined}
use Rattle.join.specs.Join.{answer, hunt, JoinDone}
use Rattle.join.specs.Lowest.{hunted-within}
use Rattle.demands.specs.Accepted.{SecretAgreed, Tells, Given}
use Rattle.demands.proofs.Accepted.{told_reached, zero_agreed, reached_told}
use Rattle.demands.specs.Altered.{unaltered, unaltered_many, EnoughLeft, AtMostAltered}
use Rattle.demands.proofs.Altered.{count-usable}
use Rattle.demands.proofs.JoinAnswers.{cut_not_refused}
use Rattle.demands.specs.CutPolynomials.{cut_polynomials}
use Rattle.demands.proofs.CutPolynomials.{constants-cut, polynomials_cut, slot-matches, matches-slot}
use Rattle.demands.specs.Recovery.{TellsCut, GivesBack}

module _ {O : Ops} (F : LetterField O) {told : Told} {stamp : ℕ} {secret random tray : List ℕ} (C : OneCut O told stamp secret random)
    (A : AtMostAltered told stamp (length secret) (cut_tray O told stamp secret random) tray) where
  -- the tray of that one cut
  abbrev cut : List ℕ
  cut = cut_tray O told stamp secret random

  -- its polynomials
  abbrev ps : List (List ℕ)
  ps = cut_polynomials told.order.t secret random

  abbrev agrees : ℕ → Bool
  agrees = agreeing O (usable told stamp (length secret) tray) (word_of tray (length secret)) (length secret) ps

  -- who agrees with the cut is who is unaltered
  agrees-unaltered : (x : ℕ) → KeeperFacts told.order x → agrees x ≡ unaltered told stamp (length secret) cut tray x
  agrees-unaltered x k =
      same_and (usable told stamp (length secret) tray x) (matches O ps (length secret) (word_of tray (length secret)) x) (same_bytes (slot_of tray x) (slot_of cut x))
      (λ u. same_test (matches O ps (length secret) (word_of tray (length secret)) x) (same_bytes (slot_of tray x) (slot_of cut x))
      (λ e. equal_same_bytes (slot_of tray x) (slot_of cut x) (matches-slot F C tray x k A.bytes u e))
      (λ e. slot-matches F C tray x k (same_bytes_equal (slot_of tray x) (slot_of cut x) e)))

  count-agrees : count agrees (from 1 told.order.n) ≡ unaltered_many told stamp (length secret) cut tray
  count-agrees =
      count_same agrees (unaltered told stamp (length secret) cut tray) (from 1 told.order.n)
      (λ x i. let h = from_in 1 told.order.n x i in agrees-unaltered x (omega arith))

  all_but_f : usable_many told stamp (length secret) tray ≤ count agrees (from 1 told.order.n) + told.order.f
  all_but_f = omega (arith, count-usable told stamp (length secret) cut tray (from 1 told.order.n), A.few, count-agrees)

  -- what is left of the cut reaches need, whatever its constants are
  cut_reaches : EnoughLeft told stamp (length secret) cut tray
      → Reaches O told.order.t told.order.f told.order.n (usable told stamp (length secret) tray) (word_of tray (length secret)) (length secret) ps
  cut_reaches many = record {
    polynomials = polynomials_cut F C;
    enough = ⊎_elim (λ h. omega (arith, all_but_f)) (λ h. omega (arith, all_but_f, count-agrees)) many;
  }

  -- and where these are bytes it is agreed on
  pub cut_agreed : Below 256 secret → EnoughLeft told stamp (length secret) cut tray → SecretAgreed O told stamp (length secret) tray ps
  cut_agreed bytes many = record { reaches = cut_reaches many; bytes = rw (constants-cut told.order.t secret random) (below_at_most 255 secret bytes) }

  -- what reaches need is the cut
  reached_cut : (qs : List (List ℕ)) → Reaches O told.order.t told.order.f told.order.n (usable told stamp (length secret) tray) (word_of tray (length secret)) (length secret) qs → qs ≡ ps
  reached_cut qs R =
      agreeing_same F.laws told.order.t told.order.n (keepers_apart F told.order C.of_words.order_lawful) (usable told stamp (length secret) tray)
      (word_of tray (length secret)) (length secret) qs ps R.polynomials (polynomials_cut F C) (omega (arith, R.enough, all_but_f))

  module _ {room left : List ℕ} {result : Joined} (D : JoinDone O told stamp (length secret) tray room result left) where
    told-cut : (number : ℕ) (given : List ℕ) → Tells O told stamp (length secret) tray ps number given result left
        → TellsCut told stamp (length secret) cut tray number given result left
    told-cut number given g = record {
      answers =
          let set = keeper_set_same agrees (unaltered told stamp (length secret) cut tray) told.order.n (λ x least most. agrees-unaltered x (omega arith)) in
          let tried = sym (ap (λ (r : Joined). r.trials) g.answers) in
          g.answers ∙ ap₂ (answer number _ _) set tried;
      leaves = g.leaves;
    }

    -- a secret that is given was agreed on, by the cut's own polynomials
    given-cut : result.number ≡ 0 → SecretAgreed O told stamp (length secret) tray ps × Given O told stamp (length secret) tray ps result left
    given-cut z =
        let (qs, a, g) = zero_agreed D z in
        let e = reached_cut qs a.reaches in
        (rw e at a, rw e at g)

    -- "The join never gives a wrong secret."
    pub never_wrong : result.number ≡ 0 → GivesBack told stamp secret cut tray result left
    never_wrong z = rw (constants-cut told.order.t secret random) at (told-cut 0 (constants ps) (given-cut z).1)

    -- the trials counted are the sets up to the first whose letters are all unaltered, where the letters' words are field words
    pub tried_unaltered : ((x : ℕ) → KeeperFacts told.order x → usable told stamp (length secret) tray x ≡ true → (i : ℕ) → i < length secret → word_of tray (length secret) x i < O.q)
        → result.number ≡ 0
        → result.trials ≡ trials (within (unaltered told stamp (length secret) cut tray)) (hunt told.order.t told.order.n (usable told stamp (length secret) tray))
    tried_unaltered words z =
        let (a, g) = given-cut z in
        ap (λ (r : Joined). r.trials) g.answers
        ∙ sym (hunted-within F.laws (keepers_apart F told.order C.of_words.order_lawful) (λ x least most. words x (omega arith)) a.reaches
        (unaltered told stamp (length secret) cut tray) (λ x least most. sym (agrees-unaltered x (omega arith))))

    -- what is told of with 0 or 8 is the cut
    never_other : (result.number ≡ 0) ⊎ (result.number ≡ 8)
        → TellsCut told stamp (length secret) cut tray (cond (all_at_most 255 secret) 0 8) (cond (all_at_most 255 secret) secret room) result left
    never_other z =
        let (qs, R, g) = told_reached D z in
        rw (constants-cut told.order.t secret random) at (told-cut _ _ (rw (reached_cut qs R) at g))

    -- where enough is left the cut is told of: given where its constants are bytes; where one is 256, with 8
    tells_cut : length tray ≡ 2048 * told.order.n → length room ≡ length secret → EnoughLeft told stamp (length secret) cut tray
        → TellsCut told stamp (length secret) cut tray (cond (all_at_most 255 secret) 0 8) (cond (all_at_most 255 secret) secret room) result left
    tells_cut s s' many =
        rw (constants-cut told.order.t secret random) at (told-cut _ _ (reached_told F D (cut_not_refused C tray room s s') ps (cut_reaches many)))

    -- "It gives the right one if m is at least t+2f+1, and also for smaller m if at least t+f+1 usable letters are unaltered."
    pub gives_right : Below 256 secret → length tray ≡ 2048 * told.order.n → length room ≡ length secret → EnoughLeft told stamp (length secret) cut tray
        → GivesBack told stamp secret cut tray result left
    gives_right bytes s s' many = rw (below_at_most 255 secret bytes) at (tells_cut s s' many)

-- The page's case, "modulo the prime 257". What is lent must have its lengths, and the constants be bytes, only where an answer is promised.
pub demand_2 : {told : Told} {stamp : ℕ} {secret random tray room left : List ℕ} {result : Joined} → OneCut mod257 told stamp secret random
    → AtMostAltered told stamp (length secret) (cut_tray mod257 told stamp secret random) tray
    → JoinDone mod257 told stamp (length secret) tray room result left
    → (result.number ≡ 0 → GivesBack told stamp secret (cut_tray mod257 told stamp secret random) tray result left)
    × (Below 256 secret → length tray ≡ 2048 * told.order.n → length room ≡ length secret
    → EnoughLeft told stamp (length secret) (cut_tray mod257 told stamp secret random) tray
    → GivesBack told stamp secret (cut_tray mod257 told stamp secret random) tray result left)
demand_2 C A D = (never_wrong mod257-letters C A D, gives_right mod257-letters C A D)

-- The same of words, each of which may be 256. Where 0 or 8 is answered, and where enough is left, the cut is told of: given where all its words are bytes;
-- where one is 256, with 8, "they match, but some constant is 256".
pub demand_2_words : {told : Told} {stamp : ℕ} {words random tray room left : List ℕ} {result : Joined} → OneCut mod257 told stamp words random
    → AtMostAltered told stamp (length words) (cut_tray mod257 told stamp words random) tray
    → JoinDone mod257 told stamp (length words) tray room result left
    → ((result.number ≡ 0) ⊎ (result.number ≡ 8))
    ⊎ ((length tray ≡ 2048 * told.order.n) × (length room ≡ length words) × EnoughLeft told stamp (length words) (cut_tray mod257 told stamp words random) tray)
    → TellsCut told stamp (length words) (cut_tray mod257 told stamp words random) tray
    (cond (all_at_most 255 words) 0 8) (cond (all_at_most 255 words) words room) result left
demand_2_words C A D = ⊎_elim (never_other mod257-letters C A D) (λ h. tells_cut mod257-letters C A D h.0 h.1 h.2)
