-- "Letters of our boot and mirror keys were mixed up": of a tray in which letters of other keys stand, nothing wrong is joined.
-- Assumes nothing.
use Rattle.std.specs.Prelude.{ℕ, ◌+◌, ◌*◌, ◌≤◌, ◌≡◌, refl, Bool, true, false, not, ◌&&◌, List, ◌⊎◌, length}
use Rattle.std.proofs.Common.{sym, ap, ◌∙◌, true≢false, inl, inr, ⊎_elim, arith}
use Rattle.std.proofs.lemmas.Bool.{false≢true}
use Rattle.lists.specs.Below.{Below}
use Rattle.lists.specs.Count.{count_not, count_all, count_mono}
use Rattle.lists.specs.From.{from, from_in}
use Rattle.lists.specs.SameBytes.{same_bytes, same_bytes_equal, equal_same_bytes}
use Rattle.field.specs.Modulo.{mod257}
use Rattle.header.specs.declared.head.Head.{Head}
use Rattle.header.specs.declared.told.Told.{Told}
use Rattle.header.specs.Order.{lawful_keeper}
use Rattle.header.specs.OrderLaws.{KeeperFacts, lawful_keeper_facts, facts_lawful_keeper}
use Rattle.format.specs.Reading.{read_of}
use Rattle.tray.specs.Tray.{head_for, slot_of, usable}
use Rattle.tray.proofs.UsableLaws.{usable_reads, reads_usable}
use Rattle.cut.specs.Cut.{cut_tray}
use Rattle.cut.specs.LetterField.{mod257-letters}
use Rattle.cut.specs.OneCut.{OneCut, read_cut}
use Rattle.join.specs.Join.{Joined}
use Rattle.join.specs.Join.{JoinDone}
use Rattle.demands.specs.Altered.{unaltered, unaltered_many, altered, AtMostAltered}
use Rattle.demands.specs.Recovery.{GivesBack}
use Rattle.demands.proofs.Recovery.{demand_2}
use Rattle.demands.specs.MixedKeys.{OfAnother, MixedUp, own_many}

neither : (used same : Bool) → (same ≡ true) ⊎ (used ≡ false) → not (used && not same) ≡ true
neither true true h = refl
neither true false h = absurd (⊎_elim false≢true true≢false h)
neither false same h = refl

module _ {told : Told} {stamp : ℕ} {secret random tray : List ℕ} (C : OneCut mod257 told stamp secret random)
    (M : MixedUp told (cut_tray mod257 told stamp secret random) tray) where
  abbrev cut : List ℕ
  cut = cut_tray mod257 told stamp secret random

  module _ (x : ℕ) (k : KeeperFacts told.order x) where
    unusable : OfAnother told.key (slot_of tray x) → (used : Bool) → usable told stamp (length secret) tray x ≡ used → usable told stamp (length secret) tray x ≡ false
    unusable other false e = e
    unusable other true e = absurd (other (head_for told stamp (length secret) x) (usable_reads told stamp (length secret) tray x e) refl)

    not_altered : not (altered told stamp (length secret) cut tray x) ≡ true
    not_altered =
        neither (usable told stamp (length secret) tray x) (same_bytes (slot_of tray x) (slot_of cut x))
        (⊎_elim (λ own. inl (equal_same_bytes (slot_of tray x) (slot_of cut x) own)) (λ other. inr (unusable other _ refl)) (M.slots x (facts_lawful_keeper told.order x k)))

    own_unaltered : same_bytes (slot_of tray x) (slot_of cut x) ≡ true → unaltered told stamp (length secret) cut tray x ≡ true
    own_unaltered same =
        let read = ap read_of (same_bytes_equal (slot_of tray x) (slot_of cut x) same) ∙ read_cut mod257-letters C x k in
        rw (reads_usable told stamp (length secret) tray x read, same)

  none_altered : AtMostAltered told stamp (length secret) cut tray
  none_altered =
      let keepers = from 1 told.order.n in
      let test : ℕ → Bool = altered told stamp (length secret) cut tray in
      let all = count_all (λ x. not (test x)) keepers (λ x i. let h = from_in 1 told.order.n x i in not_altered x (omega arith)) in
      record { bytes = M.bytes; few = omega (arith, count_not test keepers, all) }

  own_most : own_many told cut tray ≤ unaltered_many told stamp (length secret) cut tray
  own_most =
      count_mono (λ x. same_bytes (slot_of tray x) (slot_of cut x)) (unaltered told stamp (length secret) cut tray) (from 1 told.order.n)
      (λ x i. let h = from_in 1 told.order.n x i in own_unaltered x (omega arith))

-- The join gives no other secret than the cut's, and gives that one where t+f+1 slots are the cut's, whatever other keys' letters stand beside them.
pub mixed_up : {told : Told} {stamp : ℕ} {secret random tray room left : List ℕ} {result : Joined} → OneCut mod257 told stamp secret random
    → MixedUp told (cut_tray mod257 told stamp secret random) tray → JoinDone mod257 told stamp (length secret) tray room result left
    → (result.number ≡ 0 → GivesBack told stamp secret (cut_tray mod257 told stamp secret random) tray result left)
    × (Below 256 secret → length tray ≡ 2048 * told.order.n → length room ≡ length secret
    → told.order.t + told.order.f + 1 ≤ own_many told (cut_tray mod257 told stamp secret random) tray
    → GivesBack told stamp secret (cut_tray mod257 told stamp secret random) tray result left)
mixed_up C M D =
    let two = demand_2 C (none_altered C M) D in
    (two.0, λ bytes s s' enough. two.1 bytes s s' (inr (omega (arith, own_most C M))))

-- the letters of another key's cut, under whatever order and stamp, are no letters of this key
pub another_cut : {told : Told} {stamp : ℕ} {secret random : List ℕ} (key : ℕ) → (told.key ≡ key → ⊥) → OneCut mod257 told stamp secret random
    → (x : ℕ) → lawful_keeper told.order x ≡ true → OfAnother key (slot_of (cut_tray mod257 told stamp secret random) x)
another_cut {told} {stamp} {secret} key other C x k h read same =
    let head : h ≡ head_for told stamp (length secret) x = cc (read, read_cut mod257-letters C x (lawful_keeper_facts told.order x k)) in
    other (sym (ap (λ (g : Head). g.told.key) head) ∙ same)
