-- What a new keeper is handed: one sub-letter of each old keeper, in the order of the old keepers, each of which reads as its old keeper cut it.
-- Assumes nothing.
use Rattle.std.specs.Prelude.{ℕ, zero, suc, ◌*◌, ◌-◌, ◌<◌, ◌≤◌, ◌≡◌, List, length, get_or}
use Rattle.std.proofs.Math.Path.{refl, sym, ap}
use Rattle.std.proofs.Common.{◌∙◌, arith}
use Rattle.std.proofs.Math.Nat.{mul_comm}
use Rattle.lists.specs.Below.{Below}
use Rattle.lists.specs.Listed.{listed_is}
use Rattle.lists.specs.Pieces.{pieces, length-pieces, part-pieces, below_pieces}
use Rattle.algebra.specs.Field.{Ops}
use Rattle.header.specs.OrderLaws.{KeeperFacts, OrderFacts, lawful_order_facts, facts_lawful_order, lawful_keeper_facts}
use Rattle.header.specs.Passing.{passed}
use Rattle.header.specs.ToldLaws.{lawful_told_facts}
use Rattle.format.specs.Reading.{Good, shares_of}
use Rattle.format.specs.Letter.{slot_bytes, blocks_for}
use Rattle.format.specs.LetterSizes.{blocks_facts}
use Rattle.format.specs.WrittenReads.{ReadsAs}
use Rattle.tray.specs.Tray.{head_for, slot_of}
use Rattle.shares.specs.Shares.{share_words}
use Rattle.cut.specs.LetterField.{LetterField}
use Rattle.cut.specs.OneCut.{OneCut}
use Rattle.moving.specs.declared.terms.Move.{Move}
use Rattle.moving.specs.Cutting.{sub_letter, sub_tray}
use Rattle.sub_letters.specs.Subs.{sub_reading, from_at, froms_of}
use Rattle.moved.specs.Moved.{OneMove, handed_to}
use Rattle.moved.proofs.SubLetters.{sub_reads, slot-sub}

slot-pieces : (f : ℕ → List ℕ) (n : ℕ) → ((i : ℕ) → i < n → length (f i) ≡ 2048) → (k : ℕ) → k < n → slot_of (pieces f n) (suc k) ≡ f k
unfolding slot_of
slot-pieces f n size k l = let e : suc k - 1 ≡ k = omega arith in rw e (part-pieces 2048 f n size k l)

module _ {O : Ops} (F : LetterField O) {m : Move} {froms : List ℕ} {shares random : ℕ → List ℕ} (M : OneMove O m froms shares random) where
  pub new_order : OrderFacts m.told.order
  new_order = (lawful_told_facts m.told M.told_lawful).of_order

  -- an old keeper's number, by its place
  pub old_keeper : (k : ℕ) → k < length froms → KeeperFacts m.old (get_or froms k 0)
  old_keeper k l = lawful_keeper_facts m.old (get_or froms k 0) (M.keepers k l)

  pub old_small : (k : ℕ) → k < length froms → get_or froms k 0 ≤ 16
  old_small k l = omega (arith, old_keeper k l, lawful_order_facts m.old M.old_lawful)

  -- each old keeper's share words are cut as any words are
  pub cut_again : (k : ℕ) → k < length froms → OneCut O m.told m.stamp (shares k) (random k)
  cut_again k l = record {
    of_words = record {
      order_lawful = facts_lawful_order m.told.order new_order;
      length_lawful = rw (M.shares_size k l) M.length_lawful;
      constants_below = M.shares_below k l;
      random_size = rw (M.shares_size k l) (M.random_size k l);
      random_below = M.random_below k l;
    };
    told_lawful = M.told_lawful;
    stamp_lawful = M.stamp_lawful;
  }

  -- a letter has a block 0
  pub some_block : zero < blocks_for m.length
  some_block =
      let e = M.length_lawful in
      let least : 1 ≤ m.length = search passed in
      let most : m.length ≤ 952 = search passed in
      (blocks_facts m.length least most).least

  module _ (x : ℕ) (new : KeeperFacts m.told.order x) (k : ℕ) (l : k < length froms) where
    -- what stands in the sub-letter of old keeper number k for x
    pub handed_reads : ReadsAs 82 256 (get_or froms k 0) (head_for m.told m.stamp m.length x) (share_words O m.told.order.t x (shares k) (random k))
    handed_reads = rw (M.shares_size k l) at (sub_reads F (cut_again k l) (get_or froms k 0) (omega (arith, old_small k l)) x new)

    pub handed_slot : slot_of (sub_tray O m.told m.stamp (get_or froms k 0) (shares k) (random k)) x
        ≡ slot_bytes 82 (get_or froms k 0) (head_for m.told m.stamp m.length x) (share_words O m.told.order.t x (shares k) (random k))
    unfolding sub_letter
    handed_slot =
        slot-sub F (cut_again k l) (get_or froms k 0) (omega (arith, old_small k l)) x new
        ∙ ap (λ (n : ℕ). slot_bytes 82 (get_or froms k 0) (head_for m.told m.stamp n x) (share_words O m.told.order.t x (shares k) (random k))) (M.shares_size k l)

  module _ (x : ℕ) (new : KeeperFacts m.told.order x) where
    -- all that x is handed
    abbrev letters : List ℕ
    letters = handed_to O m froms shares random x

    -- what it is handed of old keeper number k
    abbrev part : ℕ → List ℕ
    part k = slot_of (sub_tray O m.told m.stamp (get_or froms k 0) (shares k) (random k)) x

    handed_size : (k : ℕ) → k < length froms → length (part k) ≡ 2048
    handed_size k l = rw (handed_slot x new k l) (handed_reads x new k l).size

    pub length_handed : length letters ≡ 2048 * length froms
    unfolding handed_to
    length_handed = length-pieces 2048 part (length froms) handed_size ∙ mul_comm (length froms) 2048

    pub below_handed : Below 256 letters
    unfolding handed_to
    below_handed = below_pieces 256 part (length froms) (λ k l. rw (handed_slot x new k l) (handed_reads x new k l).bytes)

    pub slot_handed : (k : ℕ) → k < length froms → slot_of letters (suc k) ≡ slot_of (sub_tray O m.told m.stamp (get_or froms k 0) (shares k) (random k)) x
    unfolding handed_to
    slot_handed k l = slot-pieces part (length froms) handed_size k l

    -- what x reads, number by number
    pub read_handed : (k : ℕ) → k < length froms → sub_reading letters k ≡ Good (head_for m.told m.stamp m.length x)
    read_handed k l = rw (slot_handed k l, handed_slot x new k l) (handed_reads x new k l).good

    pub shares_handed : (k : ℕ) → k < length froms → shares_of (slot_of letters (suc k)) m.length ≡ share_words O m.told.order.t x (shares k) (random k)
    shares_handed k l = rw (slot_handed k l, handed_slot x new k l) (handed_reads x new k l).same_shares

    -- "the old keeper's number in word 14", of every block
    pub from_handed : (k : ℕ) → k < length froms → (p : ℕ) → p < blocks_for m.length → from_at letters k p ≡ get_or froms k 0
    from_handed k l p h = rw (slot_handed k l, handed_slot x new k l) ((handed_reads x new k l).same_from p h)

    pub froms_handed : froms_of letters (length froms) ≡ froms
    unfolding froms_of
    froms_handed = sym (listed_is _ (length froms) froms refl (λ k l. sym (from_handed k l 0 some_block)))
