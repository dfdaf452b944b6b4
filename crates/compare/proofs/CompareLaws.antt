-- Place i of a tray is word i of its bytes, and a comparison that is not refused is of two trays.
-- Assumes nothing.
use Rattle.std.specs.Prelude.{ℕ, ◌+◌, ◌-◌, ◌*◌, ◌/◌, ◌<◌, ◌≤◌, ◌≡◌, Bool, not, ◌&&◌, List, eqb, length, take, drop}
use Rattle.std.proofs.Math.Path.{ap}
use Rattle.std.proofs.Common.{◌∙◌, get_or-take, get_or-drop, eqb-true}
use Rattle.std.proofs.Math.Bool.{and-eq-true_iff}
use native.Mathlib.Omega.{arith}
use Rattle.std.proofs.Math.ListN.{get_or}
use Rattle.std.proofs.lemmas.List.{length-map}
use Rattle.lists.specs.Chosen.{chosen}
use Rattle.lists.specs.ChosenFrom.{chosen_most}
use Rattle.lists.specs.From.{from}
use Rattle.block.specs.Words.{words_of}
use Rattle.block.specs.WordParts.{words_take, words-drop}
use Rattle.header.specs.declared.order.Order.{Order}
use Rattle.header.specs.Order.{lawful_order}
use Rattle.header.specs.OrderLaws.{lawful_order_facts}
use Rattle.header.specs.Passing.{passing}
use Rattle.tray.specs.Tray.{slot_of}
use Rattle.compare.specs.Compare.{Compared}
use Rattle.compare.specs.Compare.{slot_at, block_at, word_at, raw_word, differs, difference, differences, compare_refusal, CompareDone, refused, short, told}
use Rattle.compare.specs.CompareLaws.{CompareFacts}

-- a part of the words that bytes are
words-part : (bs : List ℕ) (a k : ℕ) → words_of (take (2 * k) (drop (2 * a) bs)) ≡ take k (drop a (words_of bs))
words-part bs a k = words_take k (drop (2 * a) bs) ∙ ap (take k) (words-drop a bs)

get_d_part : (ws : List ℕ) (a k i : ℕ) → i < k → get_or (take k (drop a ws)) i 0 ≡ get_or ws (a + i) 0
get_d_part ws a k i h = get_or-take k (drop a ws) i 0 h ∙ get_or-drop a ws i 0

pub word_of_part : (bs : List ℕ) (a k i : ℕ) → i < k → get_or (words_of (take (2 * k) (drop (2 * a) bs))) i 0 ≡ get_or (words_of bs) (a + i) 0
word_of_part bs a k i h = rw (words-part bs a k) (get_d_part (words_of bs) a k i h)

module _ (tray : List ℕ) (i : ℕ) where
  pub raw_word_lem : raw_word tray i ≡ get_or (words_of tray) i 0
  unfolding raw_word slot_of
  raw_word_lem =
      let block-starts : 512 * block_at i ≡ 2 * (256 * block_at i) = omega arith in
      let slot-starts : 2048 * (slot_at i - 1) ≡ 2 * (1024 * (i / 1024)) = omega arith in
      let here : 1024 * (i / 1024) + (256 * block_at i + word_at i) ≡ i = omega arith in
      rw (block-starts, slot-starts)
      (word_of_part (take 2048 (drop (2 * (1024 * (i / 1024))) tray)) (256 * block_at i) 256 (word_at i) (omega arith)
      ∙ (word_of_part tray (1024 * (i / 1024)) 1024 (256 * block_at i + word_at i) (omega arith)
      ∙ ap (λ k. get_or (words_of tray) k 0) here))

pub differs-words : (first second : List ℕ) (i : ℕ) → differs first second i ≡ not (eqb (get_or (words_of first) i 0) (get_or (words_of second) i 0))
unfolding differs
differs-words first second i = rw (raw_word_lem first i, raw_word_lem second i)

pub differs-told : (first second : List ℕ) (i : ℕ) {same : Bool} → eqb (get_or (words_of first) i 0) (get_or (words_of second) i 0) ≡ same
    → differs first second i ≡ not same
differs-told first second i e = differs-words first second i ∙ ap not e

pub compare_facts : (order : Order) (first second : List ℕ) → compare_refusal order first second ≡ 0 → CompareFacts order first second
unfolding compare_refusal
compare_facts order first second e =
    let lawful = passing (lawful_order order) _ 0 e in
    let long = passing (eqb (length first) (2048 * order.n) && eqb (length second) (2048 * order.n)) 0 3 lawful.1 in
    let each = (and-eq-true_iff (eqb (length first) (2048 * order.n)) (eqb (length second) (2048 * order.n))).0 long.0 in
    record {
      of_order = lawful_order_facts order lawful.0;
      first_slots = eqb-true (length first) (2048 * order.n) each.0;
      second_slots = eqb-true (length second) (2048 * order.n) each.1;
    }

pub differences_most : (order : Order) (first second : List ℕ) → length (differences order first second) ≤ 1024 * order.n
unfolding differences
differences_most order first second =
    let test = differs first second in
    omega (arith, length-map (chosen test (from 0 (1024 * order.n))) (difference first second), chosen_most test 0 (1024 * order.n))

-- two trays of 16 slots have 16,384 words each
pub count_most : {order : Order} {first second : List ℕ} {list left : List (List ℕ)} {result : Compared} → CompareDone order first second list result left
    → result.count ≤ 16384
count_most (refused h) = omega arith
count_most {order} {first} {second} (short e l) = omega (arith, compare_facts order first second e, differences_most order first second)
count_most {order} {first} {second} (told e l) = omega (arith, compare_facts order first second e, differences_most order first second)
