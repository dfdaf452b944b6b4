-- `compare::look::words_in` meets its contract, word by word.
-- Assumes nothing.
use Rattle.std.proofs.Common.{◌*◌, ◌≡◌, sym, ap, ◌∙◌, arith, length}
use Rattle.compare.proofs.Turns.{counted_none, counted_most, counted_joined, counted_skipped}
use Rattle.compare.specs.Compare.{differs}
use Rattle.compare.proofs.CompareLaws.{differs-told}
use Rattle.compare.specs.Parts.{in_part}
use Rattle.lists.specs.Chosen.{chosen}
use Rattle.lists.specs.From.{from}
use Rattle.compare.proofs.look.words_in.Goals as goal
use Rattle.compare.proofs.look.words_in.Goals.{then-not-same_word, else-not-same_word}

pub loop-j-init : goal.loop-j-init
loop-j-init c = counted_none

pub overflow_add-count : goal.overflow_add-count
overflow_add-count c = record { fits = omega (arith, counted_most c.loop-j.invariant) }

pub loop-j-preserved : goal.loop-j-preserved
loop-j-preserved c =
    let here = c.loop-j in
    let answer = sym c.same_word.ensures in
    elim c.if-not-same_word.branch [
      | then-not-same_word w ↦ counted_joined here.invariant (omega arith) (differs-told _ _ _ (answer ∙ w.if-not-same_word.true)) w.count-is
      | else-not-same_word w ↦ counted_skipped here.invariant (omega arith) (differs-told _ _ _ (answer ∙ w.if-not-same_word.false)) w.count-is
    ]

pub returns : goal.returns
unfolding in_part
returns c =
    let here = c.loop-j in
    let args = c.args in
    let all : here.j ≡ 8 = omega arith in
    c.from.ensures ∙ here.invariant.counted ∙ ap (λ k. length (chosen (differs args.first.now args.second.now) (from (8 * args.p) k))) all
