-- `block::bounds::all_at_most` meets its contract: the largest word so far tells of all so far.
-- Assumes nothing.
use Rattle.std.proofs.Common.{◌+◌, ◌-◌, ◌<◌, max, ◌≡◌, sym, arith, length, get_or, drop, length-drop, get_or-drop}
use Rattle.block.specs.AtMostLaws.{largest_none, largest_more}
use Rattle.block.specs.WordParts.{length-words}
use Rattle.block.specs.Words.{words_of}
use Rattle.block.proofs.bounds.all_at_most.Goals as goal

pub loop-i-init : goal.loop-i-init
loop-i-init c =
    let a = c.args in
    let none : a.from - a.from ≡ 0 = omega arith in
    rw none (largest_none (drop a.from (words_of a.bytes.now)))

pub loop-i-preserved : goal.loop-i-preserved
loop-i-preserved c =
    let here = c.loop-i in
    let a = c.args in
    let words = words_of a.bytes.now in
    let more : here.i + 1 - a.from ≡ here.i - a.from + 1 = omega arith in
    let at : a.from + (here.i - a.from) ≡ here.i = omega arith in
    let read : c.max-largest.result ≡ max here.largest (get_or (drop a.from words) (here.i - a.from) 0)
    = rw (get_or-drop a.from words (here.i - a.from) 0, at, ← c.word_at.ensures) c.max-largest.ensures in
    let inside : here.i - a.from < length (drop a.from words) = omega (arith, length-drop a.from words, length-words a.bytes.now) in
    rw more (largest_more (drop a.from words) (here.i - a.from) here.largest c.max-largest.result inside read here.invariant)

pub returns : goal.returns
returns c =
    let here = c.loop-i in
    let a = c.args in
    let end : here.i ≡ a.to = omega arith in
    sym (rw end at (here.invariant a.top))
