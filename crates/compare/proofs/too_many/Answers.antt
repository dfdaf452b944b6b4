-- `compare::too_many` meets its contract: a part has at most eight words that differ.
-- Assumes nothing.
use Rattle.std.proofs.Common.{◌<◌, sym, ◌∙◌, arith, length}
use Rattle.compare.proofs.PartLaws.{in_parts_most, beyond_none, beyond_all}
use Rattle.compare.specs.Parts.{in_parts}
use Rattle.compare.proofs.too_many.Goals as goal

pub returns-then-parts-places : goal.returns-then-parts-places
returns-then-parts-places c =
    let args = c.args in
    beyond_none _ _ (omega (arith, in_parts_most args.first.now args.second.now args.parts.now))

pub returns-then-places-words : goal.returns-then-places-words
returns-then-places-words c =
    let args = c.args in
    let more : args.places < length (in_parts args.first.now args.second.now args.parts.now) = omega (arith, c.count-words.ensures) in
    (c.count-words.ensures ∙ sym (beyond_all _ _ more), more)

pub returns-else-places-words : goal.returns-else-places-words
returns-else-places-words c = beyond_none _ _ (omega (arith, c.count-words.ensures))
