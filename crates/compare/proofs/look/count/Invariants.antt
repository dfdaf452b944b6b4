-- `compare::look::count` meets its contract, part by part.
-- Assumes nothing.
use Rattle.std.proofs.Common.{◌*◌, ◌≤◌, ◌≡◌, length, take}
use Rattle.compare.specs.Parts.{in_parts}
use Rattle.compare.proofs.look.count.Given as goal

abbrev pub invariant-loop-part : goal.invariant-loop-part
invariant-loop-part l = (l.words ≤ 8 * l.part-index) × (l.words ≡ length (in_parts l.first l.second (take l.part-index l.parts)))
