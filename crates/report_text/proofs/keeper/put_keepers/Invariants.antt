-- `report_text::keeper::put_keepers` meets its contract, keeper by keeper.
-- Assumes nothing.
use Rattle.std.proofs.Common.{◌≡◌, ◌++◌}
use Rattle.lists.specs.Pieces.{pieces}
use Rattle.refusals.specs.Numbers.{code_of}
use Rattle.report_text.specs.Sets.{line_of}
use Rattle.report_text.proofs.keeper.put_keepers.Given as goal

abbrev pub invariant-loop-k : goal.invariant-loop-k
invariant-loop-k l = l.text ≡ l.initial.text ++ pieces (line_of (code_of l.joined.outcome) l.usable.bits l.joined.set.bits) l.k
