-- `report_text::keeper::put_keepers` meets its contract, keeper by keeper.
-- Assumes nothing.
use Rattle.std.proofs.Common.{◌≡◌, ◌∙◌, add-one, append-nil, append_assoc, arith, length-append}
use Rattle.lists.specs.Pieces.{pieces}
use Rattle.refusals.specs.Numbers.{code_of}
use Rattle.report_text.specs.Sets.{length_keepers}
use Rattle.report_text.proofs.keeper.put_keepers.Goals as goal

pub loop-k-init : goal.loop-k-init
unfolding pieces
loop-k-init c = rw append-nil

pub put_keeper-requires-clause-room : goal.put_keeper-requires-clause-room
put_keeper-requires-clause-room c =
    let short = length_keepers (code_of c.args.joined.outcome) c.args.usable.bits c.args.joined.set.bits c.loop-k.k (omega arith) in
    rw (c.loop-k.invariant, length-append) (omega arith)

pub loop-k-preserved : goal.loop-k-preserved
unfolding pieces
loop-k-preserved c = c.put_keeper.ensures ∙ rw (c.loop-k.invariant, add-one, append_assoc)

pub returns : goal.returns
returns c =
    let short = length_keepers (code_of c.args.joined.outcome) c.args.usable.bits c.args.joined.set.bits c.args.n c.requires.n_small in
    let all : c.loop-k.k ≡ c.args.n = omega arith in
    let written = rw all at c.loop-k.invariant in
    record { written = written; at_most = rw (written, length-append) (omega arith) }
