-- `block::check::agrees` meets its contract: the two words after the row's others, exchanged back, are compared with the two of the definition.
-- Assumes nothing.
use Rattle.std.proofs.Common.{◌≡◌, arith, get_or}
use Rattle.std.proofs.Math.Bool.{and-true}
use Rattle.block.specs.Check.{checked}
use Rattle.block.specs.ExchangedLaws.{exchanged-word}
use Rattle.block.specs.Words.{exchanged_all}
use Rattle.block.proofs.check.agrees.Goals as goal

pub returns : goal.returns
unfolding checked
returns c =
    let row = c.args.row.now in
    let plain : c.swap_bytes.result ≡ get_or (exchanged_all row) 254 0 = omega (arith, exchanged-word row 254 (omega arith), c.type_inv.row 254) in
    let weighted : c.swap_bytes-2.result ≡ get_or (exchanged_all row) 255 0 = omega (arith, exchanged-word row 255 (omega arith), c.type_inv.row 255) in
    rw (c.eq.ensures, c.check_words.ensures, plain, weighted, and-true)
