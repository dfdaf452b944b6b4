-- `report_text::joined::usable_in` meets its contract: the scan gathers the usable keepers.
-- Assumes nothing.
use Rattle.std.proofs.Common.{refl}
use Rattle.lists.specs.Zeros.{below_zeros}
use Rattle.report_text.proofs.joined.usable_in.Goals as goal

pub scan-requires : goal.scan-requires
scan-requires c =
    let asked = c.requires in
    record { few = asked.few; short = asked.short; slots = asked.slots; room = refl; clean = below_zeros 256 15232 }
