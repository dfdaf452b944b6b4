-- `agree::constants::constants_of` meets its contract: words carried to 0 from keepers that agree are the constants.
-- Assumes nothing.
use Rattle.std.proofs.Common.{arith}
use Rattle.agree.specs.Recovers.{recovered}
use Rattle.field.proofs.Laws.{mod257_field}
use Rattle.search.specs.Base.{base_length, base_keepers, keeper_points}
use Rattle.weigh.specs.Weigh.{row_word}
use Rattle.agree.proofs.constants.constants_of.Goals as goal

pub carry_row-requires : goal.carry_row-requires
carry_row-requires c =
    let base = c.first-base.ensures in
    record { keepers = base_keepers base; few = omega (arith, base_length base); whole = c.requires.rows.whole; words = c.requires.rows.words; room = c.requires.row_room }

pub returns : goal.returns
returns c = recovered mod257_field c.first-base.ensures keeper_points (row_word c.args.rows.now) _ _ c.carry_row.ensures
