-- The numbers stand in a letter where its layout says.
-- Assumes nothing.
use Rattle.std.specs.Prelude.{refl}
use Rattle.lists.specs.Listed.{listed}
use Rattle.lists.specs.Pieces.{pieces}
use Rattle.lists.specs.Total.{total}
use Rattle.algebra.specs.Poly.{eval}
use Rattle.block.specs.Check.{sealed}
use Rattle.block.specs.Words.{bytes_of, words_of}
use Rattle.header.specs.Head.{head_words}
use Rattle.header.specs.Order.{lawful_order}
use Rattle.header.specs.Told.{lawful_told}
use Rattle.format.specs.Letter.{blocks_for, block_shares, block_bytes, slot_bytes}
use Rattle.shares.specs.Shares.{share_words}
use Rattle.cut.specs.Cut.{letter_of}
use Rattle.demands.specs.Layout.{Layout}

pub layout : Layout
unfolding lawful_told lawful_order letter_of slot_bytes pieces blocks_for block_bytes block_shares head_words sealed listed total bytes_of words_of share_words eval
layout = record { lawful = refl; header = refl; shares = refl; checks = refl; first_bytes = refl; rest = refl; later = refl; weights = (refl, refl) }
