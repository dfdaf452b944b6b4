-- Sub-letters to weigh, with the old keepers that they name, and a row for the sums.
-- Assumes nothing.
use Rattle.std.specs.Prelude.{ℕ, suc, ◌<◌, ◌≤◌, ◌≡◌, List, length}
use Rattle.lists.specs.Below.{Below}
use Rattle.format.specs.Reading.{shares_of}
use Rattle.tray.specs.Tray.{slot_of}
use Rattle.sub_letters.specs.Lent.{SubsLent}
use Rattle.sub_letters.specs.Subs.{froms_of}

pub record Weighable (froms letters row : List ℕ) : Type 0 where
  pub named : froms ≡ froms_of letters (length froms)
  pub lent : SubsLent letters (length froms)
  pub room : length row ≤ 952
  pub words : (k : ℕ) → k < length froms → Below 257 (shares_of (slot_of letters (suc k)) (length row))
