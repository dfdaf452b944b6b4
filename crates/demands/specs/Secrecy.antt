-- What demand 3 speaks of: any t keepers, and what a cut gives them.
-- Assumes nothing.
use Rattle.std.specs.Prelude.{ℕ, ◌≡◌, true, List, length}
use Rattle.lists.specs.Different.{Different}
use Rattle.lists.specs.Member.{In}
use Rattle.algebra.specs.Field.{Ops}
use Rattle.header.specs.declared.order.Order.{Order}
use Rattle.header.specs.declared.told.Told.{Told}
use Rattle.header.specs.Order.{lawful_keeper}
use Rattle.tray.specs.Tray.{slot_of}
use Rattle.shares.specs.Words.{share_rows, row_of}
use Rattle.cut.specs.Cut.{cut_tray}
use Rattle.demands.specs.SameShares.{GivesSame}

-- "any t keepers"
pub record AnyKeepers (order : Order) (ks : List ℕ) : Type 0 where
  pub many : length ks ≡ order.t
  pub different : Different ks
  pub keepers : (x : ℕ) → In x ks → lawful_keeper order x ≡ true

-- random words for the constants, with which a cut "gives those keepers the same bytes" as they have in the tray
abbrev pub GivesSameBytes : Ops → Told → ℕ → List ℕ → List ℕ → List ℕ → List ℕ → Type 0
GivesSameBytes O told stamp ks tray constants random =
    GivesSame O told.order.t ks constants (λ words x. slot_of (cut_tray O told stamp constants words) x) (slot_of tray) random

-- random words for the constants, with which a cut of words gives those keepers the same rows as they have
abbrev pub GivesSameRows : Ops → Order → List ℕ → List ℕ → List ℕ → List ℕ → Type 0
GivesSameRows O order ks rows constants random =
    GivesSame O order.t ks constants (λ words x. row_of (share_rows O order constants words) (length constants) x) (row_of rows (length constants)) random
