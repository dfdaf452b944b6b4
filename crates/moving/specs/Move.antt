-- What both calls of a move are told: "both orders, key, length and new stamp".
-- Assumes nothing.
use Rattle.std.specs.Prelude.{ℕ, Bool, cond, ◌&&◌}
use Rattle.header.specs.declared.told.Told.{Told}
use Rattle.header.specs.Order.{lawful_order}
use Rattle.header.specs.Terms.{terms_number}
use Rattle.moving.specs.declared.terms.Move.{Move}

-- what the old letters are of: the old order, and the key that moves
abbrev pub old_told : Move → Told
old_told m = record { order = m.old; key = m.told.key }

-- 1, an order or the key is not lawful, and "also for a told keeper outside its order"; then 2 and 3, as of every call with a secret
unfoldable pub move_number : Move → Bool → ℕ
move_number m keepers = cond (lawful_order m.old && keepers) (terms_number m.told m.stamp m.length) 1
