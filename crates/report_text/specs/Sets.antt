-- The lines of a join, said of the sets of keepers: that of the usable, and that of those that match.
-- Assumes nothing.
use Rattle.std.specs.Prelude.{ℕ, zero, suc, ◌*◌, ◌≤◌, ◌≡◌, length}
use Rattle.std.proofs.Math.Path.{ap}
use mathlib.Core.List.{List, ◌++◌}
use Rattle.std.proofs.Common.{arith, length-append}
use Rattle.std.specs.Int.Count.{ones}
use Rattle.lists.specs.KeeperSet.{keeper_set, member}
use Rattle.lists.specs.KeeperSetLaws.{member-keeper_set}
use Rattle.lists.specs.Pieces.{pieces, pieces_same}
use Rattle.lines.specs.Lines.{key_line, keeper_line, count_line, answer_line, word_of}
use Rattle.lines.specs.LineLaws.{length-keeper_line}
use Rattle.header.specs.declared.told.Told.{Told}
use Rattle.tray.specs.Tray.{usable}
use Rattle.join.specs.Join.{Joined}
use Rattle.report_text.specs.Report.{standing, lines}

-- the line of keeper k + 1
abbrev pub line_of : ℕ → ℕ → ℕ → ℕ → List ℕ
line_of number usables set k = keeper_line (suc k) (word_of (standing number (member usables (suc k)) (member set (suc k))))

unfoldable pub lines_of : ℕ → ℕ → ℕ → ℕ → ℕ → Joined → List ℕ
lines_of n key stamp l usables result =
    key_line key stamp l
    ++ (pieces (line_of result.number usables result.set) n
    ++ (count_line result.usable result.need (ones result.set)
    ++ answer_line result.number))

-- sixteen keepers' lines are short
pub length_keepers : (number usables set n : ℕ) → n ≤ 16 → length (pieces (line_of number usables set) n) ≤ 18 * n
unfolding pieces
length_keepers number usables set zero h = omega arith
length_keepers number usables set (suc k) h =
    rw length-append
    (omega (arith, length_keepers number usables set k (omega arith), length-keeper_line (suc k) (standing number (member usables (suc k)) (member set (suc k))) (omega arith)))

-- where the first set is that of the usable keepers, these are the lines of the report
module _ (told : Told) (tray : List ℕ) (stamp l : ℕ) (result : Joined) where
  one_line : (k : ℕ) → suc k ≤ told.order.n
      → line_of result.number (keeper_set (usable told stamp l tray) told.order.n) result.set k
      ≡ keeper_line (suc k) (word_of (standing result.number (usable told stamp l tray (suc k)) (member result.set (suc k))))
  one_line k h = rw (member-keeper_set (usable told stamp l tray) told.order.n (suc k) (omega arith) h)

  pub lines_of-set : lines_of told.order.n told.key stamp l (keeper_set (usable told stamp l tray) told.order.n) result ≡ lines told tray stamp l result
  unfolding lines_of lines
  lines_of-set =
      ap (λ (ks : List ℕ). key_line told.key stamp l ++ (ks ++ (count_line result.usable result.need (ones result.set) ++ answer_line result.number)))
      (pieces_same _ _ told.order.n one_line)
