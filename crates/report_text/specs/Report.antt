-- The report, line by line.
-- Assumes nothing.
use Rattle.std.specs.Prelude.{ℕ, suc, ◌<◌, ◌≤◌, ◌≡◌, Bool, true, false, cond, ◌||◌, List, ◌++◌, eqb, ltb, length, get_or, drop, replicate}
use Rattle.std.specs.Int.Count.{ones}
use Rattle.lists.specs.KeeperSet.{member}
use Rattle.lists.specs.Pieces.{pieces}
use Rattle.field.specs.Modulo.{mod257}
use Rattle.lines.specs.declared.line.Standing.{Standing}
use Rattle.lines.specs.declared.line.Standing.TheVariants.{Absent, Present, Agrees, Differs}
use Rattle.lines.specs.Lines.{key_line, keeper_line, count_line, answer_line, word_of}
use Rattle.header.specs.declared.order.Order.{Order}
use Rattle.header.specs.declared.told.Told.{Told}
use Rattle.header.specs.Order.{lawful_order}
use Rattle.tray.specs.Tray.{usable}
use Rattle.pick.specs.Pick.{Picked}
use Rattle.pick.specs.Pick.{PickDone}
use Rattle.join.specs.Join.{Joined}
use Rattle.join.specs.Join.{JoinDone}
use Rattle.refusals.specs.Numbers.{code_of}
use Rattle.report_text.specs.declared.answer.Answered.{Answered as Answer}

-- "'Absent' means not usable in the group picked. For 7 every usable keeper is 'present'." "For 8 it reads as for 0."
abbrev pub standing : ℕ → Bool → Bool → Standing
standing number isUsable matches = cond isUsable (cond (eqb number 7) Present (cond matches Agrees Differs)) Absent

-- a line for each keeper, 1..n
abbrev pub keeper_lines : Told → List ℕ → ℕ → ℕ → Joined → List ℕ
keeper_lines told tray stamp l result =
    pieces (λ k. keeper_line (suc k) (word_of (standing result.number (usable told stamp l tray (suc k)) (member result.set (suc k))))) told.order.n

-- the lines of what was joined; "The size of the agreement is the number of ones in that set."
unfoldable pub lines : Told → List ℕ → ℕ → ℕ → Joined → List ℕ
lines told tray stamp l result =
    key_line told.key stamp l
    ++ (keeper_lines told tray stamp l result
    ++ (count_line result.usable result.need (ones result.set)
    ++ answer_line result.number))

-- the numbers of the pick with which the lines of its group are written; "For any other number only the last line is written."
abbrev pub has_lines : ℕ → Bool
has_lines number = eqb number 0 || (eqb number 7 || eqb number 8)

-- "three bytes t, f, n"
abbrev pub order_in : List ℕ → Order
order_in input = record { t = get_or input 0 0; f = get_or input 1 0; n = get_or input 2 0 }

-- "The report reads the key as a fourth byte, after n"
abbrev pub told_in : List ℕ → Told
told_in input = record { order = order_in input; key = get_or input 3 0 }

-- "then the tray"
abbrev pub tray_in : List ℕ → List ℕ
tray_in input = drop 4 input

-- "Fewer bytes or more are answer 4 (an unlawful order among three present bytes is 1)": of fewer than four bytes
abbrev pub short_number : List ℕ → ℕ
short_number input = cond (ltb (length input) 3 || lawful_order (order_in input)) 4 1

-- what the report of an input is, and its number, which the last line has: that of an input that is too short; then the pick, and the join of the
-- group that it names
pub data ReportOf (input : List ℕ) : ℕ → List ℕ → Type 0 where
  short : length input < 4 → ReportOf input (short_number input) (answer_line (short_number input))
  unpicked : (p : Picked) → 4 ≤ length input → PickDone mod257 (told_in input) (tray_in input) p → has_lines p.number ≡ false
      → ReportOf input p.number (answer_line p.number)
  joined : (p : Picked) (result : Joined) (left : List ℕ) → 4 ≤ length input → PickDone mod257 (told_in input) (tray_in input) p → has_lines p.number ≡ true
      → JoinDone mod257 (told_in input) p.stamp p.length (tray_in input) (replicate p.length 0) result left
      → ReportOf input result.number (lines (told_in input) (tray_in input) p.stamp p.length result)

-- what the report answers, in the page's numbers: the count of its bytes, and the number of the last line
pub record Answered : Type 0 where
  pub count : ℕ
  pub number : ℕ

-- what it answers, as that
abbrev pub answered_of : Answer → Answered
answered_of r = record { count = r.count; number = code_of r.outcome }

-- the report stands at the start of the space lent, the count of its bytes and its number are answered, and the rest of the space is as it was
pub record Reported (input before : List ℕ) (answered : Answered) (after : List ℕ) : Type 0 where
  pub bytes : List ℕ
  pub right : ReportOf input answered.number bytes
  pub counted : answered.count ≡ length bytes
  pub written : after ≡ bytes ++ drop (length bytes) before
