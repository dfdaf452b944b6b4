-- The number of a report: none is greater than 8, and it is that of the last line.
-- Assumes nothing.
use Rattle.std.specs.Prelude.{ℕ, ◌≤◌, ◌≡◌, refl, Bool, true, false, cond, ◌||◌, List, [], ◌∷◌, ◌++◌, ltb, length}
use Rattle.std.proofs.Common.{sym, ap, ◌∙◌, append_assoc, arith}
use Rattle.std.specs.Int.Count.{ones}
use Rattle.lists.specs.Member.{below_in}
use Rattle.field.specs.Modulo.{mod257}
use Rattle.block.specs.AtMostLaws.{at_most_below}
use Rattle.block.specs.Check.{all_at_most}
use Rattle.lines.specs.Lines.{key_line, count_line, answer_line}
use Rattle.header.specs.declared.told.Told.{Told}
use Rattle.header.specs.Order.{lawful_order}
use Rattle.pick.specs.Pick.{Picked}
use Rattle.pick.specs.Pick.{PickDone}
use Rattle.pick.proofs.NumberLaws.{picked_number}
use Rattle.join.specs.Join.{Joined}
use Rattle.join.specs.Join.{JoinDone}
use Rattle.join.specs.Join as join
use Rattle.join.specs.RefusalLaws.{refusal_most}
use Rattle.report_text.specs.Report.{keeper_lines, lines, order_in, told_in, tray_in, short_number, ReportOf, short, unpicked, joined}

join_number : {told : Told} {stamp l : ℕ} {tray room left : List ℕ} {result : Joined} → JoinDone mod257 told stamp l tray room result left → result.number ≤ 8
join_number {told} {stamp} {l} {tray} {room} (join.refused h) = omega (arith, refusal_most told stamp l tray room)
join_number (join.judged e (join.few h)) = omega arith
join_number (join.judged e (join.apart h g)) = omega arith
join_number (join.judged e (join.wide ps h g)) = omega arith
join_number (join.judged e (join.joined ps h g)) = omega arith

pick_number : {told : Told} {tray : List ℕ} {p : Picked} → PickDone mod257 told tray p → p.number ≤ 8
unfolding all_at_most
pick_number {p = p} D =
    let numbers : List ℕ = 0 ∷ 1 ∷ 4 ∷ 6 ∷ 7 ∷ 8 ∷ [] in
    omega (arith, below_in 9 numbers (at_most_below 8 numbers refl) p.number (picked_number D))

one_or_four : (test : Bool) → cond {A = ℕ} test 4 1 ≤ 8
one_or_four true = omega arith
one_or_four false = omega arith

short_most : (input : List ℕ) → short_number input ≤ 8
short_most input = one_or_four (ltb (length input) 3 || lawful_order (order_in input))

most_of : (input : List ℕ) (number : ℕ) (bytes : List ℕ) → ReportOf input number bytes → number ≤ 8
most_of input number bytes (short h) = short_most input
most_of input number bytes (unpicked p whole D e) = pick_number D
most_of input number bytes (joined p result left whole D e J) = join_number J

pub number_most : {input bytes : List ℕ} {number : ℕ} → ReportOf input number bytes → number ≤ 8
number_most {input} {bytes} {number} R = most_of input number bytes R

ends_in : (a b c last : List ℕ) → (front : List ℕ) × (a ++ (b ++ (c ++ last)) ≡ front ++ last)
ends_in a b c last = (a ++ (b ++ c), sym (append_assoc a (b ++ c) last ∙ ap (a ++◌) (append_assoc b c last)))

last_of : (input : List ℕ) (number : ℕ) (bytes : List ℕ) → ReportOf input number bytes → (front : List ℕ) × (bytes ≡ front ++ answer_line number)
unfolding lines
last_of input number bytes (short h) = ([], refl)
last_of input number bytes (unpicked p whole D e) = ([], refl)
last_of input number bytes (joined p result left whole D e J) =
    ends_in (key_line (told_in input).key p.stamp p.length) (keeper_lines (told_in input) (tray_in input) p.stamp p.length result) (count_line result.usable result.need (ones result.set)) (answer_line result.number)

-- a report's last line says its number
pub last_line : {input bytes : List ℕ} {number : ℕ} → ReportOf input number bytes → (front : List ℕ) × (bytes ≡ front ++ answer_line number)
last_line {input} {bytes} {number} R = last_of input number bytes R
