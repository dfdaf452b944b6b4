-- From the lines written to the report.
-- Assumes nothing.
use Prim.Native.Nat.{ℕ, ◌-◌, ◌<◌, ◌≤◌}
use mathlib.Core.Path.{◌≡◌}
use mathlib.Core.Bool.{true, false}
use mathlib.Core.List.{List}
use native.Mathlib.Omega.{arith}
use lib.ListN.{length, take, drop, length-drop}
use lib.Seq.{take_all}
use Rattle.field.specs.Modulo.{mod257}
use Rattle.lines.specs.Lines.{answer_line}
use Rattle.header.specs.declared.told.Told.{Told}
use Rattle.pick.specs.Pick.{Picked, PickDone}
use Rattle.report_text.specs.Joined.{JoinedReported}
use Rattle.report_text.specs.Report.{has_lines, told_in, short_number, ReportOf, short, unpicked, joined}

-- a part up to the end is all that follows
all_of : (xs : List ℕ) (n : ℕ) → take (length xs - n) (drop n xs) ≡ drop n xs
all_of xs n = take_all (length xs - n) (drop n xs) (rw length-drop (omega arith))

module _ {input bytes : List ℕ} {number : ℕ} where
  pub short_reported : length input < 4 → number ≡ short_number input → bytes ≡ answer_line (short_number input) → ReportOf input number bytes
  short_reported few e w = rw (w, e) (short few)

  module _ {told : Told} {p : Picked} (whole : 4 ≤ length input) (of : told ≡ told_in input)
      (pick : PickDone mod257 told (take (length input - 4) (drop 4 input)) p) where
    pub unpicked_reported : has_lines p.number ≡ false → number ≡ p.number → bytes ≡ answer_line p.number → ReportOf input number bytes
    unpicked_reported e n w = rw (w, n) (unpicked p whole (rw (of, all_of input 4) at pick) e)

    pub joined_reported : has_lines p.number ≡ true → JoinedReported told p.stamp p.length (take (length input - 4) (drop 4 input)) number bytes
        → ReportOf input number bytes
    joined_reported e j =
        rw (j.written, j.numbered, of, all_of input 4)
        (joined p j.result j.left whole (rw (of, all_of input 4) at pick) e (rw (of, all_of input 4) at j.done))
