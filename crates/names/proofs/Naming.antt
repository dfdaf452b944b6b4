-- What is laid over zeros has zeros behind it.
-- Assumes nothing.
use Rattle.std.proofs.Common.{ℕ, ◌+◌, ◌-◌, ◌≤◌, ◌≡◌, ◌∙◌, List, ◌++◌, arith, length, get_or, drop, replicate, get_or-drop}
use Rattle.std.proofs.lemmas.List.{get_or-replicate}
use Rattle.std.proofs.Math.Seq.{take-append_seam, drop-append_seam}
use Rattle.lists.specs.Zeros.{drop_zeros}
use Rattle.names.specs.Names.{Closed}

pub laid_closed : {whole out : List ℕ} → out ≡ whole ++ drop (length whole) (replicate 4096 0) → length whole ≤ 4095 → Closed whole out
laid_closed {whole} {out} laid short =
    let rest = drop {A = ℕ} (length whole) (replicate 4096 0) in
    record {
      fits = λ _. (rw laid (take-append_seam whole rest), rw laid (drop-append_seam whole rest ∙ drop_zeros (length whole) 4096));
      long = λ long. absurd (omega arith);
    }

pub closed_last : {whole out : List ℕ} → length whole ≤ 4095 → Closed whole out → get_or out 4095 1 ≡ 0
closed_last {whole} {out} short closed =
    let at = length whole in
    let left = 4095 - at in
    let e : at + left ≡ 4095 = omega arith in
    rw (← e, ← get_or-drop at out left 1, (closed.fits short).1) (get_or-replicate (4096 - at) left 0 1 (omega arith))
