-- `shares::rows::step` meets its contract: the row is filled from the front with what one step makes of it.
-- Assumes nothing.
use Rattle.std.proofs.Common.{ℕ, ◌+◌, ◌*◌, ◌%◌, ◌≤◌, ◌≡◌, mul-le-mul, arith, get_or}
use Rattle.field.specs.Modulo.{mod257}
use Rattle.lists.specs.Filling.{filling_none, filling_more, filling_ahead, filling_done}
use Rattle.shares.proofs.rows.step.Goals as goal

horner : {a b : ℕ} (x c : ℕ) → a ≡ b → (a * x + c) % 257 ≡ mod257.add c (mod257.mul x b)
horner x c e = rw e (omega arith)

pub loop-i-init : goal.loop-i-init
loop-i-init c = filling_none

pub overflow_mul-row : goal.overflow_mul-row
overflow_mul-row c =
    let ahead : get_or c.loop-i.row c.loop-i.i 0 ≡ get_or c.args.row.now c.loop-i.i 0 =
    filling_ahead c.loop-i.invariant (omega arith) in
    let product : get_or c.loop-i.row c.loop-i.i 0 * c.args.x ≤ 256 * 16 =
    mul-le-mul {n₂ = 256} (omega (arith, ahead, c.requires.row_words c.loop-i.i (omega arith))) c.requires.keeper in
    omega (arith, product)

pub overflow_add-row : goal.overflow_add-row
overflow_add-row c =
    let ahead : get_or c.loop-i.row c.loop-i.i 0 ≡ get_or c.args.row.now c.loop-i.i 0 =
    filling_ahead c.loop-i.invariant (omega arith) in
    let product : get_or c.loop-i.row c.loop-i.i 0 * c.args.x ≤ 256 * 16 =
    mul-le-mul {n₂ = 256} (omega (arith, ahead, c.requires.row_words c.loop-i.i (omega arith))) c.requires.keeper in
    omega (arith, product, c.requires.column_words c.loop-i.i (omega arith))

pub loop-i-preserved : goal.loop-i-preserved
loop-i-preserved c =
    let ahead : get_or c.loop-i.row c.loop-i.i 0 ≡ get_or c.args.row.now c.loop-i.i 0 =
    filling_ahead c.loop-i.invariant (omega arith) in
    filling_more c.loop-i.invariant (omega arith) (horner c.args.x (get_or c.args.column.now c.loop-i.i 0) ahead)

pub returns : goal.returns
returns c = filling_done c.loop-i.invariant (omega arith)
