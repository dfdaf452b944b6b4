-- `agree::step::row_in_step` meets its contract: what is compared with the keeper's row is the row carried to it.
-- Assumes nothing.
use Rattle.std.proofs.Common.{ℕ, ◌+◌, ◌-◌, ◌*◌, ◌<◌, ◌≡◌, sym, ap, ◌∙◌, List, add-sub_cancel, arith, length, get_or, take, drop, get_or-take, get_or-drop}
use Rattle.agree.specs.Kept.{Alike}
use Rattle.lists.specs.Listed.{listed, length-listed, get_d_listed}
use Rattle.weigh.specs.Weigh.{row_word}
use native.Mathlib.Nat.{add-sub_cancel_left}
use Rattle.agree.proofs.step.row_in_step.Goals as goal

-- the places of a row among the rows
in_rows : (rows : List ℕ) (k n j : ℕ) → j < n → get_or (take (952 * k + n - 952 * k) (drop (952 * k) rows)) j 0 ≡ row_word rows (k + 1) j
in_rows rows k n j h = rw (add-sub_cancel_left (952 * k) n, get_or-take n (drop (952 * k) rows) j 0 h, get_or-drop (952 * k) rows j 0, add-sub_cancel k 1)

carried_row : {f g other : ℕ → ℕ} {start n r : ℕ} (row : List ℕ) → row ≡ listed f n → Alike (λ j. get_or row j 0) other start (length row) r
    → ((j : ℕ) → j < length row → other j ≡ g j) → Alike f g start n r
carried_row {f} {n = n} row e a o =
    let size : length row ≡ n = ap length e ∙ length-listed f n in
    record {
      starts = a.starts;
      ends = omega (arith, a.ends);
      same = λ j b h.
          sym (ap (λ (xs : List ℕ). get_or xs j 0) e ∙ get_d_listed f n j (omega (arith, a.ends))) ∙ a.same j b h ∙ o j (omega (arith, a.ends));
    }

pub returns : goal.returns
returns c =
    let row = c.carry_row.new.row in
    carried_row row c.carry_row.ensures c.difference.ensures (λ j h. in_rows c.args.rows.now c.args.k (length row) j h)
