-- A row that a loop fills from the front, one store a turn.
-- Assumes nothing.
use Rattle.std.specs.Prelude.{ℕ, suc, ◌+◌, ◌<◌, ◌≤◌, ◌≡◌, List, ◌++◌, length, get_or, set, drop}
use Rattle.std.proofs.Math.Path.{refl}
use Rattle.std.proofs.Common.{sym, ap, ◌∙◌, append-nil, arith, length-set, drop_of_length-le, drop-cons}
use Rattle.std.proofs.lemmas.List.{get_or_at}
use Rattle.lists.specs.Listed.{listed, length-listed, listed_is, set-listed}

-- the first i numbers are what a rule gives, the others as they were
pub record Filling (f : ℕ → ℕ) (old : List ℕ) (i : ℕ) (row : List ℕ) : Type 0 where
  pub within : i ≤ length old
  pub size : length row ≡ length old
  pub filled : row ≡ listed f i ++ drop i old

module _ {f : ℕ → ℕ} {old : List ℕ} where
  pub filling_none : Filling f old 0 old
  unfolding listed
  filling_none = record { within = omega arith; size = refl; filled = refl }

  pub filling_more : {i : ℕ} {row : List ℕ} {v : ℕ} → Filling f old i row → i < length row → v ≡ f i → Filling f old (i + 1) (set row i v)
  filling_more {i} {row} {v} h l e =
      record {
        within = omega arith;
        size = rw length-set h.size;
        filled = rw (e, h.filled) (set-listed f i old (omega arith));
      }

  -- what has yet to be filled
  pub filling_ahead : {i : ℕ} {row : List ℕ} → Filling f old i row → i < length row → get_or row i 0 ≡ get_or old i 0
  filling_ahead {i} {row} h l =
      rw (h.filled, drop-cons old i 0 (omega arith)) (get_or_at (listed f i) (get_or old i 0) (drop (suc i) old) 0 i (length-listed f i))

  pub filling_done : {i : ℕ} {row : List ℕ} → Filling f old i row → length row ≤ i → row ≡ listed f (length old)
  filling_done {i} {row} h l =
      let all : i ≡ length old = omega arith in
      h.filled ∙ rw (drop_of_length-le old {i = i} (omega arith), append-nil, all)

pub filling_copied : {xs old row : List ℕ} {i : ℕ} → Filling (λ i. get_or xs i 0) old i row → length old ≡ length xs → length row ≤ i → row ≡ xs
filling_copied {xs} {old} h size l = filling_done h l ∙ ap (listed (λ i. get_or xs i 0)) size ∙ sym (listed_is _ (length xs) xs refl (λ i k. refl))
