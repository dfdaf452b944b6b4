-- What stands in front in words that were filled so far.
-- Assumes nothing.
use Rattle.std.specs.Prelude.{ℕ, ◌≡◌, refl, List, length, get_or, take, drop}
use Rattle.std.proofs.Common.{sym, ◌∙◌, take_at}
use Rattle.lists.specs.Filling.{Filling}
use Rattle.lists.specs.Listed.{listed, length-listed, listed_is}

module _ {f : ℕ → ℕ} {old row : List ℕ} {i : ℕ} (so_far : Filling f old i row) where
  pub front_filled : {n : ℕ} → n ≡ i → take n row ≡ listed f n
  front_filled {n} e = rw (so_far.filled, e) (take_at (listed f i) (drop i old) i (length-listed f i))

pub front_copied : {xs old row : List ℕ} {i : ℕ} → Filling (λ k. get_or xs k 0) old i row → length xs ≡ i → take (length xs) row ≡ xs
front_copied {xs} so_far e = front_filled so_far e ∙ sym (listed_is _ (length xs) xs refl (λ k h. refl))
