-- Lists laid end to end: words in a block, blocks in a slot, slots in a tray.
-- Assumes nothing.
use Prim.Native.Nat.{ℕ, zero, suc, ◌*◌, ◌<◌}
use Rattle.std.specs.Prelude.{◌≡◌, refl, length, take, drop}
use Rattle.std.proofs.Common.{◌∙◌, ⊎_elim, eq-or-lt_of_le, le_of_suc-le-suc, not-suc-le-zero, mul_comm, mul-zero, mul-suc, take_at, take-add, take_all}
use mathlib.Core.List.{List, [], ◌++◌, append_assoc, append-nil}
use native.Mathlib.Omega.{arith}
use Rattle.std.proofs.Math.ListN.{length-append}
use Rattle.std.proofs.Math.Seq.{drop_at}
use Rattle.lists.specs.Below.{Below, below_nil, below_append}
use Rattle.lists.specs.Grown.{grown_same}

unfoldable pub pieces : (ℕ → List ℕ) → ℕ → List ℕ
pieces f zero = []
pieces f (suc k) = pieces f k ++ f k

pub pieces_same : (f g : ℕ → List ℕ) (k : ℕ) → ((i : ℕ) → i < k → f i ≡ g i) → pieces f k ≡ pieces g k
unfolding pieces
pieces_same = grown_same pieces ◌++◌ (λ f g. refl) (λ f k. refl)

pub below_pieces : (q : ℕ) (f : ℕ → List ℕ) (k : ℕ) → ((i : ℕ) → i < k → Below q (f i)) → Below q (pieces f k)
unfolding pieces
below_pieces q f zero h = below_nil q
below_pieces q f (suc k) h = below_append q (pieces f k) (f k) (below_pieces q f k (λ i l. h i (omega arith))) (h k (omega arith))

-- a list of k times n numbers is its own parts, end to end
front_pieces : (n k : ℕ) (xs : List ℕ) → pieces (λ p. take n (drop (n * p) xs)) k ≡ take (n * k) xs
unfolding pieces
front_pieces n zero xs = rw mul-zero
front_pieces n (suc k) xs = rw (mul-suc, take-add, front_pieces n k xs)

pub pieces-parts : (n k : ℕ) (xs : List ℕ) → length xs ≡ k * n → pieces (λ p. take n (drop (n * p) xs)) k ≡ xs
pieces-parts n k xs size = front_pieces n k xs ∙ take_all (n * k) xs (omega arith)

-- pieces of one size
module _ (n : ℕ) (f : ℕ → List ℕ) where
  pub length-pieces : (k : ℕ) → ((i : ℕ) → i < k → length (f i) ≡ n) → length (pieces f k) ≡ k * n
  unfolding pieces
  length-pieces zero size = omega arith
  length-pieces (suc k) size =
      rw length-append (omega (arith, length-pieces k (λ i l. size i (omega arith)), size k (omega arith)))

  seam : (k : ℕ) → ((i : ℕ) → i < suc k → length (f i) ≡ n) → length (pieces f k) ≡ n * k
  seam k size = length-pieces k (λ i l. size i (omega arith)) ∙ mul_comm k n

  pub part-pieces-append : (k : ℕ) → ((i : ℕ) → i < k → length (f i) ≡ n) → (rest : List ℕ) (p : ℕ) → p < k
      → take n (drop (n * p) (pieces f k ++ rest)) ≡ f p
  unfolding pieces
  part-pieces-append zero size rest p h = absurd (not-suc-le-zero h)
  part-pieces-append (suc k) size rest p h =
      rw append_assoc
      (⊎_elim (λ (e : p ≡ k). rw (e, drop_at (pieces f k) (f k ++ rest) (n * k) (seam k size)) (take_at (f k) rest n (size k (omega arith))))
      (part-pieces-append k (λ i l. size i (omega arith)) (f k ++ rest) p)
      (eq-or-lt_of_le (le_of_suc-le-suc h)))

  pub part-pieces : (k : ℕ) → ((i : ℕ) → i < k → length (f i) ≡ n) → (p : ℕ) → p < k → take n (drop (n * p) (pieces f k)) ≡ f p
  part-pieces k size p h = rw append-nil at (part-pieces-append k size [] p h)
