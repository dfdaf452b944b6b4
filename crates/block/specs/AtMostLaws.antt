-- To be at most a number, every word of a list: tested, and as a bound.
-- Assumes nothing.
use Rattle.std.specs.Prelude.{ℕ, zero, suc, ◌+◌, ◌<◌, max, ◌≡◌, refl, true, ◌&&◌, List, [], ◌∷◌, ◌++◌, leb, length, get_or, take, replicate, fold}
use Rattle.std.proofs.Common.{sym, ◌∙◌, add-one, arith, ext_get_or, take-suc, le-leb, leb-true}
use Rattle.std.proofs.Math.Bool.{and_assoc, and_comm, and-true, and-false, and-eq-true_iff}
use Rattle.std.proofs.Math.Logic.{by_cases}
use Rattle.std.proofs.Math.Decide.{dec_le}
use Rattle.std.proofs.Math.Dec.{leb-zero}
use Rattle.std.proofs.lemmas.List.{length-replicate, get_or-replicate}
use Rattle.std.proofs.lemmas.Bool.{lt-leb}
use Rattle.lists.specs.Below.{Below, below_nil, below_head, below_tail, below_cons}
use Rattle.block.specs.Check.{all_at_most}

pub at_most_below : (top : ℕ) (ws : List ℕ) → all_at_most top ws ≡ true → Below (suc top) ws
unfolding all_at_most
at_most_below top [] e = below_nil (suc top)
at_most_below top (w ∷ ws) e =
    let both = (and-eq-true_iff (leb w top) (all_at_most top ws)).0 e in
    below_cons (suc top) w ws (omega (arith, leb-true w top both.0)) (at_most_below top ws both.1)

pub below_at_most : (top : ℕ) (ws : List ℕ) → Below (suc top) ws → all_at_most top ws ≡ true
unfolding all_at_most
below_at_most top [] b = refl
below_at_most top (w ∷ ws) b =
    rw (le-leb w top (omega (arith, below_head (suc top) w ws b))) (below_at_most top ws (below_tail (suc top) w ws b))

-- zeros are at most any number, and only zeros are at most 0
pub zeros_at_most : (top k : ℕ) → all_at_most top (replicate k 0) ≡ true
unfolding all_at_most
zeros_at_most top zero = refl
zeros_at_most top (suc k) = rw leb-zero (zeros_at_most top k)

pub at_most_zeros : (ws : List ℕ) → all_at_most 0 ws ≡ true → ws ≡ replicate (length ws) 0
at_most_zeros ws e =
    ext_get_or 0 ws (replicate (length ws) 0) (sym (length-replicate (length ws) 0))
    (λ i h. omega (arith, at_most_below 0 ws e i h, get_or-replicate {A = ℕ} (length ws) i 0 0 h))

at_most_append : (top : ℕ) (xs ys : List ℕ) → all_at_most top (xs ++ ys) ≡ (all_at_most top xs && all_at_most top ys)
unfolding all_at_most
at_most_append top [] ys = refl
at_most_append top (x ∷ xs) ys = rw (at_most_append top xs ys, and_assoc)

leb_max : (a b top : ℕ) → (leb a top && leb b top) ≡ leb (max a b) top
leb_max a b top =
    by_cases (dec_le a top)
    (λ ha.
    by_cases (dec_le b top) (λ hb. rw (le-leb a top ha, le-leb b top hb, le-leb (max a b) top (omega arith)))
    (λ hb. rw (lt-leb b top (omega arith), and-false, lt-leb (max a b) top (omega arith))))
    (λ ha. rw (lt-leb a top (omega arith), lt-leb (max a b) top (omega arith)))

-- the largest word tells of all of them
fold_at_most : (top largest : ℕ) (ws : List ℕ) → leb (fold (λ m w. max w m) largest ws) top ≡ (leb largest top && all_at_most top ws)
unfolding all_at_most
fold_at_most top largest [] = sym (and-true (leb largest top))
fold_at_most top largest (w ∷ ws) =
    fold_at_most top (max w largest) ws ∙ rw (← leb_max w largest top, and_comm (leb w top) (leb largest top)) (and_assoc (leb largest top) (leb w top) (all_at_most top ws))

pub largest_at_most : (top : ℕ) (ws : List ℕ) → leb (fold (λ m w. max w m) 0 ws) top ≡ all_at_most top ws
largest_at_most top ws = fold_at_most top 0 ws ∙ rw leb-zero

-- the largest of the first i words tells of all of them
abbrev pub Largest : List ℕ → ℕ → ℕ → Type 0
Largest ws i largest = (top : ℕ) → all_at_most top (take i ws) ≡ leb largest top

pub largest_none : (ws : List ℕ) → Largest ws 0 0
unfolding all_at_most
largest_none ws top = sym (leb-zero top)

pub largest_more : (ws : List ℕ) (i largest next : ℕ) → i < length ws → next ≡ max largest (get_or ws i 0) → Largest ws i largest → Largest ws (i + 1) next
unfolding all_at_most
largest_more ws i largest next h n e top = rw (add-one, take-suc ws i 0 h, at_most_append, e top, and-true, n) (leb_max largest (get_or ws i 0) top)
