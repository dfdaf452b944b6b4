-- A sealed block has nothing wrong with it, and a block with nothing wrong is a sealed one.
-- Assumes nothing.
use Rattle.std.specs.Prelude.{ℕ, ◌+◌, ◌*◌, ◌%◌, ◌^◌, ◌<◌, ◌≡◌, refl, Bool, true, false, cond, List, [], ◌∷◌, eqb, length, get_or, take}
use Rattle.std.proofs.Common.{sym, ap, ◌∙◌, arith, length-append, drop_of_length-le, get_or-append-add, get_or-take, drop-cons, eq-eqb, eqb-true}
use Rattle.std.proofs.Math.Bool.{and-eq-true_iff}
use Rattle.std.proofs.Math.Seq.{take_at, get_or_at, split_at}
use Rattle.lists.specs.Below.{Below, below_nil, below_cons, below_append}
use Rattle.lists.specs.Total.{total_same}
use Rattle.block.specs.AtMostLaws.{at_most_below, below_at_most}
use Rattle.block.specs.Check.{plain_check, weighted_check, sealed, all_at_most, checked, block_number}

abbrev pub SameChecks : List ℕ → List ℕ → Type 0
SameChecks vs ws = (plain_check vs ≡ plain_check ws) × (weighted_check vs ≡ weighted_check ws)

-- only words 0..253 count
checks_same : (vs ws : List ℕ) → ((i : ℕ) → i < 254 → get_or vs i 0 ≡ get_or ws i 0) → SameChecks vs ws
checks_same vs ws same =
    let plain = total_same (λ i. get_or vs i 0) (λ i. get_or ws i 0) 254 same in
    let weighted = total_same (λ i. get_or vs i 0 * 3 ^ i) (λ i. get_or ws i 0 * 3 ^ i) 254 (λ i h. rw (same i h)) in
    (ap (λ n. n % 257) plain, ap (λ n. n % 257) weighted)

pub checks_take : (ws : List ℕ) → SameChecks (take 254 ws) ws
checks_take ws = checks_same (take 254 ws) ws (λ i h. get_or-take 254 ws i 0 h)

pub length-sealed : (ws : List ℕ) → length (sealed ws) ≡ length ws + 2
unfolding sealed
length-sealed ws = length-append ws (plain_check ws ∷ weighted_check ws ∷ [])

pub below_sealed : (ws : List ℕ) → Below 257 ws → Below 257 (sealed ws)
unfolding sealed
below_sealed ws b =
    below_append 257 ws (plain_check ws ∷ weighted_check ws ∷ []) b
    (below_cons 257 (plain_check ws) (weighted_check ws ∷ []) (omega arith)
    (below_cons 257 (weighted_check ws) [] (omega arith) (below_nil 257)))

module _ (ws : List ℕ) (size : length ws ≡ 254) where
  take-sealed : take 254 (sealed ws) ≡ ws
  unfolding sealed
  take-sealed = take_at ws (plain_check ws ∷ weighted_check ws ∷ []) 254 size

  checks_sealed : SameChecks ws (sealed ws)
  checks_sealed = rw take-sealed at (checks_take (sealed ws))

  word_254 : get_or (sealed ws) 254 0 ≡ plain_check ws
  unfolding sealed
  word_254 = get_or_at ws (plain_check ws) (weighted_check ws ∷ []) 0 254 size

  word_255 : get_or (sealed ws) 255 0 ≡ weighted_check ws
  unfolding sealed
  word_255 = rw size at (get_or-append-add ws (plain_check ws ∷ weighted_check ws ∷ []) 1 0)

  checked-sealed : checked (sealed ws) ≡ true
  unfolding checked
  checked-sealed =
      rw (eq-eqb (get_or (sealed ws) 254 0) (plain_check (sealed ws)) (word_254 ∙ checks_sealed.0))
      (eq-eqb (get_or (sealed ws) 255 0) (weighted_check (sealed ws)) (word_255 ∙ checks_sealed.1))

  pub number_sealed : Below 257 ws → block_number (sealed ws) ≡ 0
  unfolding block_number
  number_sealed b = rw (below_at_most 256 (sealed ws) (below_sealed ws b), checked-sealed)

both_passed : (within agrees : Bool) → cond {A = ℕ} within (cond agrees 0 10) 9 ≡ 0 → (within ≡ true) × (agrees ≡ true)
both_passed true true e = (refl, refl)
both_passed true false e = absurd (omega arith)
both_passed false agrees e = absurd (omega arith)

pub number_zero_below : (ws : List ℕ) → block_number ws ≡ 0 → Below 257 ws
unfolding block_number
number_zero_below ws e = at_most_below 256 ws (both_passed (all_at_most 256 ws) (checked ws) e).0

pub number_zero-sealed : (ws : List ℕ) → length ws ≡ 256 → block_number ws ≡ 0 → ws ≡ sealed (take 254 ws)
unfolding block_number checked sealed
number_zero-sealed ws size e =
    let agrees = (both_passed (all_at_most 256 ws) (checked ws) e).1 in
    let both = (and-eq-true_iff (eqb (get_or ws 254 0) (plain_check ws)) (eqb (get_or ws 255 0) (weighted_check ws))).0 agrees in
    let plain = eqb-true (get_or ws 254 0) (plain_check ws) both.0 ∙ sym (checks_take ws).0 in
    let weighted = eqb-true (get_or ws 255 0) (weighted_check ws) both.1 ∙ sym (checks_take ws).1 in
    split_at ws 254 0 (omega arith)
    ∙ rw (plain, drop-cons ws 255 0 (omega arith), weighted, drop_of_length-le ws {i = 256} (omega arith))
