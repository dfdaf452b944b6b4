-- C1..C12 hold of the definitions.
-- Assumes nothing.
use Rattle.std.specs.Prelude.{ℕ, zero, suc, ◌-◌, ◌*◌, ◌%◌, ◌<◌, ◌≡◌, true, List, [], ◌∷◌, leb, length, get_or}
use Rattle.std.proofs.Math.Path.{refl, ap}
use Rattle.std.proofs.Common.{le_of_suc-le-suc, not-suc-le-zero}
use native.Mathlib.Omega.{arith}
use borrow.Author.Tests.{eq-eqb}
use Rattle.lists.specs.AllTo.{all_to}
use Rattle.lists.specs.Below.{Below, below_nil, below_cons, below_head, below_tail}
use Rattle.lists.specs.Chosen.{chosen}
use Rattle.lists.specs.Count.{count}
use Rattle.lists.specs.From.{from}
use Rattle.lists.specs.KeeperSet.{keeper_set}
use Rattle.lists.specs.Total.{total}
use Rattle.algebra.specs.Divide.{grow}
use Rattle.algebra.specs.Interpolate.{interpolate}
use Rattle.algebra.specs.Poly.{eval, eval_constant, Degree, degree_cons}
use Rattle.algebra.specs.Ring.{zero-add, mul_cancel}
use Rattle.field.specs.Modulo.{reciprocals, mod257}
use Rattle.field.proofs.Laws.{mod257_field}
use Rattle.block.specs.Check.{all_at_most}
use Rattle.block.specs.AtMostLaws.{at_most_below}
use Rattle.header.specs.Order.{lawful_order}
use Rattle.header.specs.Terms.{lawful_stamp, terms_number}
use Rattle.header.specs.Told.{lawful_key, lawful_told}
use Rattle.agree.specs.Agreement.{Polynomials, matches, reaching}
use Rattle.agree.specs.ReachesLaws.{none_reaches}
use Rattle.trials.specs.Sets.{sets}
use Rattle.trials.specs.Trials.{trials}
use Rattle.shares.specs.Shares.{share_words}
use Rattle.cut.specs.LetterField.{mod257-letters}
use Rattle.join.specs.Join.{Joined}
use Rattle.join.specs.Join.{join_refusal, Outcome, few, apart, wide, joined, judged}
use Rattle.join.specs.OutcomeLaws.{outcome_scan}
use Rattle.demands.specs.HeldTray.{Held}
use Rattle.demands.proofs.HeldTray.{length-held_tray, scan_held}
use Rattle.demands.proofs.Same.{join_same}
use Rattle.demands.specs.WorkedNumbers.{each, told, Allowed, Joins, WorkedNumbers}

-- one polynomial of degree at most 1
line : (c d : ℕ) → c < 257 → d < 257 → Polynomials mod257 1 1 ((c ∷ d ∷ []) ∷ [])
line c d hc hd = record { size = refl; degree = degree }
  where
    degree : (i : ℕ) → i < 1 → Degree mod257 1 (get_or ((c ∷ d ∷ []) ∷ []) i [])
    degree zero h = degree_cons mod257 1 c (d ∷ []) hc refl (below_cons 257 d [] hd (below_nil 257))
    degree (suc i) h = absurd (omega arith)

-- the line of secret 200 and random word 100
abbrev cut_line : List (List ℕ)
cut_line = (200 ∷ 100 ∷ []) ∷ []

cut_line_lem : Polynomials mod257 1 1 cut_line
cut_line_lem = line 200 100 (omega arith) (omega arith)

-- only one random word gives keeper 2 that word
only_200 : (word : ℕ) → word < 257 → share_words mod257 1 2 (0 ∷ []) (word ∷ []) ≡ 143 ∷ [] → word ≡ 200
unfolding share_words eval
only_200 word h e =
    let twice : 2 * word % 257 ≡ 143 = cc (zero-add mod257_field (2 * word % 257) (omega arith), eval_constant mod257_field word 2 h, ap (λ (ws : List ℕ). get_or ws 0 0) e) in
    mul_cancel mod257_field 2 word 200 (omega arith) (λ z. omega arith) h (omega arith) twice

size_each : (ws : List ℕ) (k : ℕ) → k < length (each ws) → length (get_or (each ws) k []) ≡ 1
size_each [] k h = absurd (not-suc-le-zero h)
size_each (w ∷ ws) zero h = refl
size_each (w ∷ ws) (suc k) h = size_each ws k (le_of_suc-le-suc h)

below_each : (ws : List ℕ) → Below 257 ws → (k : ℕ) → k < length (each ws) → Below 257 (get_or (each ws) k [])
below_each [] b k h = absurd (not-suc-le-zero h)
below_each (w ∷ ws) b zero h = below_cons 257 w [] (below_head 257 w ws b) (below_nil 257)
below_each (w ∷ ws) b (suc k) h = below_each ws (below_tail 257 w ws b) k (le_of_suc-le-suc h)

module _ (key : ℕ) (numbered : lawful_key key ≡ true) (stamp : ℕ) (lawful : lawful_stamp stamp ≡ true) (room : List ℕ) (one : length room ≡ 1) where
  -- the outcome of the letters' words is the join's
  joins : (ws : List ℕ) → all_at_most 256 ws ≡ true → {result : Joined} {left : List ℕ}
      → Outcome mod257 1 1 6 (λ x. leb x (length (each ws))) (λ x i. get_or (get_or (each ws) (x - 1) []) i 0) 1 room result left → Joins key stamp room ws result left
  unfolding lawful_told lawful_order join_refusal terms_number
  joins ws b D =
      let H : Held (told key) stamp 1 (each ws) = record {
        told_lawful = numbered;
        stamp_lawful = lawful;
        length_lawful = refl;
        size = size_each ws;
        below = below_each ws (at_most_below 256 ws b);
      } in
      let this : Allowed key stamp room ws _ _ = judged (rw (numbered, lawful, eq-eqb _ _ (length-held_tray H), eq-eqb _ _ one)) (outcome_scan (scan_held H) D) in
      record { allowed = this; only = λ result' left' other. join_same mod257-letters other this }

  -- "Proved together: C1..C12."
  pub worked_numbers : WorkedNumbers key stamp room
  unfolding lawful_order share_words eval from count keeper_set matches all_to all_at_most total chosen sets trials reaching interpolate grow reciprocals
  worked_numbers = record {
    c1 = refl;
    c2 = joins (43 ∷ 143 ∷ 0 ∷ 86 ∷ 186 ∷ 29 ∷ []) refl (joined cut_line (record { polynomials = cut_line_lem; enough = omega arith }) refl);
    c2_keeper_1 = joins (0 ∷ 143 ∷ 243 ∷ 86 ∷ 186 ∷ 29 ∷ []) refl (joined cut_line (record { polynomials = cut_line_lem; enough = omega arith }) refl);
    c3 = joins (43 ∷ 143 ∷ 0 ∷ 0 ∷ 186 ∷ 29 ∷ []) refl (apart (omega arith) (none_reaches mod257_field 1 6 (omega arith) _ _ 1 1 cut_line cut_line_lem (omega arith) (omega arith)));
    c4 = joins (43 ∷ 143 ∷ 0 ∷ 86 ∷ []) refl (joined cut_line (record { polynomials = cut_line_lem; enough = omega arith }) refl);
    c5 = joins (43 ∷ 143 ∷ 243 ∷ []) refl (joined cut_line (record { polynomials = cut_line_lem; enough = omega arith }) refl);
    c6 = joins (43 ∷ 143 ∷ 0 ∷ []) refl (apart (omega arith) (none_reaches mod257_field 1 6 (omega arith) _ _ 1 1 cut_line cut_line_lem (omega arith) (omega arith)));
    c7 = joins (43 ∷ 143 ∷ []) refl (few (omega arith));
    c8 = joins (0 ∷ 1 ∷ 2 ∷ []) refl (wide ((256 ∷ 1 ∷ []) ∷ []) (record { polynomials = line 256 1 (omega arith) (omega arith); enough = omega arith }) refl);
    c9 = refl;
    c10 = (refl, refl);
    c11 = (refl, λ word h. (only_200 word h, λ e. ap (λ (w : ℕ). share_words mod257 1 2 (0 ∷ []) (w ∷ [])) e));
    c12 = (refl, refl);
  }
