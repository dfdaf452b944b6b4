-- Rows compared with the rows carried from the first t + 1 keepers of a set: where they are alike, the set is in step.
-- Assumes nothing.
use Rattle.std.specs.Prelude.{ℕ, ◌+◌, ◌≤◌, ◌<◌, ◌≡◌, Bool, true, false, List, get_or}
use Rattle.std.proofs.Common.{sym, ap, ◌∙◌, true≢false, ⊎_elim, eq-or-lt_of_le, arith}
use Rattle.lists.specs.From.{from, from_in}
use Rattle.algebra.specs.Field.{Ops, IsField}
use Rattle.algebra.specs.Interpolate.{interpolate}
use Rattle.algebra.specs.Points.{Points}
use Rattle.weigh.specs.Weigh.{carried}
use Rattle.search.specs.Base.{Base, base_length, base_points, base_first}
use Rattle.search.specs.Carried.{carried_point, carried_through, through_degree}
use Rattle.agree.specs.Kept.{InStep, Alike}

-- up to keeper k, the keepers of the set have the words carried to them, from `start` to `end`
pub record Compared (O : Ops) (set : ℕ → Bool) (xs : List ℕ) (words : ℕ → ℕ → ℕ) (start end k : ℕ) : Type 0 where
  pub alike : (x : ℕ) → 1 ≤ x → x ≤ k → set x ≡ true → (j : ℕ) → start ≤ j → j < end → carried O xs (λ a. words a j) x ≡ words x j

module _ {O : Ops} {set : ℕ → Bool} {xs : List ℕ} {words : ℕ → ℕ → ℕ} {start end k : ℕ} (c : Compared O set xs words start end k) where
  -- one keeper more: not of the set, or compared
  pub compared-other : set (k + 1) ≡ false → Compared O set xs words start end (k + 1)
  compared-other e = record { alike = λ x l h s. ⊎_elim (λ g. absurd (true≢false (sym s ∙ ap set g ∙ e))) (λ g. c.alike x l (omega arith) s) (eq-or-lt_of_le h) }

  pub compared_next : {place : ℕ} → Alike (λ j. carried O xs (λ a. words a j) (k + 1)) (words (k + 1)) start end place → Compared O set xs words start place (k + 1)
  compared_next a = record {
    alike = λ x l h s j b e. ⊎_elim (λ g. rw g (a.same j b e)) (λ g. c.alike x l (omega arith) s j b (omega (arith, a.ends))) (eq-or-lt_of_le h);
  }

module _ {O : Ops} (F : IsField O) {t n : ℕ} {set : ℕ → Bool} {xs : List ℕ} (B : Base t n set xs) (P : Points O.q (from 1 n))
    (words : ℕ → ℕ → ℕ) (below : (x j : ℕ) → words x j < O.q) (start end : ℕ) where
  -- up to the last of the base there is nothing to compare
  pub compared-start : Compared O set xs words start end (get_or xs t 0)
  compared-start = record {
    alike = λ x l h s j b e. carried_point F t xs (λ a. words a j) (base_points B P) (base_length B) (λ a m. below a j) x (base_first B x l h s);
  }

  pub compared_end : (l : ℕ) → start ≤ end → end ≤ l → Compared O set xs words start end n → InStep O t n set words start l end
  compared_end l b e c = record {
    starts = b;
    ends = e;
    on_one = λ j g h. record {
      polynomial = interpolate O xs (λ a. words a j);
      degree = through_degree F t xs (λ a. words a j) (base_points B P) (base_length B) (λ a m. below a j);
      through = λ x m s.
          let r = from_in 1 n x m in
          sym (carried_through F t xs (λ a. words a j) (base_points B P) (base_length B) (λ a m. below a j) x) ∙ c.alike x r.0 (omega arith) s j g h;
    };
  }
