-- Rows compared, keeper by keeper, with those carried from a base.
-- Assumes nothing.
use Prim.Native.Nat.{ℕ, ◌+◌, ◌≤◌}
use mathlib.Core.Path.{◌≡◌, subst}
use mathlib.Core.Bool.{Bool}
use mathlib.Core.List.{List}
use native.Mathlib.Omega.{arith}
use lib.ListN.{length, get_or, take}
use lib.Seq.{get_or-take, length-take-le}
use Rattle.field.proofs.Laws.{mod257_field}
use Rattle.field.specs.Modulo.{mod257}
use Rattle.weigh.specs.Weigh.{row_word, Carriage}
use Rattle.search.specs.Base.{Base, base_length, base_keepers, keeper_points}
use Rattle.agree.specs.InStepLaws.{Compared, compared-start, compared_end}
use Rattle.agree.specs.Kept.{InStep}
use Rattle.agree.specs.Rows.{Rows, row_word_lt}

pub record Comparing (t : ℕ) (set : ℕ → Bool) (rows : List ℕ) (start l : ℕ) (xs row : List ℕ) (end k : ℕ) : Type 0 where
  pub room : length row ≡ 952
  pub starts : start ≤ end
  pub ends : end ≤ l
  pub within : k ≤ 16
  pub base : Base t 16 set xs
  pub compared : Compared mod257 set xs (row_word rows) start end k

-- the last of a base, where it was gathered
last : (t : ℕ) (who : List ℕ) → get_or (take (t + 1) who) t 0 ≡ get_or who t 0
last t who = get_or-take (t + 1) who t 0 (omega arith)

last_keeper : {t : ℕ} {set : ℕ → Bool} (who : List ℕ) → Base t 16 set (take (t + 1) who) → get_or who t 0 ≤ 16
last_keeper {t} who b = let k = base_keepers b t (omega (arith, base_length b)) in omega (arith, last t who)

module _ {t : ℕ} {set : ℕ → Bool} {rows : List ℕ} {start l : ℕ} (R : Rows rows) where
  pub comparing_start : (who row : List ℕ) → length row ≡ 952 → start ≤ l → Base t 16 set (take (t + 1) who)
      → Comparing t set rows start l (take (t + 1) who) row l (get_or who t 0)
  comparing_start who row e h b = record {
    room = e;
    starts = h;
    ends = omega arith;
    within = last_keeper who b;
    base = b;
    compared =
        subst (Compared mod257 set (take (t + 1) who) (row_word rows) start l) (last t who)
        (compared-start mod257_field b keeper_points (row_word rows) (row_word_lt R) start l);
  }

  module _ {xs row : List ℕ} {end k : ℕ} (c : Comparing t set rows start l xs row end k) where
    comparing_part : l ≤ 952 → length (take end row) ≡ end
    comparing_part h = length-take-le end row (omega (arith, c.ends, c.room))

    pub comparing_carriage : t ≤ 7 → l ≤ 952 → Carriage xs rows (take end row)
    comparing_carriage small h = record {
      keepers = base_keepers c.base;
      few = omega (arith, base_length c.base);
      whole = R.whole;
      words = R.words;
      room = omega (arith, comparing_part h, c.ends);
    }

    pub comparing_end : 16 ≤ k → InStep mod257 t 16 set (row_word rows) start l end
    comparing_end h =
        let e : k ≡ 16 = omega (arith, c.within) in
        compared_end mod257_field c.base keeper_points (row_word rows) (row_word_lt R) start end l c.starts c.ends (rw e at c.compared)
