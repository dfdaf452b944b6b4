-- Lists that are tried one after another, up to the first that is good.
-- Assumes nothing.
use Rattle.std.specs.Prelude.{ℕ, suc, ◌+◌, ◌≤◌, ◌≡◌, refl, Bool, true, false, cond, List, [], ◌∷◌, ◌++◌, map, length}
use Rattle.std.proofs.Common.{sym, ap, ◌∙◌, zero-add, suc-add, arith}
use Rattle.trials.specs.Each.{Each}

-- "the sets up to and including the first" that is good: how many these are; all of them where none is
unfoldable pub trials : (List ℕ → Bool) → List (List ℕ) → ℕ
trials good [] = 0
trials good (z ∷ zs) = cond (good z) 1 (suc (trials good zs))

-- z is the first good one, and the k-th of them all
pub data FirstGood (good : List ℕ → Bool) : List (List ℕ) → List ℕ → ℕ → Type 0 where
  here : {z : List ℕ} {zs : List (List ℕ)} → good z ≡ true → FirstGood good (z ∷ zs) z 1
  later : {w z : List ℕ} {zs : List (List ℕ)} {k : ℕ} → good w ≡ false → FirstGood good zs z k → FirstGood good (w ∷ zs) z (suc k)

pub first_trials : {good : List ℕ → Bool} {zs : List (List ℕ)} {z : List ℕ} {k : ℕ} → FirstGood good zs z k → trials good zs ≡ k
unfolding trials
first_trials (here e) = rw e
first_trials (later e h) = rw e (ap suc (first_trials h))

-- no more are tried than there are
pub trials_le : (good : List ℕ → Bool) (zs : List (List ℕ)) → trials good zs ≤ length zs
unfolding trials
trials_le good [] = omega arith
trials_le good (z ∷ zs) = step (good z) (trials_le good zs)
  where
    step : (b : Bool) → trials good zs ≤ length zs → cond b 1 (suc (trials good zs)) ≤ suc (length zs)
    step true h = omega arith
    step false h = omega arith

-- tests that agree on each of them try as many
pub trials_same : (good good' : List ℕ → Bool) (zs : List (List ℕ)) → Each (λ z. good z ≡ good' z) zs → trials good zs ≡ trials good' zs
unfolding trials
trials_same good good' [] e = refl
trials_same good good' (z ∷ zs) e = rw (e.0, trials_same good good' zs e.1)

pub first_same : {good good' : List ℕ → Bool} {zs : List (List ℕ)} {z : List ℕ} {k : ℕ} → Each (λ z. good z ≡ good' z) zs
    → FirstGood good zs z k → FirstGood good' zs z k
first_same e (here g) = here (sym e.0 ∙ g)
first_same e (later g h) = later (sym e.0 ∙ g) (first_same e.1 h)

-- the first good one stays the first with others behind it, and with others before it that are not good
pub first_front : {good : List ℕ → Bool} {zs : List (List ℕ)} {z : List ℕ} {k : ℕ} (ws : List (List ℕ)) → FirstGood good zs z k → FirstGood good (zs ++ ws) z k
first_front ws (here e) = here e
first_front ws (later e h) = later e (first_front ws h)

pub first_past : {good : List ℕ → Bool} {ws : List (List ℕ)} {z : List ℕ} {k : ℕ} (zs : List (List ℕ)) → Each (λ w. good w ≡ false) zs → FirstGood good ws z k
    → FirstGood good (zs ++ ws) z (length zs + k)
first_past {k = k} [] e h = rw zero-add h
first_past {k = k} (w ∷ zs) e h = rw (suc-add (length zs) k) (later e.0 (first_past zs e.1 h))

pub first_mapped : {good : List ℕ → Bool} (g : List ℕ → List ℕ) {zs : List (List ℕ)} {z : List ℕ} {k : ℕ} → FirstGood (λ w. good (g w)) zs z k → FirstGood good (map g zs) (g z) k
first_mapped g (here e) = here e
first_mapped g (later e h) = later e (first_mapped g h)
