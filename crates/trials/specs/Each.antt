-- What holds of each of some lists.
-- Assumes nothing.
use Rattle.std.specs.Prelude.{ℕ, List, [], ◌∷◌, ◌++◌, map}

abbrev pub Each : (List ℕ → Type 0) → List (List ℕ) → Type 0
Each P [] = Unit {0}
Each P (z ∷ zs) = P z × Each P zs

pub each_all : {P : List ℕ → Type 0} → ((z : List ℕ) → P z) → (zs : List (List ℕ)) → Each P zs
each_all h [] = tt
each_all h (z ∷ zs) = (h z, each_all h zs)

pub each_more : {P Q : List ℕ → Type 0} → ((z : List ℕ) → P z → Q z) → (zs : List (List ℕ)) → Each P zs → Each Q zs
each_more h [] e = tt
each_more h (z ∷ zs) e = (h z e.0, each_more h zs e.1)

pub each_append : (P : List ℕ → Type 0) (zs ws : List (List ℕ)) → Each P zs → Each P ws → Each P (zs ++ ws)
each_append P [] ws e d = d
each_append P (z ∷ zs) ws e d = (e.0, each_append P zs ws e.1 d)

pub each_map : (P : List ℕ → Type 0) (g : List ℕ → List ℕ) (zs : List (List ℕ)) → Each (λ z. P (g z)) zs → Each P (map g zs)
each_map P g [] e = tt
each_map P g (z ∷ zs) e = (e.0, each_map P g zs e.1)
