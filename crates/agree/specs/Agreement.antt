-- What it is for polynomials to match letters. Said of a scan: which of the keepers 1..n are usable, and word i of keeper x.
-- Assumes nothing.
use Rattle.std.specs.Prelude.{ℕ, ◌≤◌, ◌<◌, ◌≡◌, Bool, ◌&&◌, List, [], map, eqb, leb, length, get_or}
use Rattle.lists.specs.AllTo.{all_to}
use Rattle.lists.specs.Count.{count}
use Rattle.lists.specs.From.{from}
use Rattle.algebra.specs.Field.{Ops}
use Rattle.algebra.specs.Poly.{eval, Degree}
use Rattle.algebra.specs.Interpolate.{interpolate}
use Rattle.algebra.specs.Agreement.{need}

-- polynomials of degree at most t, one for each of l words
pub record Polynomials (O : Ops) (t l : ℕ) (ps : List (List ℕ)) : Type 0 where
  pub size : length ps ≡ l
  pub degree : (i : ℕ) → i < l → Degree O t (get_or ps i [])

-- "A letter matches if all its L words do."
unfoldable pub matches : Ops → List (List ℕ) → ℕ → (ℕ → ℕ → ℕ) → ℕ → Bool
matches O ps l word x = all_to (λ i. eqb (eval O (get_or ps i []) x) (word x i)) l

-- the usable keepers that match
abbrev pub agreeing : Ops → (ℕ → Bool) → (ℕ → ℕ → ℕ) → ℕ → List (List ℕ) → ℕ → Bool
agreeing O usable word l ps x = usable x && matches O ps l word x

-- "With m usable, need is the larger of m-f and t+f+1": how many must match
abbrev pub needed : ℕ → ℕ → ℕ → (ℕ → Bool) → ℕ
needed t f n usable = need (count usable (from 1 n)) t f

-- polynomials that reach need
pub record Reaches (O : Ops) (t f n : ℕ) (usable : ℕ → Bool) (word : ℕ → ℕ → ℕ) (l : ℕ) (ps : List (List ℕ)) : Type 0 where
  pub polynomials : Polynomials O t l ps
  pub enough : needed t f n usable ≤ count (agreeing O usable word l ps) (from 1 n)

-- the polynomials of some keepers: through their letters' words, one for each of l words
abbrev pub polynomials_of : Ops → (ℕ → ℕ → ℕ) → ℕ → List ℕ → List (List ℕ)
polynomials_of O word l xs = map (λ i. interpolate O xs (λ x. word x i)) (from 0 l)

-- "whose polynomials match at least need letters"
unfoldable pub reaching : Ops → ℕ → ℕ → ℕ → (ℕ → Bool) → (ℕ → ℕ → ℕ) → ℕ → List ℕ → Bool
reaching O t f n usable word l xs = leb (needed t f n usable) (count (agreeing O usable word l (polynomials_of O word l xs)) (from 1 n))

-- the constants: the polynomials' values at zero
abbrev pub constants : List (List ℕ) → List ℕ
constants ps = map (λ p. get_or p 0 0) ps
