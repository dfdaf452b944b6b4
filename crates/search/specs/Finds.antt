-- What a search may answer: a set that enough match, none where nothing gives hope, and what it answers where more was hoped for.
-- Assumes nothing.
use Rattle.std.specs.Prelude.{ℕ, ◌≤◌, ◌≡◌, refl, Bool, List}
use Rattle.lists.specs.Count.{count}
use Rattle.lists.specs.From.{from}
use Rattle.algebra.specs.Field.{Ops}
use Rattle.algebra.specs.Poly.{Degree}
use Rattle.search.specs.Search.{matched, Matching, Finds}

module _ {O : Ops} {t n need : ℕ} {among : ℕ → Bool} {y : ℕ → ℕ} {Hope : List ℕ → Type 0} where
  pub finds_some : {set : ℕ} → (set ≡ 0 → ⊥) → Matching O t n need among y set → Finds O t n need among y Hope set
  finds_some other m = record { sound = λ _. m; complete = λ p d h k. other }

  pub finds_none : ((p : List ℕ) → Degree O t p → need ≤ count (matched O among y p) (from 1 n) → Hope p → ⊥) → Finds O t n need among y Hope 0
  finds_none never = record { sound = λ other. absurd (other refl); complete = λ p d h k e. never p d h k }

  pub finds_less : {More : List ℕ → Type 0} {set : ℕ} → ((p : List ℕ) → Degree O t p → need ≤ count (matched O among y p) (from 1 n) → Hope p → More p)
      → Finds O t n need among y More set → Finds O t n need among y Hope set
  finds_less more f = record { sound = f.sound; complete = λ p d h k. f.complete p d h (more p d h k) }
