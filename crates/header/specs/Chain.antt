-- A chain of tests joined by `&&` answers with the first test that fails, or else with the last one.
-- Assumes nothing.
use Rattle.std.specs.Prelude.{◌≡◌, Bool, true, false, ◌&&◌}
use Rattle.std.proofs.Common.{sym, ◌∙◌, le-leb, eq-eqb, ne_eqb}
use Rattle.std.proofs.lemmas.Bool.{lt-leb}

pub goes_on : (p q r : Bool) → p ≡ true → r ≡ q → r ≡ (p && q)
goes_on p q r h e = rw h e

pub stops : (p q r : Bool) → p ≡ false → r ≡ false → r ≡ (p && q)
stops p q r h e = rw h e

-- a link that is itself two tests
pub both : (p q : Bool) → p ≡ true → q ≡ true → (p && q) ≡ true
both p q h e = rw h e

pub neither : (p q : Bool) → p ≡ false → (p && q) ≡ false
neither p q h = rw h

-- a link that a call answered
pub answered : (r p b : Bool) → r ≡ p → r ≡ b → p ≡ b
answered r p b e h = sym e ∙ h

pub ruleset chain = (goes_on, stops, both, neither, answered, le-leb, lt-leb, eq-eqb, ne_eqb)
