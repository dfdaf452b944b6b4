-- `shares::value::share_word` meets its contract: before each turn the value is that of the coefficients from place i on.
-- Assumes nothing.
use Rattle.std.proofs.Common.{◌≡◌, drop}
use Rattle.algebra.specs.Poly.{eval}
use Rattle.field.specs.Modulo.{mod257}
use Rattle.shares.proofs.value.share_word.Given as goal

abbrev pub invariant-loop-i : goal.invariant-loop-i
invariant-loop-i l = l.value ≡ eval mod257 (drop l.i l.coefficients) l.x
