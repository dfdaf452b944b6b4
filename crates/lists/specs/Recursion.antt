-- A function that calls itself, at a measure t of its arguments: what it is given there, and what it asks of its own call, which lies below t.
-- Assumes nothing.
use Rattle.std.specs.Prelude.{ℕ, ◌<◌, List}
use borrow.Fn.Kind.{ParamKind}
use borrow.Fn.Kinds.{In}
use borrow.Fn.PlainCycle.{Measures, is, falls, and}

module _ (n : ℕ) (ps : List (ParamKind n)) (μ : Measures n ps ℕ) (Pre : In n ps) (t : ℕ) where
  abbrev pub given_at : In n ps
  given_at = and n ps (is n ps μ t) Pre

  abbrev pub asked_below : In n ps
  asked_below = and n ps (falls n ps ◌<◌ μ t) Pre
