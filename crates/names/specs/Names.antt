-- Names in a room for names, and names as C takes them.
-- Assumes nothing.
use Rattle.std.specs.Prelude.{ℕ, ◌-◌, ◌<◌, ◌≤◌, ◌≡◌, List, length, take, drop, replicate, slice_index_or, Option, Some, None, MatchOption}
use Rattle.std.specs.Borrow.{Bor}
use Rattle.std.proofs.Common.{refl, take_all, arith}

-- the whole name and its length; or the length 0, where it is longer than the 4,095 bytes that the system takes
pub record Named (whole out : List ℕ) (count : ℕ) : Type 0 where
  pub fits : length whole ≤ 4095 → (count ≡ length whole) × (take count out ≡ whole)
  pub long : 4095 < length whole → count ≡ 0

-- the same of a name that is handed out: it is the whole one, and there is none where that is longer
abbrev pub NamedBy : List ℕ → Option (Bor (List ℕ)) → Type 0
NamedBy whole name = MatchOption name (4095 < length whole) (λ part. (length whole ≤ 4095) × (part.now ≡ whole))

pub named_some : {whole : List ℕ} (part : Bor (List ℕ)) → NamedBy whole (Some part) → Named whole part.now (length part.now)
named_some {whole} part (short, same) =
    record { fits = λ _. rw same (refl, take_all (length whole) whole (omega arith)); long = λ long. absurd (omega arith) }

pub named_none : {whole : List ℕ} (out : List ℕ) → NamedBy whole None → Named whole out 0
named_none out long = record { fits = λ short. absurd (omega arith); long = λ _. refl }

-- the last of a path's 4096 bytes is 0
abbrev pub Ended : List ℕ → Type 0
Ended bytes = slice_index_or bytes 4095 1 ≡ 0

-- the name, and zeros behind it; or zeros alone, where it is longer than that
pub record Closed (name held : List ℕ) : Type 0 where
  pub fits : length name ≤ 4095
      → (take (length name) held ≡ name) × (drop (length name) held ≡ replicate (4096 - length name) 0)
  pub long : 4095 < length name → held ≡ replicate 4096 0
