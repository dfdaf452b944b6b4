-- The numbers by which a caller in C is told why a call is refused.
-- Assumes nothing.
use Rattle.std.specs.Prelude.{ℕ, ◌≡◌, Result, Ok, Err}
use Rattle.std.proofs.Common.{arith}
use Rattle.refusals.specs.declared.Refusal.{Refusal}
use Rattle.refusals.specs.declared.Refusal.TheVariants.{NotLawful, Length, Stamp, Room, Word, TooFew, NoPolynomials, NoSecret, LargeWord, Check, Mark, Header, Tail, Older, OtherBytes, NotOurs, NothingHeld, ManyDifferences, OldKeepers, StampNotAbove}

-- "All results carry a number", and each reason has its own
abbrev pub code : Refusal → ℕ
code NotLawful = 1
code Length = 2
code Stamp = 3
code Room = 4
code Word = 5
code TooFew = 6
code NoPolynomials = 7
code NoSecret = 8
code LargeWord = 9
code Check = 10
code Mark = 11
code Header = 12
code Tail = 13
code Older = 14
code OtherBytes = 15
code NotOurs = 16
code NothingHeld = 17
code ManyDifferences = 18
code OldKeepers = 19
code StampNotAbove = 20

-- 0 where nothing is refused
abbrev pub code_of : {A : Type 0} → Result A Refusal → ℕ
code_of (Ok done) = 0
code_of (Err refusal) = code refusal

-- no reason has the number 0
pub code_some : (refusal : Refusal) → code refusal ≡ 0 → ⊥
code_some NotLawful e = omega arith
code_some Length e = omega arith
code_some Stamp e = omega arith
code_some Room e = omega arith
code_some Word e = omega arith
code_some TooFew e = omega arith
code_some NoPolynomials e = omega arith
code_some NoSecret e = omega arith
code_some LargeWord e = omega arith
code_some Check e = omega arith
code_some Mark e = omega arith
code_some Header e = omega arith
code_some Tail e = omega arith
code_some Older e = omega arith
code_some OtherBytes e = omega arith
code_some NotOurs e = omega arith
code_some NothingHeld e = omega arith
code_some ManyDifferences e = omega arith
code_some OldKeepers e = omega arith
code_some StampNotAbove e = omega arith

-- a number that no reason has
abbrev pub OfNoReason : ℕ → Type 0
OfNoReason number = (refusal : Refusal) → code refusal ≡ number → ⊥
