-- Of a number above those of the refusals nothing is said.
-- Assumes nothing.
use Rattle.std.proofs.Common.{ℕ, zero, suc, ◌+◌, ◌-◌, ◌<◌, ◌≡◌, refl, sym, ap, ◌∙◌, [], arith}
use Rattle.refusals.specs.Numbers.{OfNoReason}
use Rattle.refusals.specs.declared.Refusal.TheVariants.{NotLawful, Length, Stamp, Room, Word, TooFew, NoPolynomials, NoSecret, LargeWord, Check, Mark, Header, Tail, Older, OtherBytes, NotOurs, NothingHeld, ManyDifferences, OldKeepers, StampNotAbove}
use Rattle.saying.specs.Sentences.{sentences}
use Rattle.saying.specs.Table.{line_of, rest_of, rest_at, line_at}

above : (n : ℕ) → OfNoReason n → (n ≡ 0 → ⊥) → 20 < n
above n h h0 =
    let h1 : n ≡ 1 → ⊥ = λ e. h NotLawful (sym e) in
    let h2 : n ≡ 2 → ⊥ = λ e. h Length (sym e) in
    let h3 : n ≡ 3 → ⊥ = λ e. h Stamp (sym e) in
    let h4 : n ≡ 4 → ⊥ = λ e. h Room (sym e) in
    let h5 : n ≡ 5 → ⊥ = λ e. h Word (sym e) in
    let h6 : n ≡ 6 → ⊥ = λ e. h TooFew (sym e) in
    let h7 : n ≡ 7 → ⊥ = λ e. h NoPolynomials (sym e) in
    let h8 : n ≡ 8 → ⊥ = λ e. h NoSecret (sym e) in
    let h9 : n ≡ 9 → ⊥ = λ e. h LargeWord (sym e) in
    let h10 : n ≡ 10 → ⊥ = λ e. h Check (sym e) in
    let h11 : n ≡ 11 → ⊥ = λ e. h Mark (sym e) in
    let h12 : n ≡ 12 → ⊥ = λ e. h Header (sym e) in
    let h13 : n ≡ 13 → ⊥ = λ e. h Tail (sym e) in
    let h14 : n ≡ 14 → ⊥ = λ e. h Older (sym e) in
    let h15 : n ≡ 15 → ⊥ = λ e. h OtherBytes (sym e) in
    let h16 : n ≡ 16 → ⊥ = λ e. h NotOurs (sym e) in
    let h17 : n ≡ 17 → ⊥ = λ e. h NothingHeld (sym e) in
    let h18 : n ≡ 18 → ⊥ = λ e. h ManyDifferences (sym e) in
    let h19 : n ≡ 19 → ⊥ = λ e. h OldKeepers (sym e) in
    let h20 : n ≡ 20 → ⊥ = λ e. h StampNotAbove (sym e) in
    omega arith

past : (k : ℕ) → rest_at (k + 21) sentences ≡ []
unfolding rest_at rest_of
past zero = refl
past (suc k) =
    let e : suc k + 21 ≡ suc (k + 21) = omega arith in
    rw e (ap rest_of (past k))

pub unsaid : (n : ℕ) → OfNoReason n → (n ≡ 0 → ⊥) → line_at n sentences ≡ []
unfolding line_of
unsaid n h h0 =
    let l = above n h h0 in
    let e : n ≡ (n - 21) + 21 = omega arith in
    ap (λ m. line_at m sentences) e ∙ ap line_of (past (n - 21))
