-- Where the first line of a text ends, and what stands behind it.
-- Assumes nothing.
use Rattle.std.proofs.Common.{ℕ, ◌+◌, ◌-◌, ◌≤◌, ◌≡◌, ◌==◌, refl, ◌∙◌, Bool, true, false, cond, not, List, [], ◌∷◌, eqb, nat_lt, length, take, drop, take_all, length-drop, drop_of_length-le, arith, Some, None, position}
use Rattle.std.specs.List.{position_or_len}
use Rattle.saying.specs.Table.{line_of, rest_of}

abbrev end_of : List ℕ → ℕ
end_of t = position_or_len (λ byte. byte == 10) t

taken : (t : List ℕ) → take (end_of t) t ≡ line_of t
unfolding line_of
taken [] = refl
taken (x ∷ xs) = picked (eqb x 10) (taken xs)
  where
    picked : (b : Bool) → take (end_of xs) xs ≡ line_of xs
        → take (cond (not b) (1 + end_of xs) 0) (x ∷ xs) ≡ cond b [] (x ∷ line_of xs)
    picked true rest = refl
    picked false rest = grind arith

left : (t : List ℕ) → drop (end_of t + 1) t ≡ rest_of t
unfolding rest_of
left [] = grind arith
left (x ∷ xs) = picked (eqb x 10) (left xs)
  where
    picked : (b : Bool) → drop (end_of xs + 1) xs ≡ rest_of xs
        → drop (cond (not b) (1 + end_of xs) 0 + 1) (x ∷ xs) ≡ cond b xs (rest_of xs)
    picked true rest = grind arith
    picked false rest = grind arith

module _ (t : List ℕ) where
  pub line_taken : (end : ℕ) → position (λ byte. byte == 10) t ≡ Some end → take end t ≡ line_of t
  line_taken end = by (nat_lt (end_of t) (length t))
    where
      by : (b : Bool) → cond b (Some (end_of t)) None ≡ Some end → take end t ≡ line_of t
      by true e = let same : end_of t ≡ end = cc in rw (← same) (taken t)
      by false e = cc

  pub rest_left : (end : ℕ) → position (λ byte. byte == 10) t ≡ Some end → take (length t - (end + 1)) (drop (end + 1) t) ≡ rest_of t
  rest_left end = by (nat_lt (end_of t) (length t))
    where
      by : (b : Bool) → cond b (Some (end_of t)) None ≡ Some end → take (length t - (end + 1)) (drop (end + 1) t) ≡ rest_of t
      by true e =
          let same : end_of t ≡ end = cc in
          take_all _ (drop (end + 1) t) (omega (arith, length-drop (end + 1) t)) ∙ rw (← same) (left t)
      by false e = cc

  whole : position (λ byte. byte == 10) t ≡ None → length t ≤ end_of t
  whole e = by (nat_lt (end_of t) (length t)) refl e
    where
      by : (b : Bool) → nat_lt (end_of t) (length t) ≡ b → cond b (Some (end_of t)) None ≡ None → length t ≤ end_of t
      by true _ e = cc
      by false h e = grind arith

  pub line_whole : position (λ byte. byte == 10) t ≡ None → line_of t ≡ t
  line_whole e = rw (← taken t) (take_all (end_of t) t (whole e))

  pub rest_none : position (λ byte. byte == 10) t ≡ None → rest_of t ≡ []
  rest_none e = rw (← left t) (drop_of_length-le t {i = end_of t + 1} (omega (arith, whole e)))
