-- The largest number and its neighbours, as words: 4294967295 is a number, 4294967296 is none, nor is a word of eleven digits or of none.
-- And as lists: 1,3,12 is one of three numbers, and is none where only two are taken; a part that is empty is no number.
-- Assumes nothing.
use Rattle.std.specs.Prelude.{◌≡◌, refl, true, false, [], ◌∷◌}
use Rattle.numerals.specs.Numeral.{all_digits, said_after, said, is_number}
use Rattle.numerals.specs.Several.{onto, parts, all_numbers, is_list, listed}

largest : (is_number (52 ∷ 50 ∷ 57 ∷ 52 ∷ 57 ∷ 54 ∷ 55 ∷ 50 ∷ 57 ∷ 53 ∷ []) ≡ true) × (said (52 ∷ 50 ∷ 57 ∷ 52 ∷ 57 ∷ 54 ∷ 55 ∷ 50 ∷ 57 ∷ 53 ∷ []) ≡ 4294967295)
unfolding all_digits said_after
largest = (refl, refl)

too_large : is_number (52 ∷ 50 ∷ 57 ∷ 52 ∷ 57 ∷ 54 ∷ 55 ∷ 50 ∷ 57 ∷ 54 ∷ []) ≡ false
unfolding all_digits said_after
too_large = refl

too_long : is_number (48 ∷ 48 ∷ 48 ∷ 48 ∷ 48 ∷ 48 ∷ 48 ∷ 48 ∷ 48 ∷ 48 ∷ 49 ∷ []) ≡ false
too_long = refl

nothing : is_number [] ≡ false
nothing = refl

three : (is_list 8 (49 ∷ 44 ∷ 51 ∷ 44 ∷ 49 ∷ 50 ∷ []) ≡ true) × (listed (49 ∷ 44 ∷ 51 ∷ 44 ∷ 49 ∷ 50 ∷ []) ≡ 1 ∷ 3 ∷ 12 ∷ [])
unfolding onto parts all_numbers all_digits said_after
three = (refl, refl)

one_too_many : is_list 2 (49 ∷ 44 ∷ 51 ∷ 44 ∷ 49 ∷ 50 ∷ []) ≡ false
unfolding onto parts
one_too_many = refl

part_empty : (is_list 8 (49 ∷ 44 ∷ 44 ∷ 51 ∷ []) ≡ false) × (is_list 8 (49 ∷ 44 ∷ []) ≡ false) × (is_list 8 [] ≡ false)
unfolding onto parts all_numbers all_digits said_after
part_empty = (refl, refl, refl)
