-- The sample lines, computed; and the longest numbers that a letter's line can have make it 107 bytes long.
-- Assumes nothing.
use Rattle.std.specs.Prelude.{◌≡◌, refl, true, false, length}
use Rattle.lists.specs.Listed.{listed}
use Rattle.lines.specs.Text.{text, digits}
use Rattle.showing.specs.Lines.{letter_line, difference_line, total_line, trials_line, key_line, same_line}

letter : letter_line 2 1 8 100 3 2 32 ≡ text "order 2,1,8 key 100 keeper 3 stamp 2 length 32\n"
unfolding letter_line text listed digits
letter = refl

longest : length (letter_line 4294967295 4294967295 4294967295 4294967295 4294967295 4294967295 4294967295) ≡ 107
unfolding letter_line text listed digits
longest = refl

difference : difference_line 6 0 9 2 3 ≡ text "slot 6 block 0 word 9: 2 became 3\n"
unfolding difference_line text listed digits
difference = refl

none_differs : total_line 0 ≡ text "no word differs\n"
unfolding total_line text listed digits
none_differs = refl

one_differs : total_line 1 ≡ text "1 word differs\n"
unfolding total_line text listed digits
one_differs = refl

two_differ : total_line 2 ≡ text "2 words differ\n"
unfolding total_line text listed digits
two_differ = refl

trials : trials_line 2 ≡ text "trials 2\n"
unfolding trials_line text listed digits
trials = refl

old_key : key_line (text "old") 100 2 32 ≡ text "old key 100 stamp 2 length 32\n"
unfolding key_line text listed digits
old_key = refl

same_keys : same_line true ≡ text "the same key\n"
unfolding same_line text listed digits
same_keys = refl

other_keys : same_line false ≡ text "different keys\n"
unfolding same_line text listed digits
other_keys = refl
