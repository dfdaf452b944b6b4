-- The sample report of the requirements, of key 0, is these lines, end to end; and the longest numbers that the first line can have.
-- Assumes nothing.
use Rattle.std.specs.Prelude.{◌≡◌, refl, ◌++◌}
use Rattle.lists.specs.Listed.{listed}
use Rattle.lines.specs.Lines.{three_line, key_line, word_of, keeper_line, count_line, answer_line}
use Rattle.lines.specs.Text.{text, digits}
use Rattle.lines.specs.declared.line.Standing.TheVariants.{Absent, Agrees, Differs}

sample : key_line 0 7 1
    ++ (keeper_line 1 (word_of Agrees)
    ++ (keeper_line 2 (word_of Agrees)
    ++ (keeper_line 3 (word_of Differs)
    ++ (keeper_line 4 (word_of Agrees)
    ++ (keeper_line 5 (word_of Agrees)
    ++ (keeper_line 6 (word_of Absent)
    ++ (count_line 5 4 4
    ++ answer_line 0)))))))
    ≡ text "key 0 stamp 7 length 1\nkeeper 1 agrees\nkeeper 2 agrees\nkeeper 3 differs\nkeeper 4 agrees\nkeeper 5 agrees\nkeeper 6 absent\nusable 5 need 4 agree 4\nanswer 0\n"
unfolding three_line word_of keeper_line answer_line text listed digits
sample = refl

longest : key_line 255 4294967295 952 ≡ text "key 255 stamp 4294967295 length 952\n"
unfolding three_line text listed digits
longest = refl
