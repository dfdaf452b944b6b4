-- The lines of the report, "each line ended by one byte 10".
-- Assumes nothing.
use Rattle.std.specs.Prelude.{ℕ, List, ◌++◌}
use Prim.Native.String.{String}
use Rattle.lines.specs.Text.{text, decimal}
use Rattle.lines.specs.declared.line.Standing.{Standing}
use Rattle.lines.specs.declared.line.Standing.TheVariants.{Absent, Present, Agrees, Differs}

-- three numbers, each after its name
unfoldable pub three_line : String → ℕ → String → ℕ → String → ℕ → List ℕ
three_line a x b y c z = text a ++ (decimal x ++ (text b ++ (decimal y ++ (text c ++ (decimal z ++ text "\n")))))

-- as "key 0 stamp 7 length 1"
abbrev pub key_line : ℕ → ℕ → ℕ → List ℕ
key_line key stamp l = three_line "key " key " stamp " stamp " length " l

-- the word for how a keeper stands
unfoldable pub word_of : Standing → String
word_of Absent = "absent"
word_of Present = "present"
word_of Agrees = "agrees"
word_of Differs = "differs"

-- as "keeper 1 agrees"
unfoldable pub keeper_line : ℕ → String → List ℕ
keeper_line x word = text "keeper " ++ (decimal x ++ (text " " ++ (text word ++ text "\n")))

-- as "usable 5 need 4 agree 4"
abbrev pub count_line : ℕ → ℕ → ℕ → List ℕ
count_line m need agree = three_line "usable " m " need " need " agree " agree

-- as "answer 0"
unfoldable pub answer_line : ℕ → List ℕ
answer_line number = text "answer " ++ (decimal number ++ text "\n")
