-- The lines that the program prints of letters, of what differs between trays and of a move that is checked.
-- Assumes nothing.
use Rattle.std.specs.Prelude.{ℕ, Bool, cond, List, ◌++◌, eqb}
use Prim.Native.String.{String}
use Rattle.lines.specs.Text.{text, decimal}

-- a number after its name
abbrev pub named : String → ℕ → List ℕ
named name n = text name ++ decimal n

-- as "order 2,1,8 key 100 keeper 3 stamp 2 length 32": the order is the word that the options take
unfoldable pub letter_line : ℕ → ℕ → ℕ → ℕ → ℕ → ℕ → ℕ → List ℕ
letter_line t f n key keeper stamp l =
    named "order " t ++ (named "," f ++ (named "," n
    ++ (named " key " key ++ (named " keeper " keeper ++ (named " stamp " stamp ++ (named " length " l ++ text "\n"))))))

-- as "slot 6 block 0 word 9: 2 became 3"
unfoldable pub difference_line : ℕ → ℕ → ℕ → ℕ → ℕ → List ℕ
difference_line slot block word first second =
    named "slot " slot ++ (named " block " block ++ (named " word " word ++ (named ": " first ++ (named " became " second ++ text "\n"))))

-- as "no word differs", "1 word differs", "2 words differ"
unfoldable pub total_line : ℕ → List ℕ
total_line count = cond (eqb count 0) (text "no word differs\n") (cond (eqb count 1) (text "1 word differs\n") (decimal count ++ text " words differ\n"))

-- as "trials 2"
unfoldable pub trials_line : ℕ → List ℕ
trials_line trials = named "trials " trials ++ text "\n"

-- as "old key 100 stamp 2 length 32", where the side is "old"
unfoldable pub key_line : List ℕ → ℕ → ℕ → ℕ → List ℕ
key_line side key stamp l = side ++ (named " key " key ++ (named " stamp " stamp ++ (named " length " l ++ text "\n")))

-- "the same key" or "different keys"
unfoldable pub same_line : Bool → List ℕ
same_line same = cond same (text "the same key\n") (text "different keys\n")
