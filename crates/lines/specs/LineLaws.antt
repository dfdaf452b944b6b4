-- How long a line can be. The key's line, sixteen keepers' and that of the counts come to 389 bytes at the most.
-- Assumes nothing.
use Rattle.std.specs.Prelude.{ℕ, ◌+◌, ◌^◌, ◌<◌, ◌≤◌, length}
use Prim.Native.String.{String}
use Rattle.std.proofs.Common.{arith, length-append}
use Rattle.lists.specs.Listed.{listed}
use Rattle.lines.specs.DecimalLaws.{length-decimal}
use Rattle.lines.specs.Lines.{three_line, key_line, word_of, keeper_line, count_line}
use Rattle.lines.specs.Text.{text, decimal}
use Rattle.lines.specs.declared.line.Standing.{Standing}
use Rattle.lines.specs.declared.line.Standing.TheVariants.{Absent, Present, Agrees, Differs}

wide : (n : ℕ) → n < 2 ^ 32 → length (decimal n) ≤ 10
wide n h = length-decimal 9 n (omega arith)

pub length-three_line : (a b c : String) (x y z : ℕ) → x < 2 ^ 32 → y < 2 ^ 32 → z < 2 ^ 32
    → length (three_line a x b y c z) ≤ length (text a) + length (text b) + length (text c) + length (text "\n") + 30
unfolding three_line
length-three_line a b c x y z hx hy hz = simp length-append (omega (arith, wide x hx, wide y hy, wide z hz))

pub length-key_line : (key stamp l : ℕ) → key < 2 ^ 32 → stamp < 2 ^ 32 → l < 2 ^ 32 → length (key_line key stamp l) ≤ 50
unfolding text listed
length-key_line = length-three_line "key " " stamp " " length "

length-word : (s : Standing) → length (text (word_of s)) ≤ 7
unfolding word_of text listed
length-word Absent = omega arith
length-word Present = omega arith
length-word Agrees = omega arith
length-word Differs = omega arith

pub length-keeper_line : (x : ℕ) (s : Standing) → x ≤ 99 → length (keeper_line x (word_of s)) ≤ 18
unfolding keeper_line text listed
length-keeper_line x s h = simp length-append (omega (arith, length-decimal 1 x (omega arith), length-word s))

pub length-count_line : (m need agree : ℕ) → m < 2 ^ 32 → need < 2 ^ 32 → agree < 2 ^ 32 → length (count_line m need agree) ≤ 51
unfolding text listed
length-count_line = length-three_line "usable " " need " " agree "
