-- Where the numbers stand in a letter, and how the check weighs them, held to one letter whose numbers differ from each other. Exchanging two places
-- in the writing and in the reading alike would leave every other theorem true.
-- Assumes nothing.
use Rattle.std.specs.Prelude.{ℕ, ◌≡◌, true, List, [], ◌∷◌, ◌++◌, take, drop, replicate}
use Rattle.field.specs.Modulo.{mod257}
use Rattle.block.specs.Check.{weighted_check}
use Rattle.block.specs.Words.{words_of}
use Rattle.header.specs.declared.told.Told.{Told}
use Rattle.header.specs.Head.{head_words}
use Rattle.header.specs.Told.{lawful_told}
use Rattle.tray.specs.Tray.{head_for}
use Rattle.cut.specs.Cut.{letter_of}

-- t=3, f=2, n=14, key 8
abbrev pub told : Told
told = record { order = record { t = 3; f = 2; n = 14 }; key = 8 }

-- the stamp whose bytes are 10, 11, 12, 13
abbrev pub stamp : ℕ
stamp = 168496141

-- keeper 5's letter of the secret 200, 0, 255, 7
abbrev pub letter : List ℕ
letter = letter_of mod257 told stamp (200 ∷ 0 ∷ 255 ∷ 7 ∷ []) (100 ∷ 7 ∷ 0 ∷ 256 ∷ 11 ∷ 0 ∷ 1 ∷ 2 ∷ 3 ∷ 0 ∷ 0 ∷ 256 ∷ []) 5

-- the words of its one block
abbrev pub words : List ℕ
words = words_of (take 512 letter)

-- the weight of word i: what the second check word is of a block in which that word is 1 and every other word 0
abbrev pub weight : ℕ → ℕ
weight i = weighted_check (replicate i 0 ++ (1 ∷ []))

-- "A block is 512 bytes": the page's table, of that letter
pub record Layout : Type 0 where
  pub lawful : lawful_told told ≡ true
  -- words 0..15: mark, edition, t, f, n, keeper, the stamp's four bytes, the length's two, the place, the key, two zeros
  pub header : take 16 words ≡ 81 ∷ 1 ∷ 3 ∷ 2 ∷ 14 ∷ 5 ∷ 10 ∷ 11 ∷ 12 ∷ 13 ∷ 0 ∷ 4 ∷ 0 ∷ 8 ∷ 0 ∷ 0 ∷ []
  -- "16..253: 238 share words", of which those past L are 0
  pub shares : take 238 (drop 16 words) ≡ 104 ∷ 13 ∷ 171 ∷ 139 ∷ replicate 234 0
  -- the check words
  pub checks : drop 254 words ≡ 77 ∷ 114 ∷ []
  -- "two bytes, high byte first"; "the rest of the slot is zero bytes"
  pub first_bytes : take 4 letter ≡ 0 ∷ 81 ∷ 0 ∷ 1 ∷ []
  pub rest : drop 512 letter ≡ replicate 1536 0
  -- the length's high byte comes first, and a later block has its place and the same key
  pub later : drop 10 (head_words 81 0 (head_for told stamp 259 5) 1) ≡ 1 ∷ 3 ∷ 1 ∷ 8 ∷ 0 ∷ 0 ∷ []
  -- the weights 3^128 and 3^253 modulo 257
  pub weights : (weight 128 ≡ 256) × (weight 253 ≡ 238)
