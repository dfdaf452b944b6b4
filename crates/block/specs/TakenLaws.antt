-- Words that were taken with their bytes exchanged are the words again once they are exchanged back.
-- Assumes nothing.
use Rattle.std.specs.Prelude.{ℕ, ◌+◌, ◌*◌, ◌≤◌, ◌<◌, ◌≡◌, List, length, take, drop, get_or}
use Rattle.std.proofs.Common.{refl, sym, ap, ◌∙◌, arith, length-drop, length-take-le, get_or-take, get_or-drop}
use Rattle.lists.specs.Below.{Below}
use Rattle.lists.specs.Listed.{listed, listed_is, listed_same, get_d_listed, length-listed}
use Rattle.block.specs.WordLaws.{below_words}
use Rattle.block.specs.WordParts.{length-words}
use Rattle.block.specs.Words.{words_of, exchanged, exchanged_all}

exchanged_twice : (w : ℕ) → w < 65536 → exchanged (exchanged w) ≡ w
exchanged_twice w h = omega arith

module _ (bytes : List ℕ) (from n : ℕ) (h : 2 * from + 2 * n ≤ length bytes) where
  abbrev word : ℕ → ℕ
  word k = get_or (words_of bytes) (from + k) 0

  -- the words counted from `from` on, and the words that stand there
  pub words-from : listed word n ≡ take n (drop from (words_of bytes))
  words-from =
      let words = drop from (words_of bytes) in
      let room : n ≤ length words = simp (length-drop, length-words) (omega arith) in
      sym (listed_is word n (take n words) (length-take-le n words room) (λ k l. rw (get_or-take, get_or-drop)))

-- a row with so many of them, each with its bytes exchanged
pub taken : (bytes : List ℕ) → Below 256 bytes → (from n : ℕ) → 2 * from + 2 * n ≤ length bytes → {row : List ℕ}
    → row ≡ listed (λ k. exchanged (get_or (words_of bytes) (from + k) 0)) n → exchanged_all row ≡ take n (drop from (words_of bytes))
taken bytes below from n h {row} e =
    let word = λ (k : ℕ). get_or (words_of bytes) (from + k) 0 in
    let size : length row ≡ n = ap length e ∙ length-listed (λ k. exchanged (word k)) n in
    let each : (k : ℕ) → k < n → exchanged (get_or row k 0) ≡ word k
    = λ k l. rw (e, get_d_listed (λ k. exchanged (word k)) n k l) (exchanged_twice (word k) (below_words bytes below (from + k) (omega (arith, length-words bytes)))) in
    rw size (listed_same (λ k. exchanged (get_or row k 0)) word n each) ∙ words-from bytes from n h

-- a row with the words of a block, each with its bytes exchanged
pub taken_block : (bytes : List ℕ) → Below 256 bytes → length bytes ≡ 512 → {row : List ℕ}
    → row ≡ listed (λ k. exchanged (get_or (words_of bytes) k 0)) 256 → exchanged_all row ≡ words_of bytes
taken_block bytes below size {row} e =
    let words = words_of bytes in
    let long : length words ≡ 256 = omega (arith, length-words bytes) in
    let many : length row ≡ 256 = ap length e ∙ length-listed (λ k. exchanged (get_or words k 0)) 256 in
    let each : (k : ℕ) → k < 256 → exchanged (get_or row k 0) ≡ get_or words k 0
    = λ k l. rw (e, get_d_listed (λ k. exchanged (get_or words k 0)) 256 k l) (exchanged_twice (get_or words k 0) (below_words bytes below k (omega arith))) in
    rw many (listed_same (λ k. exchanged (get_or row k 0)) (λ k. get_or words k 0) 256 each) ∙ sym (listed_is (λ k. get_or words k 0) 256 words long (λ k l. refl))
