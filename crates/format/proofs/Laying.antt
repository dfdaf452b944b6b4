-- Laying the words of a block: its header words, its share words and zeros.
-- Assumes nothing.
use Prim.Native.Nat.{ℕ, ◌+◌, ◌-◌, ◌*◌, ◌≤◌}
use mathlib.Core.Path.{◌≡◌, refl, sym, ap, ◌∙◌}
use mathlib.Core.List.{List, [], ◌++◌, append_assoc}
use native.Mathlib.Omega.{arith}
use lib.ListN.{length, take, drop, replicate, length-append, length-replicate}
use lib.Seq.{take_at, take_all}
use Rattle.lists.specs.Patched.{patched, patched_none, patched_more, length-patched}
use Rattle.lists.specs.Zeros.{drop_zeros}
use Rattle.block.specs.Words.{bytes_of, words_of}
use Rattle.block.specs.WordParts.{length-words, length_bytes, words-patched}
use Rattle.header.specs.declared.head.Head.{Head}
use Rattle.header.specs.Head.{head_words}
use Rattle.header.specs.HeaderLaws.{length-head_words}

-- `bytes` with words laid over it from its front
record Laid (bytes words now : List ℕ) : Type 0 where
  size : length now ≡ length bytes
  are : words_of now ≡ patched (words_of bytes) 0 words

laid_more : (bytes words now more : List ℕ) (n : ℕ) → Laid bytes words now → length words ≡ n → 2 * (n + length more) ≤ length bytes
    → (next : List ℕ) → next ≡ patched now (2 * n) (bytes_of more) → Laid bytes (words ++ more) next
laid_more bytes words now more n laid size room next e =
    let here : n ≡ 0 + length words = omega arith in
    record {
      size = ap length e ∙ (length-patched now (2 * n) (bytes_of more) (omega (arith, length_bytes more, laid.size)) ∙ laid.size);
      are =
          ap words_of e
          ∙ (words-patched now n more (omega (arith, laid.size))
          ∙ rw (laid.are, here) (patched_more (words_of bytes) 0 words more (omega (arith, length-words bytes))));
    }

-- the zeros past n share words, of a block's worth of zeros
zeros_left : (n : ℕ) → take {A = ℕ} (238 - n) (drop n (replicate 238 0)) ≡ replicate (238 - n) 0
zeros_left n = rw drop_zeros (take_all (238 - n) (replicate (238 - n) 0) (rw length-replicate (omega arith)))

module _ (mark from : ℕ) (h : Head) (p : ℕ) (shares bytes : List ℕ) (few : length shares ≤ 238) (size : length bytes ≡ 512) where
  pub block_laid : (b₁ b₂ b₃ : List ℕ)
      → b₁ ≡ patched bytes 0 (bytes_of (head_words mark from h p))
      → b₂ ≡ patched b₁ 32 (bytes_of shares)
      → b₃ ≡ patched b₂ (2 * (16 + length shares)) (bytes_of (take (238 - length shares) (drop (length shares) (replicate 238 0))))
      → take 254 (words_of b₃) ≡ head_words mark from h p ++ (shares ++ replicate (238 - length shares) 0)
  block_laid b₁ b₂ b₃ e₁ e₂ e₃ =
      let header = head_words mark from h p in
      let zeros : List ℕ = replicate (238 - length shares) 0 in
      let long = length-head_words mark from h p in
      let rest : length zeros ≡ 238 - length shares = length-replicate (238 - length shares) 0 in
      let none : Laid bytes [] bytes = record { size = refl; are = sym (patched_none (words_of bytes) 0) } in
      let one = laid_more bytes [] bytes header 0 none refl (omega arith) b₁ e₁ in
      let two = laid_more bytes header b₁ shares 16 one long (omega arith) b₂ e₂ in
      let three = laid_more bytes (header ++ shares) b₂ zeros (16 + length shares) two (rw (length-append, long)) (omega arith) b₃ (rw zeros_left at e₃) in
      let words = (header ++ shares) ++ zeros in
      let all : length words ≡ 254 = rw (length-append, length-append) (omega arith) in
      rw three.are (take_at words (drop (0 + length words) (words_of bytes)) 254 all ∙ append_assoc header shares zeros)
