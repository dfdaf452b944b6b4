-- Nothing that differs is left out: where a comparison counts no difference, the two trays are the same, byte for byte.
-- Assumes nothing.
use Rattle.std.specs.Prelude.{ℕ, ◌*◌, ◌<◌, ◌≡◌, refl, Bool, true, false, List, [], ◌∷◌, length, get_or}
use Rattle.std.proofs.Math.Path.{sym}
use Rattle.std.proofs.Common.{ap, ◌∙◌, arith, ext_get_or, eqb-true}
use Rattle.std.proofs.lemmas.List.{length-map}
use Rattle.std.proofs.lemmas.Bool.{not-false}
use Rattle.lists.specs.Below.{Below}
use Rattle.lists.specs.Chosen.{chosen, in_chosen}
use Rattle.lists.specs.From.{from, in_from}
use Rattle.lists.specs.Member.{In}
use Rattle.block.specs.Words.{bytes_of, words_of}
use Rattle.block.specs.WordLaws.{bytes_words}
use Rattle.block.specs.WordParts.{length-words}
use Rattle.header.specs.declared.order.Order.{Order}
use Rattle.compare.specs.Compare.{Compared}
use Rattle.compare.specs.Compare.{differs, difference, differences, CompareDone, refused, short, told}
use Rattle.compare.specs.CompareLaws.{CompareFacts}
use Rattle.compare.proofs.CompareLaws.{compare_facts, differs-words}

-- a test that none of a list passes fails at each
not_empty : (y : ℕ) (ys : List ℕ) → In y ys → length ys ≡ 0 → ⊥
not_empty y [] m e = m
not_empty y (z ∷ zs) m e = omega arith

none_passes : (f : ℕ → Bool) (xs : List ℕ) → length (chosen f xs) ≡ 0 → (y : ℕ) → In y xs → f y ≡ false
none_passes f xs none y m = step (f y) (in_chosen f xs y m)
  where
    step : (b : Bool) → (b ≡ true → In y (chosen f xs)) → b ≡ false
    step true h = absurd (not_empty y (chosen f xs) (h refl) none)
    step false h = refl

module _ {order : Order} {first second : List ℕ} (facts : CompareFacts order first second) (none : length (differences order first second) ≡ 0) where
  no_place : length (chosen (differs first second) (from 0 (1024 * order.n))) ≡ 0
  unfolding differences
  no_place = sym (length-map (chosen (differs first second) (from 0 (1024 * order.n))) (difference first second)) ∙ none

  same_word : (i : ℕ) → i < 1024 * order.n → get_or (words_of first) i 0 ≡ get_or (words_of second) i 0
  same_word i h =
      let fails = none_passes (differs first second) (from 0 (1024 * order.n)) no_place i (in_from 0 (1024 * order.n) i (omega arith) (omega arith)) in
      eqb-true _ _ (not-false _ (sym (differs-words first second i) ∙ fails))

  same_words : words_of first ≡ words_of second
  same_words =
      ext_get_or 0 (words_of first) (words_of second) (omega (arith, facts, length-words first, length-words second))
      (λ i h. same_word i (omega (arith, facts, length-words first)))

  same_trays : Below 256 first → Below 256 second → first ≡ second
  same_trays b b' =
      sym (bytes_words (1024 * order.n) first (omega (arith, facts)) b)
      ∙ (ap bytes_of same_words ∙ bytes_words (1024 * order.n) second (omega (arith, facts)) b')

pub no_difference : {order : Order} {first second : List ℕ} {list left : List (List ℕ)} {result : Compared} → CompareDone order first second list result left
    → Below 256 first → Below 256 second → result.number ≡ 0 → result.count ≡ 0 → first ≡ second
no_difference (refused h) b b' done none = absurd (h done)
no_difference (short e l) b b' done none = absurd (omega arith)
no_difference {order} {first} {second} (told e l) b b' done none = same_trays (compare_facts order first second e) none b b'
