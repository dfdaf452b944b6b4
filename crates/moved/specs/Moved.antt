-- A move: which old keepers cut their letters again, what each new keeper is handed, and what all new keepers weigh.
-- Assumes nothing.
use Rattle.std.specs.Prelude.{ℕ, suc, ◌+◌, ◌*◌, ◌<◌, ◌≡◌, true, List, length, get_or}
use Rattle.lists.specs.Below.{Below}
use Rattle.lists.specs.Different.{Different}
use Rattle.lists.specs.Listed.{listed}
use Rattle.lists.specs.Pieces.{pieces}
use Rattle.algebra.specs.Combine.{factors}
use Rattle.algebra.specs.Field.{Ops}
use Rattle.algebra.specs.Mixed.{mixed}
use Rattle.header.specs.Order.{lawful_order, lawful_keeper}
use Rattle.header.specs.Terms.{lawful_stamp, lawful_length}
use Rattle.header.specs.Told.{lawful_told}
use Rattle.tray.specs.Tray.{slot_of}
use Rattle.moving.specs.declared.terms.Move.{Move}
use Rattle.moving.specs.Cutting.{sub_tray}
use Rattle.weighing.specs.Weighing.{weighed_letter}

-- What one move is given: lawful orders, key, stamp and length, and "exactly t+1 old keepers", different ones in any order. Old keeper number k of these
-- has a letter with the share words `shares k`, and cuts it again "with fresh random words", `random k`.
pub record OneMove (O : Ops) (m : Move) (froms : List ℕ) (shares random : ℕ → List ℕ) : Type 0 where
  pub old_lawful : lawful_order m.old ≡ true
  pub told_lawful : lawful_told m.told ≡ true
  pub stamp_lawful : lawful_stamp m.stamp ≡ true
  pub length_lawful : lawful_length m.length ≡ true
  pub many : length froms ≡ m.old.t + 1
  pub different : Different froms
  pub keepers : (k : ℕ) → k < length froms → lawful_keeper m.old (get_or froms k 0) ≡ true
  pub shares_size : (k : ℕ) → k < length froms → length (shares k) ≡ m.length
  pub shares_below : (k : ℕ) → k < length froms → Below O.q (shares k)
  pub random_size : (k : ℕ) → k < length froms → length (random k) ≡ m.length * m.told.order.t
  pub random_below : (k : ℕ) → k < length froms → Below O.q (random k)

-- the sub-letters that new keeper x is handed, end to end: slot x of what each of these old keepers cut
unfoldable pub handed_to : Ops → Move → List ℕ → (ℕ → List ℕ) → (ℕ → List ℕ) → ℕ → List ℕ
handed_to O m froms shares random x =
    pieces (λ k. slot_of (sub_tray O m.told m.stamp (get_or froms k 0) (shares k) (random k)) x) (length froms)

-- "the new tray": what every new keeper weighs, each in its slot
unfoldable pub moved_tray : Ops → Move → List ℕ → (ℕ → List ℕ) → (ℕ → List ℕ) → List ℕ
moved_tray O m froms shares random =
    pieces (λ k. weighed_letter O m (suc k) (handed_to O m froms shares random (suc k)) (length froms)) m.told.order.n

-- lists, one of each old keeper, weighed word by word "with the factors that carry the old values to zero": the "weighted sums" of `count` words
unfoldable pub weighted_sums : Ops → List ℕ → (ℕ → List ℕ) → ℕ → List ℕ
weighted_sums O froms lists count = listed (λ i. mixed O (factors O froms 0) (length froms) (λ k. get_or (lists k) i 0)) count

-- the constants that the new letters are cut from: of what the old keepers hold
abbrev pub carried_words : Ops → Move → List ℕ → (ℕ → List ℕ) → List ℕ
carried_words O m froms shares = weighted_sums O froms shares m.length

-- "random words that are the same weighted sums"
abbrev pub carried_random : Ops → Move → List ℕ → (ℕ → List ℕ) → List ℕ
carried_random O m froms random = weighted_sums O froms random (m.length * m.told.order.t)
