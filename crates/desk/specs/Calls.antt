-- "From an empty slot, with no damage between calls and every call told the same order and keeper .., the desk holds the first good
-- letter for it with the greatest stamp offered." Every call is told the same key too.
-- Assumes nothing.
use Rattle.std.specs.Prelude.{ℕ, ◌<◌, ◌≤◌, ◌≡◌, Bool, true, false, cond, ◌⊎◌, ltb, length}
use Rattle.std.proofs.Math.Path.{refl}
use Rattle.std.proofs.Common.{ap, subst, ◌∙◌, inr, ⊎_elim, arith, ltb-true, ltb-false}
use mathlib.Core.List.{List, [], ◌∷◌, ◌++◌}
use Rattle.std.proofs.Math.Logic.{inl}
use Rattle.std.proofs.lemmas.List.{length-replicate}
use Rattle.header.specs.declared.told.Told.{Told}
use Rattle.format.specs.Zeros.{zero_slot, zeros_read}
use Rattle.desk.specs.Desk.{stamp_held, desk_right, store_leaves}
use Rattle.desk.specs.GoodHere.{GoodHere, good_stamp, stamp_good}
use Rattle.desk.specs.StoreLaws.{leaves_size, leaves_newer}

-- what is held after slots have been offered, one after the other: each call leaves what `StoreDone` says
unfoldable pub desk_after : Told → ℕ → List ℕ → List (List ℕ) → List ℕ
desk_after told keeper held [] = held
desk_after told keeper held (offer ∷ offers) = desk_after told keeper (store_leaves told keeper held offer) offers

-- a claim of every slot of a list
abbrev pub Each : (List ℕ → Type 0) → List (List ℕ) → Type 0
Each P [] = Unit {0}
Each P (slot ∷ slots) = P slot × Each P slots

each_so : (P Q : List ℕ → Type 0) → ((slot : List ℕ) → P slot → Q slot) → (slots : List (List ℕ)) → Each P slots → Each Q slots
each_so P Q so [] each = tt
each_so P Q so (slot ∷ slots) each = (so slot each.0, each_so P Q so slots each.1)

-- "the first good letter for it with the greatest stamp offered"; what is not good counts as stamp 0, less than any letter's
pub record FirstGreatest (told : Told) (keeper : ℕ) (offers : List (List ℕ)) (letter : List ℕ) : Type 0 where
  pub earlier : List (List ℕ)
  pub later : List (List ℕ)
  pub among : offers ≡ earlier ++ (letter ∷ later)
  pub good : GoodHere told keeper letter
  pub greater : Each (λ offer. stamp_held told keeper offer < stamp_held told keeper letter) earlier
  pub greatest : Each (λ offer. stamp_held told keeper offer ≤ stamp_held told keeper letter) later

-- where no offer is good, the slot is as it was
abbrev pub Holds : Told → ℕ → List ℕ → List (List ℕ) → List ℕ → Type 0
Holds told keeper empty offers left =
    (Each (λ offer. GoodHere told keeper offer → ⊥) offers × (left ≡ empty)) ⊎ FirstGreatest told keeper offers left

module _ (told : Told) (keeper : ℕ) where
  abbrev stamp : List ℕ → ℕ
  stamp = stamp_held told keeper

  -- from any slot: it is held still, and nothing newer was offered; or the first of the greatest stamp is held, which is newer
  abbrev After : List ℕ → List (List ℕ) → List ℕ → Type 0
  After held offers left =
      (Each (λ offer. stamp offer ≤ stamp held) offers × (left ≡ held)) ⊎ (FirstGreatest told keeper offers left × (stamp held < stamp left))

  -- what is first among the later offers is first where one of a smaller stamp comes before them
  found_later : (offer : List ℕ) (offers : List (List ℕ)) (left : List ℕ) → stamp offer < stamp left
      → FirstGreatest told keeper offers left → FirstGreatest told keeper (offer ∷ offers) left
  found_later offer offers left less found =
      record {
        earlier = offer ∷ found.earlier;
        later = found.later;
        among = ap (λ (slots : List (List ℕ)). offer ∷ slots) found.among;
        good = found.good;
        greater = (less, found.greater);
        greatest = found.greatest;
      }

  one_more : (held offer : List ℕ) (offers : List (List ℕ)) (left : List ℕ) (newer : Bool) → ltb (stamp held) (stamp offer) ≡ newer
      → After (cond newer offer held) offers left → After held (offer ∷ offers) left
  one_more held offer offers left true e (inl kept) =
      let less = ltb-true (stamp held) (stamp offer) e in
      let first : FirstGreatest told keeper (offer ∷ offers) offer =
      record { earlier = []; later = offers; among = refl; good = stamp_good told keeper offer (omega arith); greater = tt; greatest = kept.0 } in
      rw kept.1 (inr (first, less))
  one_more held offer offers left true e (inr found) =
      let less = ltb-true (stamp held) (stamp offer) e in
      inr (found_later offer offers left found.1 found.0, omega arith)
  one_more held offer offers left false e (inl kept) = inl ((ltb-false (stamp held) (stamp offer) e, kept.0), kept.1)
  one_more held offer offers left false e (inr found) =
      let most = ltb-false (stamp held) (stamp offer) e in
      inr (found_later offer offers left (omega arith) found.0, found.1)

  module _ (right : desk_right told keeper ≡ true) where
    after : (offers : List (List ℕ)) (held : List ℕ) → length held ≡ 2048 → After held offers (desk_after told keeper held offers)
    unfolding desk_after
    after [] held size = inl (tt, refl)
    after (offer ∷ offers) held size =
        let next = store_leaves told keeper held offer in
        one_more held offer offers (desk_after told keeper next offers) (ltb (stamp held) (stamp offer)) refl
        (subst (λ (slot : List ℕ). After slot offers (desk_after told keeper next offers)) (leaves_newer told keeper held offer right size)
        (after offers next (leaves_size told keeper held offer ∙ size)))

    -- from any slot that counts as empty
    pub desk_holds : (empty : List ℕ) → length empty ≡ 2048 → stamp_held told keeper empty ≡ 0 → (offers : List (List ℕ))
        → Holds told keeper empty offers (desk_after told keeper empty offers)
    desk_holds empty size none offers =
        let not_good : (offer : List ℕ) → stamp offer ≤ stamp empty → GoodHere told keeper offer → ⊥ = λ offer most good. omega (arith, good_stamp told keeper offer good) in
        ⊎_elim (λ kept. inl (each_so _ _ not_good offers kept.0, kept.1)) (λ found. inr found.0) (after offers empty size)

    -- the same of a new desk, whose slot is all zeros
    pub new_desk_holds : (offers : List (List ℕ)) → Holds told keeper zero_slot offers (desk_after told keeper zero_slot offers)
    unfolding stamp_held
    new_desk_holds = desk_holds zero_slot (length-replicate {A = ℕ} 2048 0) (rw zeros_read)
