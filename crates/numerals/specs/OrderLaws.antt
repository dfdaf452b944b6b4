-- A word cut at its first comma: the only way to take it apart, since no number has a comma in it.
-- Assumes nothing.
use Rattle.std.specs.Prelude.{ℕ, zero, suc, ◌+◌, ◌-◌, ◌<◌, ◌≤◌, ◌≡◌, refl, Bool, true, false, ◌&&◌, List, [], ◌∷◌, ◌++◌, leb, length, get_or, take, drop, Option, Some, None, cond, eqb}
use Rattle.std.proofs.Common.{sym, subst, ◌∙◌, not-suc-le-zero, le_of_suc-le-suc, add-one, arith, length-append, length-drop, take_all, take_at}
use Rattle.std.specs.List.{position, position_or_len}
use Rattle.std.proofs.lemmas.Bool.{false≢true, eq-eqb, eqb-true, lt-ltb}
use Rattle.std.proofs.lemmas.List.Quantifiers.{position-Some}
use Rattle.std.proofs.lemmas.List.Sums.{fails_before_first}
use Rattle.std.proofs.lemmas.Option.{none-some, same_Some, cond_some}
use Rattle.std.proofs.Math.Bool.{and-eq-true_iff}
use Rattle.std.proofs.Math.Logic.{by_cases}
use Rattle.std.proofs.Math.Decide.{dec_le}
use Rattle.std.proofs.Math.ListN.{get_or-append}
use Rattle.std.proofs.Math.Seq.{split_at, get_or-append_seam, drop-append-add}
use Rattle.numerals.specs.Numeral.{digit, all_digits, said, is_number, NumberRead}
use Rattle.numerals.specs.NumeralLaws.{digit_bounds}
use Rattle.numerals.specs.Order.{Says, OrderSaid, OrderRead}
use Rattle.numerals.specs.declared.order.OrderWord.{OrderWord}

-- the first comma's place, or the word's end
pub record FirstComma (word : List ℕ) (at : ℕ) : Type 0 where
  pub within : at ≤ length word
  pub before : (k : ℕ) → k < at → get_or word k 0 ≡ 44 → ⊥
  pub found : at < length word → get_or word at 0 ≡ 44

no_comma : (a : List ℕ) → all_digits a ≡ true → (k : ℕ) → k < length a → get_or a k 0 ≡ 44 → ⊥
unfolding all_digits
no_comma [] d k l e = not-suc-le-zero l
no_comma (x ∷ xs) d zero l e = let h = digit_bounds x ((and-eq-true_iff (digit x) (all_digits xs)).0 d).0 in omega arith
no_comma (x ∷ xs) d (suc k) l e = no_comma xs ((and-eq-true_iff (digit x) (all_digits xs)).0 d).1 k (le_of_suc-le-suc l) e

module _ {word : List ℕ} {at : ℕ} (h : FirstComma word at) where
  pub cut : at < length word → word ≡ take at word ++ (44 ∷ drop (at + 1) word)
  cut l = rw (add-one, ← h.found l) (split_at word at 0 l)

  module _ (a rest : List ℕ) (d : all_digits a ≡ true) (e : word ≡ a ++ (44 ∷ rest)) where
    longer : length a < length word
    longer = rw (e, length-append) (omega arith)

    here : get_or word (length a) 0 ≡ 44
    here = rw e (get_or-append_seam a 44 rest 0)

    -- not before a's end, where no comma is, and not past it, where one is
    not_before : at < length a → ⊥
    not_before l = no_comma a d at l (sym (rw e (get_or-append a (44 ∷ rest) 0 at l)) ∙ h.found (omega (arith, longer)))

    only-place : length a ≡ at
    only-place =
        by_cases (dec_le (length a) at)
        (λ l. by_cases (dec_le at (length a)) (λ g. omega arith) (λ g. absurd (h.before (length a) (omega arith) here)))
        (λ l. absurd (not_before (omega arith)))

    pub cut-within : at < length word
    cut-within = omega (arith, longer, only-place)

    pub cut_front : a ≡ take at word
    cut_front = rw e (sym (take_at a (44 ∷ rest) at only-place))

    pub cut-rest : rest ≡ drop (at + 1) word
    cut-rest = rw (e, ← only-place) (sym (drop-append-add a (44 ∷ rest) 1))

-- a part that goes on to the end
pub to_the_end : (k : ℕ) (word : List ℕ) → take (length word - k) (drop k word) ≡ drop k word
to_the_end k word = take_all (length word - k) (drop k word) (rw length-drop (omega arith))

-- the comma that a search from the front finds
abbrev pub is_comma : ℕ → Bool
is_comma byte = eqb byte 44

found_at : (word : List ℕ) (at : ℕ) → position is_comma word ≡ Some at → (at < length word) × FirstComma word at
found_at word at e =
    let found = position-Some is_comma word at 0 e in (
      found.0,
      record {
        within = omega arith;
        before = λ k l is. false≢true (sym (found.2 k l) ∙ eq-eqb (get_or word k 0) 44 is);
        found = λ l. eqb-true (get_or word at 0) 44 found.1;
      },
    )

pub comma_some : {word : List ℕ} {at : ℕ} → position is_comma word ≡ Some at → FirstComma word at
comma_some {word} {at} e = (found_at word at e).1

pub comma_within : (word : List ℕ) (at : ℕ) → position is_comma word ≡ Some at → at < length word
comma_within word at e = (found_at word at e).0

pub comma_none : {word : List ℕ} → position is_comma word ≡ None → FirstComma word (length word)
comma_none {word} e =
    let at = position_or_len is_comma word in
    by_cases (dec_le (length word) at)
    (λ l. record {
      within = omega arith;
      before = λ k below is. false≢true (sym (fails_before_first is_comma word k 0 (omega arith)) ∙ eq-eqb (get_or word k 0) 44 is);
      found = λ below. absurd (omega arith);
    })
    (λ l. absurd (none-some at (sym e ∙ rw (lt-ltb at (length word) (omega arith)))))

-- what a word was read as
cond_none : (b : Bool) (x : ℕ) → None ≡ cond b (Some x) None → b ≡ false
cond_none true x e = absurd (none-some x e)
cond_none false x e = refl

pub read_says : {word : List ℕ} {v : ℕ} → NumberRead word (Some v) → Says word v
read_says {word} {v} h = let number = cond_some (is_number word) (said word) v (sym h.read) in (number.0, sym number.1)

pub not_number : {word : List ℕ} → NumberRead word None → is_number word ≡ false
not_number {word} h = cond_none (is_number word) (said word) h.read

read_not : {word : List ℕ} → NumberRead word None → is_number word ≡ true → ⊥
read_not h number = false≢true (sym (not_number h) ∙ number)

number_digits : (word : List ℕ) → is_number word ≡ true → all_digits word ≡ true
number_digits word e =
    ((and-eq-true_iff (all_digits word) (leb (said word) 4294967295)).0
    ((and-eq-true_iff (leb 1 (length word) && leb (length word) 10) (all_digits word && leb (said word) 4294967295)).0 e).1).0

-- two numbers with a comma between
pub record Pair (word : List ℕ) (f n : ℕ) : Type 0 where
  pub b : List ℕ
  pub c : List ℕ
  pub joined : word ≡ b ++ (44 ∷ c)
  pub second : Says b f
  pub third : Says c n

pub record PairRead (word : List ℕ) (r : Option (ℕ × ℕ)) : Type 0 where
  pub some : (p : ℕ × ℕ) → r ≡ Some p → Pair word p.0 p.1
  pub none : r ≡ None → (f n : ℕ) → Pair word f n → ⊥

no_pair : {word : List ℕ} → ((f n : ℕ) → Pair word f n → ⊥) → PairRead word None
no_pair never = record { some = λ p e. absurd (none-some _ e); none = λ e. never }

no_order : {word : List ℕ} → ((t f n : ℕ) → OrderSaid word t f n → ⊥) → OrderRead word None
no_order never = record { some = λ o e. absurd (none-some _ e); none = λ e. never }

module _ {word : List ℕ} where
  -- a word with no comma
  pub pair_none : FirstComma word (length word) → PairRead word None
  pair_none h = no_pair (λ f n p. omega (arith, cut-within h p.b p.c (number_digits p.b p.second.0) p.joined))

  pub order_none : FirstComma word (length word) → OrderRead word None
  order_none h =
      no_order (λ t f n p. omega (arith, cut-within h p.a (p.b ++ (44 ∷ p.c)) (number_digits p.a p.first.0) p.joined))

module _ {word : List ℕ} {at : ℕ} (h : FirstComma word at) where
  -- a word with one, and no number in front of it, or behind it
  pub pair_no_front : NumberRead (take at word) None → PairRead word None
  pair_no_front none =
      no_pair (λ f n p. let front = rw (cut_front h p.b p.c (number_digits p.b p.second.0) p.joined) at p.second.0 in read_not none front)

  pub pair_no_back : NumberRead (drop (at + 1) word) None → PairRead word None
  pair_no_back none =
      no_pair (λ f n p. let back = rw (cut-rest h p.b p.c (number_digits p.b p.second.0) p.joined) at p.third.0 in read_not none back)

  pub order_no_front : NumberRead (take at word) None → OrderRead word None
  order_no_front none =
      no_order (λ t f n p. let front = rw (cut_front h p.a (p.b ++ (44 ∷ p.c)) (number_digits p.a p.first.0) p.joined) at p.first.0 in read_not none front)

  -- what an order has behind its first comma
  behind : {t f n : ℕ} → OrderSaid word t f n → Pair (drop (at + 1) word) f n
  behind {f = f} {n = n} p =
      let pair : Pair (p.b ++ (44 ∷ p.c)) f n = record { b = p.b; c = p.c; joined = refl; second = p.second; third = p.third } in
      rw (cut-rest h p.a (p.b ++ (44 ∷ p.c)) (number_digits p.a p.first.0) p.joined) at pair

  pub order_no_back : PairRead (drop (at + 1) word) None → OrderRead word None
  order_no_back rest = no_order (λ t f n p. rest.none refl f n (behind p))

  module _ (l : at < length word) where
    -- its number and what is behind it
    pub pair_read : {f n : ℕ} → NumberRead (take at word) (Some f) → NumberRead (drop (at + 1) word) (Some n) → PairRead word (Some (f, n))
    pair_read {f} {n} first rest =
        let pair : Pair word f n = record { b = take at word; c = drop (at + 1) word; joined = cut h l; second = read_says first; third = read_says rest } in
        record { some = λ p e. subst (λ (q : ℕ × ℕ). Pair word q.0 q.1) (same_Some _ _ e) pair; none = λ e. absurd (none-some _ (sym e)) }

    pub order_read : {t f n : ℕ} → NumberRead (take at word) (Some t) → PairRead (drop (at + 1) word) (Some (f, n)) → OrderRead word (Some (record { t = t; f = f; n = n }))
    order_read {t} {f} {n} first rest =
        let pair = rest.some (f, n) refl in
        let order : OrderSaid word t f n = record {
          a = take at word;
          b = pair.b;
          c = pair.c;
          joined = rw (← pair.joined) (cut h l);
          first = read_says first;
          second = pair.second;
          third = pair.third;
        } in
        record { some = λ o e. subst (λ (q : OrderWord). OrderSaid word q.t q.f q.n) (same_Some _ _ e) order; none = λ e. absurd (none-some _ (sym e)) }
