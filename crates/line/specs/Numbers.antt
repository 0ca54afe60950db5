-- Laws of the number of a field: what a digit adds, what is no digit, and what lies past 64 bits. Assumes nothing.
use Rattle.std.specs.Prelude.{ℕ, ◌+◌, ◌-◌, ◌*◌, ◌/◌, ◌<◌, ◌≤◌, ◌≡◌, refl, Bool, true, false, ◌&&◌, Option, Some, None, List, [], ◌∷◌, leb, length, get_or, drop}
use Rattle.std.proofs.Common.{ap, sym, ◌∙◌, arith, le-ltb, lt-ltb, leb-true, add-one, drop-cons, drop_of_length-le}
use Rattle.rules.specs.Words.{word_values}
use Rattle.text.specs.Texts.{zero_digit}
use Rattle.line.specs.Lines.{is_digit, value_from, in_word, number}

-- a field that is not empty is judged by its value
pub number_value : (s : List ℕ) → (length s ≡ 0 → ⊥) → in_word (value_from 0 s) ≡ number s
unfolding number
number_value [] n = absurd (n refl)
number_value (b ∷ bs) n = refl

pub number_empty : (s : List ℕ) → length s ≡ 0 → number s ≡ None
unfolding number
number_empty [] e = refl
number_empty (b ∷ bs) e = absurd (omega arith)

-- at the end of the digits, at a byte that is no digit, and past a digit
pub value_done : (n : ℕ) → n < word_values → in_word (value_from n []) ≡ Some n
unfolding value_from
value_done n l = rw (lt-ltb n word_values l)

module _ (n b : ℕ) (bs : List ℕ) where
  pub value_stops : is_digit b ≡ false → value_from n (b ∷ bs) ≡ None
  unfolding value_from
  value_stops e = rw (e, value_from)

  pub value_goes : is_digit b ≡ true → value_from n (b ∷ bs) ≡ value_from (10 * n + (b - zero_digit)) bs
  unfolding value_from
  value_goes e = rw (e, value_from)

-- a value past 64 bits stays there, whatever follows
pub past_word : (bs : List ℕ) (n : ℕ) → word_values ≤ n → in_word (value_from n bs) ≡ None
unfolding value_from
past_word [] n l = rw (le-ltb n word_values l)
past_word (b ∷ bs) n l = go (is_digit b) refl (past_word bs)
  where
    go : (t : Bool) → is_digit b ≡ t → ((m : ℕ) → word_values ≤ m → in_word (value_from m bs) ≡ None) → in_word (value_from n (b ∷ bs)) ≡ None
    go true e ih = rw (value_goes n b bs e) (ih (10 * n + (b - zero_digit)) (omega arith))
    go false e ih = rw (value_stops n b bs e)

-- a digit that the value has no room for
digit_past : (n b : ℕ) (bs : List ℕ) → is_digit b ≡ true → word_values ≤ 10 * n + (b - zero_digit) → in_word (value_from n (b ∷ bs)) ≡ None
digit_past n b bs e l = rw (value_goes n b bs e) (past_word bs (10 * n + (b - zero_digit)) l)

-- a field at its byte i: n is the value of the digits before it, and what is left decides
module _ (s : List ℕ) (n i : ℕ) (inv : in_word (value_from n (drop i s)) ≡ number s) where
  -- at the end
  pub number_end : length s ≤ i → n < word_values → Some n ≡ number s
  number_end l small = sym (value_done n small) ∙ ap (λ bs. in_word (value_from n bs)) (sym (drop_of_length-le s l)) ∙ inv

  module _ (l : i < length s) where
    -- byte i and those after it
    at_byte : in_word (value_from n (get_or s i 0 ∷ drop (i + 1) s)) ≡ number s
    at_byte = ap (λ bs. in_word (value_from n bs)) (sym (rw add-one (drop-cons s i 0 l))) ∙ inv

    pub number_stops : is_digit (get_or s i 0) ≡ false → None ≡ number s
    number_stops e = ap in_word (sym (value_stops n (get_or s i 0) (drop (i + 1) s) e)) ∙ at_byte

    module _ (e : is_digit (get_or s i 0) ≡ true) where
      pub number_goes : in_word (value_from (10 * n + (get_or s i 0 - zero_digit)) (drop (i + 1) s)) ≡ number s
      number_goes = ap in_word (sym (value_goes n (get_or s i 0) (drop (i + 1) s) e)) ∙ at_byte

      pub number_past : word_values ≤ 10 * n + (get_or s i 0 - zero_digit) → None ≡ number s
      number_past l = sym (digit_past n (get_or s i 0) (drop (i + 1) s) e l) ∙ at_byte

-- laws that no proof cites now; they stand as they were stated: a digit is one of ten bytes
pub digit_range : (b : ℕ) → is_digit b ≡ true → (zero_digit ≤ b) × (b ≤ 57)
unfolding is_digit
digit_range b e = go (leb zero_digit b) refl (leb b 57) refl e
  where
    go : (t : Bool) → leb zero_digit b ≡ t → (u : Bool) → leb b 57 ≡ u → (t && u) ≡ true → (zero_digit ≤ b) × (b ≤ 57)
    go true p true q f = (leb-true zero_digit b p, leb-true b 57 q)
    go true p false q f = absurd (let z : ◌≡◌ {A = ℕ} 0 1 = cc in omega arith)
    go false p u q f = absurd (let z : ◌≡◌ {A = ℕ} 0 1 = cc in omega arith)

-- a digit that the value has no room for, as a test before the sum finds it
pub value_past : (n b : ℕ) (bs : List ℕ) → is_digit b ≡ true → (word_values - 1 - (b - zero_digit)) / 10 < n → in_word (value_from n (b ∷ bs)) ≡ None
value_past n b bs e l = let d = digit_range b e in digit_past n b bs e (omega arith)

-- what an answer that is the number says of it; the code's answer is the rule's Option now (no proof cites these)
pub number_not : (o r : Option ℕ) → r ≡ o → r ≡ None → o ≡ None
number_not o r p q = sym p ∙ q

pub number_is : (o r : Option ℕ) (n : ℕ) → r ≡ o → r ≡ Some n → o ≡ Some n
number_is o r n p q = sym p ∙ q
