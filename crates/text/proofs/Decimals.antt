-- The decimal digits of a number are what the library's `Display` shows of it. Goes by induction on the number of steps, of which it
-- needs no more than the number itself. Assumes nothing.
use Rattle.std.specs.Prelude.{ℕ, zero, suc, ◌+◌, ◌*◌, ◌/◌, ◌%◌, ◌^◌, ◌<◌, ◌≤◌, ◌≡◌, refl, Bool, true, false, [], ◌∷◌, ◌++◌, ltb, length}
use Rattle.std.specs.Fmt as shown
use Rattle.std.proofs.Common.{sym, ◌∙◌, arith, length-append, lt-ltb, le-ltb, ltb-true, ltb-false}
use Rattle.std.proofs.Math.Nat.{pow-succ'}
use Rattle.std.proofs.lemmas.Fmt.{decimal_from_appends, length-decimal-le_succ}
use Rattle.rules.specs.Words.{word_values}
use Rattle.text.specs.Texts.{zero_digit, digits, decimal, most_digits}

-- one digit, and more
digits_one : (k n : ℕ) → n < 10 → digits k n ≡ (zero_digit + n) ∷ []
unfolding digits
digits_one zero n l = refl
digits_one (suc k) n l = rw (lt-ltb n 10 l, digits)

digits_more : (k n : ℕ) → 10 ≤ n → digits (suc k) n ≡ digits k (n / 10) ++ ((zero_digit + n % 10) ∷ [])
unfolding digits
digits_more k n l = rw (le-ltb n 10 l, digits)

-- steps to spare change nothing
digits_same : (k j n : ℕ) → n ≤ k → n ≤ j → digits k n ≡ digits j n
digits_same zero j n l m = digits_one zero n (omega arith) ∙ sym (digits_one j n (omega arith))
digits_same (suc k) zero n l m = digits_one (suc k) n (omega arith) ∙ sym (digits_one zero n (omega arith))
digits_same (suc k) (suc j) n l m = go (ltb n 10) refl (digits_same k j (n / 10))
  where
    go : (t : Bool) → ltb n 10 ≡ t → (n / 10 ≤ k → n / 10 ≤ j → digits k (n / 10) ≡ digits j (n / 10)) → digits (suc k) n ≡ digits (suc j) n
    go true e ih = digits_one (suc k) n (ltb-true n 10 e) ∙ sym (digits_one (suc j) n (ltb-true n 10 e))
    go false e ih =
        let u : 10 ≤ n = ltb-false n 10 e in
        rw (digits_more k n u, digits_more j n u, ih (omega arith) (omega arith))

pub decimal_shown : (n : ℕ) → n < word_values → shown.decimal n ≡ decimal n
unfolding decimal
decimal_shown n l =
    sym (decimal_from_appends digits (record { one = λ k m. digits_one (suc k) m; more = digits_more }) (suc n) n l (omega (arith, length-decimal-le_succ n l)))
    ∙ digits_same (suc n) n n (omega arith) (omega arith)

-- laws that no proof cites now; they stand as they were stated
pub decimal_one : (n : ℕ) → n < 10 → decimal n ≡ (zero_digit + n) ∷ []
unfolding decimal
decimal_one n l = digits_one n n l

pub decimal-more : (n : ℕ) → 10 ≤ n → decimal n ≡ decimal (n / 10) ++ ((zero_digit + n % 10) ∷ [])
unfolding decimal
decimal-more zero l = absurd (omega arith)
decimal-more (suc k) l = rw (digits_more k (suc k) l, digits_same k (suc k / 10) (suc k / 10) (omega arith) (omega arith))

pub decimal_longer : (n : ℕ) → 10 ≤ n → length (decimal n) ≡ length (decimal (n / 10)) + 1
decimal_longer n l = rw (decimal-more n l, length-append)

-- at most twenty digits
digits_short : (d k n : ℕ) → n < 10 ^ suc d → length (digits k n) ≤ suc d
unfolding digits
digits_short zero k n l = rw (digits_one k n (omega arith)) (omega arith)
digits_short (suc d) zero n l = omega arith
digits_short (suc d) (suc k) n l = go (ltb n 10) refl (digits_short d k (n / 10))
  where
    go : (t : Bool) → ltb n 10 ≡ t → (n / 10 < 10 ^ suc d → length (digits k (n / 10)) ≤ suc d) → length (digits (suc k) n) ≤ suc (suc d)
    go true e ih = rw (digits_one (suc k) n (ltb-true n 10 e)) (omega arith)
    go false e ih =
        let m : n < 10 * 10 ^ suc d = rw pow-succ' at l in
        let s = ih (omega arith) in
        rw (digits_more k n (ltb-false n 10 e), length-append) (omega arith)

pub decimal_short : (n : ℕ) → n < word_values → length (decimal n) ≤ most_digits
unfolding decimal
decimal_short n l = digits_short 19 n n (omega arith)
