-- What a list of stores leaves at a word: the last store there wins, a word that only the last store goes to is what it was until then, and a
-- run of zeros leaves 0 in each of its words. By induction on the stores. Assumes nothing.
use Rattle.std.specs.Prelude.{ℕ, zero, suc, ◌+◌, ◌*◌, ◌<◌, ◌≤◌, ◌≡◌, refl, true, ◌⊎◌, List, [], ◌∷◌, ◌++◌, length, take, replicate}
use Rattle.std.proofs.Common.{sym, ◌∙◌, inl, inr, ⊎_elim, arith, ext_get_or, get_or-drop, get_or-take, eq-eqb}
use Rattle.std.proofs.lemmas.List.{length-replicate, get_or-replicate}
use Rattle.std.proofs.Math.Seq.{slice, length-slice}
use Rattle.rules.specs.Words.{Image, Mem, Store, upd, after, zeros, all_zero, word_bytes}
use Rattle.word.specs.Memory.{upd_same, upd_other, after-append}
use Rattle.word.specs.Blank.{ZeroBytes}
use Rattle.laws.specs.Searches.{each_append}
use Rattle.loss.specs.Redo.{Other, Spares, after_spared}

-- whatever the memory, it is as P says after the stores; and P may be that o has the word w
abbrev pub Leaves : (Mem → Type 0) → List Store → Type 0
Leaves P st = (m : Mem) → P (after m st)

abbrev pub At : ℕ → ℕ → Mem → Type 0
At o w m = m o ≡ w

-- the last store to a word wins
pub leaves_last : (s : Store) (st : List Store) → Spares s.to st → Leaves (At s.to s.word) (s ∷ st)
unfolding after
leaves_last s st e m = after_spared (upd m s.to s.word) st s.to e ∙ upd_same m s.to s.word

-- whatever the stores before
pub leaves_behind : (P : Mem → Type 0) (p q : List Store) → Leaves P q → Leaves P (p ++ q)
leaves_behind P p q f m = rw (after-append m p q) (f (after m p))

-- cut before its last store, a list leaves the word at o what it was
abbrev pub Late : ℕ → List Store → Type 0
Late o st = (m : Mem) (j : ℕ) → j < length st → after m (take j st) o ≡ m o

pub late_one : (o : ℕ) (s : Store) → Late o (s ∷ [])
unfolding after
late_one o s m zero l = refl
late_one o s m (suc j) l = absurd (omega arith)

pub late_behind : (o : ℕ) (p q : List Store) → Spares o p → Late o q → Late o (p ++ q)
unfolding after
late_behind o [] q e f m j l = f m j l
late_behind o (s ∷ p) q e f m zero l = refl
late_behind o (s ∷ p) q e f m (suc j) l =
    late_behind o p q e.1 f (upd m s.to s.word) j (omega arith) ∙ upd_other m s.to s.word o e.0

-- a run of zeros: none of its stores goes outside
pub zeros_other : (o i k : ℕ) → (o < i) ⊎ (i + word_bytes * k ≤ o) → Spares o (zeros i k)
unfolding zeros
zeros_other o i zero d = tt
zeros_other o i (suc k) d =
    (⊎_elim (λ x. omega arith) (λ x. omega arith) d, zeros_other o (i + word_bytes) k (⊎_elim (λ x. inl (omega arith)) (λ x. inr (omega arith)) d))

-- its first word is left 0, and all of its words, if nothing is stored there later
pub zeros-first : (i k : ℕ) (st : List Store) → Spares i st → Leaves (At i 0) (zeros i (suc k) ++ st)
unfolding zeros
zeros-first i k st e = leaves_last _ _ (each_append (Other i) (zeros (i + word_bytes) k) st (zeros_other i (i + word_bytes) k (inl (omega arith))) e)

pub zeros_blank : (k i : ℕ) (st : List Store) → ((o : ℕ) → i ≤ o → o < i + word_bytes * k → Spares o st) → Leaves (λ m. all_zero m i k ≡ true) (zeros i k ++ st)
unfolding zeros all_zero after
zeros_blank zero i st f m = refl
zeros_blank (suc k) i st f m =
    rw (eq-eqb (after m (zeros i (suc k) ++ st) i) 0 (zeros-first i k st (f i (omega arith) (omega arith)) m))
    (zeros_blank k (i + word_bytes) st (λ o l u. f o (omega arith) (omega arith)) (upd m i 0))

-- bytes of 0, as a list
pub zero_slice : (a k : ℕ) (img : Image) → a + k ≤ length img → ZeroBytes img a (a + k) → slice a (a + k) img ≡ replicate k 0
zero_slice a k img l z =
    let n : length (slice a (a + k) img) ≡ k = length-slice a (a + k) img l ∙ omega arith in
    ext_get_or 0 (slice a (a + k) img) (replicate k 0) (n ∙ sym (length-replicate k 0))
    (λ i u. get_or-drop a (take (a + k) img) i 0 ∙ get_or-take (a + k) img (a + i) 0 (omega arith) ∙ z (a + i) (omega arith) (omega arith) ∙ sym (get_or-replicate k i 0 0 (omega arith)))
