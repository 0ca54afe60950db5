-- A part of the clumps' lines, as much as a buffer has room for: its text and where the walk goes on, by the loop's own recursion, and
-- what `clumps` promises, which is that part, so that any two of its outcomes are equal. The part and then the lines from where the walk
-- goes on are those from its start, and it gets on: by induction on the steps. Assumes nothing.
use Rattle.std.specs.Prelude.{ℕ, zero, suc, ◌+◌, ◌%◌, ◌<◌, ◌≤◌, ◌≡◌, refl, Bool, true, false, ◌&&◌, List, [], ◌++◌, leb, length, take}
use Rattle.std.proofs.Common.{sym, ap, ◌∙◌, append_assoc, arith, add-zero, add_assoc, length-append, le-leb, leb-true}
use Rattle.std.proofs.lemmas.Bool.{lt-leb}
use Rattle.rules.specs.Words.{Mem, word_bytes}
use Rattle.rules.specs.Clumps.{head, header_bytes}
use Rattle.laws.specs.Searches.{and_both, differ}
use Rattle.text.specs.Writing.{Begins, begins_determined}
use Rattle.line.specs.Texts.{three_bytes}
use Rattle.show.specs.declared.Part.{Part}
use Rattle.show.specs.Shown.{lines_from, lines_next, head_text, onward, onward_further, onward_even, room}

-- a text, and the place where the walk goes on
pub record Piece : Type 0 where
  pub text : List ℕ
  pub next : ℕ

abbrev pub in_front : List ℕ → Piece → Piece
in_front t p = record { text = t ++ p.text; next = p.next }

-- one line more behind c bytes: from a on a header is left, and a line of the greatest length has room
abbrev pub one_more : ℕ → ℕ → ℕ → Bool
one_more n a c = leb (a + header_bytes) n && leb (c + three_bytes) room

-- the part from a on behind c bytes, where k is at least what is left of the image
unfoldable pub part_in : ℕ → ℕ → Mem → ℕ → ℕ → Piece
part_in zero n m a c = record { text = []; next = a }
part_in (suc k) n m a c =
    elim (one_more n a c) [
      | true ↦ in_front (head_text (head m a)) (part_in k n m (onward n (head m a)) (c + length (head_text (head m a))))
      | false ↦ record { text = []; next = a }
    ]

-- the part behind the line of the clump at a
abbrev pub part_after : ℕ → ℕ → Mem → ℕ → ℕ → Piece
part_after k n m a c = part_in k n m (onward n (head m a)) (c + length (head_text (head m a)))

-- the part that a buffer takes from its start on
unfoldable pub part_from : ℕ → Mem → ℕ → Piece
part_from n m a = part_in n n m a 0

-- what `clumps` promises: the buffer begins with the part's text, its rest is kept, and the walk goes on where the part says
pub record Shows (n : ℕ) (m : Mem) (from : ℕ) (before after : List ℕ) (r : Part) : Type 0 where
  pub begins : Begins before (part_from n m from).text after r.count
  pub next : r.next ≡ (part_from n m from).next

-- any two outcomes are equal
pub clumps_determined :
    {n : ℕ} {m : Mem} {from : ℕ} {x y z : List ℕ} {r s : Part}
    → Shows n m from x y r
    → Shows n m from x z s
    → (y ≡ z) × (r ≡ s)
clumps_determined v w =
    let d = begins_determined v.begins w.begins in
    let e = v.next ∙ sym w.next in
    (d.0, λ i. record { count = d.1 i; next = e i })

-- what the test tells
pub one_more_lem : (n a c : ℕ) → one_more n a c ≡ true → (a + header_bytes ≤ n) × (c + three_bytes ≤ room)
one_more_lem n a c e =
    let w = and_both (leb (a + header_bytes) n) (leb (c + three_bytes) room) e in
    (leb-true (a + header_bytes) n w.0, leb-true (c + three_bytes) room w.1)

-- one line more, and none
pub part_more :
    (k n : ℕ) (m : Mem) (a c : ℕ)
    → a + header_bytes ≤ n
    → c + three_bytes ≤ room
    → part_in (suc k) n m a c ≡ in_front (head_text (head m a)) (part_after k n m a c)
unfolding part_in
part_more k n m a c l u = rw (le-leb (a + header_bytes) n l, le-leb (c + three_bytes) room u, part_in)

pub part_none : (k n : ℕ) (m : Mem) (a c : ℕ) → one_more n a c ≡ false → part_in k n m a c ≡ record { text = []; next = a }
unfolding part_in
part_none zero n m a c e = refl
part_none (suc k) n m a c e = rw (e, part_in)

-- the part from a on behind c bytes, and then the lines from where the walk goes on, are those from a on; it ends only where no line
-- more is to be had. The walk does not go back, gets on by a line, and stays at words as long as the end is not reached.
pub record Leads (n : ℕ) (m : Mem) (a c : ℕ) (p : Piece) : Type 0 where
  pub told : p.text ++ lines_from n m p.next ≡ lines_from n m a
  pub ends : one_more n p.next (c + length p.text) ≡ false
  pub on : a ≤ p.next
  pub further : one_more n a c ≡ true → a < p.next
  pub even : (a < n → a % word_bytes ≡ 0) → p.next < n → p.next % word_bytes ≡ 0

leads_none : (n : ℕ) (m : Mem) (a c : ℕ) → one_more n a c ≡ false → Leads n m a c (record { text = []; next = a })
leads_none n m a c e =
    record { told = refl; ends = rw add-zero e; on = omega arith; further = λ t. differ t e; even = λ f l. f l }

leads_more :
    (n : ℕ) (m : Mem) (a c : ℕ) (p : Piece)
    → a + header_bytes ≤ n
    → Leads n m (onward n (head m a)) (c + length (head_text (head m a))) p
    → Leads n m a c (in_front (head_text (head m a)) p)
leads_more n m a c p l s =
    let line = head_text (head m a) in
    let f : a < onward n (head m a) = onward_further n (head m a) (omega arith) in
    record {
      told = append_assoc line p.text (lines_from n m p.next) ∙ ap (λ (t : List ℕ). line ++ t) s.told ∙ sym (lines_next n m a l);
      ends = rw (length-append line p.text, ← add_assoc) s.ends;
      on = omega (arith, s.on);
      further = λ t. omega (arith, s.on);
      even = λ e. s.even (onward_even n (head m a) (e (omega arith)));
    }

part_leads : (k n : ℕ) (m : Mem) (a c : ℕ) → n ≤ k + a → Leads n m a c (part_in k n m a c)
unfolding part_in
part_leads zero n m a c q = leads_none n m a c (rw (lt-leb (a + header_bytes) n (omega arith)))
part_leads (suc k) n m a c q = go (one_more n a c) refl (part_leads k n m (onward n (head m a)) (c + length (head_text (head m a))))
  where
    go :
        (t : Bool) → one_more n a c ≡ t
        → (n ≤ k + onward n (head m a) → Leads n m (onward n (head m a)) (c + length (head_text (head m a))) (part_after k n m a c))
        → Leads n m a c (part_in (suc k) n m a c)
    go true e ih =
        let w = one_more_lem n a c e in
        let f : a < onward n (head m a) = onward_further n (head m a) (omega (arith, w.0)) in
        rw (part_more k n m a c w.0 w.1) (leads_more n m a c _ w.0 (ih (omega arith)))
    go false e ih = rw (part_none (suc k) n m a c e) (leads_none n m a c e)

-- what follows of the promise for who prints part by part
pub shows_leads :
    {n : ℕ} {m : Mem} {from : ℕ} {x y : List ℕ} {r : Part}
    → Shows n m from x y r
    → Leads n m from 0 (record { text = take r.count y; next = r.next })
unfolding part_from
shows_leads {n} {m} {from} s = rw (s.begins.told, s.next) (part_leads n n m from 0 (omega arith))

pub shows_further :
    {n : ℕ} {m : Mem} {from : ℕ} {x y : List ℕ} {r : Part}
    → Shows n m from x y r
    → from + header_bytes ≤ n
    → from < r.next
shows_further {n} {m} {from} s l = (shows_leads s).further (rw (le-leb (from + header_bytes) n l))
