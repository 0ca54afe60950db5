-- Where the loop of `clumps` stands: the part that was asked for is what the buffer begins with and the part from here on. Its start, a
-- line more, its end: by one step of the part's recursion each. Assumes nothing.
use Rattle.std.specs.Prelude.{ℕ, zero, suc, ◌+◌, ◌%◌, ◌<◌, ◌≤◌, ◌≡◌, refl, false, List, [], ◌++◌, length}
use Rattle.std.proofs.Common.{sym, ap, ◌∙◌, append_assoc, append-nil, arith}
use Rattle.rules.specs.Words.{Mem, word_bytes}
use Rattle.rules.specs.Clumps.{head, header_bytes, state_at}
use Rattle.page.specs.declared.clump.Clump.{Clump}
use Rattle.page.specs.Forms.{head_of}
use Rattle.text.specs.Writing.{Wrote, wrote_none, wrote_then, wrote_length, begins}
use Rattle.line.specs.Texts.{three_bytes}
use Rattle.show.specs.Shown.{head_text, onward, onward_further, onward_even, room}
use Rattle.show.specs.Parts.{Piece, in_front, one_more, part_in, part_from, part_more, part_none, Shows}

-- what is done begins the buffer; it and then the part from here on are the part from `from` on, and `steps` are enough for what is left
pub record Filling (n : ℕ) (m : Mem) (from : ℕ) (before out : List ℕ) (at count : ℕ) : Type 0 where
  pub done : List ℕ
  pub steps : ℕ
  pub wrote : Wrote before 0 done out count
  pub inside : count ≤ length before
  pub part : part_from n m from ≡ in_front done (part_in steps n m at count)
  pub enough : n ≤ steps + at
  pub even : at < n → at % word_bytes ≡ 0

pub filling_start : (n : ℕ) (m : Mem) (from : ℕ) (out : List ℕ) → from % word_bytes ≡ 0 → Filling n m from out out from 0
unfolding part_from
filling_start n m from out e =
    record { done = []; steps = n; wrote = wrote_none out 0; inside = omega arith; part = refl; enough = omega arith; even = λ l. e }

pub filling_next :
    {n : ℕ} {m : Mem} {from : ℕ} {before out : List ℕ} {at count : ℕ} (c : Clump) (out' : List ℕ) (r next : ℕ)
    → Filling n m from before out at count
    → at + header_bytes ≤ n
    → count + three_bytes ≤ room
    → (c.at ≡ at) × (c.nbytes ≡ m at) × (c.state ≡ m (state_at at))
    → Wrote out count (head_text (head_of c)) out' r
    → r ≤ count + three_bytes
    → room ≤ length out
    → next ≡ onward n (head_of c)
    → (at < next) × Filling n m from before out' next r
filling_next {n} {m} {from} {before} {out} {at} {count} c out' r next f l u read w most fits on = go f.steps f.enough f.part
  where
    go :
        (k : ℕ) → n ≤ k + at
        → part_from n m from ≡ in_front f.done (part_in k n m at count)
        → (at < next) × Filling n m from before out' next r
    go zero enough part = absurd (omega arith)
    go (suc k) enough part =
        let line = head_text (head m at) in
        let v : Wrote out count line out' r = rw (read.0, read.1, read.2) at w in
        let o : next ≡ onward n (head m at) = rw (read.0, read.1, read.2) at on in
        let more : at < next = rw o (onward_further n (head m at) (omega arith)) in (
          more,
          record {
            done = f.done ++ line;
            steps = k;
            wrote = wrote_then f.wrote v;
            inside = omega (arith, wrote_length f.wrote);
            part = part ∙ rw (part_more k n m at count l u, o, v.behind, append_assoc);
            enough = omega arith;
            even = rw o (onward_even n (head m at) (f.even (omega arith)));
          },
        )

pub filling_end :
    {n : ℕ} {m : Mem} {from : ℕ} {before out : List ℕ} {at count : ℕ}
    → Filling n m from before out at count
    → one_more n at count ≡ false
    → Shows n m from before out (record { count = count; next = at })
filling_end {n} {m} {from} {before} {out} {at} {count} f e =
    let none = part_none f.steps n m at count e in
    let p : part_from n m from ≡ record { text = f.done; next = at } = f.part ∙ rw (none, append-nil f.done) in
    record {
      begins = rw p (begins (omega (arith, f.wrote.behind, f.inside)) f.wrote);
      next = sym (ap (λ (q : Piece). q.next) p);
    }
