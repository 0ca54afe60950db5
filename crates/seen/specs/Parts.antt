-- What is seen of clumps that have no fault: each part of the state goes by itself, by induction on the clumps with what was there before.
-- Assumes nothing.
use Rattle.std.specs.Prelude.{ℕ, ◌+◌, ◌≡◌, refl, Bool, true, false, cond, ◌&&◌, ◌||◌, List, [], ◌∷◌, Option, Some, None}
use Rattle.std.proofs.Common.{sym, ap, ◌∙◌, arith, zero-add, add-zero}
use Rattle.std.proofs.Math.Bool.{and-true, and-false}
use Rattle.rules.specs.declared.Totals.{Totals}
use Rattle.rules.specs.Lists.{seek, those}
use Rattle.rules.specs.Clumps.{Head, has_state, is_free, is_pending, FREE, RESERVED, ACTIVATING, ACTIVE, FREEING}
use Rattle.rules.specs.Sound.{second, second_fault, starts_free, touching}
use Rattle.rules.specs.Answers.{bytes_of, total_of}
use Rattle.laws.specs.Searches.{seek_hit, seek_pass, seek_nil}
use Rattle.seen.specs.declared.Seen.{Seen}
use Rattle.seen.specs.Forms.{place_of, offset_in}
use Rattle.seen.specs.States.{nothing, plus, each_total, marked, more, ends_free, Sees}

-- all the clumps, where none has a fault
unfoldable pub mores : Seen → List Head → Seen
mores s [] = s
mores s (h ∷ hs) = mores (more s h) hs

-- the totals
total_more : (k t : ℕ) (h : Head) (hs : List Head) → plus k t h + total_of t hs ≡ k + total_of t (h ∷ hs)
unfolding those bytes_of
total_more k t h hs = go (has_state t h)
  where
    go : (b : Bool) → cond b (k + h.nbytes) k + bytes_of (those (has_state t) hs) ≡ k + bytes_of (cond b (h ∷ those (has_state t) hs) (those (has_state t) hs))
    go true = omega arith
    go false = refl

totals_same : (f g : ℕ → ℕ → ℕ) (t : Totals) → ((k s : ℕ) → f k s ≡ g k s) → each_total f t ≡ each_total g t
totals_same f g t e =
    λ i.
    record {
      free = e t.free FREE i;
      reserved = e t.reserved RESERVED i;
      activating = e t.activating ACTIVATING i;
      active = e t.active ACTIVE i;
      freeing = e t.freeing FREEING i;
    }

mores_totals : (s : Seen) (hs : List Head) → (mores s hs).totals ≡ each_total (λ k t. k + total_of t hs) s.totals
unfolding mores those bytes_of
mores_totals s [] = totals_same (λ k t. k) (λ k t. k + 0) s.totals (λ k t. sym (add-zero k))
mores_totals s (h ∷ hs) =
    mores_totals (more s h) hs
    ∙ totals_same (λ k t. plus k t h + total_of t hs) (λ k t. k + total_of t (h ∷ hs)) s.totals (λ k t. total_more k t h hs)

-- the FREE clump that came last
mores-free : (s : Seen) (hs : List Head) → (mores s hs).free ≡ ends_free s.free hs
unfolding mores
mores-free s [] = refl
mores-free s (h ∷ hs) = mores-free (more s h) hs

-- two that touch
mores_touched : (s : Seen) (hs : List Head) → (mores s hs).touched ≡ (s.touched || ((s.free && starts_free hs) || touching hs))
unfolding mores touching
mores_touched s [] = go s.touched s.free
  where
    go : (a b : Bool) → a ≡ (a || ((b && false) || false))
    go true b = refl
    go false true = refl
    go false false = refl
mores_touched s (h ∷ hs) = mores_touched (more s h) hs ∙ go s.touched s.free (is_free h) (is_free h && starts_free hs || touching hs)
  where
    go : (a b c d : Bool) → (((c && b) || a) || d) ≡ (a || ((b && c) || d))
    go true true true d = refl
    go true true false d = refl
    go true false true d = refl
    go true false false d = refl
    go false true true d = refl
    go false true false d = refl
    go false false true d = refl
    go false false false d = refl

-- the first unfinished clump behind a mark
marks : Option ℕ → List Head → Option ℕ
marks old [] = old
marks old (h ∷ hs) = marks (cond (is_pending h) (marked old h) old) hs

cond_same : (b : Bool) (x : Option ℕ) → cond b x x ≡ x
cond_same true x = refl
cond_same false x = refl

marks_kept : (a : ℕ) (hs : List Head) → marks (Some a) hs ≡ Some a
unfolding marks
marks_kept a [] = refl
marks_kept a (h ∷ hs) = rw cond_same (marks_kept a hs)

marks_found : (hs : List Head) → marks None hs ≡ offset_in (seek is_pending hs)
unfolding marks
marks_found [] = ap offset_in (sym (seek_nil is_pending))
marks_found (h ∷ hs) = go (is_pending h) refl (marks_found hs)
  where
    go : (b : Bool) → is_pending h ≡ b → marks None hs ≡ offset_in (seek is_pending hs) → marks (cond (is_pending h) (marked None h) None) hs ≡ offset_in (seek is_pending (h ∷ hs))
    go true e ih = rw e (marks_kept h.at hs ∙ ap offset_in (sym (seek_hit is_pending h hs e)))
    go false e ih = rw e (ih ∙ ap offset_in (sym (seek_pass is_pending h hs e)))

mores-first : (s : Seen) (hs : List Head) → (mores s hs).first ≡ marks s.first hs
unfolding mores marks
mores-first s [] = refl
mores-first s (h ∷ hs) = mores-first (more s h) hs

-- and the second: the first behind the first
second_seek : (h : Head) (hs : List Head) → place_of (second (h ∷ those is_pending hs)) ≡ offset_in (seek is_pending hs)
unfolding those
second_seek h [] = ap offset_in (sym (seek_nil is_pending))
second_seek h (k ∷ hs) = go (is_pending k) refl (second_seek h hs)
  where
    go : (b : Bool) → is_pending k ≡ b → place_of (second (h ∷ those is_pending hs)) ≡ offset_in (seek is_pending hs) → place_of (second (h ∷ those is_pending (k ∷ hs))) ≡ offset_in (seek is_pending (k ∷ hs))
    go true e ih = rw e (ap offset_in (sym (seek_hit is_pending k hs e)))
    go false e ih = rw e (ih ∙ ap offset_in (sym (seek_pass is_pending k hs e)))

mores_next : (s : Seen) (hs : List Head) (a : ℕ) → s.first ≡ Some a → (mores s hs).second ≡ marks s.second hs
unfolding mores marks
mores_next s [] a e = refl
mores_next s (h ∷ hs) a e = mores_next (more s h) hs a (rw (e, cond_same)) ∙ rw (e, and-true)

mores-second : (s : Seen) (hs : List Head) → s.first ≡ None → s.second ≡ None → (mores s hs).second ≡ place_of (second (those is_pending hs))
unfolding mores those
mores-second s [] e f = f
mores-second s (h ∷ hs) e f = go (is_pending h) refl (mores-second (more s h) hs)
  where
    unmarked : (more s h).second ≡ None
    unmarked = rw (e, and-false) f

    go :
        (b : Bool)
        → is_pending h ≡ b
        → ((more s h).first ≡ None → (more s h).second ≡ None → (mores (more s h) hs).second ≡ place_of (second (those is_pending hs)))
        → (mores (more s h) hs).second ≡ place_of (second (those is_pending (h ∷ hs)))
    go true p ih =
        let a : (more s h).first ≡ Some h.at = rw (p, e) in
        mores_next (more s h) hs h.at a
        ∙ ap (λ (k : Option ℕ). marks k hs) unmarked
        ∙ marks_found hs
        ∙ sym (second_seek h hs)
        ∙ rw p
    go false p ih = ih (rw p e) unmarked ∙ rw p

-- all of them, from the first clump on
pub mores_sees : (hs : List Head) → Sees hs (mores nothing hs)
unfolding second_fault
mores_sees hs =
    record {
      first_is = mores-first nothing hs ∙ marks_found hs;
      second_is = mores-second nothing hs refl refl;
      free_is = mores-free nothing hs;
      touched_is = mores_touched nothing hs;
      totals_are = mores_totals nothing hs ∙ totals_same (λ k t. 0 + total_of t hs) (λ k t. total_of t hs) nothing.totals (λ k t. zero-add (total_of t hs));
    }

pub mores-fault : (s : Seen) (hs : List Head) → (mores s hs).fault ≡ s.fault
unfolding mores
mores-fault s [] = refl
mores-fault s (h ∷ hs) = mores-fault (more s h) hs
