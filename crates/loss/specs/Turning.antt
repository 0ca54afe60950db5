-- One store of a state, from rest: a clump that recovery frees may change its state with no other effect, and a clump whose list is
-- valid may begin to carry it out. By the laws of a part that is replaced. Assumes nothing.
use Rattle.std.specs.Prelude.{ℕ, ◌≤◌, ◌≡◌, Bool, true, false, ◌&&◌, ◌||◌}
use Rattle.std.proofs.Common.{sym, subst, ◌∙◌, arith}
use Rattle.std.proofs.Math.Path.{ap}
use mathlib.Core.List.{List, [], ◌∷◌, ◌++◌}
use Rattle.rules.specs.Lists.{any, Each}
use Rattle.rules.specs.Words.{Mem, Store, upd}
use Rattle.rules.specs.Pages.{static_at, static_end}
use Rattle.rules.specs.Clumps.{Head, state_at, is_free, is_pending, slots, due, entries_by, FREEING}
use Rattle.rules.specs.Sound.{is_even, lies, holds_word, is_valid, all_valid, list_bad}
use Rattle.laws.specs.Searches.{each_left, each_right, each_map}
use Rattle.laws.specs.Choices.{chooses_due}
use Rattle.laws.specs.Headers.{entries_same}
use Rattle.laws.specs.Stored.{with_state}
use Rattle.loss.specs.Held.{Held, Idle, Pends}
use Rattle.loss.specs.Fates.{Kept, is_kept, fates_none, Beyond, Rests}
use Rattle.loss.specs.Parts.{front_slots, held_state, fates_state, state_word, each_other}
use Rattle.loss.specs.Targets.{valid_entries, entries_valid}

module _ (n : ℕ) (D : ℕ → Type 0) (k : List Kept) (w m : Mem) (p : List Head) (h : Head) (q : List Head) (s : ℕ) (f : Rests n D k w m (p ++ (h ∷ q))) where
  -- of a clump that is not kept, before or after
  pub state_rests :
      s ≤ FREEING
      → Idle (with_state h s)
      → is_kept h ≡ false
      → is_kept (with_state h s) ≡ false
      → list_bad n (upd m (state_at h.at) s) (with_state h s) ≡ false
      → Rests n D k w (upd m (state_at h.at) s) (p ++ (with_state h s ∷ q))
  state_rests l i u v b =
      let x = upd m (state_at h.at) s in
      record {
        held = held_state n m p h q s f.held l b;
        idle = each_other Idle p h (with_state h s) q (λ c. i) f.idle;
        kept = fates_state n m p h q s f.held (fates_none x (with_state h s ∷ []) (v, tt) ∙ sym (fates_none m (h ∷ []) (u, tt))) ∙ f.kept;
        words = λ o d. state_word n m p h q s f.held o (f.off o d) ∙ f.words o d;
        off = λ o d. each_other (Beyond o) p h (with_state h s) q (λ c. c) (f.off o d);
      }

module _ (n : ℕ) (m : Mem) (p : List Head) (h : Head) (q : List Head) (s : ℕ) where
  -- a clump that stays live, or stays FREE, holds the targets that it held
  any_live : (t : ℕ) (r : List Head) → is_free (with_state h s) ≡ is_free h → any (holds_word t) (r ++ (with_state h s ∷ q)) ≡ any (holds_word t) (r ++ (h ∷ q))
  unfolding any
  any_live t [] e = rw e
  any_live t (g ∷ r) e = ap (λ (b : Bool). holds_word t g || b) (any_live t r e)

  valid_live : (t : ℕ) → is_free (with_state h s) ≡ is_free h → is_valid (p ++ (with_state h s ∷ q)) t ≡ is_valid (p ++ (h ∷ q)) t
  unfolding is_valid
  valid_live t e = ap (λ (b : Bool). is_even t && (lies static_at static_end t || b)) (any_live t p e)

  -- the list begins to be carried out
  pub begins :
      Held n m (p ++ (h ∷ q))
      → Each Idle (p ++ (h ∷ q))
      → s ≤ FREEING
      → is_pending (with_state h s) ≡ true
      → is_free (with_state h s) ≡ is_free h
      → list_bad n (upd m (state_at h.at) s) (with_state h s) ≡ false
      → all_valid (due (with_state h s)) m (p ++ (h ∷ q)) h ≡ true
      → Pends n (upd m (state_at h.at) s) p (with_state h s) q
  begins f r l i e b v =
      let x = upd m (state_at h.at) s in
      let t = due (with_state h s) in
      let c = entries_same t (chooses_due (with_state h s)) m x (slots h.at) (front_slots m h.at (state_at h.at) s (omega arith)) in
      let valid : (hs : List Head) → Store → Type 0 = (λ hs z. is_valid hs z.to ≡ true) in
      record {
        held = held_state n m p h q s f l b;
        below = each_left Idle p (h ∷ q) r;
        pending = i;
        above = (each_right Idle p (h ∷ q) r).1;
        valid =
            entries_valid t x (p ++ (with_state h s ∷ q)) (with_state h s)
            (subst (Each (valid (p ++ (with_state h s ∷ q)))) (sym c)
            (each_map (valid (p ++ (h ∷ q))) (valid (p ++ (with_state h s ∷ q))) (entries_by t m h.at) (λ z y. valid_live z.to e ∙ y) (valid_entries t m (p ++ (h ∷ q)) h v)));
      }
