-- Free and activate, cut after any store. The first store decides; from then on the list is carried out as recovery would do it, and the
-- FREE clump joins its FREE neighbours, one store each. Assumes nothing.
use Rattle.std.specs.Prelude.{ℕ, ◌+◌, ◌≡◌, true, ◌&&◌}
use Rattle.std.proofs.Math.Path.{refl, ap, subst}
use Rattle.std.proofs.Common.{◌∙◌, arith}
use Rattle.std.proofs.Math.Bool.{false, and-true}
use Rattle.std.proofs.Math.Option.{Option, some, none}
use mathlib.Core.List.{List, [], ◌∷◌, ◌++◌, append_assoc}
use Rattle.rules.specs.Words.{Mem, Store, upd}
use Rattle.rules.specs.Clumps.{Head, is_free}
use Rattle.rules.specs.Sound.{touching, starts_free}
use Rattle.rules.specs.Stores.{join_before, join_both}
use Rattle.rules.specs.Answers.{bytes_of}
use Rattle.laws.specs.Searches.{or_neither}
use Rattle.laws.specs.Stored.{with_state}
use Rattle.loss.specs.Fates.{Kept, Rests}
use Rattle.loss.specs.Calm.{ends_free, touching_parts, touching-between}
use Rattle.loss.specs.Neighbours.{next_free, last_free, next_some, next_none, last_some, last_none}
use Rattle.loss.specs.Merging.{merged}
use Rattle.loss.proofs.Recovering.{Comes, comes_none, comes_store}

module _ (n : ℕ) (D : ℕ → Type 0) (k : List Kept) (w : Mem) where
  -- the stores come to rest, with no two FREE clumps touching
  pub record Ends (m : Mem) (st : List Store) : Type 0 where
    pub clumps : List Head
    pub comes : Comes n D k w m st clumps
    pub apart : touching clumps ≡ false

  -- two clumps as one
  abbrev two : Head → ℕ → Head
  two h b = record { at = h.at; nbytes = b; state = h.state }

  merged_two :
      (m : Mem) (p : List Head) (f g : Head) (q : List Head) (b : ℕ)
      → is_free f ≡ true
      → is_free g ≡ true
      → f.nbytes + g.nbytes ≡ b
      → Rests n D k w m (p ++ (f ∷ g ∷ q))
      → Rests n D k w (upd m f.at b) (p ++ (two f b ∷ q))
  unfolding bytes_of
  merged_two m p f g q b e d z r =
      subst (λ (c : ℕ). Rests n D k w (upd m f.at c) (p ++ (two f c ∷ q))) (omega arith) (merged n D k w m p f (g ∷ []) q (e, (d, tt)) r)

  -- with the clump before
  before_joined :
      (m : Mem) (p : List Head) (f : Head) (q : List Head) (b : ℕ)
      → is_free f ≡ true
      → f.nbytes ≡ b
      → touching p ≡ false
      → touching q ≡ false
      → starts_free q ≡ false
      → Rests n D k w m (p ++ (f ∷ q))
      → Ends m (join_before (last_free p) b)
  unfolding touching
  before_joined m p f q b e z t u s r = go (last_free p) refl
    where
      go : (o : Option Head) → last_free p ≡ o → Ends m (join_before o b)
      go none c = record { clumps = p ++ (f ∷ q); comes = comes_none n D k w m _ r; apart = touching-between p f q t u (last_none p c) s }
      go (some g) c =
          let x = last_some p g c in
          let l = x.0 in
          let y : p ++ (f ∷ q) ≡ l ++ (g ∷ f ∷ q) = ap (λ (v : List Head). v ++ (f ∷ q)) x.1 ∙ append_assoc l (g ∷ []) (f ∷ q) in
          let v = g.nbytes + b in
          let ts = touching_parts l (g ∷ []) (subst (λ (a : List Head). touching a ≡ false) x.1 t) in
          let ef : ends_free l ≡ false = (let i = x.2 in rw (i, and-true (ends_free l)) at ts.2) in
          record {
            clumps = l ++ (two g v ∷ q);
            comes = comes_store n D k w m _ [] (p ++ (f ∷ q)) _ r (comes_none n D k w _ _ (merged_two m l g f q v x.2 e (omega arith) (subst (Rests n D k w m) y r)));
            apart = touching-between l (two g v) q ts.0 u ef s;
          }

  -- with the next clump, then with the one before
  pub both_joined :
      (m : Mem) (p : List Head) (h : Head) (q : List Head)
      → touching p ≡ false
      → touching q ≡ false
      → Rests n D k w m (p ++ (with_state h 0 ∷ q))
      → Ends m (join_both (next_free q) (last_free p) h)
  unfolding touching
  both_joined m p h q t u r = go (next_free q) refl
    where
      go : (o : Option Head) → next_free q ≡ o → Ends m (join_both o (last_free p) h)
      go none c = before_joined m p (with_state h 0) q h.nbytes refl refl t u (next_none q c) r
      go (some g) c =
          let x = next_some q g c in
          let b = h.nbytes + g.nbytes in
          let f = two (with_state h 0) b in
          let y : touching (g ∷ x.0) ≡ false = subst (λ (a : List Head). touching a ≡ false) x.1 u in
          let v = or_neither (is_free g && starts_free x.0) (touching x.0) y in
          let s : starts_free x.0 ≡ false = (let i = x.2 in rw i at v.0) in
          let r1 = merged_two m p (with_state h 0) g x.0 b refl x.2 refl (subst (λ (a : List Head). Rests n D k w m (p ++ (with_state h 0 ∷ a))) x.1 r) in
          let d = before_joined (upd m h.at b) p f x.0 b refl refl t v.1 s r1 in
          record { clumps = d.clumps; comes = comes_store n D k w m _ _ (p ++ (with_state h 0 ∷ q)) _ r d.comes; apart = d.apart }
