-- Recovery, cut after any store, leaves a pool that recovery makes the same of; finished, it leaves one at rest, with nothing reserved
-- and no two FREE clumps touching. Part by part: the list is carried out, RESERVED clumps are released, runs are joined; the last two
-- by induction upward, with the clumps that are done in front. Assumes nothing.
use Rattle.std.specs.Prelude.{ℕ, ◌≡◌, Bool, cond, eqb}
use Rattle.std.proofs.Math.Path.{refl, sym, ap, subst}
use Rattle.std.proofs.Common.{◌∙◌, arith, eqb-true}
use Rattle.std.proofs.Math.Bool.{true, false}
use Rattle.std.proofs.Math.Option.{some}
use mathlib.Core.List.{List, [], ◌∷◌, ◌++◌, map, append_assoc}
use Rattle.rules.specs.Lists.{Each}
use Rattle.rules.specs.Words.{Mem, Store, upd, after}
use Rattle.rules.specs.Clumps.{Head, has_state, is_pending, state_at, FREE, RESERVED, walk}
use Rattle.rules.specs.Answers.{bytes_of}
use Rattle.rules.specs.Stores.{set_state, finishing, releasing, released, Run, runs, join_run, joining, recover_stores}
use Rattle.word.specs.Memory.{after-append}
use Rattle.laws.specs.Searches.{none_seek}
use Rattle.laws.specs.Stored.{with_state}
use Rattle.laws.specs.Mending.{settle, freed, map-released, map_idle, map_split, releasing_cons, releasing-settle}
use Rattle.loss.specs.Cuts.{Every, every_append}
use Rattle.loss.specs.Orders.{recover_order}
use Rattle.loss.specs.Held.{held_walk, pends_seek}
use Rattle.loss.specs.Fates.{Kept, is_kept, Rests, Leads, Led, resting, leading}
use Rattle.loss.specs.Entries.{unjudged}
use Rattle.loss.proofs.Finishing.{finishing_led}
use Rattle.loss.specs.Turning.{state_rests}
use Rattle.loss.specs.Joined.{whole, whole-lone, flat, flat-runs, first_each, FreeMore, FreeRun, free-runs, joined_calm}
use Rattle.loss.specs.Merging.{merged}
use Rattle.loss.specs.Readings.{Calm}

module _ (n : ℕ) (D : ℕ → Type 0) (k : List Kept) (w : Mem) where
  -- every cut of the stores leads to the same, and all of them bring the pool to rest with the clumps hs
  pub record Comes (m : Mem) (st : List Store) (hs : List Head) : Type 0 where
    pub every : Every (Led n D k w) m st
    pub ends : Rests n D k w (after m st) hs

  pub comes_none : (m : Mem) (hs : List Head) → Rests n D k w m hs → Comes m [] hs
  unfolding after
  comes_none m hs f = record { every = resting f; ends = f }

  pub comes_store : (m : Mem) (s : Store) (st : List Store) (gs hs : List Head) → Rests n D k w m gs → Comes (upd m s.to s.word) st hs → Comes m (s ∷ st) hs
  unfolding after
  comes_store m s st gs hs f c = record { every = (resting f, c.every); ends = c.ends }

  pub comes_then : (m : Mem) (a b : List Store) (gs hs : List Head) → Comes m a gs → Comes (after m a) b hs → Comes m (a ++ b) hs
  comes_then m a b gs hs c d =
      record { every = every_append (Led n D k w) m a b c.every d.every; ends = rw (after-append m a b) d.ends }

  -- the clumps that are done, in front
  step : (p : List Head) (h : Head) (q : List Head) → (p ++ (h ∷ [])) ++ q ≡ p ++ (h ∷ q)
  step p h q = append_assoc p (h ∷ []) q

  moved : {m : Mem} {st : List Store} (p : List Head) (h : Head) (q : List Head) → Comes m st ((p ++ (h ∷ [])) ++ q) → Comes m st (p ++ (h ∷ q))
  moved {m} {st} p h q c = subst (Comes m st) (step p h q) c

  advanced : {m : Mem} (p : List Head) (h : Head) (q : List Head) → Rests n D k w m (p ++ (h ∷ q)) → Rests n D k w m ((p ++ (h ∷ [])) ++ q)
  advanced {m} p h q f = subst (Rests n D k w m) (sym (step p h q)) f

  -- RESERVED clumps are released
  release_one : (m : Mem) (p : List Head) (h : Head) (q : List Head) → has_state RESERVED h ≡ true → Rests n D k w m (p ++ (h ∷ q)) → Rests n D k w (upd m (state_at h.at) FREE) (p ++ (with_state h FREE ∷ q))
  release_one m p h q e f =
      let z = eqb-true h.state RESERVED e in
      let i : is_kept h ≡ false = rw z in
      state_rests n D k w m p h q FREE f (omega arith) refl i refl (unjudged n (upd m (state_at h.at) FREE) (with_state h FREE) refl refl)

  pub released_comes : (hs p : List Head) (m : Mem) → Rests n D k w m (p ++ hs) → Comes m (releasing hs) (p ++ map freed hs)
  unfolding releasing Rattle.rules.specs.Lists.those
  released_comes [] p m f = comes_none m (p ++ []) f
  released_comes (h ∷ hs) p m f = rw (releasing_cons h hs) (go (has_state RESERVED h) refl (released_comes hs))
    where
      go :
          (b : Bool)
          → has_state RESERVED h ≡ b
          → ((p : List Head) (m : Mem) → Rests n D k w m (p ++ hs) → Comes m (releasing hs) (p ++ map freed hs))
          → Comes m (cond b (set_state h FREE ∷ []) [] ++ releasing hs) (p ++ (with_state h (cond b FREE h.state) ∷ map freed hs))
      go true e ih =
          let j = with_state h FREE in
          comes_store m (set_state h FREE) (releasing hs) (p ++ (h ∷ hs)) (p ++ (j ∷ map freed hs)) f
          (moved p j (map freed hs) (ih (p ++ (j ∷ [])) (upd m (state_at h.at) FREE) (advanced p j hs (release_one m p h hs e f))))
      go false e ih = moved p h (map freed hs) (ih (p ++ (h ∷ [])) m (advanced p h hs f))

  -- runs are joined
  pub joined_comes : (rs : List Run) (p : List Head) (m : Mem) → Each FreeRun rs → Rests n D k w m (p ++ flat rs) → Comes m (joining rs) (p ++ map whole rs)
  unfolding joining flat
  joined_comes [] p m e f = comes_none m (p ++ []) f
  joined_comes (r ∷ rs) p m e f = go r.first r.more e.0 f (λ p m. joined_comes rs p m e.1)
    where
      go :
          (h : Head) (ks : List Head)
          → FreeMore h ks
          → Rests n D k w m (p ++ (h ∷ (ks ++ flat rs)))
          → ((p : List Head) (m : Mem) → Rests n D k w m (p ++ flat rs) → Comes m (joining rs) (p ++ map whole rs))
          → Comes m (join_run h ks (joining rs)) (p ++ (whole (record { first = h; more = ks }) ∷ map whole rs))
      go h [] u g ih =
          subst (λ (v : Head). Comes m (joining rs) (p ++ (v ∷ map whole rs))) (sym (whole-lone h))
          (moved p h (map whole rs) (ih (p ++ (h ∷ [])) m (advanced p h (flat rs) g)))
      go h (j ∷ ks) u g ih =
          let v = whole (record { first = h; more = j ∷ ks }) in
          comes_store m _ (joining rs) (p ++ (h ∷ (j ∷ ks ++ flat rs))) (p ++ (v ∷ map whole rs)) g
          (moved p v (map whole rs) (ih (p ++ (v ∷ [])) (upd m h.at (bytes_of (h ∷ j ∷ ks))) (advanced p v (flat rs) (merged n D k w m p h (j ∷ ks) (flat rs) u g))))

  -- both, from rest
  abbrev calmed : List Head → List Head
  calmed hs = map whole (runs (map freed hs))

  mended_comes : (m : Mem) (hs : List Head) → Rests n D k w m hs → Comes m (releasing hs ++ joining (runs (map freed hs))) (calmed hs)
  mended_comes m hs f =
      let c = released_comes hs [] m f in
      comes_then m (releasing hs) (joining (runs (map freed hs))) (map freed hs) (calmed hs) c
      (joined_comes (runs (map freed hs)) [] (after m (releasing hs)) (free-runs (map freed hs))
      (subst (Rests n D k w (after m (releasing hs))) (sym (flat-runs (map freed hs))) c.ends))

  -- nothing is reserved then
  freed-unreserved : (hs : List Head) → Each (λ h. has_state RESERVED h ≡ false) (map freed hs)
  freed-unreserved [] = tt
  freed-unreserved (h ∷ hs) = (go (has_state RESERVED h) refl, freed-unreserved hs)
    where
      go : (b : Bool) → has_state RESERVED h ≡ b → eqb (cond b FREE h.state) RESERVED ≡ false
      go true e = refl
      go false e = e

  whole_each : (rs : List Run) → Each (λ r. has_state RESERVED r.first ≡ false) rs → Each (λ h. has_state RESERVED h ≡ false) (map whole rs)
  whole_each [] e = tt
  whole_each (r ∷ rs) e = (e.0, whole_each rs e.1)

  pub calmed_calm : (hs : List Head) → Calm (calmed hs)
  calmed_calm hs =
      record {
        apart = joined_calm (map freed hs);
        unreserved =
            whole_each (runs (map freed hs))
            (first_each (λ h. has_state RESERVED h ≡ false) (runs (map freed hs))
            (subst (Each (λ h. has_state RESERVED h ≡ false)) (sym (flat-runs (map freed hs))) (freed-unreserved hs)));
      }

  -- recovery
  pub record Recovers (m : Mem) : Type 0 where
    pub clumps : List Head
    pub calm : Calm clumps
    pub comes : Comes m (recover_order m (walk n m)) clumps

  recovers_as : (m : Mem) (hs : List Head) → walk n m ≡ hs → (gs : List Head) → Comes m (recover_order m hs) (calmed gs) → Recovers m
  recovers_as m hs e gs c = record { clumps = calmed gs; calm = calmed_calm gs; comes = rw e c }

  rest_recovers : (m : Mem) (hs : List Head) → Rests n D k w m hs → Recovers m
  unfolding recover_order recover_stores
  rest_recovers m hs f =
      let e : map released hs ≡ map freed hs = sym (map-released _ _ hs f.held.tiles) ∙ ap (map freed) (map_idle hs f.idle) in
      recovers_as m hs (held_walk n m hs f.held) hs (rw (none_seek is_pending hs f.idle, e) (mended_comes m hs f))

  lead_recovers : (m : Mem) (p : List Head) (h : Head) (q : List Head) → Leads n D k w m p h q → Recovers m
  unfolding recover_order recover_stores
  lead_recovers m p h q f =
      let hs = p ++ (h ∷ q) in
      let t = f.pends.held.tiles in
      let e : map released hs ≡ map freed (map settle hs) = sym (map-released _ _ hs t) in
      let g : map settle hs ≡ p ++ (settle h ∷ q) = map_split p h q f.pends.below f.pends.above in
      let c = finishing_led n D k w m p h q f in
      let fs = finishing m (some h) in
      recovers_as m hs (held_walk n m hs f.pends.held) (map settle hs)
      (rw (pends_seek n m p h q f.pends, e, sym (releasing-settle _ _ hs t))
      (comes_then m fs (releasing (map settle hs) ++ joining (runs (map freed (map settle hs)))) (map settle hs) (calmed (map settle hs))
      (record { every = c.0; ends = rw g c.1 }) (mended_comes (after m fs) (map settle hs) (rw g c.1))))

  pub recovers : (m : Mem) → Led n D k w m → Recovers m
  recovers m (resting {hs} f) = rest_recovers m hs f
  recovers m (leading {p} {h} {q} f) = lead_recovers m p h q f
