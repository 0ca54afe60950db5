-- One law for every loop over the clumps. At the offset h a function f of the clumps that are left still has the answer g of the
-- whole walk: a loop starts so, keeps it so at each step, and reads its answer off it at the end or at a hit. Assumes nothing.
use Rattle.std.specs.Prelude.{ℕ, ◌+◌, ◌%◌, ◌<◌, ◌≤◌, ◌≡◌, refl, Bool, List, [], ◌∷◌}
use Rattle.std.proofs.Common.{sym, ap, ◌∙◌, subst, arith}
use Rattle.std.proofs.Math.Option.{some}
use Rattle.rules.specs.Lists.{seek, Each}
use Rattle.rules.specs.Words.{Mem}
use Rattle.rules.specs.Pages.{clumps_at, unit}
use Rattle.rules.specs.Clumps.{Head, head, state_at, least_clump, FREEING, Tiles, walk}
use Rattle.laws.specs.Searches.{seek_each}
use Rattle.laws.specs.Tilings.{tiles_le}
use Rattle.laws.specs.Walks.{Rest, rest_start, rest_end, rest_step, Reads, walk-reads}

pub record Walking {A : Type 0} (f : List Head → A) (n : ℕ) (m : Mem) (h : ℕ) (g : A) : Type 0 where
  pub rest : List Head
  pub from : Rest n m h rest
  pub even : h % unit ≡ 0
  pub tiles : Tiles clumps_at (walk n m) n → Tiles h rest n
  pub same : f rest ≡ g

-- a clump of a tiling, at h
pub record Inside (n : ℕ) (m : Mem) (h : ℕ) : Type 0 where
  pub even : h % unit ≡ 0
  pub least : least_clump ≤ m h
  pub whole : m h % unit ≡ 0
  pub known : m (state_at h) ≤ FREEING
  pub room : h + m h ≤ n

pub walking_start : {A : Type 0} (f : List Head → A) (n : ℕ) (m : Mem) → Walking f n m clumps_at (f (walk n m))
walking_start f n m = record { rest = walk n m; from = rest_start n m; even = refl; tiles = λ t. t; same = refl }

module _ {A : Type 0} {f : List Head → A} {n : ℕ} {m : Mem} {h : ℕ} {g : A} where
  -- at the end
  pub walking_end : Walking f n m h g → n ≤ h → f [] ≡ g
  walking_end w l = ap f (sym (rest_end w.from l)) ∙ w.same

  -- at a clump that decides
  pub walking_hit : Walking f n m h g → h < n → (a : A) → ((t : List Head) → f (head m h ∷ t) ≡ a) → a ≡ g
  walking_hit w l a e =
      let r = rest_step w.from l in
      sym (e r.0) ∙ ap f (sym r.1) ∙ w.same

  -- past a clump: what is asked of the clumps after it may be another question
  pub walking_move : Walking f n m h g → h < n → 0 < m h → m h % unit ≡ 0 → (k : List Head → A) → ((t : List Head) → f (head m h ∷ t) ≡ k t) → Walking k n m (h + m h) g
  walking_move w l p u k e =
      let r = rest_step w.from l in
      record {
        rest = r.0;
        from = r.2 p;
        even = (let z = w.even in omega arith);
        tiles = λ t. (subst (λ (hs : List Head). Tiles h hs n) r.1 (w.tiles t)).1;
        same = sym (e r.0) ∙ ap f (sym r.1) ∙ w.same;
      }

  pub walking_inside : Walking f n m h g → h < n → Tiles clumps_at (walk n m) n → Inside n m h
  walking_inside w l t =
      let r = rest_step w.from l in
      let s = subst (λ (hs : List Head). Tiles h hs n) r.1 (w.tiles t) in
      record {
        even = w.even;
        least = s.0.least;
        whole = s.0.whole;
        known = s.0.known;
        room = tiles_le (h + m h) n r.0 s.1;
      }

-- a clump that a search in a tiling finds
pub record Placed (n : ℕ) (m : Mem) (h : Head) : Type 0 where
  pub head_is : h ≡ head m h.at
  pub low : clumps_at ≤ h.at
  pub inside : Inside n m h.at

each_placed : (n a : ℕ) (m : Mem) (hs : List Head) → clumps_at ≤ a → a % unit ≡ 0 → Tiles a hs n → Reads m hs → Each (Placed n m) hs
each_placed n a m [] l u t r = tt
each_placed n a m (h ∷ hs) l u t r =
    let e = t.0.here in
    let z = tiles_le (a + h.nbytes) n hs t.1 in
    let i : h ≡ head m h.at = (λ j. record { at = h.at; nbytes = sym r.0 j; state = sym r.1 j }) in (
      record {
        head_is = i;
        low = omega arith;
        inside = record { even = rw e u; least = rw r.0 t.0.least; whole = rw r.0 t.0.whole; known = rw r.1 t.0.known; room = rw (r.0, e) z };
      },
      each_placed n (a + h.nbytes) m hs (omega arith) (omega (arith, t.0.whole)) t.1 r.2,
    )

pub all_placed : (n : ℕ) (m : Mem) → Tiles clumps_at (walk n m) n → Each (Placed n m) (walk n m)
all_placed n m t = each_placed n clumps_at m (walk n m) (omega arith) refl t (walk-reads n m)

pub seek_placed : (n : ℕ) (m : Mem) (p : Head → Bool) (h : Head) → Tiles clumps_at (walk n m) n → seek p (walk n m) ≡ some h → Placed n m h
seek_placed n m p h t e = seek_each (Placed n m) p (walk n m) h e (all_placed n m t)
