-- What stores do to the headers that a memory holds: a store that misses every size and state word keeps them, a valid target misses
-- them all, and a store of a state changes one clump. By induction on the clumps. Assumes nothing.
use Rattle.std.specs.Prelude.{ℕ, ◌+◌, ◌<◌, ◌≤◌, ◌≡◌, Bool, true, List, [], ◌∷◌, ◌++◌}
use Rattle.std.proofs.Common.{subst, ◌∙◌, ⊎_elim, arith}
use Rattle.std.proofs.Math.Option.{some}
use Rattle.rules.specs.Lists.{seek, Each}
use Rattle.rules.specs.Words.{Mem, Store, upd, after}
use Rattle.rules.specs.Pages.{clumps_at}
use Rattle.rules.specs.Clumps.{Head, state_at, Tiles}
use Rattle.rules.specs.Sound.{is_valid}
use Rattle.word.specs.Memory.{upd_same, upd_other}
use Rattle.laws.specs.Searches.{seek_split}
use Rattle.laws.specs.Tilings.{tiles_le, tiles_split}
use Rattle.laws.specs.Walks.{Reads}
use Rattle.laws.specs.Bodies.{Off, valid_off}

abbrev pub with_state : Head → ℕ → Head
with_state h s = record { at = h.at; nbytes = h.nbytes; state = s }

-- i is no size or state word of hs
abbrev pub Clear : ℕ → List Head → Type 0
Clear i [] = Unit {0}
Clear i (h ∷ hs) = (h.at ≡ i → ⊥) × (state_at h.at ≡ i → ⊥) × Clear i hs

pub clear_below : (i a b : ℕ) (hs : List Head) → Tiles a hs b → i < a → Clear i hs
clear_below i a b [] t l = tt
clear_below i a b (h ∷ hs) t l = (omega arith, omega arith, clear_below i (a + h.nbytes) b hs t.1 (omega arith))

pub clear_above : (i a b : ℕ) (hs : List Head) → Tiles a hs b → b ≤ i → Clear i hs
clear_above i a b [] t l = tt
clear_above i a b (h ∷ hs) t l =
    let z = tiles_le (a + h.nbytes) b hs t.1 in
    (omega arith, omega arith, clear_above i (a + h.nbytes) b hs t.1 l)

pub clear_append : (i : ℕ) (p q : List Head) → Clear i p → Clear i q → Clear i (p ++ q)
clear_append i [] q c d = d
clear_append i (h ∷ p) q c d = (c.0, c.1, clear_append i p q c.2 d)

pub reads-upd : (m : Mem) (i w : ℕ) (hs : List Head) → Clear i hs → Reads m hs → Reads (upd m i w) hs
reads-upd m i w [] c r = tt
reads-upd m i w (h ∷ hs) c r =
    (upd_other m i w h.at c.0 ∙ r.0, upd_other m i w (state_at h.at) c.1 ∙ r.1, reads-upd m i w hs c.2 r.2)

pub reads-after : (m : Mem) (st : List Store) (hs : List Head) → Each (λ s. Clear s.to hs) st → Reads m hs → Reads (after m st) hs
unfolding after
reads-after m [] hs c r = r
reads-after m (s ∷ st) hs c r = reads-after (upd m s.to s.word) st hs c.1 (reads-upd m s.to s.word hs c.0 r)

pub reads-append : (m : Mem) (p q : List Head) → Reads m p → Reads m q → Reads m (p ++ q)
reads-append m [] q r s = s
reads-append m (h ∷ p) q r s = (r.0, r.1, reads-append m p q r.2 s)

pub reads_left : (m : Mem) (p q : List Head) → Reads m (p ++ q) → Reads m p
reads_left m [] q r = tt
reads_left m (h ∷ p) q r = (r.0, r.1, reads_left m p q r.2)

pub reads_right : (m : Mem) (p q : List Head) → Reads m (p ++ q) → Reads m q
reads_right m [] q r = r
reads_right m (h ∷ p) q r = reads_right m p q r.2

-- a clump that is found has its state in the memory
pub found_state : (m : Mem) (hs : List Head) (t : Head → Bool) (h : Head) → Reads m hs → seek t hs ≡ some h → m (state_at h.at) ≡ h.state
found_state m hs t h r e = let x = seek_split t hs h e in (reads_right m x.lower (h ∷ x.higher) (subst (Reads m) x.whole r)).1

-- a store in the header of one clump, past its size and state
pub clear_header : (a b i : ℕ) (p : List Head) (h : Head) (q : List Head) → Tiles a (p ++ (h ∷ q)) b → h.at + 16 ≤ i → i < h.at + h.nbytes → Clear i (p ++ (h ∷ q))
clear_header a b i p h q t l u =
    let s = tiles_split a b p (h ∷ q) t in
    clear_append i p (h ∷ q) (clear_above i a s.0 p s.1 (omega (arith, s.2.0.here)))
    (omega arith, omega arith, clear_below i (s.0 + h.nbytes) b q s.2.1 (omega (arith, s.2.0.here)))

-- a store of a state
pub reads_state : (m : Mem) (w a b : ℕ) (p : List Head) (h : Head) (q : List Head) → Tiles a (p ++ (h ∷ q)) b → Reads m (p ++ (h ∷ q)) → Reads (upd m (state_at h.at) w) (p ++ (with_state h w ∷ q))
reads_state m w a b p h q t r =
    let s = tiles_split a b p (h ∷ q) t in
    let i = state_at h.at in
    let rh = reads_right m p (h ∷ q) r in
    reads-append (upd m i w) p (with_state h w ∷ q)
    (reads-upd m i w p (clear_above i a s.0 p s.1 (omega (arith, s.2.0.here))) (reads_left m p (h ∷ q) r)) (
      upd_other m i w h.at (omega arith) ∙ rh.0,
      upd_same m i w,
      reads-upd m i w q (clear_below i (s.0 + h.nbytes) b q s.2.1 (omega (arith, s.2.0.here, s.2.0.least))) rh.2,
    )

-- a byte that lies in no header is in no size or state word
off_clear : (i : ℕ) (hs : List Head) → Each (Off i) hs → Clear i hs
off_clear i [] f = tt
off_clear i (h ∷ hs) f = (
  ⊎_elim (λ x. omega arith) (λ x. omega arith) f.0.header,
  ⊎_elim (λ x. omega arith) (λ x. omega arith) f.0.header,
  off_clear i hs f.1,
)

-- a valid target is in no header
pub valid_clear : (n t : ℕ) (hs : List Head) → Tiles clumps_at hs n → is_valid hs t ≡ true → Clear t hs
valid_clear n t hs s e = off_clear t hs (valid_off n t hs s e)
