-- From memories to images: what a request leaves of an image, cut or finished, has the memory after the stores, the same length, and
-- bytes. By the law that every store is one aligned word. Assumes nothing.
use Rattle.std.specs.Prelude.{ℕ, ◌≡◌, length, take}
use Rattle.std.proofs.Common.{sym, ◌∙◌}
use Rattle.std.proofs.Math.Path.{ap, subst}
use mathlib.Core.List.{List}
use Rattle.rules.specs.declared.Request.{Request}
use Rattle.rules.specs.declared.Request.TheVariants.{Recover}
use Rattle.rules.specs.Words.{Image, Mem, Store, Bytes, Aligned, mem, after}
use Rattle.rules.specs.Clumps.{Head, walk}
use Rattle.rules.specs.Answers.{stores_of, if_sound}
use Rattle.rules.specs.Stores.{recover_stores}
use Rattle.rules.specs.Requests.{Numbers, verdict, stores_for, cut, finished}
use Rattle.rules.specs.Traces.{Recovering, begun, again}
use Rattle.word.specs.Memory.{mem-carry, length-carry, bytes_carry}
use Rattle.laws.specs.Pools.{Sound}
use Rattle.laws.specs.OneWord.{one_word}
use Rattle.laws.specs.Searches.{each_take}
use Rattle.loss.specs.Orders.{recover_order}
use Rattle.loss.specs.Cuts.{every_cut}
use Rattle.loss.specs.Fates.{Kept, Rests, Led}
use Rattle.loss.specs.Readings.{Calm}
use Rattle.loss.proofs.Recovering.{recovers}
use Rattle.loss.specs.Owning.{led_sound}

pub cut-mem : (img : Image) (q : Request) (k : ℕ) → Bytes img → Numbers q → mem (cut img q k) ≡ after (mem img) (take k (stores_for img q))
cut-mem img q k b u = mem-carry img (take k (stores_for img q)) (each_take (Aligned (length img)) k (stores_for img q) (one_word img q b u))

pub finished-mem : (img : Image) (q : Request) → Bytes img → Numbers q → mem (finished img q) ≡ after (mem img) (stores_for img q)
finished-mem img q b u = mem-carry img (stores_for img q) (one_word img q b u)

-- the stores of recovery
pub recover_stores_lem : (n : ℕ) (m : Mem) → Sound n m → stores_of (verdict n m Recover) ≡ recover_stores m (walk n m)
unfolding verdict if_sound
recover_stores_lem n m s = rw (s.pool, s.sound)

-- an image of n bytes that recovery makes this of
pub record Leading (n : ℕ) (D : ℕ → Type 0) (k : List Kept) (w : Mem) (img : Image) : Type 0 where
  pub bytes : Bytes img
  pub long : length img ≡ n
  pub led : Led n D k w (mem img)

module _ (n : ℕ) (D : ℕ → Type 0) (k : List Kept) (w : Mem) where
  stores_are : (img : Image) → Leading n D k w img → stores_for img Recover ≡ recover_stores (mem img) (walk n (mem img))
  stores_are img f = ap (λ (l : ℕ). stores_of (verdict l (mem img) Recover)) f.long ∙ recover_stores_lem n (mem img) (led_sound n D k w (mem img) f.led)

  -- a recovery that is cut
  pub cut_leading : (img : Image) (j : ℕ) → Leading n D k w img → Leading n D k w (cut img Recover j)
  unfolding recover_order
  cut_leading img j f =
      let m = mem img in
      let st = recover_stores m (walk n m) in
      let e : mem (cut img Recover j) ≡ after m (take j st) = cut-mem img Recover j f.bytes tt ∙ ap (λ (l : List Store). after m (take j l)) (stores_are img f) in
      record {
        bytes = bytes_carry img (take j (stores_for img Recover)) f.bytes;
        long = length-carry img (take j (stores_for img Recover)) ∙ f.long;
        led = subst (Led n D k w) (sym e) (every_cut (Led n D k w) m st j (recovers n D k w m f.led).comes.every);
      }

  pub recovering_leading : (img y : Image) → Leading n D k w img → Recovering img y → Leading n D k w y
  recovering_leading img y f begun = f
  recovering_leading img y f (again {x} r j) = cut_leading x j (recovering_leading img x f r)

  -- and one that is finished
  pub record Recovered (img : Image) : Type 0 where
    pub bytes : Bytes img
    pub long : length img ≡ n
    pub clumps : List Head
    pub rests : Rests n D k w (mem img) clumps
    pub calm : Calm clumps

  pub finished-recovered : (img : Image) → Leading n D k w img → Recovered (finished img Recover)
  unfolding recover_order
  finished-recovered img f =
      let m = mem img in
      let st = recover_stores m (walk n m) in
      let e : mem (finished img Recover) ≡ after m st = finished-mem img Recover f.bytes tt ∙ ap (after m) (stores_are img f) in
      let r = recovers n D k w m f.led in
      record {
        bytes = bytes_carry img (stores_for img Recover) f.bytes;
        long = length-carry img (stores_for img Recover) ∙ f.long;
        clumps = r.clumps;
        rests = subst (λ (x : Mem). Rests n D k w x r.clumps) (sym e) r.comes.ends;
        calm = r.calm;
      }
