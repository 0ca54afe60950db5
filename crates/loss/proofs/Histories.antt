-- Histories: every image on the way is a sound pool, every finished request and recovery leaves it settled, and a cut request once
-- recovered reads as the rule says. By induction on the history, with the course of each request. Assumes nothing.
use Rattle.std.specs.Prelude.{ℕ, zero, suc, ◌<◌, ◌≡◌, refl, Bool, true, false, cond, ◌&&◌, List, length, take, ltb}
use Rattle.std.proofs.Common.{sym, subst, ◌∙◌, arith, ltb-false, le-ltb}
use Rattle.std.proofs.Math.Bool.{and-false}
use Rattle.std.proofs.Math.Seq.{take-length}
use Rattle.rules.specs.declared.Request.{Request}
use Rattle.rules.specs.declared.Request.TheVariants.{Create, Reserve, ReserveUncleared, Grow, Onactive, Onfree, Withdraw, Activate, Free, Check, Recover}
use Rattle.rules.specs.Words.{Image, Mem, Store, Bytes, mem, after, carry}
use Rattle.rules.specs.Pages.{header_at, static_at, static_end, right_length}
use Rattle.rules.specs.Clumps.{Head, body_of, end_of, is_waiting, walk}
use Rattle.rules.specs.Sound.{unsettled}
use Rattle.rules.specs.Requests.{Numbers, finder, stores_for, cut, finished}
use Rattle.rules.specs.Reading.{clumps_of, within, in_part, may_write, hidden}
use Rattle.rules.specs.Traces.{Wrote, Recovering, is_create, before_turn, is_through, Cut, Ready, created, asked, recovered, written, OnTheWay, ready, cut_off, as_if}
use Rattle.rules.specs.Demands.{Settled, Alike}
use Rattle.rules.specs.PowerLoss.{AlwaysTiles, StaysSettled, ReadsAs}
use Rattle.word.specs.Memory.{length-carry, bytes_carry}
use Rattle.laws.specs.Searches.{or_neither, any_none, none_any, each_map}
use Rattle.laws.specs.Headers.{pool_same}
use Rattle.laws.specs.Verdicts.{judge-same, walk_same}
use Rattle.laws.specs.Independence.{not_within, agree_page, agree_up_to}
use Rattle.laws.specs.Pools.{Sound, pool_right}
use Rattle.loss.specs.Held.{sound_held, idle_sound}
use Rattle.loss.specs.Fates.{Kept, Owned, Rests, Led}
use Rattle.loss.specs.Calm.{one_more}
use Rattle.loss.specs.Readings.{reads_same}
use Rattle.loss.specs.Owning.{own_fate, led_sound}
use Rattle.loss.proofs.Courses.{Course, held_calm, calm_idle}
use Rattle.loss.proofs.Requested.{courses}
use Rattle.loss.proofs.Images.{cut-mem, finished-mem, Leading, recovering_leading, Recovered, finished-recovered}
use Rattle.loss.specs.Creating.{creation}

-- an image in which requests are served, of bytes
pub record Serves (img : Image) : Type 0 where
  pub bytes : Bytes img
  pub settled : Settled img

settled_sound : (img : Image) → Settled img → Sound (length img) (mem img)
settled_sound img s = record { pool = s.pool; sound = s.sound }

-- a sound image, of bytes
record Stays (n : ℕ) (img : Image) : Type 0 where
  bytes : Bytes img
  long : length img ≡ n
  sound : Sound n (mem img)

stays_leading : (n : ℕ) (img : Image) (f : Stays n img) → let g = own_fate n (mem img) f.sound in Leading n (Owned g.kept) g.kept g.words img
stays_leading n img f = record { bytes = f.bytes; long = f.long; led = (own_fate n (mem img) f.sound).one }

recovering_stays : (n : ℕ) (img x : Image) → Stays n img → Recovering img x → Stays n x
recovering_stays n img x f r =
    let g = own_fate n (mem img) f.sound in
    let y = recovering_leading n (Owned g.kept) g.kept g.words img x (stays_leading n img f) r in
    record { bytes = y.bytes; long = y.long; sound = led_sound n (Owned g.kept) g.kept g.words (mem x) y.led }

-- a finished recovery
recovered_serves : (n : ℕ) (D : ℕ → Type 0) (k : List Kept) (w : Mem) (img : Image) → Recovered n D k w img → Serves img
recovered_serves n D k w img r =
    let f = subst (λ (l : ℕ). Sound l (mem img)) (sym r.long) (idle_sound n (mem img) r.clumps r.rests.held r.rests.idle) in
    record {
      bytes = r.bytes;
      settled =
          record {
            pool = f.pool;
            sound = f.sound;
            calm = subst (λ (l : ℕ). unsettled (walk l (mem img)) ≡ false) (sym r.long) (held_calm n (mem img) r.clumps r.rests.held r.rests.idle r.calm.apart);
          };
    }

-- a cut
course_of : (img : Image) (q : Request) → Serves img → is_create q ≡ false → Course (length img) (mem img) (is_through (mem img) (clumps_of img) q) (stores_for img q)
course_of img q s c = courses (length img) (mem img) q (settled_sound img s.settled) s.settled.calm c

cut_stays : (img : Image) (q : Request) (j : ℕ) → Serves img → Numbers q → is_create q ≡ false → Stays (length img) (cut img q j)
cut_stays img q j s u c =
    record {
      bytes = bytes_carry img (take j (stores_for img q)) s.bytes;
      long = length-carry img (take j (stores_for img q));
      sound = subst (Sound (length img)) (sym (cut-mem img q j s.bytes u)) ((course_of img q s c).sounds j);
    }

pub finished_serves : (img : Image) (q : Request) → Serves img → Numbers q → is_create q ≡ false → Serves (finished img q)
finished_serves img q s u c =
    let n = length img in
    let m = mem img in
    let st = stores_for img q in
    let e = length-carry img st in
    let d = course_of img q s c in
    let f = finished-mem img q s.bytes u in
    let t = subst (λ (l : List Store). Sound n (after m l)) (take-length st) (d.sounds (length st)) in
    record {
      bytes = bytes_carry img st s.bytes;
      settled = record { pool = rw (e, f) t.pool; sound = rw (e, f) t.sound; calm = rw (e, f) d.calm };
    }

-- creation, over any image of a right length
created_serves : (img : Image) → Bytes img → right_length (length img) ≡ true → Serves (finished img Create)
created_serves img b e = record { bytes = bytes_carry img (stores_for img Create) b; settled = (creation img e).0 }

asked_serves : (img : Image) (q : Request) → Serves img → Numbers q → Serves (finished img q)
asked_serves img Create s u = created_serves img s.bytes (pool_right (length img) (mem img) s.settled.pool)
asked_serves img (Reserve size) s u = finished_serves img (Reserve size) s u refl
asked_serves img (ReserveUncleared size) s u = finished_serves img (ReserveUncleared size) s u refl
asked_serves img (Grow o size) s u = finished_serves img (Grow o size) s u refl
asked_serves img (Onactive o t v) s u = finished_serves img (Onactive o t v) s u refl
asked_serves img (Onfree o t v) s u = finished_serves img (Onfree o t v) s u refl
asked_serves img (Withdraw o) s u = finished_serves img (Withdraw o) s u refl
asked_serves img (Activate o) s u = finished_serves img (Activate o) s u refl
asked_serves img (Free o) s u = finished_serves img (Free o) s u refl
asked_serves img Check s u = finished_serves img Check s u refl
asked_serves img Recover s u = finished_serves img Recover s u refl

-- the owner's writes
bare_closed : (m : Mem) (hs : List Head) (i : ℕ) → hidden m hs i ≡ false → may_write hs i ≡ false
unfolding hidden in_part
bare_closed m hs i e =
    let f = or_neither (ltb i header_at) _ e in
    let l = ltb-false i header_at f.0 in
    rw (
      not_within static_at static_end i (λ p q. omega arith),
      none_any (λ h. is_waiting h && within (body_of h) (end_of h) i) hs
          (each_map _ (λ h. (is_waiting h && within (body_of h) (end_of h) i) ≡ false) hs
          (λ h g. let z : within (body_of h) (end_of h) i ≡ false = (or_neither _ _ (or_neither _ _ g).0).0 in
          rw z (and-false (is_waiting h))) (any_none _ hs f.1)),
    )

wrote_serves : (img x : Image) → Serves img → Wrote img x → Serves x
wrote_serves img x s w =
    let n = length img in
    let a : Alike img x = record { long = w.long; same = λ i e. w.only i (bare_closed (mem img) (clumps_of img) i e) } in
    let page = agree_page img x a in
    let heads = agree_up_to img x a in
    let l = w.long in
    record {
      bytes = w.bytes;
      settled =
          record {
            pool = rw (l, pool_same n (mem img) (mem x) page) s.settled.pool;
            sound = rw (l, judge-same n (mem img) (mem x) page heads) s.settled.sound;
            calm = rw (l, walk_same n (mem img) (mem x) page heads s.settled.sound) s.settled.calm;
          };
    }

cut_on : (img x : Image) → Serves img → Cut img x → Stays (length img) x
cut_on img x s c = recovering_stays (length img) (cut img c.request c.stores) x (cut_stays img c.request c.stores s c.numbers c.other) c.then

pub serves : (img : Image) → Ready img → Serves img
serves img (created i b e) = created_serves i b e
serves img (asked {img = i} r q u) = asked_serves i q (serves i r) u
serves img (recovered {img = i} {x = x} r c) =
    let f = cut_on i x (serves i r) c in
    let g = own_fate (length i) (mem x) f.sound in
    recovered_serves (length i) (Owned g.kept) g.kept g.words (finished x Recover) (finished-recovered (length i) (Owned g.kept) g.kept g.words x (stays_leading (length i) x f))
serves img (written {before = b} {after = x} r w) = wrote_serves b x (serves b r) w

-- the images on the way
on_the_way : (img : Image) → OnTheWay img → Stays (length img) img
on_the_way img (ready r) = let s = serves img r in record { bytes = s.bytes; long = refl; sound = settled_sound img s.settled }
on_the_way img (cut_off {img = i} r c) =
    let f = cut_on i img (serves i r) c in
    record { bytes = f.bytes; long = refl; sound = subst (λ (l : ℕ). Sound l (mem img)) (sym f.long) f.sound }

pub always_tiles : AlwaysTiles
always_tiles img o = let f = (on_the_way img o).sound in ((sound_held (length img) (mem img) f).tiles, f.pool, f.sound)

pub stays_settled : StaysSettled
stays_settled img r = let s = (serves img r).settled in (s, one_more (clumps_of img) (calm_idle (clumps_of img) s.calm).1)

-- the image that a cut is recovered as, and the cut image: recovery makes the same of both
record Twins (img x y : Image) : Type 0 where
  kept : List Kept
  words : Mem
  one : Leading (length img) (Owned kept) kept words x
  other : Leading (length img) (Owned kept) kept words y

-- with no store made nothing is carried through
none_through : (m : Mem) (hs : List Head) (q : Request) → is_through m hs q 0 ≡ false
none_through m hs Create = refl
none_through m hs (Reserve size) = refl
none_through m hs (ReserveUncleared size) = refl
none_through m hs (Grow o size) = refl
none_through m hs (Onactive o t v) = refl
none_through m hs (Onfree o t v) = refl
none_through m hs (Withdraw o) = refl
none_through m hs (Activate o) = refl
none_through m hs (Free o) = le-ltb (before_turn m (finder hs o)) 0 (omega arith)
none_through m hs Check = refl
none_through m hs Recover = refl

twins : (img : Image) (q : Request) (j : ℕ) → Serves img → Numbers q → is_create q ≡ false → j < length (stores_for img q) → Twins img (as_if img q j) (cut img q j)
unfolding carry
twins img q zero s u c l =
    let g = own_fate (length img) (mem img) (settled_sound img s.settled) in
    let f : Leading (length img) (Owned g.kept) g.kept g.words img = record { bytes = s.bytes; long = refl; led = g.one } in
    rw (none_through (mem img) (clumps_of img) q) (record { kept = g.kept; words = g.words; one = f; other = f })
twins img q (suc j) s u c l =
    let d = (course_of img q s c).same (suc j) (omega arith) l in
    let e = cut_stays img q (suc j) s u c in
    record {
      kept = d.kept;
      words = d.words;
      one = go (is_through (mem img) (clumps_of img) q (suc j)) d.one;
      other = record { bytes = e.bytes; long = e.long; led = subst (Led (length img) (Owned d.kept) d.kept d.words) (sym (cut-mem img q (suc j) s.bytes u)) d.other };
    }
  where
    go :
        (b : Bool) {k : List Kept} {w : Mem}
        → Led (length img) (Owned k) k w (cond b (after (mem img) (stores_for img q)) (mem img))
        → Leading (length img) (Owned k) k w (cond b (finished img q) img)
    go true {k} {w} f =
        record {
          bytes = bytes_carry img (stores_for img q) s.bytes;
          long = length-carry img (stores_for img q);
          led = subst (Led (length img) (Owned k) k w) (sym (finished-mem img q s.bytes u)) f;
        }
    go false f = record { bytes = s.bytes; long = refl; led = f }

pub reads_as : ReadsAs
reads_as img x r c l =
    let s = serves img r in
    let n = length img in
    let t = twins img c.request c.stores s c.numbers c.other l in
    let k = t.kept in
    let w = t.words in
    let D = Owned k in
    let y = as_if img c.request c.stores in
    let a = finished-recovered n D k w x (recovering_leading n D k w (cut img c.request c.stores) x t.other c.then) in
    let b = finished-recovered n D k w y t.one in
    reads_same (finished x Recover) (finished y Recover) k w a.clumps b.clumps a.bytes b.bytes (b.long ∙ sym a.long)
    (subst (λ (l : ℕ). Rests l D k w (mem (finished x Recover)) a.clumps) (sym a.long) a.rests)
    (subst (λ (l : ℕ). Rests l D k w (mem (finished y Recover)) b.clumps) (sym a.long) b.rests) a.calm b.calm
