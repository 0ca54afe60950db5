-- Histories of a pool: requests, finished or cut, recoveries, finished or cut, and the owner's writes (the demands' third); at which
-- store a request turns (01; 02, W4 and W6).
-- Assumes nothing.
use Rattle.std.specs.Prelude.{ℕ, ◌≡◌, Bool, true, false, cond, List, ltb, length, get_or}
use Rattle.std.proofs.Math.Option.{Option, some, none}
use Rattle.rules.specs.declared.Request.{Request}
use Rattle.rules.specs.declared.Request.TheVariants.{Create, Reserve, ReserveUncleared, Grow, Onactive, Onfree, Withdraw, Activate, Free, Check, Recover}
use Rattle.rules.specs.Words.{Image, Mem, Bytes, mem}
use Rattle.rules.specs.Pages.{right_length}
use Rattle.rules.specs.Clumps.{Head, ACTIVE, has_state, unmarked, slots_by}
use Rattle.rules.specs.Stores.{has_marked}
use Rattle.rules.specs.Requests.{Numbers, cut, finished, finder}
use Rattle.rules.specs.Reading.{clumps_of, may_write}

-- a write of the owner's: any bytes, where it may
pub record Wrote (before after : Image) : Type 0 where
  pub long : length after ≡ length before
  pub bytes : Bytes after
  pub only : (i : ℕ) → may_write (clumps_of before) i ≡ false → get_or after i 0 ≡ get_or before i 0

-- x is what any number of recoveries of img leave, each cut after any number of its stores
pub data Recovering (img : Image) : Image → Type 0 where
  begun : Recovering img img
  again : {x : Image} → Recovering img x → (k : ℕ) → Recovering img (cut x Recover k)

-- A create that is cut leaves no pool: a history has it finished or not at all.
abbrev pub is_create : Request → Bool
is_create Create = true
is_create (Reserve size) = false
is_create (ReserveUncleared size) = false
is_create (Grow o size) = false
is_create (Onactive o t v) = false
is_create (Onfree o t v) = false
is_create (Withdraw o) = false
is_create (Activate o) = false
is_create (Free o) = false
is_create Check = false
is_create Recover = false

-- a request on img was cut after so many stores, then any number of recoveries were cut, and x is what they left
pub record Cut (img x : Image) : Type 0 where
  pub request : Request
  pub numbers : Numbers request
  pub other : is_create request ≡ false
  pub stores : ℕ
  pub then : Recovering (cut img request stores) x

-- "From a finished creation, any requests, each cut after any number of word stores, recovered (recovery cut and begun again
-- too), the owner writing only where it may": the images in which the next request finds the pool
pub data Ready : Image → Type 0 where
  created : (img : Image) → Bytes img → right_length (length img) ≡ true → Ready (finished img Create)
  asked : {img : Image} → Ready img → (q : Request) → Numbers q → Ready (finished img q)
  recovered : {img x : Image} → Ready img → Cut img x → Ready (finished x Recover)
  written : {before after : Image} → Ready before → Wrote before after → Ready after

-- every image on the way, cut ones included
pub data OnTheWay : Image → Type 0 where
  ready : {img : Image} → Ready img → OnTheWay img
  cut_off : {img x : Image} → Ready img → Cut img x → OnTheWay x

-- "It equals that of recovering the finished image if one or more stores of activate or free were made." W4, of a free that goes by
-- FREEING: "Cut before the FREEING store, it reads as not asked": so many stores are made before the one that decides
abbrev pub before_turn : Mem → Option Head → ℕ
before_turn m none = 0
before_turn m (some h) = cond (has_state ACTIVE h) 0 (cond (has_marked m h) (length (slots_by unmarked m h.at)) 0)

-- activate and free: once the store that decides was made, they are carried through
abbrev pub is_through : Mem → List Head → Request → ℕ → Bool
is_through m hs Create k = false
is_through m hs (Reserve size) k = false
is_through m hs (ReserveUncleared size) k = false
is_through m hs (Grow o size) k = false
is_through m hs (Onactive o t v) k = false
is_through m hs (Onfree o t v) k = false
is_through m hs (Withdraw o) k = false
is_through m hs (Activate o) k = ltb 0 k
is_through m hs (Free o) k = ltb (before_turn m (finder hs o)) k
is_through m hs Check k = false
is_through m hs Recover k = false

-- "After a cut and recovery, the reading equals that of recovering the image before the request, if the cut fell in reserve,
-- onactive, onfree, withdraw or recover, or before the first store. It equals that of recovering the finished image if .. ": the image
-- that is recovered, after a cut behind k stores. W6, of grow: "Cut before the nbytes store, it reads as not asked", and that is its last.
abbrev pub as_if : Image → Request → ℕ → Image
as_if img q k = cond (is_through (mem img) (clumps_of img) q k) (finished img q) img
