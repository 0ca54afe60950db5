-- What is promised of power loss, as named statements: creation, and the third demand over histories.
-- Nothing is proved here: the crate that proves a statement has a value of that very type. Assumes nothing.
use Rattle.std.specs.Prelude.{ℕ, suc, ◌-◌, ◌<◌, ◌≤◌, ◌≡◌, true, false, List, [], ◌∷◌, length, replicate}
use Rattle.std.proofs.Math.Option.{none}
use Rattle.std.proofs.Math.Seq.{slice}
use Rattle.rules.specs.declared.Request.{Request}
use Rattle.rules.specs.declared.Request.TheVariants.{Create, Activate, Free, Recover}
use Rattle.rules.specs.Lists.{those, Each}
use Rattle.rules.specs.Words.{Image, Store, Bytes, mem}
use Rattle.rules.specs.Pages.{right_length, is_pool, static_at, static_end, page_bytes, clumps_at}
use Rattle.rules.specs.Clumps.{FREE, is_free, is_live}
use Rattle.rules.specs.Sound.{judge}
use Rattle.rules.specs.Stores.{create_count}
use Rattle.rules.specs.Requests.{cut, finished, stores_for}
use Rattle.rules.specs.Reading.{clumps_of, Tiled, reading}
use Rattle.rules.specs.Traces.{as_if, is_through, Recovering, Cut, Ready, OnTheWay}
use Rattle.rules.specs.Demands.{Settled, Accepted, carried_out}

-- "1,033 stores. Cut after 1 to 1,032, the image is no pool (answer 1)."
abbrev pub CreateCut : Type 0
CreateCut =
    (img : Image) (k : ℕ)
    → right_length (length img) ≡ true
    → (length (stores_for img Create) ≡ create_count)
    × (0 < k → k < create_count → let x = cut img Create k in is_pool (length x) (mem x) ≡ false)

-- a finished creation: one FREE clump, and a static area of zeros
abbrev pub Created : Type 0
Created =
    (img : Image)
    → right_length (length img) ≡ true
    → let x = finished img Create in
    Settled x
    × (clumps_of x ≡ record { at = clumps_at; nbytes = length img - clumps_at; state = FREE } ∷ [])
    × (slice static_at static_end x ≡ replicate page_bytes 0)

-- Demand 3: "the clumps always tile", on every image of a history; and recovery finds it sound
abbrev pub AlwaysTiles : Type 0
AlwaysTiles =
    (img : Image)
    → OnTheWay img
    → Tiled img
    × (is_pool (length img) (mem img) ≡ true)
    × (judge (length img) (mem img) ≡ none)

-- Demand 3: "no two FREE touch after a finished request or recovery"; so there is at most one FREE clump more than live ones
abbrev pub StaysSettled : Type 0
StaysSettled =
    (img : Image) → Ready img → Settled img × (length (those is_free (clumps_of img)) ≤ suc (length (those is_live (clumps_of img))))

-- Demand 3: "a cut request once recovered reads as 01's rule says". Recovery itself may have been cut and begun again.
abbrev pub ReadsAs : Type 0
ReadsAs =
    (img x : Image)
    → Ready img
    → (c : Cut img x)
    → c.stores < length (stores_for img c.request)
    → reading (finished x Recover) ≡ reading (finished (as_if img c.request c.stores) Recover)

-- "A second recovery makes no store."
abbrev pub SecondRecovery : Type 0
SecondRecovery = (img : Image) → Bytes img → stores_for (finished img Recover) Recover ≡ []

-- no target is listed twice
abbrev pub Distinct : List Store → Type 0
Distinct [] = Unit {0}
Distinct (s ∷ st) = Each (λ t. s.to ≡ t.to → ⊥) st × Distinct st

-- the customer's sentence, of a request that carries out a list: if it is accepted, then after any cut of it, and recovery, the words that
-- the entries carried out name all hold the listed values, or all hold what they held before: the latter exactly up to the store that decides
abbrev pub AllOrNoneOf : Request → Type 0
AllOrNoneOf q =
    (img x : Image) (k : ℕ)
    → let st = carried_out (mem img) (clumps_of img) q in
    let through = is_through (mem img) (clumps_of img) q k in
    let y = finished x Recover in
    Ready img
    → Accepted img q
    → Recovering (cut img q k) x
    → (through ≡ false → Each (λ s. mem y s.to ≡ mem img s.to) st)
    × (through ≡ true → Distinct st → Each (λ s. mem y s.to ≡ s.word) st)

-- of an activation; and W4, of a free, with onfree entries listed before or after activation
abbrev pub AllOrNone : Type 0
AllOrNone = (offset : ℕ) → AllOrNoneOf (Activate offset)

abbrev pub FreeAllOrNone : Type 0
FreeAllOrNone = (offset : ℕ) → AllOrNoneOf (Free offset)
