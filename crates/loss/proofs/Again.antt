-- A second recovery makes no store: after the first nothing is pending, nothing is reserved and no two FREE clumps touch. By what a
-- finished recovery leaves, or by its refusal. Assumes nothing.
use Rattle.std.specs.Prelude.{ℕ, ◌≡◌, refl, false, ◌⊎◌, List, [], ◌∷◌, map, length}
use Rattle.std.proofs.Common.{sym, ap, ap₂, ◌∙◌, inl, ⊎_elim}
use Rattle.std.proofs.Math.Logic.{inr}
use Rattle.rules.specs.declared.Request.TheVariants.{Recover}
use Rattle.rules.specs.Lists.{Each}
use Rattle.rules.specs.Words.{Image, Mem, Store, mem, carry}
use Rattle.rules.specs.Clumps.{Head, has_state, is_pending, RESERVED}
use Rattle.rules.specs.Answers.{stores_of}
use Rattle.rules.specs.Stores.{releasing, released, recover_stores}
use Rattle.rules.specs.Requests.{verdict, stores_for, finished}
use Rattle.rules.specs.PowerLoss.{SecondRecovery}
use Rattle.laws.specs.Searches.{none_seek, those_nil}
use Rattle.laws.specs.Behind.{behind_sound}
use Rattle.laws.specs.Pools.{Sound}
use Rattle.laws.specs.Mending.{freed, map-released, map_idle}
use Rattle.loss.specs.Held.{held_walk, idle_sound}
use Rattle.loss.specs.Fates.{Kept, Owned}
use Rattle.loss.specs.Joined.{calm_joins}
use Rattle.loss.specs.Owning.{own_fate}
use Rattle.loss.proofs.Images.{recover_stores_lem, Recovered, finished-recovered}

-- nothing reserved, nothing to release
freed_none : (hs : List Head) → Each (λ h. has_state RESERVED h ≡ false) hs → map freed hs ≡ hs
freed_none [] e = refl
freed_none (h ∷ hs) e = ap₂ ◌∷◌ (let f = e.0 in rw f) (freed_none hs e.1)

released_none : (hs : List Head) → Each (λ h. has_state RESERVED h ≡ false) hs → releasing hs ≡ []
unfolding releasing
released_none hs e = rw (those_nil (has_state RESERVED) hs e)

calm_stores : (n : ℕ) (D : ℕ → Type 0) (k : List Kept) (w : Mem) (img : Image) → Recovered n D k w img → stores_for img Recover ≡ []
unfolding recover_stores
calm_stores n D k w img r =
    let m = mem img in
    let hs = r.clumps in
    let f = r.rests.held in
    let i = r.rests.idle in
    let c = r.calm in
    let e : map released hs ≡ hs = sym (map-released _ _ hs f.tiles) ∙ ap (map freed) (map_idle hs i) ∙ freed_none hs c.unreserved in
    ap (λ (l : ℕ). stores_of (verdict l m Recover)) r.long
    ∙ recover_stores_lem n m (idle_sound n m hs f i)
    ∙ rw (held_walk n m hs f, none_seek is_pending hs i, released_none hs c.unreserved, e) (calm_joins hs c.apart)

pub second_recovery : SecondRecovery
unfolding carry
second_recovery img b = ⊎_elim unsound sound (refused_or img)
  where
    refused_or : (img : Image) → (stores_for img Recover ≡ []) ⊎ Sound (length img) (mem img)
    refused_or img = unfold verdict in behind_sound (λ st. (st ≡ []) ⊎ Sound (length img) (mem img)) (inl refl) (length img) (mem img) _ (λ s. inr s)

    unsound : stores_for img Recover ≡ [] → stores_for (finished img Recover) Recover ≡ []
    unsound e = ap (λ (st : List Store). stores_for (carry img st) Recover) e ∙ e

    sound : Sound (length img) (mem img) → stores_for (finished img Recover) Recover ≡ []
    sound s =
        let n = length img in
        let g = own_fate n (mem img) s in
        calm_stores n (Owned g.kept) g.kept g.words (finished img Recover) (finished-recovered n (Owned g.kept) g.kept g.words img (record { bytes = b; long = refl; led = g.one }))
