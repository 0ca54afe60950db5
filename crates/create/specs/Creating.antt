-- Create's list in two parts, and a law for each way out of it. Assumes nothing.
use Rattle.std.specs.Prelude.{ℕ, ◌+◌, ◌-◌, ◌/◌, ◌≡◌, Bool, true, false, not, List, [], ◌∷◌, ◌++◌, length}
use Rattle.std.proofs.Common.{sym, ◌∙◌, append_assoc}
use Rattle.std.proofs.lemmas.Bool.{not-true, not-false}
use Rattle.rules.specs.declared.Answer.{Answer}
use Rattle.rules.specs.declared.Request.TheVariants.{Create}
use Rattle.rules.specs.Words.{Image, Store, store, zeros, word_bytes}
use Rattle.rules.specs.Pages.{page_bytes, static_at, header_at, signature_low, signature_high, signature_high_at, total_at, padding_at, padding_words, clumps_at, right_length}
use Rattle.rules.specs.Clumps.{header_bytes}
use Rattle.rules.specs.Answers.{granted, refuse, not_pool}
use Rattle.rules.specs.Stores.{create_stores}
use Rattle.rules.specs.Requests.{Does, verdict}
use Rattle.laws.specs.Pools.{answer_is}
use Rattle.steps.specs.Acts.{acts_refused, acts_does, acts_ran}
use Rattle.word.specs.declared.Power.{Power}
use Rattle.word.specs.Runs.{full, Ran, told, ran_then, ran_as}

-- create's list, below the padding and from it on
abbrev pub page_stores : ℕ → List Store
page_stores n =
    store header_at 0
    ∷ (zeros static_at (page_bytes / word_bytes) ++ (store signature_high_at signature_high ∷ store total_at n ∷ []))

abbrev pub clump_stores : ℕ → List Store
clump_stores n =
    zeros padding_at padding_words
    ++ (store clumps_at (n - clumps_at) ∷ (zeros (clumps_at + word_bytes) (header_bytes / word_bytes - 1) ++ (store header_at signature_low ∷ [])))

pub create_parts : (n : ℕ) → create_stores n ≡ page_stores n ++ clump_stores n
unfolding create_stores
create_parts n = rw append_assoc

-- create, a law for each way out
pub create_refused : (img : Image) (b : Bool) (fuse : ℕ) → b ≡ right_length (length img) → not b ≡ true → Does img Create fuse img (answer_is 1 0 0)
unfolding verdict
create_refused img b fuse e t = acts_does (refuse not_pool) (rw (sym e ∙ not-true b t)) (acts_refused img 1 0 0 fuse)

pub create_done :
    {img x y : Image} {p q s : Power} {r : Answer} (b : Bool) (fuse : ℕ)
    → b ≡ right_length (length img)
    → not b ≡ false
    → p ≡ full fuse
    → Ran img p (page_stores (length img)) x q
    → Ran x q (clump_stores (length x)) y s
    → r ≡ told s 0
    → Does img Create fuse y r
unfolding verdict
create_done {img} {s = s} b fuse e t f u v a =
    acts_does (granted 0 (create_stores (length img))) (rw (sym e ∙ not-false b t))
    (acts_ran {q = s} fuse 0 (ran_as _ _ (create_parts (length img)) (ran_then (rw f at u) (rw u.long at v))) a)
