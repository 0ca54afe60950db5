-- Where the stores of create land: in the static area, in the header page and in the first clump's header, each an aligned word of 64
-- bits. What holds of every such store holds of each store of create. And how many they are. By the list as the rules spell it. Assumes
-- nothing.
use Rattle.std.specs.Prelude.{ℕ, ◌+◌, ◌-◌, ◌*◌, ◌/◌, ◌%◌, ◌<◌, ◌≤◌, ◌≡◌, ◌⊎◌, [], ◌∷◌, ◌++◌, length}
use Rattle.std.proofs.Math.Path.{refl}
use Rattle.std.proofs.Common.{inl, inr, arith, length-append}
use Rattle.rules.specs.Lists.{Each}
use Rattle.rules.specs.Words.{Store, le, store, zeros, word_bytes, word_values}
use Rattle.rules.specs.Pages.{page_bytes, static_at, static_end, header_at, signature, signature_low, signature_high, signature_high_at, total_at, padding_at, padding_words, clumps_at}
use Rattle.rules.specs.Clumps.{header_bytes}
use Rattle.rules.specs.Stores.{create_stores, create_count}
use Rattle.laws.specs.Searches.{each_append}
use Rattle.laws.specs.Pools.{RightLength}
use Rattle.laws.specs.Clearing.{zeros_each, length-zeros}

-- the word at o is one of the static area, or one of the header page or of the first clump's header
abbrev pub Founds : ℕ → Type 0
Founds o = ((static_at ≤ o) × (o + word_bytes ≤ static_end)) ⊎ ((header_at ≤ o) × (o + word_bytes ≤ clumps_at + header_bytes))

-- how many they are
pub create_length : (n : ℕ) → length (create_stores n) ≡ create_count
unfolding create_stores
create_length n = simp (length-append, length-zeros) (omega arith)

low_small : signature_low < word_values
unfolding signature_low le signature
low_small = omega arith

high_small : signature_high < word_values
unfolding signature_high le signature
high_small = omega arith

module _ (P : Store → Type 0) (n : ℕ) (r : RightLength n) (f : (o w : ℕ) → Founds o → o % word_bytes ≡ 0 → w < word_values → P (store o w)) where
  -- a word from the header page on, and a run of zeros there
  paged : (o w : ℕ) → header_at ≤ o → o + word_bytes ≤ clumps_at + header_bytes → o % word_bytes ≡ 0 → w < word_values → P (store o w)
  paged o w l u e k = f o w (inr (l, u)) e k

  blank : (i k : ℕ) → header_at ≤ i → i + word_bytes * k ≤ clumps_at + header_bytes → i % word_bytes ≡ 0 → Each P (zeros i k)
  blank i k l u e = zeros_each P i k e (λ o a b d. paged o 0 (omega arith) (omega arith) d (omega arith))

  pub create_each : Each P (create_stores n)
  unfolding create_stores
  create_each =
      let l = r.least in
      let u = r.most in
      let clump : Each P (store clumps_at (n - clumps_at) ∷ (zeros (clumps_at + word_bytes) (header_bytes / word_bytes - 1) ++ (store header_at signature_low ∷ []))) = (
        paged clumps_at (n - clumps_at) (omega arith) (omega arith) refl (omega arith),
        each_append P (zeros (clumps_at + word_bytes) (header_bytes / word_bytes - 1)) (store header_at signature_low ∷ [])
            (blank (clumps_at + word_bytes) (header_bytes / word_bytes - 1) (omega arith) (omega arith) refl) (paged header_at signature_low (omega arith) (omega arith) refl low_small, tt),
      ) in (
        paged header_at 0 (omega arith) (omega arith) refl (omega arith),
        each_append P (zeros static_at (page_bytes / word_bytes)) _ (zeros_each P static_at (page_bytes / word_bytes) refl (λ o a b d. f o 0 (inl (a, omega arith)) d (omega arith))) (
          paged signature_high_at signature_high (omega arith) (omega arith) refl high_small,
          (paged total_at n (omega arith) (omega arith) refl (omega arith), each_append P (zeros padding_at padding_words) _ (blank padding_at padding_words (omega arith) (omega arith) refl) clump),
        ),
      )
