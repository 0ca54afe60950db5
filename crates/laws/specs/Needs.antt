-- The need of a reserve: what it is at least, that it keeps clumps whole, and how the code computes it and compares it without a sum
-- past 64 bits. By arithmetic. Assumes nothing.
use Rattle.std.specs.Prelude.{ℕ, ◌+◌, ◌-◌, ◌*◌, ◌/◌, ◌%◌, ◌<◌, ◌≤◌, ◌≡◌, false, leb}
use Rattle.std.proofs.Common.{sym, arith}
use Rattle.std.proofs.lemmas.Bool.{lt-leb}
use Rattle.rules.specs.Pages.{unit}
use Rattle.rules.specs.Clumps.{header_bytes, least_clump}
use Rattle.rules.specs.Stores.{need_of}
use Rattle.word.specs.Tests.{leb_same}

-- a header, and a multiple of 64
pub need_least : (size : ℕ) → header_bytes ≤ need_of size
unfolding need_of
need_least size = omega arith

pub need_even : (size : ℕ) → need_of size % unit ≡ 0
unfolding need_of
need_even size = omega arith

-- rounded up by quotients (no proof cites it now; it stands as it was stated)
pub need_is : (size : ℕ) → 64 + (size / 64 + (size % 64 + 63) / 64) * 64 ≡ need_of size
unfolding need_of
need_is size = omega arith

-- as the code compares it with nbytes
pub need_small : (n size : ℕ) → n < header_bytes → false ≡ leb (need_of size) n
unfolding need_of
need_small n size l = sym (lt-leb _ n (omega arith))

pub need_room : (n size : ℕ) → header_bytes ≤ n → leb size ((n - 64) / 64 * 64) ≡ leb (need_of size) n
unfolding need_of
need_room n size l = leb_same size ((n - 64) / 64 * 64) (64 + (size + 63) / 64 * 64) n (λ k. omega arith) (λ k. omega arith)

-- a size has a clump, with room for its header and its body
pub need_clump : (size : ℕ) → (size ≡ 0 → ⊥) → least_clump ≤ need_of size
unfolding need_of
need_clump size z = omega arith

pub need_body : (size : ℕ) → header_bytes + size ≤ need_of size
unfolding need_of
need_body size = omega arith
