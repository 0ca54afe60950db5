-- Any two outcomes that a public contract allows are equal. Those of `read` and `fuse_after` are equations; that of `gather` says how
-- many bytes a buffer holds, which, and that the rest is kept; those of `three` and `question` are `Wrote`, which has its law in `text`.
-- Assumes nothing.
use Rattle.std.specs.Prelude.{ℕ, ◌≡◌, List}
use Rattle.std.proofs.Common.{sym, ◌∙◌}
use Rattle.text.specs.Writing.{parts_same}
use Rattle.line.specs.declared.Line.{Line}
use Rattle.line.specs.Lines.{line_of, fuse_after}
use Rattle.line.specs.Gathering.{Gathered}

pub read_determined : (s : List ℕ) {r t : Line} → r ≡ line_of s → t ≡ line_of s → r ≡ t
read_determined s a b = a ∙ sym b

pub fuse_determined : (fuse : ℕ) (l : Line) {r t : ℕ} → r ≡ fuse_after fuse l → t ≡ fuse_after fuse l → r ≡ t
fuse_determined fuse l a b = a ∙ sym b

pub gather_determined : {k : ℕ} {x y z : List ℕ} {count b r t : ℕ} → Gathered k x count b y r → Gathered k x count b z t → (y ≡ z) × (r ≡ t)
gather_determined {y = y} {z = z} {r = r} v w =
    let e = v.counted ∙ sym w.counted in
    (parts_same r y z (v.held ∙ sym (rw e w.held)) (v.rest ∙ sym (rw e w.rest)), e)
