-- What the code holds of a dialogue, and that it follows the input: a law for a newline and one for any other byte, and a chunk byte
-- by byte. Assumes nothing.
use Rattle.std.specs.Prelude.{ℕ, ◌+◌, ◌<◌, ◌≡◌, refl, Result, OnOk, List, [], ◌∷◌, ◌++◌, length, take, get_or}
use Rattle.std.proofs.Common.{sym, ◌∙◌, arith, add-one, eq-eqb, ne_eqb, length-take, take_all, take-suc}
use Rattle.rules.specs.Words.{Image}
use Rattle.line.specs.Lines.{line_of, fuse_after}
use Rattle.text.specs.Texts.{newline}
use Rattle.line.specs.Gathering.{kept, Gathered, Holds, holds_start, holds_next}
use Rattle.line.proofs.Keeping.{holds_line}
use Rattle.obey.specs.Obeying.{image_after}
use Rattle.streams.specs.declared.Told.{Told}
use Rattle.bench.specs.declared.feed.Held.{Held}
use Rattle.bench.specs.Steps.{Dialogue, line_ended, byte_after, bytes_after}

-- image and what is held stand for a dialogue: of its text the buffer has as many bytes as tell what it means
pub record Stands (img : Image) (h : Held) (s : Dialogue) : Type 0 where
  pub image : img ≡ s.image
  pub text : Holds kept h.buf h.count s.text
  pub fuse : h.fuse ≡ s.fuse

-- whichever dialogue they stood for before the bytes, they stand for the one after them now
abbrev pub Follows : Image → Held → List ℕ → Image → Held → Type 0
Follows img h bs img' h' = (s : Dialogue) → Stands img h s → Stands img' h' (bytes_after s bs)

-- a chunk was followed to its end, or up to where a write failed
pub record Fed (img : Image) (h : Held) (chunk : List ℕ) (img' : Image) (h' : Held) (r : Result (Unit {0}) Told) : Type 0 where
  pub taken : ℕ
  pub follows : Follows img h (take taken chunk) img' h'
  pub whole : OnOk r (taken ≡ length chunk)

-- there is always such a dialogue: the one whose text is just what is held
pub stands_some :
    (img : Image) (h : Held)
    → length h.buf ≡ kept
    → Stands img h (record { image = img; text = take h.count h.buf; fuse = h.fuse })
stands_some img h e =
    let room = h.room in
    let t = take h.count h.buf in
    let n : length t ≡ h.count = omega (arith, length-take h.count h.buf) in
    record { image = refl; text = record { counted = omega arith; held = sym (take_all kept t (omega arith)) }; fuse = refl }

-- the line that is held means what the dialogue's does
pub line_held :
    {img : Image} {h : Held} {s : Dialogue}
    → Stands img h s
    → image_after img (line_of (take h.count h.buf)) h.fuse ≡ (line_ended s).image
line_held {h = h} {s = s} t = rw (t.image, holds_line h.buf h.count s.text t.text, t.fuse)

-- a newline: no byte is held then
pub follows_newline :
    (img : Image) (h : Held) (b : ℕ) (img' : Image) (h' : Held)
    → b ≡ newline
    → img' ≡ image_after img (line_of (take h.count h.buf)) h.fuse
    → h'.fuse ≡ fuse_after h.fuse (line_of (take h.count h.buf))
    → h'.count ≡ 0
    → Follows img h (b ∷ []) img' h'
unfolding bytes_after byte_after
follows_newline img h b img' h' e p q z =
    λ s t.
    rw (eq-eqb b newline e, bytes_after)
    (record {
      image = p ∙ line_held t;
      text = rw z (holds_start kept h'.buf);
      fuse = q ∙ rw (holds_line h.buf h.count s.text t.text, t.fuse);
    })

-- any other byte
pub follows_byte :
    (img : Image) (h : Held) (b : ℕ) (h' : Held)
    → (b ≡ newline → ⊥)
    → Gathered kept h.buf h.count b h'.buf h'.count
    → h'.fuse ≡ h.fuse
    → Follows img h (b ∷ []) img h'
unfolding bytes_after byte_after
follows_byte img h b h' n g q =
    λ s t.
    rw (ne_eqb b newline n, bytes_after)
    (record { image = t.image; text = holds_next kept h.buf h.count s.text b h'.buf h'.count t.text g; fuse = q ∙ t.fuse })

-- bytes and then more
pub bytes_append : (s : Dialogue) (bs cs : List ℕ) → bytes_after s (bs ++ cs) ≡ bytes_after (bytes_after s bs) cs
unfolding bytes_after
bytes_append s [] cs = refl
bytes_append s (b ∷ bs) cs = bytes_append (byte_after s b) bs cs

-- of a chunk no byte, and one more
pub follows_none : (img : Image) (h : Held) → Follows img h [] img h
unfolding bytes_after
follows_none img h = λ s t. t

pub follows_next :
    {img img' img'' : Image} {h h' h'' : Held} (chunk : List ℕ) (i : ℕ)
    → i < length chunk
    → Follows img h (take i chunk) img' h'
    → Follows img' h' (get_or chunk i 0 ∷ []) img'' h''
    → Follows img h (take (i + 1) chunk) img'' h''
follows_next chunk i l v w =
    λ s t.
    rw (add-one, take-suc chunk i 0 l, bytes_append s (take i chunk) (get_or chunk i 0 ∷ []))
    (w (bytes_after s (take i chunk)) (v s t))
