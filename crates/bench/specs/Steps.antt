-- What a byte of the input makes of the image and of the fuse (01, "The program"); what a line makes of the image is `image_after`, of the
-- crate `obey`. Assumes nothing.
use Rattle.std.specs.Prelude.{ℕ, cond, List, [], ◌∷◌, ◌++◌, eqb}
use Rattle.rules.specs.Words.{Image}
use Rattle.rules.specs.Cases.{longest}
use Rattle.line.specs.Lines.{line_of, fuse_after}
use Rattle.text.specs.Texts.{newline}
use Rattle.obey.specs.Obeying.{image_after}

-- where the program stands in its input: the image, the bytes since the last newline, the fuse of the next request
pub record Dialogue : Type 0 where
  pub image : Image
  pub text : List ℕ
  pub fuse : ℕ

-- at the start: "the fuse is the largest 64-bit number"
abbrev pub started : Image → Dialogue
started img = record { image = img; text = []; fuse = longest }

-- the bytes since the last newline are a line
abbrev pub line_ended : Dialogue → Dialogue
line_ended s =
    record {
      image = image_after s.image (line_of s.text) s.fuse;
      text = [];
      fuse = fuse_after s.fuse (line_of s.text);
    }

abbrev pub lengthened : Dialogue → ℕ → Dialogue
lengthened s b = record { image = s.image; text = s.text ++ (b ∷ []); fuse = s.fuse }

-- a newline ends the line, and any other byte belongs to it
unfoldable pub byte_after : Dialogue → ℕ → Dialogue
byte_after s b = cond (eqb b newline) (line_ended s) (lengthened s b)

unfoldable pub bytes_after : Dialogue → List ℕ → Dialogue
bytes_after s [] = s
bytes_after s (b ∷ bs) = bytes_after (byte_after s b) bs
