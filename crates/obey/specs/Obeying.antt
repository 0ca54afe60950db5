-- What a line makes of the image (01, "The program"); what it makes of the fuse is said in `line`. Assumes nothing.
use Rattle.std.specs.Prelude.{ℕ}
use Rattle.rules.specs.Words.{Image}
use Rattle.rules.specs.Requests.{cut}
use Rattle.line.specs.declared.Line.{Line}
use Rattle.line.specs.declared.Line.TheVariants.{Ask, Fuse, Walk, Bad}

-- the image after a line: a request stores as far as its fuse lasts, and no other line stores
unfoldable pub image_after : Image → Line → ℕ → Image
image_after img (Ask q) fuse = cut img q fuse
image_after img (Fuse k) fuse = img
image_after img Walk fuse = img
image_after img Bad fuse = img
