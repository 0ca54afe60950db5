-- `byte`: a newline, or any other byte. Assumes nothing.
use Rattle.std.proofs.Common.{refl}
use Rattle.bench.specs.Feeding.{follows_newline, follows_byte}
use Rattle.bench.proofs.feed.Held.byte.Goals as goal

pub returns-then-b-eq-NEWLINE : goal.returns-then-b-eq-NEWLINE
returns-then-b-eq-NEWLINE g c =
    let l = c.line_end-said.ensures in
    follows_newline _ _ _ _ _ c.if-b-eq-NEWLINE.true l.img_after l.fuse_value refl

pub returns : goal.returns
returns g c = follows_byte _ _ _ _ c.if-b-eq-NEWLINE.false c.gather-self.ensures refl
