-- The whole input: what was read cannot be said, but that the image is the one after some input. Assumes nothing.
use Rattle.std.specs.Prelude.{ℕ, ◌≤◌, ◌≡◌, refl, List, [], ◌∷◌, ◌++◌}
use Rattle.std.proofs.Common.{sym, ◌∙◌, arith}
use Rattle.rules.specs.Words.{Image}
use Rattle.rules.specs.Cases.{longest}
use Rattle.rules.specs.Pages.{codes}
use Rattle.text.specs.Texts.{newline}
use Rattle.line.specs.declared.Line.TheVariants.{Bad}
use Rattle.line.specs.Lines.{fields, numbers, same, named, commands, command, meaning, line_of}
use Rattle.line.specs.Gathering.{kept, holds_start}
use Rattle.obey.specs.Obeying.{image_after}
use Rattle.bench.specs.declared.feed.Held.{Held}
use Rattle.bench.specs.Steps.{Dialogue, started, line_ended, byte_after, bytes_after}
use Rattle.bench.specs.Feeding.{Stands, Follows, line_held, bytes_append}

-- the dialogue after some input
pub record Reached (img img' : Image) (h : Held) : Type 0 where
  pub input : List ℕ
  pub stands : Stands img' h (bytes_after (started img) input)

-- the image after some input; the end of the input ends the last line as a newline does
pub record Ended (img img' : Image) : Type 0 where
  pub input : List ℕ
  pub image : img' ≡ (bytes_after (started img) input).image

-- the start, a chunk more, and the end
pub reached_start : (img : Image) (h : Held) → h.count ≡ 0 → h.fuse ≡ longest → Reached img img h
unfolding bytes_after
reached_start img h z f = record { input = []; stands = record { image = refl; text = rw z (holds_start kept h.buf); fuse = f } }

pub reached_next :
    {img img' img'' : Image} {h h' : Held} (chunk : List ℕ)
    → Reached img img' h
    → Follows img' h chunk img'' h'
    → Reached img img'' h'
reached_next {img} chunk r f =
    record {
      input = r.input ++ chunk;
      stands = rw (bytes_append (started img) r.input chunk) (f (bytes_after (started img) r.input) r.stands);
    }

-- where the program stops, and at the end of the input
pub stopped : {img img' : Image} {h : Held} → Reached img img' h → Ended img img'
stopped r = record { input = r.input; image = r.stands.image }

pub ended :
    {img img' img'' : Image} {h : Held}
    → Reached img img' h
    → ((s : Dialogue) → Stands img' h s → img'' ≡ (line_ended s).image)
    → Ended img img''
unfolding bytes_after byte_after
ended {img} r f =
    record {
      input = r.input ++ (newline ∷ []);
      image = f (bytes_after (started img) r.input) r.stands ∙ rw (bytes_append (started img) r.input (newline ∷ []), bytes_after);
    }

-- where no byte is held no line is left: an empty one would change no byte
empty_line : line_of [] ≡ Bad
unfolding codes fields numbers same named commands command meaning line_of
empty_line = refl

pub none_held : {img : Image} {h : Held} {s : Dialogue} → h.count ≤ 0 → Stands img h s → img ≡ (line_ended s).image
unfolding image_after
none_held {h = h} l t =
    let e : h.count ≡ 0 = omega arith in
    sym (rw (e, empty_line)) ∙ line_held t
