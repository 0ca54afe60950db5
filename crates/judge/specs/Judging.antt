-- The judge's answer tells the rule's. Assumes nothing.
use Rattle.std.specs.Prelude.{◌≡◌, refl, None}
use Rattle.std.proofs.Math.Option.{Option, some, none}
use Rattle.std.proofs.lemmas.Option.{none-some}
use Rattle.rules.specs.Sound.{Fault}
use Rattle.seen.specs.Forms.{judged_of}

pub judged_sound : (o : Option Fault) → None ≡ judged_of o → o ≡ none
judged_sound none e = refl
judged_sound (some f) e = absurd (none-some _ e)
