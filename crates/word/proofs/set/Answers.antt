-- `set`: the eight bytes of the word take the place of those at the offset.
use Rattle.std.proofs.Common.{◌≡◌, ◌+◌, ◌-◌, ◌++◌, ap, ◌∙◌, rules, arith, List, ℕ, take, drop}
use Rattle.std.proofs.lemmas.List.{drop-drop}
use Rattle.rules.specs.Words.{put}
use Rattle.word.specs.Chunks.{to_le_low, puts_low}
use Rattle.word.proofs.set.Goals as goal

pub returns : goal.returns
unfolding put
returns c =
    let eight : c.args.at + 8 - c.args.at ≡ 8 = omega arith in
    rw (c.copy_from_slice.ensures.after, c.to_le_bytes.ensures, eight, drop-drop 8 c.args.at c.args.img.now) (
    ap (λ (bytes : List ℕ). take c.args.at c.args.img.now ++ (bytes ++ drop (c.args.at + 8) c.args.img.now)) (to_le_low c.args.w)
    ∙ puts_low 8 c.args.img.now c.args.at c.args.w (search rules)
    )
