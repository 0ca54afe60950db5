-- `bytes`: the copy is the text between what stood before it and what stood behind it.
use Rattle.std.specs.Prelude.{refl, ◌++◌}
use Rattle.std.proofs.Common.{length, take, sym, ◌∙◌, ◌+◌, arith, append_assoc}
use Rattle.std.proofs.lemmas.List.Edits.{sets-eq}
use borrow.Rule.Slice.PartMut.{Post-is}
use Rattle.text.proofs.bytes.Goals as goal

pub returns : goal.returns
returns c =
    let at = c.args.at in
    let out = c.args.out.now in
    let text = c.args.text.now in
    let behind = Post-is at (at + length text) out (omega arith) in
    record {
      stands =
          (λ i. take at out ++ (c.copy_from_slice.ensures.after i ++ behind i))
          ∙ sym (sets-eq text out at (omega arith) ∙ append_assoc (take at out) text _);
      behind = refl;
    }
