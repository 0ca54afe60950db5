-- `write_whole`: what was taken now follows the front, and is the first of the rest. Assumes nothing.
use Rattle.std.proofs.Common.{length, take, ◌+◌, ◌++◌, append_assoc, take-append-drop}
use Rattle.std.proofs.lemmas.List.{take_rest}
use Rattle.std.proofs.Math.Seq.{take-append_seam, take-append-add}
use Rattle.std.proofs.KnownBytes.{Appends-trans}
use Rattle.streams.proofs.write_whole.Goals as goal

pub returns-in_err-put-clause-part : goal.returns-in_err-put-clause-part
returns-in_err-put-clause-part g c =
    let front = c.loop-rest.invariant in
    (length front.0 + 0, rw (front.1, take-append-add) (Appends-trans _ _ _ _ (take 0 c.loop-rest.rest.now) front.2 c.in_err-put.ensures.bytes))

pub loop-rest-preserved : goal.loop-rest-preserved
loop-rest-preserved g c =
    let front = c.loop-rest.invariant in
    let rest = c.loop-rest.rest.now in
    let put = c.in_ok-put.put in (
      front.0 ++ take put rest,
      rw (take_rest rest put, append_assoc, take-append-drop) front.1,
      Appends-trans _ _ _ _ (take put rest) front.2 c.in_ok-put.ensures.bytes,
    )

pub returns-clause-part : goal.returns-clause-part
returns-clause-part g c =
    let front = c.loop-rest.invariant in
    (length front.0, rw (front.1, take-append_seam) front.2)
