-- `next`: one step of what is left; at the end nothing is.
use Rattle.std.proofs.Common.{arith, ap, length}
use Rattle.rules.specs.Clumps.{Head}
use Rattle.walk.specs.Left.{left_end, left_step}
use Rattle.walk.proofs.clumps.ClumpsIterator.next.Goals as goal

pub returns-then-self-clause-steps : goal.returns-then-self-clause-steps
returns-then-self-clause-steps c = let e = left_end _ _ c.if-self.true in (e, e)

pub read-c-requires-clause-in_image : goal.read-c-requires-clause-in_image
read-c-requires-clause-in_image c = let s = left_step _ _ c.requires c.if-self.false in omega (arith, s.least, s.room)

pub overflow_add-self : goal.overflow_add-self
overflow_add-self c = let s = left_step _ _ c.requires c.if-self.false in omega (arith, s.room, c.read-c.ensures.nbytes)

pub returns-clause-steps : goal.returns-clause-steps
returns-clause-steps c = let s = left_step _ _ c.requires c.if-self.false in rw (c.read-c.ensures.at, c.read-c.ensures.nbytes, c.read-c.ensures.state) s.left

pub returns-clause-goes : goal.returns-clause-goes
returns-clause-goes c =
    let s = left_step _ _ c.requires c.if-self.false in
    rw c.read-c.ensures.nbytes (record {
      on = λ i. (s.next, i, omega (arith, ap (length {A = Head}) s.left));
      keeps = s.next;
      rests = λ i. tt;
    })
