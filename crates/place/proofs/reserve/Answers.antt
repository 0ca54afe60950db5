-- `reserve`: a law for each way out.
use Rattle.std.proofs.Common.{arith, refl}
use Rattle.rules.specs.Answers.{refuse, size_zero, no_room}
use Rattle.rules.specs.Stores.{need_of, fits}
use Rattle.rules.specs.Requests.{reserve}
use Rattle.laws.specs.Served.{reserving_is}
use Rattle.answer.specs.Refusals.{refusal_not_done}
use Rattle.walk.specs.Scans.{offset_none, offset_some}
use Rattle.steps.specs.Acts.{settled-length, stopped_does, passed_does, settled_tiles, acts_refused}
use Rattle.place.specs.Places.{reserve_zero, reserve_none, reserve_some, fit_found}
use Rattle.place.proofs.reserve.Goals as goal

pub returns-in-Err : goal.returns-in-Err
returns-in-Err c =
    rw c.from.ensures
    (stopped_does c.args.img.now _ c.in-Err.ensures (reserve _ _ _) (refusal_not_done _) (reserving_is _ _ c.args.clears c.args.size))

pub returns-then-size-eq0 : goal.returns-then-size-eq0
returns-then-size-eq0 c =
    rw c.from-then-size-eq0.ensures
    (passed_does c.args.img.now _ c.in_default.ensures (reserve _ _ _) (refuse size_zero) refl
    (reserving_is _ _ c.args.clears c.args.size)
    (reserve_zero _ _ _ c.if-size-eq0.true)
    (acts_refused _ _ _ _ _))

pub first_fit-h-requires : goal.first_fit-h-requires
first_fit-h-requires c = settled_tiles c.args.img.now _ c.in_default.ensures refl

pub returns-then-img-h : goal.returns-then-img-h
returns-then-img-h c =
    rw c.from-then-img-h.ensures
    (passed_does c.args.img.now _ c.in_default.ensures (reserve _ _ _) (refuse no_room) refl
    (reserving_is _ _ c.args.clears c.args.size)
    (reserve_none _ _ _ c.if-size-eq0.false
    (offset_none _ _ (fits (need_of c.args.size)) (settled_tiles c.args.img.now _ c.in_default.ensures refl) _ _ c.first_fit-h.ensures
    (λ l. c.if-img-h.true)))
    (acts_refused _ _ _ _ _))

pub reserve_at-requires : goal.reserve_at-requires
reserve_at-requires c =
    let l = settled-length c.args.img.now _ c.in_default.ensures refl in
    fit_found _ _ _ _ c.if-size-eq0.false (omega arith) (settled_tiles c.args.img.now _ c.in_default.ensures refl) c.first_fit-h.ensures
    c.if-img-h.false

pub returns : goal.returns
returns c =
    passed_does c.args.img.now _ c.in_default.ensures (reserve _ _ _) _ refl
    (reserving_is _ _ c.args.clears c.args.size)
    (reserve_some _ _ _ c.if-size-eq0.false _
    (offset_some _ _ (fits (need_of c.args.size)) (settled_tiles c.args.img.now _ c.in_default.ensures refl) _ _ c.first_fit-h.ensures
    (λ q. omega (arith, c.if-img-h.false))))
    c.reserve_at.ensures
