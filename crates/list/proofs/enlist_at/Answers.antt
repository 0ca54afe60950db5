-- `enlist_at`: a law for each way out; a valid target is a word that a mark can be added to.
use Rattle.std.proofs.Common.{arith, sym, ◌∙◌, ◌+◌}
use Rattle.rules.specs.Words.{mem}
use Rattle.rules.specs.Clumps.{head}
use Rattle.rules.specs.Reading.{clumps_of}
use Rattle.laws.specs.Lying.{valid_in}
use Rattle.word.specs.Runs.{ran_then}
use Rattle.steps.specs.Acts.{acts_same, acts_refused, acts_ran}
use Rattle.list.specs.Slots.{open_is, enlist_state, enlist-full, enlist-bad, enlist-done}
use Rattle.list.proofs.enlist_at.Goals as goal

pub returns-then-not-allowed : goal.returns-then-not-allowed
returns-then-not-allowed c =
    let a = c.args in
    let m = mem a.img.now in
    rw c.from.ensures
    (acts_same _ _
    (enlist_state m (clumps_of a.img.now) a.allowed a.offset a.target (a.target + a.mark) a.value (head m a.found.at) c.if-not-allowed.true)
    (acts_refused _ _ _ _ _))

pub returns-then-k-eq3 : goal.returns-then-k-eq3
returns-then-k-eq3 c =
    let a = c.args in
    let m = mem a.img.now in
    rw c.from-then-k-eq3.ensures
    (acts_same _ _
    (enlist-full m (clumps_of a.img.now) a.allowed a.offset a.target (a.target + a.mark) a.value (head m a.found.at) c.if-not-allowed.false _
    (open_is m a.found.at _ _ c.list-l.ensures c.reach-k.ensures)
    c.if-k-eq3.true)
    (acts_refused _ _ _ _ _))

pub returns-then-not-valid : goal.returns-then-not-valid
returns-then-not-valid c =
    let a = c.args in
    let m = mem a.img.now in
    rw c.from-then-not-valid.ensures
    (acts_same _ _
    (enlist-bad m (clumps_of a.img.now) a.allowed a.offset a.target (a.target + a.mark) a.value (head m a.found.at) c.if-not-allowed.false _
    (open_is m a.found.at _ _ c.list-l.ensures c.reach-k.ensures)
    c.if-k-eq3.false
    (sym c.valid.ensures ∙ c.if-not-valid.true))
    (acts_refused _ _ _ _ _))

pub overflow_add-stored : goal.overflow_add-stored
overflow_add-stored c =
    let v = valid_in _ _ c.args.target c.requires.tiled (sym c.valid.ensures ∙ c.if-not-valid.false) in
    omega (arith, v, c.requires.one_bit)

pub returns : goal.returns
returns c =
    let a = c.args in
    let m = mem a.img.now in
    acts_same _ _
    (enlist-done m (clumps_of a.img.now) a.allowed a.offset a.target (a.target + a.mark) a.value (head m a.found.at) c.if-not-allowed.false _
    (open_is m a.found.at _ _ c.list-l.ensures c.reach-k.ensures)
    c.if-k-eq3.false
    (sym c.valid.ensures ∙ c.if-not-valid.false))
    (acts_ran _ _ (ran_then (rw c.new-p.ensures at c.store.ensures) c.store-2.ensures) c.finish.ensures)
