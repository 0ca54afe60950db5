-- `put_words`: one word more is put in; a word that does not lie there refuses them all.
use Rattle.std.proofs.Common.{sym}
use Rattle.trial.specs.Filling.{putting_start, putting_next, never_lie}
use Rattle.trial.proofs.put_words.Goals as goal

pub loop-i-init : goal.loop-i-init
loop-i-init c = putting_start _ _

pub returns-then-not-word_lies-clause-value : goal.returns-then-not-word_lies-clause-value
returns-then-not-word_lies-clause-value c =
    sym (never_lie _ _ _ _ _ c.loop-i.invariant c.loop-i-test.true (sym c.if-not-word_lies.ensures))

pub loop-i-preserved : goal.loop-i-preserved
loop-i-preserved c =
    putting_next _ _ _ _ _ c.loop-i.invariant (sym c.if-not-word_lies.ensures) c.store.ensures.long
    (rw c.new.ensures at c.store.ensures.image)
