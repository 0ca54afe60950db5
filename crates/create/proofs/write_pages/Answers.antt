-- `write_pages`: four runs, one after the other.
use Rattle.word.specs.Runs.{ran_then}
use Rattle.page.specs.Pool.{high_is}
use Rattle.create.proofs.write_pages.Goals as goal

pub returns : goal.returns
returns c =
    rw high_is (ran_then c.store.ensures (ran_then c.zero_words.ensures (ran_then c.store-2.ensures c.store-3.ensures)))
