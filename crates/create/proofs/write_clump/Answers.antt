-- `write_clump`: four runs, one after the other.
use Rattle.word.specs.Runs.{ran_then}
use Rattle.page.specs.Pool.{low_is}
use Rattle.create.proofs.write_clump.Goals as goal

pub returns : goal.returns
returns c =
    rw low_is (ran_then c.zero_words.ensures (ran_then c.store.ensures (ran_then c.zero_words-2.ensures c.store-2.ensures)))
