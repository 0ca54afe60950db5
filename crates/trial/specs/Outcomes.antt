-- What a case leads to: the image with its fill and its words, and what the request answers and leaves by the rules. Assumes nothing.
use Rattle.std.specs.Prelude.{ℕ, zero, suc, ◌+◌, ◌*◌, ◌%◌, Bool, true, cond, Option, None, Some, ◌&&◌, List, [], ◌∷◌, ◌++◌, eqb, leb, replicate}
use Rattle.rules.specs.declared.Request.{Request}
use Rattle.rules.specs.Words.{Image, Store, store, word_bytes, carry}
use Rattle.rules.specs.Requests.{cut, answer_on, totals_on}
use Rattle.case.specs.Cases.{at, case_of}
use Rattle.case.specs.declared.line.Line.{Line}
use Rattle.case.specs.declared.line.Numbers.{Numbers}
use Rattle.case.specs.declared.line.Reading.{Reading}
use Rattle.case.specs.declared.line.Reading.TheVariants.{Nothing, Number, Malformed}
use Rattle.case.specs.declared.Case.{Case}
use Rattle.outcome.specs.Sums.{sum_of}
use Rattle.outcome.specs.declared.Outcome.{Outcome}

-- whether a word lies at that offset of an image of n bytes
abbrev pub lies : ℕ → ℕ → Bool
lies n o = eqb (o % word_bytes) 0 && leb (o + word_bytes) n

-- the first k words of a case: an offset and a word each, from the fourth number on
unfoldable pub words : List ℕ → ℕ → List Store
words ns zero = []
words ns (suc k) = words ns k ++ (store (at ns (3 + 2 * k)) (at ns (4 + 2 * k)) ∷ [])

-- whether they all lie in the image
unfoldable pub all_lie : ℕ → List ℕ → ℕ → Bool
all_lie n ns zero = true
all_lie n ns (suc k) = all_lie n ns k && lies n (at ns (3 + 2 * k))

-- what the request answers, and the totals and the checksum of the image that it leaves
unfoldable pub outcome_of : Image → Request → ℕ → Outcome
outcome_of img q fuse = record { answer = answer_on img q fuse; totals = totals_on (cut img q fuse); sum = sum_of (cut img q fuse) }

-- n bytes, each b
unfoldable pub filled : ℕ → ℕ → Image
filled b n = replicate n b

-- the image of a case: its fill but for its words
abbrev pub image_of : List ℕ → ℕ → ℕ → ℕ → Image
image_of ns n b k = carry (filled b n) (words ns k)

-- what a case leads to
abbrev pub ran_of : List ℕ → Option Case → Option Outcome
ran_of ns None = None
ran_of ns (Some c) =
    cond (all_lie c.length ns c.words) (Some (outcome_of (image_of ns c.length c.fill c.words) c.request c.fuse)) None

-- what a line leads to that is read to its end
abbrev pub ran_for : Reading → Numbers → Option Outcome
ran_for Nothing ns = ran_of ns.items (case_of ns)
ran_for (Number n) ns = None
ran_for Malformed ns = None

abbrev pub ran_by : Line → Option Outcome
ran_by l = ran_for l.reading l.numbers
