-- What the numbers of a line ask: LENGTH FILL K OFFSET1 WORD1 .. OFFSETK WORDK REQUEST A B C FUSE. Assumes nothing.
use Rattle.std.specs.Prelude.{ℕ, ◌+◌, ◌*◌, ◌≤◌, ◌≡◌, cond, List, Option, None, Some, eqb, ltb, get_or}
use Rattle.std.proofs.Common.{arith}
use Rattle.rules.specs.declared.Request.{Request}
use Rattle.rules.specs.declared.Request.TheVariants.{Create, Reserve, ReserveUncleared, Grow, Onactive, Onfree, Withdraw, Activate, Free, Check, Recover}
use Rattle.case.specs.declared.Case.{Case}
use Rattle.case.specs.declared.line.Numbers.{Numbers}

abbrev pub most_length : ℕ
most_length = 65536

-- a fill is a byte
abbrev pub most_fill : ℕ
most_fill = 255

abbrev pub most_words : ℕ
most_words = 120

-- the largest number of a request
abbrev pub most_request : ℕ
most_request = 10

-- the request of a number up to it
unfoldable pub request_of : ℕ → ℕ → ℕ → ℕ → Request
request_of q a b c =
    cond (eqb q 0) Create
    (cond (eqb q 1) (Reserve a)
    (cond (eqb q 2) (Onactive a b c)
    (cond (eqb q 3) (Onfree a b c)
    (cond (eqb q 4) (Withdraw a)
    (cond (eqb q 5) (Activate a)
    (cond (eqb q 6) (Free a)
    (cond (eqb q 7) Check
    (cond (eqb q 8) Recover
    (cond (eqb q 9) (ReserveUncleared a) (Grow a b))))))))))

-- the number at an index
abbrev pub at : List ℕ → ℕ → ℕ
at ns i = get_or ns i 0

-- where the request stands, after the words
abbrev pub request_at : List ℕ → ℕ
request_at ns = 3 + 2 * at ns 2

abbrev pub asked : List ℕ → ℕ → Case
asked ns i = record {
  length = at ns 0;
  fill = at ns 1;
  words = at ns 2;
  request = request_of (at ns i) (at ns (i + 1)) (at ns (i + 2)) (at ns (i + 3));
  fuse = at ns (i + 4);
}

-- the case of a line's numbers
abbrev pub case_of : Numbers → Option Case
case_of ns =
    cond (ltb most_length (at ns.items 0)) None
    (cond (ltb most_fill (at ns.items 1)) None
    (cond (ltb most_words (at ns.items 2)) None
    (cond (eqb ns.count (request_at ns.items + 5))
    (cond (ltb most_request (at ns.items (request_at ns.items))) None (Some (asked ns.items (request_at ns.items))))
    None)))

-- a case is within its bounds
pub asked-within :
    (ns : Numbers) (c : Case)
    → case_of ns ≡ Some c
    → (c.length ≤ most_length) × (c.words ≤ most_words)
asked-within ns c e = (grind arith, grind arith)
