-- `store`: with no power left the run is out, and what is left stays 0; else one aligned word is put, and the run is one store.
use Rattle.std.proofs.Common.{ℕ, rules, sym, subst, true, [], ◌∷◌}
use Rattle.rules.specs.Words.{store}
use Rattle.word.specs.Runs.{Ran, ran_out, ran_one}
use Rattle.word.proofs.fuse.Fuse.store.Goals as goal

pub returns-then-p-eq0 : goal.returns-then-p-eq0
returns-then-p-eq0 c =
    let p = c.args.self.now.power in
    let img = c.args.img.now in
    let s = store c.args.at c.args.w in
    subst (λ (n : ℕ). Ran img p (s ∷ []) img (record p { left = n; cut = true })) (sym c.if-p-eq0.true) (ran_out img p s c.if-p-eq0.true)

pub returns : goal.returns
returns c =
    rw (c.set.ensures, c.lowest-from.ensures, c.max-to.ensures)
    (ran_one c.args.img.now c.args.self.now.power (store c.args.at c.args.w) (search rules) (record { even = search rules; inside = search rules; small = search rules }))
