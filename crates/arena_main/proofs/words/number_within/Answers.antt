use Rattle.std.proofs.Common.{ℕ, ◌<◌, arith, subst}
use Rattle.decimals.specs.Decimals.{Says}
use Rattle.arena_main.proofs.Numbers.{too_low, too_high}
use Rattle.arena_main.proofs.words.number_within.Goals as goal
use Rattle.arena_main.proofs.words.number_within.Goals.{else-from-n-via-then-from-n+else-n-from, else-from-n-via-else-from-n}

pub returns-else-from-n-clause-none : goal.returns-else-from-n-clause-none
returns-else-from-n-clause-none c = λ _.
    let n = c.in_ok-n.n in
    let said : Says c.args.word.now n = subst (λ word. Says word n) c.bytes.ensures c.in_ok-n.ensures.found in
    elim c.else-from-n.branch [
      | else-from-n-via-then-from-n+else-n-from w ↦
          too_high c.args.word.now c.args.least c.args.most n said (subst (λ most. most < n) w.from-then-from-n.ensures w.if-n-from.false)
      | else-from-n-via-else-from-n w ↦
          too_low c.args.word.now c.args.least c.args.most n said (subst (λ least. n < least) c.from.ensures w.if-from-n.false)
    ]
