use Rattle.std.proofs.Common.{◌≡◌, ◌∙◌, sym, ap, pos, ◌+ℤ◌, List, [], ◌∷◌, ◌++◌, length, length-append, arith}
use Rattle.std.proofs.lemmas.Int.{ints}
use Rattle.std.proofs.lemmas.List.Sums.{fold-append}
use Rattle.performance.specs.Mean.{Met, total, bonus}
use Rattle.performance.proofs.perf.Perf.add.Goals as goal

total-append : (met : List Met) (game : Met) → total (met ++ game ∷ []) ≡ total met +ℤ (pos game.rating +ℤ bonus game.score)
total-append met game = fold-append (λ t (g : Met). t +ℤ (pos g.rating +ℤ bonus g.score)) (pos 0) met (game ∷ [])

pub invariant_of-self : goal.invariant_of-self
invariant_of-self c =
    let kept = c.self.invariant in
    let count : c.self.inside.games ≡ c.args.self.now.games = ap (λ k. k.games) c.self.view_is in
    let rating = c.from.ensures in
    let least = c.bonus.ensures.least in
    let most = c.bonus.ensures.most in
    (omega (arith, ints), omega (arith, ints), omega arith)

pub returns-clause-stands : goal.returns-clause-stands
returns-clause-stands c met stands =
    let game : Met = record { rating = c.args.rating; score = c.args.score } in
    let kept = c.self.invariant in
    let least = c.bonus.ensures.least in
    let most = c.bonus.ensures.most in
    let sum : c.self.inside.sum ≡ total met = ap (λ k. k.sum) c.self.view_is ∙ stands.sum in
    let games : c.self.inside.games ≡ length met = ap (λ k. k.games) c.self.view_is ∙ stands.games in
    let gained : c.self.inside.sum +ℤ (c.from.result +ℤ c.bonus.result) ≡ total met +ℤ (pos c.args.rating +ℤ bonus c.args.score) = λ i. sum i +ℤ (c.from.ensures i +ℤ c.bonus.ensures.is i) in
    record {
      sum = omega (arith, ints) ∙ (gained ∙ sym (total-append met game));
      games = omega (arith, length-append met (game ∷ []), games);
    }
