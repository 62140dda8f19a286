use Rattle.std.proofs.Common.{length, ap, ◌∙◌, arith}
use Rattle.arena_games.specs.Courses.{goes_on, numbers_where}
use Rattle.arena_games.specs.Keeps.{runs}
use Rattle.arena_games.specs.KeptGames.{KeptGames}
use Rattle.arena_games.proofs.Told.{numbers_so}
use Rattle.arena_games.proofs.Listed.{length-numbers, length-numbers-le}
use Rattle.arena_games.proofs.games.Games.running.Goals as goal

pub overflow_cast-result : goal.overflow_cast-result
overflow_cast-result c =
    let few = length-numbers-le runs 0 c.self.inside.games.items in
    let many = ap length c.self.invariant.0 in
    let short = c.self.invariant.1 in
    let len = c.self.inside.games.ok.0 in
    let run = c.self.inside.running.ok.0 in
    record { fits = omega arith }

pub returns : goal.returns
returns c games stands =
    let many = ap length (c.self.invariant.0 ∙ (ap (λ (v : KeptGames). numbers_where runs 0 v.games) c.self.view_is ∙ numbers_so 0 c.args.self.now.games games stands)) in
    c.len.ensures ∙ (c.self.inside.running.ok.0 ∙ (many ∙ length-numbers goes_on 0 games))
