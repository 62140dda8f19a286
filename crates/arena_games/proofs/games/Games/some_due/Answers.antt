use Rattle.std.proofs.Common.{Option, ℕ, ap, ◌∙◌}
use Rattle.std.specs.Prelude.{is_some}
use Rattle.arena_games.proofs.Looks.{some_due}
use Rattle.arena_games.proofs.games.Games.some_due.Goals as goal

pub returns : goal.returns
returns c games stands =
    c.is_some.ensures ∙ (ap (λ (o : Option ℕ). is_some o) c.first_due.ensures ∙ some_due c.args.t 0 c.args.self.now.games games stands)
