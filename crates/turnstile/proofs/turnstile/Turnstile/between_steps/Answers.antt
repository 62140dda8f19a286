use Rattle.turnstile.proofs.Between.{between}
use Rattle.turnstile.proofs.turnstile.Turnstile.between_steps.Goals as goal

pub returns : goal.returns
returns g c start s r = between g.V.Historied.entries g.V.Historied.by g.V.Historied.fixed _ _ s r
