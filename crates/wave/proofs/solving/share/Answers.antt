use Rattle.wave.proofs.Solved.{rest_enough}
use Rattle.wave.proofs.solving.share.Goals as goal

pub returns-clause-back : goal.returns-clause-back
returns-clause-back c = λ enough. rest_enough c.args.groups c.args.half c.args.solvers c.requires.half enough
