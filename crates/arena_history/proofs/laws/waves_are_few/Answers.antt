use Rattle.arena_history.proofs.WaveBounds.{waves_few, alone_few, balance_small}
use Rattle.arena_history.proofs.laws.waves_are_few.Goals as goal

pub returns-clause-few : goal.returns-clause-few
returns-clause-few c = waves_few

pub returns-clause-alone : goal.returns-clause-alone
returns-clause-alone c = alone_few

pub returns-clause-balance : goal.returns-clause-balance
returns-clause-balance c = balance_small
