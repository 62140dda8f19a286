use Rattle.replay.proofs.OneFate.{one_fate, some_fate}
use Rattle.replay.proofs.laws.one_fate.Goals as goal

pub returns-clause-some : goal.returns-clause-some
returns-clause-some c = some_fate c.one_journal.ensures c.journal_or_fault.ensures c.legal_journals.ensures.legal

pub returns-clause-one : goal.returns-clause-one
returns-clause-one c = one_fate c.one_journal.ensures c.journal_or_fault.ensures c.legal_journals.ensures.legal
