use Rattle.journal_replay.proofs.Exact.{cause_exact, legal_exact}
use Rattle.journal_replay.proofs.Listed.{same_are_equal}
use Rattle.journal_replay.proofs.laws.legal_journals.Goals as goal

pub returns-clause-exact : goal.returns-clause-exact
returns-clause-exact c = λ j number e writable found. cause_exact c.beginnings_are_histories.ensures.entries j number e writable found

pub returns-clause-legal : goal.returns-clause-legal
returns-clause-legal c = legal_exact c.beginnings_are_histories.ensures.entries

pub returns-clause-same : goal.returns-clause-same
returns-clause-same c = same_are_equal
