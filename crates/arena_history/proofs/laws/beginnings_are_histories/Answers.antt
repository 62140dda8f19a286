use Rattle.std.proofs.Common.{length, subst}
use Rattle.arena_history.proofs.Histories.{AllBelow, start_entry, IsWhole-history, entries-history, first-history, history-push, starts-take, lefts-take}
use Rattle.arena_history.specs.Waves.{history}
use Rattle.arena_history.proofs.laws.beginnings_are_histories.Goals as goal

pub returns-clause-entries : goal.returns-clause-entries
returns-clause-entries c = entries-history

pub returns-clause-beginnings : goal.returns-clause-beginnings
returns-clause-beginnings c = first-history

pub returns-clause-grow : goal.returns-clause-grow
returns-clause-grow c = history-push

pub returns-clause-starts : goal.returns-clause-starts
returns-clause-starts c = starts-take

pub returns-clause-lefts : goal.returns-clause-lefts
returns-clause-lefts c = lefts-take

pub returns-clause-belong : goal.returns-clause-belong
returns-clause-belong c = λ s es. subst (λ l. AllBelow start_entry (length l) (history s es).starts) (entries-history s es) (IsWhole-history s es).starts
