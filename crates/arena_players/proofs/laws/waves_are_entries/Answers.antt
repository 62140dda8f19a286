use Rattle.std.proofs.Common.{◌<◌, length}
use Rattle.std.proofs.lemmas.List.Elements.{All-from_recursion}
use Rattle.entries.specs.declared.journal.Start.{Start}
use Rattle.arena_history.specs.Waves.{history}
use Rattle.arena_players.proofs.Entries.{waves_few, waves_own}
use Rattle.arena_players.proofs.laws.waves_are_entries.Goals as goal

pub returns-clause-few : goal.returns-clause-few
returns-clause-few c = waves_few c.beginnings_are_histories.ensures.grow c.beginnings_are_histories.ensures.entries

pub returns-clause-waves : goal.returns-clause-waves
returns-clause-waves c = waves_own c.beginnings_are_histories.ensures.grow c.beginnings_are_histories.ensures.entries

pub returns-clause-games : goal.returns-clause-games
returns-clause-games c = λ s es. All-from_recursion (λ (x : Start). x.entry < length es) (history s es).starts (c.beginnings_are_histories.ensures.belong s es)
