use Rattle.arena_history.proofs.ActEnds.{started_by_numbers}
use Rattle.arena_history.proofs.Begins.{begins_started, started_were_idle}
use Rattle.arena_history.proofs.Candidates.{candidates_idle, candidates_all, candidates_differ, candidates_ranked, idle_planned}
use Rattle.arena_history.proofs.laws.waves_begin_games.Goals as goal

pub returns-clause-candidates : goal.returns-clause-candidates
returns-clause-candidates c = λ s h. record { idle = candidates_idle s h; all = candidates_all s h; once = candidates_differ s h; ranked = candidates_ranked s h }

pub returns-clause-planned : goal.returns-clause-planned
returns-clause-planned c = idle_planned c.each_player_once.ensures.everyone

pub returns-clause-begin : goal.returns-clause-begin
returns-clause-begin c = begins_started

pub returns-clause-started : goal.returns-clause-started
returns-clause-started c = started_were_idle

pub returns-clause-by_numbers : goal.returns-clause-by_numbers
returns-clause-by_numbers c = started_by_numbers
