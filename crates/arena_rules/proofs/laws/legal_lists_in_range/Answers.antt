use Rattle.std.specs.Prelude.{◌≤◌}
use Rattle.std.proofs.Common.{subst, sym}
use Rattle.entries.specs.Limits.{max_games}
use Rattle.arena_history.specs.Waves.{history}
use Rattle.arena_rules.proofs.Bounds.{length-legal, games-legal, few_games}
use Rattle.arena_rules.proofs.Ranges.{whats-legal, ranges-legal}
use Rattle.arena_rules.proofs.Stamps.{stamps-legal, stamps_most-legal, last_stamp-legal}
use Rattle.arena_rules.proofs.laws.legal_lists_in_range.Goals as goal

pub returns-clause-stamps : goal.returns-clause-stamps
returns-clause-stamps c = stamps-legal c.laws_of_histories.ensures

pub returns-clause-stamp_most : goal.returns-clause-stamp_most
returns-clause-stamp_most c = λ s es legal. (stamps_most-legal c.laws_of_histories.ensures s es legal, last_stamp-legal c.laws_of_histories.ensures s es legal)

pub returns-clause-length : goal.returns-clause-length
returns-clause-length c = length-legal c.laws_of_histories.ensures

pub returns-clause-games : goal.returns-clause-games
returns-clause-games c = λ s es legal. subst (λ n. n ≤ max_games) (sym (c.laws_of_histories.ensures.numbered.counted s (history s es))) (games-legal c.laws_of_histories.ensures s es legal)

pub returns-clause-few : goal.returns-clause-few
returns-clause-few c = few_games c.laws_of_histories.ensures

pub returns-clause-ranges : goal.returns-clause-ranges
returns-clause-ranges c = whats-legal c.laws_of_histories.ensures

pub returns-clause-writable : goal.returns-clause-writable
returns-clause-writable c = ranges-legal c.laws_of_histories.ensures
