use Rattle.std.proofs.Common.{◌≡◌, ◌+◌, ◌≤◌, length, sym, ap, subst, ◌∙◌}
use Rattle.arena_core.specs.Held.{past}
use Rattle.workload.specs.Numbers.{state}
use Rattle.workload.proofs.Rounded.{no_fewer, round_played, round_stopped}
use Rattle.workload.proofs.rounds.play_round.Goals as goal

pub returns-in_err-add_wave-clause-comes : goal.returns-in_err-add_wave-clause-comes
returns-in_err-add_wave-clause-comes g c = λ seed is.
    let was = c.args.arena.now in
    round_stopped was.setup c.args.t was.entries seed c.add_wave.new.arena.entries c.from_residual.result c.in_err-add_wave.field-0.0 c.from_residual.ensures.1 c.in_err-add_wave.ensures.comes

pub returns-clause-comes : goal.returns-clause-comes
returns-clause-comes g c = λ seed is.
    let was = c.args.arena.now in
    let mid = c.add_wave.new.arena in
    let k = c.begun-begun.result in
    let count : k ≡ length (past was).starts = c.begun-begun.ensures ∙ c.games_with_one_more.ensures.numbered.counted was.setup (past was) in
    let at = is ∙ ap (λ n. state seed (length was.setup.players + n)) (sym count) in
    round_played was.setup c.args.t was.entries seed c.play_games.new.arena.entries c.play_games.result mid.setup mid.entries k c.add_wave.ensures.setup c.in_ok-add_wave.ensures.comes count
    (c.play_games.ensures.comes seed (length was.setup.players) at)

pub returns-clause-drawn : goal.returns-clause-drawn
returns-clause-drawn g c = λ seed is.
    let was = c.args.arena.now in
    let mid = c.add_wave.new.arena in
    let k = c.begun-begun.result in
    let count : k ≡ length (past was).starts = c.begun-begun.ensures ∙ c.games_with_one_more.ensures.numbered.counted was.setup (past was) in
    let at = is ∙ ap (λ n. state seed (length was.setup.players + n)) (sym count) in
    let some = no_fewer was.setup c.args.t was.entries c.beginnings_are_histories.ensures.grow mid.setup mid.entries c.add_wave.ensures.setup c.in_ok-add_wave.ensures.comes in
    c.play_games.ensures.drawn seed (length was.setup.players) at (subst (λ n. n ≤ length (past mid).starts) (sym count) some)
