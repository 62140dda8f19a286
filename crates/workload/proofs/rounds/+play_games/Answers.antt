use Rattle.std.proofs.Common.{◌≡◌, ◌+◌, ◌-◌, ◌<◌, ◌≤◌, ◌%◌, List, suc, arith, drop, length, sym, ap, subst, ◌∙◌}
use Rattle.entries.specs.declared.journal.Start.{Start}
use Rattle.arena_core.specs.Held.{past}
use Rattle.workload.specs.Drafts.{going, with_all}
use Rattle.workload.specs.Numbers.{state}
use Rattle.workload.specs.Rounds.{plays_from}
use Rattle.workload.specs.Scripts.{acts, script}
use Rattle.workload.specs.Steps.{ComesTo}
use Rattle.workload.proofs.Drafted.{and_no_more, and_then, of_none}
use Rattle.workload.proofs.PlayedOut.{none_left, none_played, of_each, one_played, within}
use Rattle.workload.proofs.rounds.+play_games.Goals as goal

pub returns-in_default-clause-comes : goal.returns-in_default-clause-comes
returns-in_default-clause-comes t c = λ seed players is.
    let was = c.args.arena.now in
    let none = sym c.start.ensures ∙ c.in_default.is in
    ap (with_all was.setup (going was.entries)) (none_played seed players c.args.t c.args.number (past was).starts none) ∙ of_none was.setup (going was.entries)

pub returns-in_default-clause-drawn : goal.returns-in_default-clause-drawn
returns-in_default-clause-drawn t c = λ seed players is few.
    let starts = (past c.args.arena.now).starts in
    let none = sym c.start.ensures ∙ c.in_default.is in
    let le : length starts ≤ c.args.number = none_left starts c.args.number none in
    let same : players + c.args.number ≡ players + length starts = omega (arith, le, few) in
    is ∙ ap (state seed) same

pub play_game-requires-clause-white : goal.play_game-requires-clause-white
play_game-requires-clause-white t c =
    let was = c.args.arena.now in
    let found = sym c.start.ensures ∙ c.in-Some.is in
    (of_each (λ (g : Start). (g.white < length was.setup.players) × (g.black < length was.setup.players)) (past was).starts c.args.number c.in-Some.game found (c.games_are_listed.ensures.ranges was.setup was.entries c.shows_legal.ensures.good c.shows_legal.ensures.legal).of_players).0

pub play_game-requires-clause-black : goal.play_game-requires-clause-black
play_game-requires-clause-black t c =
    let was = c.args.arena.now in
    let found = sym c.start.ensures ∙ c.in-Some.is in
    (of_each (λ (g : Start). (g.white < length was.setup.players) × (g.black < length was.setup.players)) (past was).starts c.args.number c.in-Some.game found (c.games_are_listed.ensures.ranges was.setup was.entries c.shows_legal.ensures.good c.shows_legal.ensures.legal).of_players).1

pub returns-in_err-play_game-clause-comes : goal.returns-in_err-play_game-clause-comes
returns-in_err-play_game-clause-comes t c = λ seed players is.
    let was = c.args.arena.now in
    let k = c.args.number in
    let starts = (past was).starts in
    let found = sym c.start.ensures ∙ c.in-Some.is in
    let x = c.draw-script.result in
    let split = one_played seed players c.args.t k starts c.in-Some.game found x (c.draw-script.ensures.drawn seed (players + k) is) in
    and_no_more was.setup was.entries (acts c.args.t k c.in-Some.game (script (x % 6))) (plays_from seed players c.args.t (k + 1) (drop (k + 1) starts)) _ split
    c.play_game.new.arena.entries c.from_residual.result c.in_err-play_game.field-0.0 c.from_residual.ensures.1 c.in_err-play_game.ensures.comes

pub overflow_add-number : goal.overflow_add-number
overflow_add-number t c =
    let was = c.args.arena.now in
    let starts = (past was).starts in
    let found = sym c.start.ensures ∙ c.in-Some.is in
    let below : c.args.number < length starts = within 0 0 0 c.args.number starts c.in-Some.game found in
    let count = c.games_with_one_more.ensures.numbered.counted was.setup (past was) in
    let few = c.legal_lists_in_range.ensures.games was.setup was.entries c.shows_legal.ensures.legal in
    omega (arith, below, count, few)

pub play_games-requires : goal.play_games-requires
play_games-requires t c =
    let starts = (past c.args.arena.now).starts in
    let found = sym c.start.ensures ∙ c.in-Some.is in
    let below : c.args.number < length starts = within 0 0 0 c.args.number starts c.in-Some.game found in
    let fewer : length starts - (c.args.number + 1) < length starts - c.args.number = omega (arith, below) in
    let less = subst (λ (xs : List Start). length xs - (c.args.number + 1) < length starts - c.args.number) (sym c.play_game.ensures.starts) fewer in
    (omega (arith, less, c.decreases), (c.play_game.ensures.last, c.requires.most))

pub returns-clause-comes : goal.returns-clause-comes
returns-clause-comes t c = λ seed players is.
    let was = c.args.arena.now in
    let mid = c.play_game.new.arena in
    let k = c.args.number in
    let starts = (past was).starts in
    let new = c.play_games.new.arena.entries in
    let r = c.play_games.result in
    let found = sym c.start.ensures ∙ c.in-Some.is in
    let x = c.draw-script.result in
    let split = one_played seed players c.args.t k starts c.in-Some.game found x (c.draw-script.ensures.drawn seed (players + k) is) in
    let next : suc (players + k) ≡ players + (k + 1) = omega arith in
    let at = c.draw-script.ensures.state seed (players + k) is ∙ ap (state seed) next in
    let rest = subst (λ (xs : List Start). ComesTo (with_all mid.setup (going mid.entries) (plays_from seed players c.args.t (k + 1) (drop (k + 1) xs))) new r) c.play_game.ensures.starts (c.play_games.ensures.comes seed players at) in
    and_then was.setup was.entries (acts c.args.t k c.in-Some.game (script (x % 6))) (plays_from seed players c.args.t (k + 1) (drop (k + 1) starts)) _ split
    new r mid.setup mid.entries c.play_game.ensures.setup c.in_ok-play_game.ensures.comes rest

pub returns-clause-drawn : goal.returns-clause-drawn
returns-clause-drawn t c = λ seed players is few.
    let k = c.args.number in
    let starts = (past c.args.arena.now).starts in
    let found = sym c.start.ensures ∙ c.in-Some.is in
    let below : k < length starts = within 0 0 0 k starts c.in-Some.game found in
    let next : suc (players + k) ≡ players + (k + 1) = omega arith in
    let at = c.draw-script.ensures.state seed (players + k) is ∙ ap (state seed) next in
    let some : k + 1 ≤ length starts = omega (arith, below) in
    c.play_games.ensures.drawn seed players at (subst (λ (xs : List Start). k + 1 ≤ length xs) (sym c.play_game.ensures.starts) some)
