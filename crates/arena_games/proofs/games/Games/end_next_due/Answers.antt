use Rattle.std.proofs.Common.{◌≡◌, ◌+◌, ℕ, suc, List, drop, map, Option, Some, false, sym, subst, arith, length-drop}
use Rattle.std.specs.Prelude.{IfNone, slice_get}
use Rattle.arena_games.specs.declared.ended.GameEnd.{GameEnd}
use Rattle.arena_games.specs.Answers.{IsNextEnd}
use Rattle.arena_games.specs.Courses.{Course, is_due, looked, looked_below}
use Rattle.arena_games.specs.Keeps.{is_kept_due}
use Rattle.arena_games.specs.KeptGames.{KeptGames, StandsFor}
use Rattle.arena_games.specs.Laws.{IdleLooks}
use Rattle.arena_games.specs.Moments.{first_from}
use Rattle.arena_games.proofs.Listed.{first_within}
use Rattle.arena_games.proofs.Looks.{none_next, none_left, one_next, one_left, is_due_there, get_behind}
use Rattle.arena_games.proofs.games.Games.end_next_due.Goals as goal

-- the game that is looked at is due
never : IdleLooks → (v : KeptGames) (n t g : ℕ) (games : List Course) → StandsFor v (looked_below n t games) → first_from (is_kept_due t) n (drop n v.games) ≡ Some g
    → ((cs : List Course) (k : Course) → StandsFor v cs → slice_get cs g ≡ Some k → is_due t k ≡ false) → ⊥
never idle v n t g games stands first off =
    let d = is_due_there idle n t g v.games games stands first in
    let w = first_within (is_kept_due t) n g (drop n v.games) first in
    let f = off (looked_below n t games) d.course stands (get_behind n t g games d.course w.0 d.there) in
    let due = d.due in
    cc

pub returns-in_err-number-clause-next : goal.returns-in_err-number-clause-next
returns-in_err-number-clause-next c games stands =
    subst (λ (o : Option GameEnd). IsNextEnd c.args.from c.args.t games o) (sym c.from_residual.ensures)
    (none_next c.args.from c.args.t c.args.self.now.games games stands (sym c.in_err-number.ensures))

pub returns-in_err-number-clause-none : goal.returns-in_err-number-clause-none
returns-in_err-number-clause-none c =
    subst (λ (o : Option GameEnd). IfNone o ((games : List Course) → StandsFor c.args.self.now (looked_below c.args.from c.args.t games) → StandsFor c.args.self.now (map (looked c.args.t) games)))
    (sym c.from_residual.ensures)
    (λ games stands. none_left c.kept_games_stay.ensures.idle c.args.from c.args.t c.args.self.now.games games stands (sym c.in_err-number.ensures))

pub look_at-requires-clause-begun : goal.look_at-requires-clause-begun
look_at-requires-clause-begun c =
    let w = first_within (is_kept_due c.args.t) c.args.from c.in_ok-number.number (drop c.args.from c.args.self.now.games) (sym c.in_ok-number.ensures) in
    let l = length-drop c.args.from c.args.self.now.games in
    omega arith

pub returns-in_err-outcome-clause-next : goal.returns-in_err-outcome-clause-next
returns-in_err-outcome-clause-next c games stands =
    absurd (never c.kept_games_stay.ensures.idle c.args.self.now c.args.from c.args.t c.in_ok-number.number games stands (sym c.in_ok-number.ensures) c.in_err-outcome.ensures.idle)

pub returns-in_err-outcome-clause-none : goal.returns-in_err-outcome-clause-none
returns-in_err-outcome-clause-none c =
    subst (λ (o : Option GameEnd). IfNone o ((games : List Course) → StandsFor c.args.self.now (looked_below c.args.from c.args.t games) → StandsFor c.look_at.new.self (map (looked c.args.t) games)))
    (sym c.from_residual-in_err-outcome.ensures)
    (λ games stands. absurd (never c.kept_games_stay.ensures.idle c.args.self.now c.args.from c.args.t c.in_ok-number.number games stands (sym c.in_ok-number.ensures) c.in_err-outcome.ensures.idle))

pub returns-clause-next : goal.returns-clause-next
returns-clause-next c games stands =
    let w = first_within (is_kept_due c.args.t) c.args.from c.in_ok-number.number (drop c.args.from c.args.self.now.games) (sym c.in_ok-number.ensures) in
    one_next c.kept_games_stay.ensures.idle c.args.from c.args.t c.in_ok-number.number c.args.self.now.games games c.in_ok-outcome.outcome stands (sym c.in_ok-number.ensures)
    (λ k at. c.in_ok-outcome.ensures.answer (looked_below c.args.from c.args.t games) k stands (get_behind c.args.from c.args.t c.in_ok-number.number games k w.0 at))

pub returns-clause-some : goal.returns-clause-some
returns-clause-some c games stands =
    let next : suc c.in_ok-number.number ≡ c.in_ok-number.number + 1 = omega arith in
    subst (λ n. StandsFor c.look_at.new.self (looked_below n c.args.t games)) next
    (one_left c.kept_games_stay.ensures.idle c.args.from c.args.t c.in_ok-number.number c.args.self.now.games c.look_at.new.self.games games stands (sym c.in_ok-number.ensures) c.in_ok-outcome.ensures.looked)

pub returns-clause-within : goal.returns-clause-within
returns-clause-within c =
    let w = first_within (is_kept_due c.args.t) c.args.from c.in_ok-number.number (drop c.args.from c.args.self.now.games) (sym c.in_ok-number.ensures) in
    let l = length-drop c.args.from c.args.self.now.games in
    (w.0, omega arith)
