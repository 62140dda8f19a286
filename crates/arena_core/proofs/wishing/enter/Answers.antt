use Rattle.std.proofs.Common.{◌≡◌, suc, sym, subst, length, arith, true}
use Rattle.std.specs.Prelude.{nat_le}
use Rattle.seats.specs.Places.{may_enter}
use Rattle.arena_core.specs.People.{StandsFor, standing, with_entrant}
use Rattle.arena_core.specs.Written.{written_past}
use Rattle.arena_core.proofs.Heeded.{kept_entered, may_from_enter}
use Rattle.arena_core.proofs.Placed.{length_places, wish_kept}
use Rattle.arena_core.proofs.wishing.enter.Goals as goal

pub enter-requires-clause-player : goal.enter-requires-clause-player
enter-requires-clause-player c =
    let b = c.args.book.now in
    omega (arith, c.requires.player, length_places c.laws_of_histories.ensures b.setup (written_past b) c.args.people.now c.requires.kept.people)

pub enter-requires-clause-may : goal.enter-requires-clause-may
enter-requires-clause-may c =
    let b = c.args.book.now in
    let wish = wish_kept c.laws_of_histories.ensures b.setup (written_past b) c.args.people.now c.requires.kept.people c.args.p c.requires.player in
    subst (λ w. may_enter w ≡ true) (sym wish) (may_from_enter (nat_le b.setup.ends c.args.t) _ c.requires.granted)

pub returns : goal.returns
returns c =
    λ pass.
    let b = c.args.book.now in
    let n : c.next_len.result ≡ suc (length b.entries) = omega (arith, c.next_len.ensures) in
    kept_entered c.laws_of_histories.ensures b.setup b.entries c.args.games.now c.args.people.now c.requires.kept c.args.t pass c.args.p _ (subst (λ n. StandsFor c.enter.new.self b.setup (with_entrant n c.args.p (standing b.setup (written_past b)))) n (c.enter.ensures.stands b.setup (standing b.setup (written_past b)) c.requires.kept.people)) c.enter.ensures.room
