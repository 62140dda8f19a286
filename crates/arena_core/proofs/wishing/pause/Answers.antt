use Rattle.std.proofs.Common.{◌≡◌, sym, subst, arith, true}
use Rattle.std.specs.Prelude.{nat_le}
use Rattle.seats.specs.Places.{may_pause}
use Rattle.arena_core.specs.People.{standing}
use Rattle.arena_core.specs.Written.{written_past}
use Rattle.arena_core.proofs.Heeded.{kept_paused, may_from_pause}
use Rattle.arena_core.proofs.Placed.{length_places, wish_kept}
use Rattle.arena_core.proofs.wishing.pause.Goals as goal

pub pause-requires-clause-player : goal.pause-requires-clause-player
pause-requires-clause-player c =
    let b = c.args.book.now in
    omega (arith, c.requires.player, length_places c.laws_of_histories.ensures b.setup (written_past b) c.args.people.now c.requires.kept.people)

pub pause-requires-clause-may : goal.pause-requires-clause-may
pause-requires-clause-may c =
    let b = c.args.book.now in
    let wish = wish_kept c.laws_of_histories.ensures b.setup (written_past b) c.args.people.now c.requires.kept.people c.args.p c.requires.player in
    subst (λ w. may_pause w ≡ true) (sym wish) (may_from_pause (nat_le b.setup.ends c.args.t) _ c.requires.granted)

pub returns : goal.returns
returns c =
    λ pass.
    let b = c.args.book.now in
    kept_paused c.laws_of_histories.ensures b.setup b.entries c.args.games.now c.args.people.now c.requires.kept c.args.t pass c.args.p _ (c.pause.ensures.stands b.setup (standing b.setup (written_past b)) c.requires.kept.people) c.pause.ensures.room
