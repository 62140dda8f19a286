use Rattle.std.proofs.Common.{◌≡◌, sym, subst, length, List}
use Rattle.std.specs.Prelude.{map}
use Rattle.entries.specs.declared.journal.Entry.{Entry}
use Rattle.entries.specs.declared.setup.Setup.{Setup}
use Rattle.game_room.specs.declared.header.Header.{Header}
use Rattle.arena_history.specs.Waves.{history, starts_by}
use Rattle.arena_rules.specs.Commits.{wave_entry}
use Rattle.arena_core.specs.Starting.{start_at}
use Rattle.arena_core.proofs.Waved.{starts_are}
use Rattle.arena_core.proofs.arena.Arena.start_wave.Goals as goal

pub add_wave-requires-clause-games : goal.add_wave-requires-clause-games
add_wave-requires-clause-games c =
    let b = c.self.inside.book in
    let e = wave_entry c.args.t c.args.pass c.args.plan.now.n in
    let is = starts_are c.laws_of_histories.ensures b.setup b.entries c.args.t c.args.pass c.args.plan.now.n c.in_ok-headers.headers.items c.in_ok-headers.ensures.headers in
    subst (λ (x : Setup × List Entry × List Header). map (start_at (length x.1)) x.2 ≡ starts_by x.0 (history x.0 x.1) e) (λ i. (sym c.reserve_wave.ensures.setup i, sym c.reserve_wave.ensures.entries i, sym c.as_slice-2.ensures.value i)) is
