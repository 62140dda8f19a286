use Rattle.std.proofs.Common.{◌≡◌, length, map, sym, subst, ◌∙◌}
use Rattle.std.specs.Prelude.{IfOk}
use Rattle.entries.specs.declared.setup.Setup.{Setup}
use Rattle.host.specs.Asked.{AreKeysOfPlayers}
use Rattle.server.specs.declared.workers.Worker.{Worker}
use Rattle.server.specs.Evenings.{IsEvening}
use Rattle.server.proofs.evening.play_arena.Goals as goal

pub play-requires-clause-players : goal.play-requires-clause-players
play-requires-clause-players g c κs within =
    subst (λ (s : Setup). AreKeysOfPlayers (length s.players) c.args.keys.now) (sym (c.in_ok-lobby.ensures.setup ∙ c.in_ok-arena.ensures.setup)) c.requires.players

pub returns-clause-evening : goal.returns-clause-evening
returns-clause-evening g c =
    subst (λ (s : Setup). IfOk c.play.result (λ arena. IsEvening s (map (λ (w : Worker g.row.D.Denot g.row.C.Denot g.row.V.Denot). g.C.Clock.moments w.clock) c.args.workers.items) arena.entries))
    (c.in_ok-lobby.ensures.setup ∙ c.in_ok-arena.ensures.setup) c.play.ensures.evening
