use Rattle.std.proofs.lemmas.List.Elements.{All-pop}
use Rattle.std.specs.Prelude.{Some}
use Rattle.arena_lock.specs.Turns.{IsReady}
use Rattle.arena_main.proofs.tests.lobbies.opened_for_one.Goals as goal

pub returns-in-Some-clause-ready : goal.returns-in-Some-clause-ready
returns-in-Some-clause-ready c =
    let lobby = c.in_ok-lobby.lobby in
    let popped = All-pop (IsReady lobby) c.in_ok-lobby.passes.items c.pop.new.self.items (Some c.in-Some.pass) c.in-Some.ensures.items c.in_ok-lobby.ensures.ready in
    popped.1
