use Rattle.std.proofs.lemmas.List.Elements.{All-pop, All-push, All-same}
use Rattle.arena_lock.specs.Turns.{IsReady}
use Rattle.arena_main.proofs.tests.lock.threads.begun.Goals as goal

pub returns : goal.returns
returns g c =
    let lobby = c.args.lobby.now in
    let others = c.pop.new.self.items in
    let popped = All-pop (IsReady lobby) c.args.passes.items others c.pop.result c.pop.ensures.items c.requires.ready in
    record {
      ready = All-same (IsReady lobby) _ _ c.in_ok-push.ensures.items (All-push (IsReady lobby) others c.begin_game.new.pass popped.0 c.begin_game.ensures.ready);
    }
