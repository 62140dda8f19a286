use Rattle.replay.specs.Replayed.{written}
use Rattle.arena_main.proofs.Ends.{run_complete, run_ends}
use Rattle.arena_main.proofs.running.run_replay.Goals as goal

pub returns-clause-replays : goal.returns-clause-replays
returns-clause-replays g c = run_ends (written c.args.wanted) (g.S.Source.left c.args.source.now) (g.S.Source.left c.replay_for-end.new.source) (g.K.Sink.held c.args.sink.now) (g.K.Sink.held c.replay_for-end.new.sink) (g.K.Sink.held c.finish.new.sink) c.replay_for-end.result c.finish.result c.replay_for-end.ensures.ends c.finish.ensures.finishes

pub returns-clause-complete : goal.returns-clause-complete
returns-clause-complete g c =
    run_complete (written c.args.wanted) c.one_fate.ensures.one (g.S.Source.left c.args.source.now) (g.S.Source.left c.replay_for-end.new.source) (g.K.Sink.held c.args.sink.now) (g.K.Sink.held c.finish.new.sink) c.finish.result
    (run_ends (written c.args.wanted) (g.S.Source.left c.args.source.now) (g.S.Source.left c.replay_for-end.new.source) (g.K.Sink.held c.args.sink.now) (g.K.Sink.held c.replay_for-end.new.sink) (g.K.Sink.held c.finish.new.sink) c.replay_for-end.result c.finish.result c.replay_for-end.ensures.ends c.finish.ensures.finishes)
