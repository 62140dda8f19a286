use Rattle.director.proofs.Looking.{by_no_snapshot, by_snapshot, ranked}
use Rattle.director.proofs.steps.snap.Goals as goal

pub returns-clause-rows : goal.returns-clause-rows
returns-clause-rows g c = ranked c.tables_of_legal_lists.ensures.rankings c.args.lobby.now.fixed c.args.pass.now c.snapshot.new.pass c.now-now.result c.setup-setup.ensures.good c.snapshot.ensures.ready.2 c.snapshot.result c.snapshot.ensures.answer

pub returns-clause-taken : goal.returns-clause-taken
returns-clause-taken g c = by_snapshot c.args.lobby.now.fixed c.args.pass.now c.snapshot.new.pass (g.C.Clock.moments c.args.clock.now) (g.C.Clock.moments c.now-now.new.self) c.now-now.result c.now-now.ensures c.snapshot.result c.snapshot.ensures.answer

pub returns-clause-failed : goal.returns-clause-failed
returns-clause-failed g c = by_no_snapshot c.args.lobby.now.fixed c.args.pass.now c.snapshot.new.pass (g.C.Clock.moments c.args.clock.now) (g.C.Clock.moments c.now-now.new.self) c.now-now.result c.now-now.ensures c.snapshot.result c.snapshot.ensures.answer
