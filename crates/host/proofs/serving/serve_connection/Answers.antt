use Rattle.host.proofs.Completing.{completes, read_fault_caused, write_fault_caused}
use Rattle.host.proofs.serving.serve_connection.Goals as goal

pub returns-clause-fair : goal.returns-clause-fair
returns-clause-fair g c = c.legal_lists_are_fair.ensures c.args.lobby.now.fixed c.serve.new.pass.seen c.serve.ensures.ready.2

pub returns-clause-complete : goal.returns-clause-complete
returns-clause-complete g c = completes c.laws_of_requests.ensures c.args.lobby.now.fixed c.args.keys.now _ _ c.serve.result c.serve.ensures.talk

pub returns-clause-read_fault : goal.returns-clause-read_fault
returns-clause-read_fault g c is = read_fault_caused c.laws_of_requests.ensures c.args.lobby.now.fixed c.args.keys.now _ _ c.serve.result c.serve.ensures.talk is

pub returns-clause-write_fault : goal.returns-clause-write_fault
returns-clause-write_fault g c is = write_fault_caused c.laws_of_requests.ensures c.args.lobby.now.fixed c.args.keys.now _ _ c.serve.result c.serve.ensures.talk is
