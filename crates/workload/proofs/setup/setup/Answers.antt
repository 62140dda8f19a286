use Rattle.std.proofs.Common.{◌≡◌, ◌∙◌, []}
use Rattle.workload.specs.Setups.{control, players_of, setup_of}
use Rattle.workload.proofs.setup.setup.Goals as goal

pub returns-clause-setup : goal.returns-clause-setup
unfolding setup_of
returns-clause-setup c = λ seed is.
    let none : c.of.result ≡ [] = c.of.ensures ∙ c.new.ensures.items in
    let all : c.of-2.result ≡ players_of seed c.args.count = c.of-2.ensures ∙ c.in_ok-players.ensures.players seed is in
    λ i. record { control = control; starts = 0; ends = 3600000; wave_ms = 1000; leaders = 1; rule = 1; teams = none i; players = all i }
