use Rattle.std.proofs.Common.{◌≡◌, length, ap, sym, subst, ◌∙◌, arith}
use Rattle.entries.specs.Ranges.{IsGood}
use Rattle.entries.specs.declared.setup.Setup.{Setup}
use Rattle.workload.specs.Setups.{setup_of}
use Rattle.workload.proofs.Finished.{whole_list, cut_list}
use Rattle.workload.proofs.Good.{count_is, is_good}
use Rattle.workload.proofs.generating.played.Goals as goal

pub new-requires-2 : goal.new-requires-2
new-requires-2 g c =
    let is : c.in_ok-setup.setup ≡ setup_of c.args.seed c.args.players = c.in_ok-setup.ensures.setup c.args.seed c.of-numbers.ensures in
    subst IsGood (sym is) (is_good c.args.seed c.args.players (omega (arith, c.requires.players.0)) c.requires.players.1)

pub play-requires-clause-players : goal.play-requires-clause-players
play-requires-clause-players g c = λ κs outlives.
    let is = c.in_ok-arena.ensures.setup ∙ c.in_ok-setup.ensures.setup c.args.seed c.of-numbers.ensures in
    sym (ap (λ (s : Setup). length s.players) is ∙ count_is c.args.seed c.args.players)

pub returns-in-Ok-clause-entries : goal.returns-in-Ok-clause-entries
returns-in-Ok-clause-entries g c =
    let is = c.in_ok-arena.ensures.setup ∙ c.in_ok-setup.ensures.setup c.args.seed c.of-numbers.ensures in
    whole_list c.args.seed c.args.players c.in_ok-arena.arena.setup c.play.new.arena.entries is (c.in-Ok.ensures.comes c.args.seed (c.in_ok-setup.ensures.drawn c.args.seed c.of-numbers.ensures))

pub returns-in-Err-NotAllowed-clause-entries : goal.returns-in-Err-NotAllowed-clause-entries
returns-in-Err-NotAllowed-clause-entries g c =
    let is = c.in_ok-arena.ensures.setup ∙ c.in_ok-setup.ensures.setup c.args.seed c.of-numbers.ensures in
    cut_list c.args.seed c.args.players c.in_ok-arena.arena.setup c.play.new.arena.entries is c.in-Err-NotAllowed.field-0 c.in-Err-NotAllowed.field-0-is (c.in-Err-NotAllowed.ensures.comes c.args.seed (c.in_ok-setup.ensures.drawn c.args.seed c.of-numbers.ensures))
