use Rattle.std.proofs.Common.{◌+◌, refl}
use Rattle.journal_replay.proofs.Used.{made_last, made_later}
use Rattle.journal_replay.proofs.plans.WavePlans.let_go.Goals as goal

pub returns-in_default : goal.returns-in_default
returns-in_default c = record {
  uses = refl;
  made = made_later c.args.self.now.last_uses (c.args.number + 1) c.args.number c.args.self.now.made c.requires.made;
  kept = λ n p is. is;
}

pub returns-then-is_last_use-clause-made : goal.returns-then-is_last_use-clause-made
returns-then-is_last_use-clause-made c =
    made_last c.args.self.now.last_uses (c.args.number + 1) c.args.number c.in-Wave.n c.args.self.now.made c.remove.new.self c.remove.ensures.updates (c.is_last_use.ensures c.if-is_last_use.true) c.requires.made

pub returns-else-is_last_use-clause-made : goal.returns-else-is_last_use-clause-made
returns-else-is_last_use-clause-made c = made_later c.args.self.now.last_uses (c.args.number + 1) c.args.number c.args.self.now.made c.requires.made
