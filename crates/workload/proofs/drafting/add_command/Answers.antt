use Rattle.std.proofs.Common.{ap, ◌∙◌, ◌++◌, ◌∷◌, [], ◌≡◌}
use Rattle.arena_rules.specs.Commands.{entry_of}
use Rattle.workload.proofs.Added.{obeyed, refused, same_games}
use Rattle.workload.proofs.drafting.add_command.Goals as goal

pub returns-in-Ok-clause-starts : goal.returns-in-Ok-clause-starts
returns-in-Ok-clause-starts c =
    let was = c.args.arena.now in
    let now = c.apply.new.self in
    let grown : now.entries ≡ was.entries ++ entry_of c.args.t 0 c.args.c ∷ [] = c.in-Ok.ensures.answer.entries ∙ ap (λ t. was.entries ++ entry_of t 0 c.args.c ∷ []) (c.stamps_of_entries.ensures.stays was.entries c.args.t c.requires.last c.requires.most) in
    same_games c.beginnings_are_histories.ensures.grow was.setup now.setup was.entries now.entries c.args.t c.args.c c.apply.ensures.setup grown

pub returns-in-Ok-clause-comes : goal.returns-in-Ok-clause-comes
returns-in-Ok-clause-comes c =
    let was = c.args.arena.now in
    obeyed was.setup was.entries c.stamps_of_entries.ensures.stays c.args.t c.requires.last c.requires.most c.args.c c.apply.new.self.entries c.in-Ok.field-0 c.in-Ok.ensures.answer

pub returns-in-Err-Refused-clause-comes : goal.returns-in-Err-Refused-clause-comes
returns-in-Err-Refused-clause-comes c =
    let was = c.args.arena.now in
    refused was.setup was.entries c.stamps_of_entries.ensures.stays c.args.t c.requires.last c.requires.most c.args.c c.apply.new.self.entries c.in-Err-Refused.field-0 c.in-Err-Refused.field-0-0 c.in-Err-Refused.field-0-is c.in-Err-Refused.ensures.answer
