use Rattle.std.proofs.Common.{◌∙◌}
use Rattle.journal_text.proofs.NameLemmas.{name_taken}
use Rattle.journal_text.proofs.names.is_name_taken.Goals as goal

pub returns : goal.returns
returns c = c.is_player.ensures ∙ name_taken c.args.players.now c.args.name.now
