use Rattle.std.proofs.Common.{rules}
use Rattle.api.proofs.Texts.{name_is_text}
use Rattle.api.proofs.words.text_of.Goals as goal

pub unreachable-requires : goal.unreachable-requires
unreachable-requires c = let is : _ = name_is_text c.args.name.now c.requires in search rules
