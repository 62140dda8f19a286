use Rattle.std.proofs.Common.{ap, ◌∙◌}
use Rattle.journal_text.specs.Lines.{no_words}
use Rattle.journal_text.proofs.LineLemmas.{none_left}
use Rattle.journal_text.proofs.words.Words.is_empty.Goals as goal

pub returns : goal.returns
returns c = none_left _ c.self.inside.left c.is_none.result c.is_none.ensures ∙ ap no_words c.self.view_is
