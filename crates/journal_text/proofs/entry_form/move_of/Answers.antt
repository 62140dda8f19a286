use Rattle.std.proofs.Common.{◌≡◌, ◌∙◌, ap, sym}
use Rattle.board.specs.Reading.{move_in}
use Rattle.board.proofs.Spelling.{move_in-word}
use Rattle.journal_text.proofs.Moved.{names-none}
use Rattle.journal_text.proofs.entry_form.move_of.Goals as goal

pub returns-in-None : goal.returns-in-None
returns-in-None c = sym (names-none c.args.word.now (λ m ok is. sym c.in-None.is ∙ c.read_move.ensures.read m ok is))

pub returns-in-Some : goal.returns-in-Some
returns-in-Some c = sym (move_in-word c.in-Some.m c.keeps.ensures) ∙ ap move_in c.in-Some.ensures.spelled
