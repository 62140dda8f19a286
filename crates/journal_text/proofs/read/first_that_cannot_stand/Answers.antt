use Rattle.journal_text.proofs.FirstLine.{fault_first}
use Rattle.journal_text.proofs.read.first_that_cannot_stand.Goals as goal

pub returns : goal.returns
returns c = fault_first
