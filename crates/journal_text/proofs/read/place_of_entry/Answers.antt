use Rattle.journal_text.proofs.EntryPlaces.{entry_stands}
use Rattle.journal_text.proofs.read.place_of_entry.Goals as goal

pub returns : goal.returns
returns c = entry_stands
