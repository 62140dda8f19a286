-- What a step leaves of the list of entries that it carries on.
use Rattle.std.specs.Prelude.{◌≡◌, List, Result, Ok, Err}
use Rattle.entries.specs.declared.journal.Entry.{Entry}
use Rattle.workload.specs.declared.drafting.Stop.{Stop}
use Rattle.workload.specs.declared.drafting.Stop.TheVariants.{NotAllowed, OutOfMemory}
use Rattle.workload.specs.Drafts.{Draft, going, ended}

-- the list has come to these entries: it goes on, or the next entry is not allowed; want of memory says nothing
abbrev pub ComesTo : Draft → List Entry → Result (Unit {0}) Stop → Type 0
ComesTo d new (Ok done) = d ≡ going new
ComesTo d new (Err NotAllowed) = d ≡ ended new
ComesTo d new (Err OutOfMemory) = Unit {0}
