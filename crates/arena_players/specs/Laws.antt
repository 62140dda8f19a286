-- Laws of the games and waves of a history, as pairings ask for them.
use Rattle.std.specs.Prelude.{◌<◌, ◌≤◌, List, length}
use Rattle.std.specs.List.{All}
use Rattle.entries.specs.declared.journal.Entry.{Entry}
use Rattle.entries.specs.declared.journal.Start.{Start}
use Rattle.entries.specs.declared.setup.Setup.{Setup}
use Rattle.arena_history.specs.History.{LeftAlone}
use Rattle.arena_history.specs.Waves.{history}

-- there are no more waves than entries
abbrev pub WavesAreFew : Type 0
WavesAreFew = (s : Setup) (es : List Entry) → length (history s es).lefts ≤ length es

-- each wave is one of the entries
abbrev pub WavesHaveEntries : Type 0
WavesHaveEntries = (s : Setup) (es : List Entry) → All (λ (x : LeftAlone). x.entry < length es) (history s es).lefts

-- each game was begun by one of the entries
abbrev pub GamesHaveEntries : Type 0
GamesHaveEntries = (s : Setup) (es : List Entry) → All (λ (x : Start). x.entry < length es) (history s es).starts
