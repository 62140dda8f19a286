-- Laws of the table and of the snapshots of a legal list.
use Rattle.std.specs.Prelude.{◌≤◌, List, length}
use Rattle.std.specs.List.{All}
use Rattle.entries.specs.declared.journal.Entry.{Entry}
use Rattle.entries.specs.declared.setup.Setup.{Setup}
use Rattle.entries.specs.Ranges.{IsGood}
use Rattle.team_battle.specs.Teams.{IsRowOf}
use Rattle.wave.specs.Rankings.{IsRanking}
use Rattle.arena_history.specs.BoundLaws.{EnteredArePlayers}
use Rattle.arena_history.specs.Snapshots.{candidates}
use Rattle.arena_history.specs.Table.{standings}
use Rattle.arena_history.specs.Waves.{history}
use Rattle.arena_rules.specs.Legal.{IsLegal}

-- those who entered are players of the setup
abbrev pub EntrantsArePlayers : Type 0
EntrantsArePlayers = (s : Setup) (es : List Entry) → IsLegal s es → EnteredArePlayers s (history s es)

-- the table has no more rows than the setup has players
abbrev pub TablesAreShort : Type 0
TablesAreShort = (s : Setup) (es : List Entry) → IsLegal s es → length (standings s (history s es)) ≤ length s.players

-- over a good setup each row is that of a player of the setup, with at most 1,000,000 points and a performance from -500 to 4,500
abbrev pub TablesAreInRange : Type 0
TablesAreInRange = (s : Setup) (es : List Entry)
    → IsGood s
    → IsLegal s es
    → All (IsRowOf (length s.players)) (standings s (history s es))

-- over a good setup the candidates of a snapshot are a ranking, as planning asks
abbrev pub SnapshotsAreRankings : Type 0
SnapshotsAreRankings = (s : Setup) (es : List Entry) → IsGood s → IsLegal s es → IsRanking (candidates s (history s es))
