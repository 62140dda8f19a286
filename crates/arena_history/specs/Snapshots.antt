-- What a wave is planned from, and its plan.
use Rattle.std.specs.Prelude.{ℕ, ℤ, pos, nat_lt, ◌-ℤ◌, ◌==◌, ◌&&◌, Bool, true, if◌then◌else◌, List, length, map, filter, fold, count_by, Option, Some, None}
use Rattle.std.specs.List.{list_any}
use Rattle.std.specs.Option.{option_map}
use Rattle.entries.specs.declared.journal.Entry.{Entry}
use Rattle.entries.specs.declared.journal.Start.{Start}
use Rattle.entries.specs.declared.journal.What.{What}
use Rattle.entries.specs.declared.journal.What.TheVariants.{Enter, Pause, Leave, Act, Tick, Wave}
use Rattle.entries.specs.declared.setup.Setup.{Setup}
use Rattle.ranking.specs.declared.row.Row.{Row}
use Rattle.team_battle.specs.Teams.{team_of}
use Rattle.pair_cost.specs.declared.candidate.Candidate.{Candidate}
use Rattle.wave.specs.declared.snapshot.Plan.{Plan}
use Rattle.wave.specs.declared.snapshot.Snapshot.{Snapshot}
use Rattle.wave.specs.Plans.{planned_pairs, planned_alone}
use Rattle.arena_history.specs.History.{History, LeftAlone}
use Rattle.arena_history.specs.Games.{is_either, running}
use Rattle.arena_history.specs.Results.{rating_of}
use Rattle.arena_history.specs.Stands.{idle}
use Rattle.arena_history.specs.Table.{standings}

-- a game that begins, if p plays it, or else the one before
abbrev pub start_or : ℕ → Option Start → Start → Option Start
start_or p before x = if is_either p x.white x.black then Some x else before

-- the start of p's last game, if he has had one
unfoldable pub last_start : History → ℕ → Option Start
last_start h p = fold (start_or p) None h.starts

-- the other of the two players of a game that begins
abbrev pub opponent_of : ℕ → Start → ℕ
opponent_of p x = if x.white == p then x.black else x.white

-- whom p met in his last game
unfoldable pub last_opponent : History → ℕ → Option ℕ
last_opponent h p = option_map (opponent_of p) (last_start h p)

-- of these games, those of p with White less those with Black
unfoldable pub balance_among : List Start → ℕ → ℤ
balance_among starts p = pos (count_by (λ (x : Start). x.white == p) starts) -ℤ pos (count_by (λ (x : Start). x.black == p) starts)

-- p's games with White less those with Black
unfoldable pub balance : History → ℕ → ℤ
balance h p = balance_among h.starts p

-- entry n comes after the one that began a game, or there is none
abbrev pub is_after : Option Start → ℕ → Bool
is_after None n = true
is_after (Some x) n = nat_lt x.entry n

-- a wave left p alone
abbrev pub leaves_alone : ℕ → LeftAlone → Bool
leaves_alone p x = list_any (λ q. q == p) x.players

-- how many waves left p alone since his last game began
unfoldable pub alone : History → ℕ → ℕ
alone h p = count_by (λ (x : LeftAlone). leaves_alone p x && is_after (last_start h p) x.entry) h.lefts

-- a row of the table as a candidate
abbrev pub candidate : Setup → History → Row → Candidate
candidate s h row = record {
  player = row.player;
  rank = row.rank;
  rating = rating_of s row.player;
  last = last_opponent h row.player;
  balance = balance h row.player;
  team = team_of s row.player;
  alone = alone h row.player;
}

-- the idle players in the order of the table
unfoldable pub candidates : Setup → History → List Candidate
candidates s h = map (candidate s h) (filter (λ (row : Row). idle s h row.player) (standings s h))

-- the stamp of an entry, where it is a wave, or else of the wave before
abbrev pub wave_or : Option ℕ → ℕ → What → Option ℕ
wave_or before t (Enter p) = before
wave_or before t (Pause p) = before
wave_or before t (Leave p) = before
wave_or before t (Act p number a) = before
wave_or before t Tick = before
wave_or before t (Wave n) = Some t

-- the stamp of the last wave, if there was one
unfoldable pub last_wave : History → Option ℕ
last_wave h = fold (λ before (e : Entry). wave_or before e.stamp e.what) None h.entries

-- a snapshot at a stamp
unfoldable pub snapshot : Setup → History → ℕ → Snapshot
snapshot s h t = record {
  n = length h.entries;
  stamp = t;
  last_wave = last_wave h;
  running = length (running s h);
  rule = s.rule;
  rows = candidates s h;
}

-- the plan of a history: the pairs of its candidates by the setup's rule, and whom they leave alone
unfoldable pub plan : Setup → History → Plan
plan s h = record {
  n = length h.entries;
  pairs = planned_pairs s.rule (candidates s h);
  alone = planned_alone s.rule (candidates s h);
}
