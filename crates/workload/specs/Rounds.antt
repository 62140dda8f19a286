-- A round: a wave, and each game that it starts played to its end.
use Rattle.std.specs.Prelude.{ℕ, suc, ◌+◌, ◌%◌, List, [], ◌∷◌, ◌++◌, drop, length}
use Rattle.entries.specs.declared.journal.Entry.{Entry}
use Rattle.entries.specs.declared.journal.Start.{Start}
use Rattle.entries.specs.declared.setup.Setup.{Setup}
use Rattle.arena_history.specs.Waves.{history}
use Rattle.arena_rules.specs.Commits.{wave_entry}
use Rattle.workload.specs.Drafts.{Draft, with_next, with_all}
use Rattle.workload.specs.Numbers.{drawn}
use Rattle.workload.specs.Scripts.{Script, script, acts}

-- game number g is played by the script of the next draw behind those for the ratings and for the games before it
abbrev pub script_of : ℕ → ℕ → ℕ → Script
script_of seed players g = script (drawn seed (players + g) % 6)

-- the entries of these games at t, numbered from a number on
abbrev pub plays_from : ℕ → ℕ → ℕ → ℕ → List Start → List Entry
plays_from seed players t number [] = []
plays_from seed players t number (g ∷ gs) = acts t number g (script_of seed players number) ++ plays_from seed players t (suc number) gs

-- the entries of the games from a number on that a list has begun
abbrev pub plays : ℕ → Setup → ℕ → ℕ → List Entry → List Entry
plays seed s t number es = plays_from seed (length s.players) t number (drop number (history s es).starts)

-- a wave at t, of all entries before it
abbrev pub with_wave : Setup → ℕ → Draft → Draft
with_wave s t d = with_next s d (wave_entry t 0 (length d.entries))

-- a round at t: the wave, and then the games that it began
unfoldable pub round : ℕ → Setup → ℕ → Draft → Draft
round seed s t d =
    let waved = with_wave s t d in
    with_all s waved (plays seed s t (length (history s d.entries).starts) waved.entries)
