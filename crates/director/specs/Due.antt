-- When a wave is due, and when an arena is over, as a snapshot shows it.
use Rattle.std.specs.Prelude.{ℕ, ◌+◌, nat_le, nat_lt, ◌==◌, ◌&&◌, Bool, true, length, Option, Some, None}
use Rattle.entries.specs.declared.setup.Setup.{Setup}
use Rattle.wave.specs.declared.snapshot.Snapshot.{Snapshot}

-- there was no wave yet, or the last one was at least so many milliseconds ago
abbrev pub is_rested : ℕ → Option ℕ → ℕ → Bool
is_rested wave_ms None t = true
is_rested wave_ms (Some last) t = nat_le (last + wave_ms) t

-- a wave is due: at least two players are idle, it is the time for games, and the last wave was long enough ago
unfoldable pub is_due : Setup → Snapshot → Bool
is_due s snap =
    nat_le 2 (length snap.rows) && nat_le s.starts snap.stamp && nat_lt snap.stamp s.ends && is_rested s.wave_ms snap.last_wave snap.stamp

-- the arena is over: its end has come, and no game runs
unfoldable pub is_over : Setup → Snapshot → Bool
is_over s snap = nat_le s.ends snap.stamp && (snap.running == 0)
