use Rattle.std.proofs.Common.{◌≡◌, drop}
use Rattle.std.specs.Prelude.{slice_get}
use Rattle.std.specs.List.{find}
use Rattle.arena_games.specs.Keeps.{is_kept_due}
use Rattle.arena_games.proofs.Listed.{passes_at}
use Rattle.arena_games.proofs.games.Games.first_due.Given as goal

abbrev pub invariant-looking : goal.invariant-looking
invariant-looking l =
    find (λ m. passes_at (is_kept_due l.t) (slice_get l.self-inside.games.items m)) (drop l.number-index l.numbers)
    ≡ find (λ m. passes_at (is_kept_due l.t) (slice_get l.self-inside.games.items m)) l.numbers
