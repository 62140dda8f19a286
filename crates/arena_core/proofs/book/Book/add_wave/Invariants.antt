use Rattle.std.proofs.Common.{◌≡◌, ◌++◌, take, map}
use Rattle.std.specs.Prelude.{vec_capacity}
use Rattle.arena_core.specs.Starting.{start_at}
use Rattle.arena_core.proofs.book.Book.add_wave.Given as goal

abbrev pub invariant-listing : goal.invariant-listing
invariant-listing l = record {
  starts : l.self-inside.starts.items ≡ l.initial.self-inside.starts.items ++ map (start_at l.entry) (take l.header-index l.headers);
  room : vec_capacity l.self-inside.starts ≡ vec_capacity l.initial.self-inside.starts;
  setup : l.self-inside.setup ≡ l.initial.self-inside.setup;
  entries : l.self-inside.entries ≡ l.initial.self-inside.entries;
}
