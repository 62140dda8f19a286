use Rattle.std.proofs.Common.{◌≡◌, ◌<◌, ◌≤◌, length, map, arith}
use Rattle.std.specs.Prelude.{slice_index_or}
use Rattle.server.specs.declared.workers.Worker.{Worker}
use Rattle.server.proofs.Played.{length_mapped}
use Rattle.server.proofs.evening.serve_arena.Goals as goal

pub record_evening-requires : goal.record_evening-requires
record_evening-requires g c = λ k d below.
    let fewer = c.in-Ok.ensures.evening.numbers k d below in
    let workers = length_mapped (λ (w : Worker g.row.D.Denot g.row.C.Denot g.row.V.Denot). g.C.Clock.moments w.clock) c.args.workers.items in
    omega (arith, fewer, workers, c.requires.some.1)
