use Rattle.std.proofs.Common.{arith, ◌≡◌, ◌-◌, length, take, length-take-le}
use Rattle.http_lines.proofs.Buffers.{put_behind}
use Rattle.http_lines.proofs.read_ahead.read_behind.Goals as goal

pub returns-clause-grew : goal.returns-clause-grew
returns-clause-grew g c =
    let held = c.args.end - c.args.start in
    let moved = c.move_to_front.new.buffer in
    let front : length (take held moved) ≡ held = length-take-le held moved (omega arith) in
    put_behind c.read.result _ _ _ (take held moved) c.read.new.buf _ held front c.move_to_front.ensures c.read.ensures.bound c.read.ensures.bytes
