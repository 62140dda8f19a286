use denote.Param.Send.{IsSend, IsSync, sendable}
use denote.Struct.Field.{unit-field}
use Rattle.std.proofs.Crossing.{frees}
use Rattle.std.proofs.alloc.Global.TheSendSync as heap
use Rattle.std.proofs.vec.Vec.TheSendSync as vec
use Rattle.turnstile.specs.contracts.pass.Pass as pass_row
use Rattle.turnstile.specs.contracts.tests.Note as note
use Rattle.turnstile.specs.contracts.tests.Notes as notes
use Rattle.turnstile.specs.contracts.tests.NotesHistoried.TheImpl as historied
use Rattle.turnstile.specs.contracts.turnstile.Turnstile as lock_row
use Rattle.turnstile.proofs.Crossing.{pass_send, turnstile_sync}
use Rattle.turnstile.proofs.tests.write_all.Goals as goal

notes_send : IsSend notes.the_row
notes_send = search (sendable, vec.the_send, heap.the_send, frees) depth 20

lock_sync : IsSync (lock_row.the_row notes.the_row note.the_row unit-field.row historied.ghosts)
lock_sync = turnstile_sync notes.the_row note.the_row unit-field.row historied.ghosts notes_send

one_send : IsSend (pass_row.the_row notes.the_row note.the_row unit-field.row historied.ghosts)
one_send = pass_send notes.the_row note.the_row unit-field.row historied.ghosts notes_send

pub map_vec-requires-send-J : goal.map_vec-requires-send-J
map_vec-requires-send-J g c κs within = search (sendable, one_send) depth 20

pub map_vec-requires-send-X : goal.map_vec-requires-send-X
map_vec-requires-send-X g c κs within = search (sendable, one_send) depth 20

pub map_vec-requires-sync-F : goal.map_vec-requires-sync-F
map_vec-requires-sync-F g c κs within = search (sendable, lock_sync) depth 20
