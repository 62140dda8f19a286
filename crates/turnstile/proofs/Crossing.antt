-- A turnstile and its passes may cross threads, where the value may.
use denote.RattleType.{RattleType}
use denote.Builtin.{u64}
use denote.Param.Send.{IsSend, IsSync, sendable, part_keyless, view_send, view_sync, struct_send, struct_sync, recorded_send, recorded_sync}
use denote.Struct.Declared.{shape}
use denote.Struct.Struct.{Struct}
use Rattle.std.proofs.Crossing.{frees, Vec-send, Vec-sync}
use Rattle.std.proofs.option.Option.TheSendSync as option
use Rattle.std.specs.contracts.alloc.Global as global
use Rattle.std.specs.contracts.impls.GlobalAllocator.TheImpl as heap
use Rattle.std.specs.contracts.option.Option as option_row
use Rattle.std.proofs.sync.atomic.AtomicU64.TheSendSync as atomic_crosses
use Rattle.std.specs.contracts.timed.Parker as parker
use Rattle.atomic_table.proofs.badge.Badge.TheSendSync as badge_crosses
use Rattle.atomic_table.proofs.send_lease.SendLease.TheSendSync as lease_crosses
use Rattle.atomic_table.proofs.shared.Seat.TheSendSync as seat_crosses
use Rattle.atomic_table.proofs.shared.Shared.TheSendSync as shared_crosses
use Rattle.atomic_table.specs.contracts.badge.Badge as badge
use Rattle.atomic_table.specs.contracts.owned.Table as table
use Rattle.atomic_table.specs.declared.shared.TableRule as table_rule
use Rattle.turnstile.specs.contracts.pass.Pass as pass
use Rattle.turnstile.specs.contracts.pass.Pass.TheInside as pass_inside
use Rattle.turnstile.specs.contracts.rule.Queue as queue
use Rattle.turnstile.specs.contracts.rule.QueueTableRuleOptionViewEntryFixedStart.TheImpl as rule
use Rattle.turnstile.specs.contracts.turnstile.Turnstile as turnstile
use Rattle.turnstile.specs.contracts.turnstile.Turnstile.TheInside as turnstile_inside
use Rattle.turnstile.specs.contracts.view.Start as start
use Rattle.turnstile.specs.contracts.view.View as view
use Rattle.turnstile.specs.contracts.waiters.Waiters as waiters
use Rattle.turnstile.specs.declared.historied.Historied.{Ghosts}

-- a badge has no bytes, so a reference to one shares nothing
badge_sync : (V : RattleType) → IsSync (badge.the_row V)
badge_sync V = record { shared = λ d b o ν q. part_keyless (badge.the_row V) (badge_crosses.the_send V) q d b o }

table_send : (S V K P : RattleType) (g : table_rule.Ghosts P.Denot S.Denot V.Denot K.Denot) → IsSend S → IsSend (Struct (shape (table.the_type S V K P global.the_row g heap.ghosts)))
table_send S V K P g s = struct_send (shape (table.the_type S V K P global.the_row g heap.ghosts))
    (shared_crosses.the_send S V K P g s, (search sendable, (search sendable, (lease_crosses.the_send u64 global.the_row heap.ghosts (search sendable) frees, (lease_crosses.the_send S global.the_row heap.ghosts (search sendable) frees, (search sendable depth 12, tt))))))

table_sync : (S V K P : RattleType) (g : table_rule.Ghosts P.Denot S.Denot V.Denot K.Denot) → IsSend S → IsSync (Struct (shape (table.the_type S V K P global.the_row g heap.ghosts)))
table_sync S V K P g s = struct_sync (shape (table.the_type S V K P global.the_row g heap.ghosts))
    (shared_crosses.the_sync S V K P g s, (search sendable, (search sendable, (lease_crosses.the_sync u64 global.the_row heap.ghosts (search sendable) frees, (lease_crosses.the_sync S global.the_row heap.ghosts (search sendable) frees, (search sendable depth 12, tt))))))

parker_sync : IsSync parker.the_row
parker_sync = search (atomic_crosses.the_sync, sendable) depth 20

waiters_send : IsSend waiters.the_field.row
waiters_send = struct_send (shape waiters.the_type) (Vec-send parker.the_row (search sendable depth 12), tt)

waiters_sync : IsSync waiters.the_field.row
waiters_sync = struct_sync (shape waiters.the_type) (Vec-sync parker.the_row parker_sync, tt)

module _ (V E F : RattleType) (g : Ghosts V.Denot E.Denot F.Denot) (s : IsSend V) where
  pub pass_send : IsSend (pass.the_row V E F g)
  pass_send =
      view_send (pass_inside.the_row V E F g) _ _ _ _
      (recorded_send (pass_inside.the_field V E F g).row _ _ (pass_inside.the_type V E F g).to_one
      (struct_send (shape (pass_inside.the_type V E F g)) (seat_crosses.the_send _ _ (option.the_send V s), (search sendable, (search sendable, (search sendable depth 12, tt))))))

  pub turnstile_send : IsSend (turnstile.the_row V E F g)
  turnstile_send =
      view_send (turnstile_inside.the_row V E F g) _ _ _ _
      (recorded_send (turnstile_inside.the_field V E F g).row _ _ (turnstile_inside.the_type V E F g).to_one
      (struct_send (shape (turnstile_inside.the_type V E F g)) (table_send (option_row.the_row V) (view.the_row E F) (start.the_row V) (queue.the_row V) (rule.ghosts V E F g rule.no_dict) (option.the_send V s), (badge_crosses.the_send (view.the_row E F), (waiters_send, tt)))))

  pub turnstile_sync : IsSync (turnstile.the_row V E F g)
  turnstile_sync =
      view_sync (turnstile_inside.the_row V E F g) _ _ _ _
      (recorded_sync (turnstile_inside.the_field V E F g).row _ _ (turnstile_inside.the_type V E F g).to_one
      (struct_sync (shape (turnstile_inside.the_type V E F g)) (table_sync (option_row.the_row V) (view.the_row E F) (start.the_row V) (queue.the_row V) (rule.ghosts V E F g rule.no_dict) (option.the_send V s), (badge_sync (view.the_row E F), (waiters_sync, tt)))))
