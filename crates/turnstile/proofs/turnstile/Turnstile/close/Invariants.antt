use Rattle.std.proofs.Common.{◌≡◌, ◌++◌, []}
use Rattle.turnstile.specs.Views.{maker_view}
use Rattle.turnstile.proofs.Closing.{joined_of}
use Rattle.turnstile.proofs.turnstile.Turnstile.close.Given as goal

abbrev pub invariant-loop-pass : goal.invariant-loop-pass
invariant-loop-pass g l =
    ((goal.iterator-loop-pass g).can_next l.pass-iterator)
    × ((goal.iterator-loop-pass g).is_finite l.pass-iterator)
    × (l.yielded ++ l.pass-iterator.rest.items ≡ l.fn.passes.items)
    × (l.maker.table_id ≡ l.initial.table.shared.table_id)
    × (l.maker.me ≡ (maker_view (g.V.Historied.fixed l.initial.table.shared.key.value.value) l.initial.table.shared.key.passes l.initial.table.shared.key.passes (joined_of l.yielded), []))
    × (l.table ≡ l.initial.table)
