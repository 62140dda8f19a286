use Rattle.std.proofs.Common.{◌≡◌, ◌≤◌, map, vec_capacity, []}
use Rattle.std.specs.List.{range_with_len}
use Rattle.turnstile.specs.Passes.{new_pass}
use Rattle.turnstile.specs.Views.{maker_view}
use Rattle.turnstile.proofs.turnstile.Turnstile.new.Given as goal

abbrev pub invariant-loop-number : goal.invariant-loop-number
invariant-loop-number g l =
    (l.maker.table_id ≡ l.table.shared.table_id)
    × (l.maker.me ≡ (maker_view (g.V.Historied.fixed l.start.value.value) l.start.passes l.number [], []))
    × (l.list.items ≡ map (new_pass record { id = l.table.shared.table_id; fixed = g.V.Historied.fixed l.start.value.value; passes = l.start.passes }) (range_with_len 0 l.number))
    × (l.fn.passes ≤ vec_capacity l.list)
