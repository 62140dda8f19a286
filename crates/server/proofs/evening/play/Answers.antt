use Rattle.std.proofs.Common.{◌≡◌, ◌<◌, ◌≤◌, ◌+◌, ◌++◌, length, map, take, drop, sym, ap, ◌∙◌, subst, arith, vec_len, vec_capacity}
use Rattle.std.specs.List.{All}
use mathlib.Core.List.{IsPrefix}
use Rattle.turnstile.specs.Histories.{own}
use Rattle.turnstile.specs.Passes.{own_of}
use Rattle.arena_lock.specs.Turns.{IsReady, Pass, pass_of}
use Rattle.server.specs.declared.shift.Shift.{Shift}
use Rattle.server.proofs.Played.{as_many, end_ready, evening, have_solvers, length_mapped, start_fresh, start_ready, take_at}
use Rattle.server.proofs.evening.play.Goals as goal

pub work_all-requires-clause-some : goal.work_all-requires-clause-some
work_all-requires-clause-some g c κs within =
    let some : 0 < length c.args.workers.items = c.requires.some in
    let many = as_many c.args.lobby c.args.passes.items c.args.workers.items c.as_mut_slice.result.now c.requires.len (c.as_mut_slice.ensures.value ∙ c.in_ok-shifts.ensures) in
    omega (arith, some, many)

pub work_all-requires-clause-ready : goal.work_all-requires-clause-ready
work_all-requires-clause-ready g c κs within = start_ready c.args.lobby c.args.passes.items c.args.workers.items c.as_mut_slice.result.now c.requires.len (c.as_mut_slice.ensures.value ∙ c.in_ok-shifts.ensures) c.requires.ready

pub work_all-requires-clause-fresh : goal.work_all-requires-clause-fresh
work_all-requires-clause-fresh g c κs within = start_fresh c.args.lobby c.args.passes.items c.args.workers.items c.as_mut_slice.result.now c.requires.len (c.as_mut_slice.ensures.value ∙ c.in_ok-shifts.ensures) c.requires.new

pub work_all-requires-clause-solvers : goal.work_all-requires-clause-solvers
work_all-requires-clause-solvers g c κs within = have_solvers c.args.lobby c.args.passes.items c.args.workers.items c.as_mut_slice.result.now c.requires.len (c.as_mut_slice.ensures.value ∙ c.in_ok-shifts.ensures) c.requires.solvers

pub passes_of-requires-clause-room : goal.passes_of-requires-clause-room
passes_of-requires-clause-room g c =
    let after : take c.in_ok-shifts.shifts.len (c.work_all.new.shifts ++ drop (length c.work_all.new.shifts) c.in_ok-shifts.shifts.items) ≡ c.work_all.new.shifts =
    take_at c.work_all.new.shifts (drop (length c.work_all.new.shifts) c.in_ok-shifts.shifts.items) c.in_ok-shifts.shifts.len (c.work_all.auto.shifts ∙ c.as_mut_slice.ensures.len) in
    let many = as_many c.args.lobby c.args.passes.items c.args.workers.items c.as_mut_slice.result.now c.requires.len (c.as_mut_slice.ensures.value ∙ c.in_ok-shifts.ensures) in
    omega (arith, ap (λ l. length l) after, c.work_all.auto.shifts, many, c.requires.len, c.in_ok-room.ensures.len, c.in_ok-room.ensures.capacity, c.len.ensures, c.args.passes.ok)

pub close-requires-clause-all : goal.close-requires-clause-all
close-requires-clause-all g c =
    let after : take c.in_ok-shifts.shifts.len (c.work_all.new.shifts ++ drop (length c.work_all.new.shifts) c.in_ok-shifts.shifts.items) ≡ c.work_all.new.shifts =
    take_at c.work_all.new.shifts (drop (length c.work_all.new.shifts) c.in_ok-shifts.shifts.items) c.in_ok-shifts.shifts.len (c.work_all.auto.shifts ∙ c.as_mut_slice.ensures.len) in
    let back = c.passes_of.ensures ∙ ap (λ l. map (λ (x : Shift g.row.D.Denot g.row.C.Denot g.row.V.Denot). x.pass) l) after in
    let many = as_many c.args.lobby c.args.passes.items c.args.workers.items c.as_mut_slice.result.now c.requires.len (c.as_mut_slice.ensures.value ∙ c.in_ok-shifts.ensures) in
    let mapped = length_mapped (λ (x : Shift g.row.D.Denot g.row.C.Denot g.row.V.Denot). x.pass) c.work_all.new.shifts in
    ap (λ l. length l) back ∙ (mapped ∙ (c.work_all.auto.shifts ∙ (many ∙ sym c.requires.number)))

pub close-requires-clause-of : goal.close-requires-clause-of
close-requires-clause-of g c = λ k d below.
    let after : take c.in_ok-shifts.shifts.len (c.work_all.new.shifts ++ drop (length c.work_all.new.shifts) c.in_ok-shifts.shifts.items) ≡ c.work_all.new.shifts =
    take_at c.work_all.new.shifts (drop (length c.work_all.new.shifts) c.in_ok-shifts.shifts.items) c.in_ok-shifts.shifts.len (c.work_all.auto.shifts ∙ c.as_mut_slice.ensures.len) in
    let back = c.passes_of.ensures ∙ ap (λ l. map (λ (x : Shift g.row.D.Denot g.row.C.Denot g.row.V.Denot). x.pass) l) after in
    let ready : All (IsReady c.args.lobby) c.passes_of.result.items = subst (All (IsReady c.args.lobby)) (sym back)
    (end_ready c.args.lobby c.args.passes.items c.args.workers.items c.as_mut_slice.result.now c.requires.len (c.as_mut_slice.ensures.value ∙ c.in_ok-shifts.ensures) g.C.Clock.moments c.work_all.new.shifts c.work_all.auto.shifts c.work_all.ensures) in
    (ready k d below).0

pub close-requires-clause-outside : goal.close-requires-clause-outside
close-requires-clause-outside g c = λ k d below.
    let after : take c.in_ok-shifts.shifts.len (c.work_all.new.shifts ++ drop (length c.work_all.new.shifts) c.in_ok-shifts.shifts.items) ≡ c.work_all.new.shifts =
    take_at c.work_all.new.shifts (drop (length c.work_all.new.shifts) c.in_ok-shifts.shifts.items) c.in_ok-shifts.shifts.len (c.work_all.auto.shifts ∙ c.as_mut_slice.ensures.len) in
    let back = c.passes_of.ensures ∙ ap (λ l. map (λ (x : Shift g.row.D.Denot g.row.C.Denot g.row.V.Denot). x.pass) l) after in
    let ready : All (IsReady c.args.lobby) c.passes_of.result.items = subst (All (IsReady c.args.lobby)) (sym back)
    (end_ready c.args.lobby c.args.passes.items c.args.workers.items c.as_mut_slice.result.now c.requires.len (c.as_mut_slice.ensures.value ∙ c.in_ok-shifts.ensures) g.C.Clock.moments c.work_all.new.shifts c.work_all.auto.shifts c.work_all.ensures) in
    (ready k d below).1

pub returns-clause-evening : goal.returns-clause-evening
returns-clause-evening g c =
    let after : take c.in_ok-shifts.shifts.len (c.work_all.new.shifts ++ drop (length c.work_all.new.shifts) c.in_ok-shifts.shifts.items) ≡ c.work_all.new.shifts =
    take_at c.work_all.new.shifts (drop (length c.work_all.new.shifts) c.in_ok-shifts.shifts.items) c.in_ok-shifts.shifts.len (c.work_all.auto.shifts ∙ c.as_mut_slice.ensures.len) in
    let back = c.passes_of.ensures ∙ ap (λ l. map (λ (x : Shift g.row.D.Denot g.row.C.Denot g.row.V.Denot). x.pass) l) after in
    evening c.args.lobby c.args.passes.items c.args.workers.items c.as_mut_slice.result.now c.requires.len (c.as_mut_slice.ensures.value ∙ c.in_ok-shifts.ensures) g.C.Clock.moments c.work_all.new.shifts c.work_all.auto.shifts c.work_all.ensures
    c.requires.new c.close.result.entries c.close.ensures.legal c.close.ensures.numbers c.requires.number
    (subst (All (λ (p : Pass). IsPrefix p.seen c.close.result.entries)) back c.close.ensures.begins)
    (subst (All (λ (p : Pass). own pass_of p.number c.close.result.entries ≡ own_of pass_of p)) back c.close.ensures.own)
