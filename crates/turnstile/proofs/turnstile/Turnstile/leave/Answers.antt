use Rattle.std.proofs.Common.{rules, ◌≡◌, ◌∙◌, sym, ap, arith, ℕ, [], ◌∷◌, ◌++◌, ◌+◌, ◌-◌, length, Some, length-append}
use Rattle.atomic_table.specs.Table.{rest}
use Rattle.turnstile.specs.declared.view.Role.TheVariants.{Holder}
use Rattle.turnstile.specs.Passes.{own_of}
use Rattle.turnstile.specs.Steps.{carried_history}
use Rattle.turnstile.specs.Views.{ticket_of}
use Rattle.turnstile.proofs.Hands.{in_turn}
use Rattle.turnstile.proofs.Own.{own_gains}
use Rattle.turnstile.proofs.Publishing.{publishes}
use Rattle.turnstile.proofs.Seats.{some_is}
use Rattle.turnstile.proofs.Serving.{serves}
use Rattle.turnstile.proofs.turnstile.Turnstile.leave.Goals as goal

pub fetch_add-requires : goal.fetch_add-requires
fetch_add-requires g c =
    let p = c.pass.invariant in
    let view = c.pass.view_is in
    let old = c.pass.inside.seat.me in
    let now = c.exchange-hole.new.seat.me in
    let within = in_turn old.0.stage old.1 p.3 (ap (λ k. k.has_turn) view ∙ c.requires.turn) in
    let x = c.exchange-hole.ensures in
    let words = c.self.invariant.0 in
    let value = c.args.value in
    let all = g.V.Historied.entries value in
    let new = c.requires.history.new in
    let seen : now.0.seen ≡ c.args.pass.now.seen = ap (λ m. m.0.seen) x.3 ∙ ap (λ k. k.seen) view in
    let grows : all ≡ now.0.seen ++ new = c.requires.history.goes_on ∙ ap (λ l. l ++ new) (sym seen) in
    let long : length all ≡ length now.0.seen + length new = ap length grows ∙ length-append now.0.seen new in
    let at : c.pass.inside.seen ≡ length now.0.seen = p.2 ∙ ap (λ m. length m.0.seen) (sym x.3) in
    let len : c.len-len.result ≡ length all = c.len-len.ensures in (
      x.0 ∙ (ap (λ k. k.of.id) view ∙ (ap (λ k. k.id) c.requires.of ∙ sym (ap (λ k. k.id) c.self.view_is))),
      omega arith,
      publishes g.V.Historied.entries g.V.Historied.by g.V.Historied.fixed _ _ c.exchange-hole.new.seat.id (ticket_of old.0.stage) c.args.pass.now.number (c.len-len.result - c.pass.inside.seen) now.0 now.1 value new _
          (ap (λ m. m.1) x.3 ∙ ap (λ l. (0, Some value) ∷ rest l) within.1)
          (ap (λ m. m.0.stage) x.3 ∙ within.0)
          (ap (λ m. m.0.role) x.3 ∙ (p.1 ∙ ap (λ k. Holder k.number) view))
          grows
          c.requires.history.by_one
          (omega arith)
          (search rules),
    )

pub fetch_add-ended-requires : goal.fetch_add-ended-requires
fetch_add-ended-requires g c =
    let p = c.pass.invariant in
    let view = c.pass.view_is in
    let old = c.pass.inside.seat.me in
    let now = c.exchange-hole.new.seat.me in
    let then = c.fetch_add.new.seat.me in
    let within = in_turn old.0.stage old.1 p.3 (ap (λ k. k.has_turn) view ∙ c.requires.turn) in
    let x = c.exchange-hole.ensures in
    let y = c.fetch_add.ensures in
    let words = c.self.invariant.0 in
    let value = c.args.value in
    let held : now.1 ≡ (0, Some value) ∷ [] = ap (λ m. m.1) x.3 ∙ ap (λ l. (0, Some value) ∷ rest l) within.1 in (
      y.0 ∙ (x.0 ∙ (ap (λ k. k.of.id) view ∙ (ap (λ k. k.id) c.requires.of ∙ sym (ap (λ k. k.id) c.self.view_is)))),
      omega arith,
      serves g.V.Historied.entries g.V.Historied.by g.V.Historied.fixed _ _ c.fetch_add.new.seat.id (ticket_of old.0.stage) then.0 then.1 value _
          (ap (λ m. m.1) y.2 ∙ held)
          (ap (λ m. m.0.stage) y.2 ∙ (ap (λ m. m.0.stage) x.3 ∙ within.0))
          (λ f' n' e. c.requires.fixed ∙ (sym (ap (λ k. k.fixed) c.requires.of) ∙ (sym (ap (λ k. k.of.fixed) view) ∙ ap (λ (o : g.row.V-Fixed.Denot × ℕ). o.0) (some_is _ _ (sym p.0 ∙ (sym (ap (λ m. m.0.lock) x.3) ∙ (sym (ap (λ m. m.0.lock) y.2) ∙ e)))))))
          (sym (ap (λ m. m.0.seen) y.2 ∙ ap (carried_history g.V.Historied.entries now.0.seen) held)),
    )

pub returns-clause-pass : goal.returns-clause-pass
returns-clause-pass g c = search rules

pub returns-clause-own : goal.returns-clause-own
returns-clause-own g c new is =
    ap (own_of g.V.Historied.by) (returns-clause-pass g c) ∙ own_gains g.V.Historied.by c.args.pass.now.number c.args.pass.now.seen (g.V.Historied.entries c.args.value) new c.requires.history is
