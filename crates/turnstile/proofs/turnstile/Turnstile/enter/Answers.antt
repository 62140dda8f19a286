use Rattle.std.proofs.Common.{rules, ◌≡◌, ◌∙◌, sym, ap, subst, arith, ◌%◌, ◌^◌, ◌∷◌, List, Some}
use Rattle.atomic_table.specs.Table.{rest}
use Rattle.turnstile.specs.declared.view.Role.TheVariants.{Holder}
use Rattle.turnstile.specs.declared.view.Stage.{Stage}
use Rattle.turnstile.specs.declared.view.Stage.TheVariants.{Waiting}
use Rattle.turnstile.specs.Histories.{OthersAdded}
use Rattle.turnstile.specs.Passes.{own_of}
use Rattle.turnstile.specs.Views.{IsHolder, ticket_of}
use Rattle.turnstile.proofs.Hands.{outside, carried_is}
use Rattle.turnstile.proofs.Looking.{looks}
use Rattle.turnstile.proofs.Own.{own_others}
use Rattle.turnstile.proofs.Taking.{takes_ticket}
use Rattle.turnstile.proofs.turnstile.Turnstile.enter.Goals as goal

pub fetch_add-ticket-requires : goal.fetch_add-ticket-requires
fetch_add-ticket-requires g c =
    let p = c.pass.invariant in
    let out = outside c.pass.inside.seat.me.0.stage c.pass.inside.seat.me.1 p.3 (ap (λ k. k.has_turn) c.pass.view_is ∙ c.requires.outside) in
    let words = c.self.invariant.0 in (
      ap (λ k. k.of.id) c.pass.view_is ∙ (ap (λ k. k.id) c.requires.of ∙ sym (ap (λ k. k.id) c.self.view_is)),
      omega arith,
      takes_ticket g.V.Historied.entries g.V.Historied.by g.V.Historied.fixed _ _ _ c.pass.inside.seat.me.0 c.pass.inside.seat.me.1 _ out.0 (subst IsHolder (sym p.1) tt),
    )

pub load-serving-requires : goal.load-serving-requires
load-serving-requires g c =
    let t = c.fetch_add-ticket.ensures in
    let words = c.self.invariant.0 in
    let kept = c.loop.invariant in (
      kept.0 ∙ (t.0 ∙ (ap (λ k. k.of.id) c.pass.view_is ∙ (ap (λ k. k.id) c.requires.of ∙ sym (ap (λ k. k.id) c.self.view_is)))),
      omega arith,
      looks g.V.Historied.entries g.V.Historied.by g.V.Historied.fixed _ _ _ t.2.0 c.loop.pass-inside.seat.me.0 c.loop.pass-inside.seat.me.1 _ (ap (λ m. m.0.stage) (kept.1 ∙ t.2.2)),
    )

pub exchange-requires : goal.exchange-requires
exchange-requires g c =
    let t = c.fetch_add-ticket.ensures in
    let kept = c.loop.invariant in
    let is : c.loop.pass-inside.seat.me.0.stage ≡ Waiting t.2.0 = ap (λ m. m.0.stage) (kept.1 ∙ t.2.2) in
    let got = c.load-serving.ensures.2.0 (c.if-serving-ticket.true ∙ (t.2.1 ∙ ap (λ (s : Stage). ticket_of s % 2 ^ 64) (sym is))) in (
      c.load-serving.ensures.0 ∙ (kept.0 ∙ (t.0 ∙ (ap (λ k. k.of.id) c.pass.view_is ∙ (ap (λ k. k.id) c.requires.of ∙ sym (ap (λ k. k.id) c.self.view_is))))),
      (Some got.0, ap (λ m. m.1) got.1 ∙ ap (λ l. (0, Some got.0) ∷ rest l) (sym (ap (λ m. m.1) got.1))),
    )

pub loop-preserved : goal.loop-preserved
loop-preserved g c =
    let t = c.fetch_add-ticket.ensures in
    let kept = c.loop.invariant in
    let is : c.loop.pass-inside.seat.me.0.stage ≡ Waiting t.2.0 = ap (λ m. m.0.stage) (kept.1 ∙ t.2.2) in
    let same = c.load-serving.ensures.2.1 (λ e. c.if-serving-ticket.false (e ∙ sym (t.2.1 ∙ ap (λ (s : Stage). ticket_of s % 2 ^ 64) (sym is)))) in
    (c.load-serving.ensures.0 ∙ kept.0, same ∙ kept.1, kept.2, kept.3)

pub returns-then-serving-ticket-clause-history : goal.returns-then-serving-ticket-clause-history
returns-then-serving-ticket-clause-history g c =
    let t = c.fetch_add-ticket.ensures in
    let kept = c.loop.invariant in
    let is : c.loop.pass-inside.seat.me.0.stage ≡ Waiting t.2.0 = ap (λ m. m.0.stage) (kept.1 ∙ t.2.2) in
    let got = c.load-serving.ensures.2.0 (c.if-serving-ticket.true ∙ (t.2.1 ∙ ap (λ (s : Stage). ticket_of s % 2 ^ 64) (sym is))) in
    let same = carried_is got.0 c.unwrap-value.result c.exchange.result c.load-serving.new.seat.me.1 _ _ (ap (λ m. m.1) got.1) c.exchange.ensures.2 c.unwrap-value.ensures in
    let role = ap (λ m. m.0.role) (kept.1 ∙ t.2.2) ∙ (c.pass.invariant.1 ∙ ap (λ k. Holder k.number) c.pass.view_is) in
    let seen = ap (λ m. m.0.seen) (kept.1 ∙ t.2.2) ∙ ap (λ k. k.seen) c.pass.view_is in
    subst (λ (z : List g.row.V-Entry.Denot). OthersAdded g.V.Historied.by c.args.pass.now.number z (g.V.Historied.entries c.unwrap-value.result)) seen
    (subst (λ (y : g.row.V.Denot). OthersAdded g.V.Historied.by c.args.pass.now.number c.loop.pass-inside.seat.me.0.seen (g.V.Historied.entries y)) same (got.2.history c.args.pass.now.number role))

pub returns-then-serving-ticket-clause-pass : goal.returns-then-serving-ticket-clause-pass
returns-then-serving-ticket-clause-pass g c = search rules

pub returns-then-serving-ticket-clause-own : goal.returns-then-serving-ticket-clause-own
returns-then-serving-ticket-clause-own g c =
    ap (own_of g.V.Historied.by) (returns-then-serving-ticket-clause-pass g c) ∙ own_others g.V.Historied.by c.args.pass.now.number c.args.pass.now.seen (g.V.Historied.entries c.unwrap-value.result) (returns-then-serving-ticket-clause-history g c)
