use Rattle.std.proofs.Common.{◌≡◌, ◌∙◌, sym, ap, refl, subst, arith, List, ◌∷◌, ◌++◌, length, false, Some}
use Rattle.std.specs.Prelude.{All, IsSome}
use mathlib.Core.Option.{some-injective}
use Rattle.turnstile.specs.Passes.{Lock, PassState}
use Rattle.turnstile.proofs.Closing.{Ends, ends, ends_with}
use Rattle.turnstile.proofs.Counts.{all_middle, none_left}
use Rattle.turnstile.proofs.Hands.{outside}
use Rattle.turnstile.proofs.Making.{joins}
use Rattle.turnstile.proofs.Own.{begins, own_others}
use Rattle.turnstile.proofs.turnstile.Turnstile.close.Given.{Over}
use Rattle.turnstile.proofs.turnstile.Turnstile.close.Goals as goal

pub join_seat-requires : goal.join_seat-requires
join_seat-requires g c =
    let kept = c.loop-pass.invariant in
    let words = c.self.invariant.0 in
    let all = kept.2 in
    let p = c.pass.invariant in
    let view = c.pass.view_is in
    let given : c.loop-pass.yielded ++ c.in-Some.pass ∷ c.next.new.self.rest.items ≡ c.args.passes.items = ap (λ l. c.loop-pass.yielded ++ l) (sym c.in-Some.ensures.steps.0) ∙ all in
    let mine = λ (P : PassState g.row.V-Entry.Denot g.row.V-Fixed.Denot → Type 0) (h : All P c.args.passes.items).
    all_middle P c.loop-pass.yielded c.in-Some.pass c.next.new.self.rest.items (subst (λ (l : List (PassState g.row.V-Entry.Denot g.row.V-Fixed.Denot)). All P l) (sym given) h) in
    let of = mine (λ k. k.of ≡ c.args.self) c.requires.of in
    let out = outside c.pass.inside.seat.me.0.stage c.pass.inside.seat.me.1 p.3 (ap (λ k. k.has_turn) view ∙ mine (λ k. k.has_turn ≡ false) c.requires.outside) in (
      kept.3,
      ap (λ k. k.of.id) view ∙ (ap (λ k. k.id) of ∙ sym (ap (λ k. k.id) c.self.view_is)),
      out.1,
      omega arith,
      joins g.V.Historied.entries g.V.Historied.by g.V.Historied.fixed _ _ c.loop-pass.maker.id _ _ c.loop-pass.maker.me.0 c.pass.inside.seat.id _ c.pass.inside.seat.me.0 (ap (λ m. m.0.role) kept.4) (ap (λ m. m.0.stage) kept.4) p.1 out.0,
    )

pub unwrap-value-requires : goal.unwrap-value-requires
unwrap-value-requires g c =
    let kept = c.loop-pass.invariant in
    let none : length c.loop-pass.pass-iterator.rest.items ≡ 0 = sym c.loop-pass.pass-iterator.rest.ok.0 ∙ c.in-None.ensures.steps.0 in
    let all = none_left c.loop-pass.yielded c.loop-pass.pass-iterator.rest.items c.args.passes.items kept.2 none in
    let end = ends g.V.Historied.entries g.V.Historied.by g.V.Historied.fixed _ _ c.loop-pass.maker.id c.loop-pass.maker.me.0 c.loop-pass.yielded c.args.passes.items _ _ (ap (λ m. m.0) kept.4) all (c.requires.all ∙ sym (ap (λ k. k.passes) c.self.view_is)) c.close_with-closed.ensures.values.2 in
    let is : c.take.result ≡ Some end.0 = some-injective _ _ (sym c.take.ensures.value ∙ end.1) in
    subst IsSome (sym is) refl

-- the value that is handed back
handed_back : (g : Over) (c : goal.After-free g) → Ends g.V.Historied.entries g.V.Historied.by g.V.Historied.fixed c.args.self.fixed c.args.self.passes c.args.passes.items c.unwrap-value.result
handed_back g c =
    let kept = c.loop-pass.invariant in
    let none : length c.loop-pass.pass-iterator.rest.items ≡ 0 = sym c.loop-pass.pass-iterator.rest.ok.0 ∙ c.in-None.ensures.steps.0 in
    let all = none_left c.loop-pass.yielded c.loop-pass.pass-iterator.rest.items c.args.passes.items kept.2 none in
    subst (λ (l : Lock g.row.V-Fixed.Denot). Ends g.V.Historied.entries g.V.Historied.by g.V.Historied.fixed l.fixed l.passes c.args.passes.items c.unwrap-value.result) c.self.view_is
    (ends_with g.V.Historied.entries g.V.Historied.by g.V.Historied.fixed _ _ c.loop-pass.maker.id c.loop-pass.maker.me.0 c.loop-pass.yielded c.args.passes.items _ _ c.take.result c.unwrap-value.result (ap (λ m. m.0) kept.4) all
    (c.requires.all ∙ sym (ap (λ k. k.passes) c.self.view_is)) c.close_with-closed.ensures.values.2 c.take.ensures.value c.unwrap-value.ensures)

pub returns-clause-begins : goal.returns-clause-begins
returns-clause-begins g c k d lt = begins g.V.Historied.by _ _ _ ((handed_back g c).seen k d lt)

pub returns-clause-own : goal.returns-clause-own
returns-clause-own g c k d lt = own_others g.V.Historied.by _ _ _ ((handed_back g c).seen k d lt)

pub returns-clause-numbers : goal.returns-clause-numbers
returns-clause-numbers g c = (handed_back g c).numbers

pub returns-clause-fixed : goal.returns-clause-fixed
returns-clause-fixed g c = (handed_back g c).fixed_is

pub returns-clause-every : goal.returns-clause-every
returns-clause-every g c = (handed_back g c).every
