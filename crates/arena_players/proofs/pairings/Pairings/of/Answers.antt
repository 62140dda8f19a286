use Rattle.std.proofs.Common.{◌≡◌, Some, ap, sym, subst, ◌∙◌}
use Rattle.std.specs.Prelude.{slice_get, unwrap_or}
use Rattle.std.proofs.lemmas.Option.{slice_get_past}
use Rattle.arena_players.specs.Facts.{StandsFor, KeptPairings, no_facts}
use Rattle.arena_players.proofs.Begins.{facts-same}
use Rattle.arena_players.proofs.Lists.{get_read}
use Rattle.arena_players.proofs.pairings.Pairings.of.Goals as goal

pub returns-in-Some-clause-stands : goal.returns-in-Some-clause-stands
returns-in-Some-clause-stands c = λ n h lt stands.
    let kept = subst (λ k. StandsFor k n h.starts h.lefts) (sym c.self.view_is) stands in
    let found = c.in-Some.ensures.lookup in
    let read : slice_get c.self.inside.facts.items c.args.p ≡ Some c.in-Some.facts.now =
    ap (λ l. slice_get l c.args.p) (sym c.deref.ensures.value) ∙ get_read c.deref.result.now c.args.p c.in-Some.facts.now found.3.0 found.1 in
    kept.facts c.args.p c.in-Some.facts.now read ∙ facts-same h c.args.p

pub returns-in-None-clause-kept : goal.returns-in-None-clause-kept
returns-in-None-clause-kept c =
    let none = slice_get_past c.deref.result.now c.args.p c.in-None.ensures.lookup.3 in
    c.none.ensures
    ∙ (sym (ap (λ o. unwrap_or o no_facts) none)
    ∙ (ap (λ l. unwrap_or (slice_get l c.args.p) no_facts) c.deref.ensures.value ∙ ap (λ (k : KeptPairings). unwrap_or (slice_get k.facts c.args.p) no_facts) c.self.view_is))
