use Rattle.std.proofs.Common.{◌<◌, length, set, ap, sym, subst, ◌∙◌, arith}
use Rattle.std.proofs.lemmas.List.{length-set, length_push}
use Rattle.arena_players.specs.Facts.{StandsFor, KeptPairings}
use Rattle.arena_players.proofs.Lists.{get_read}
use Rattle.arena_players.proofs.Written.{each_begun, within_begun}
use Rattle.arena_players.proofs.pairings.Pairings.begin.Goals as goal

pub invariant_of-self : goal.invariant_of-self
invariant_of-self c =
    let xs = c.self.inside.facts.items in
    let ys = set xs c.args.white c.with_white-facts.result in
    let size = ap (λ (k : KeptPairings). length k.facts) c.self.view_is in
    let begun = ap (λ (k : KeptPairings). k.begun) c.self.view_is in
    let few = c.requires.few in
    let white : c.args.white < length xs = (let h = c.requires.white in omega (arith, h, size)) in
    let black : c.args.black < length ys = (let h = c.requires.black in omega (arith, h, size, length-set xs c.args.white c.with_white-facts.result)) in
    record {
      few_games = omega (arith, few, begun);
      few_waves = c.self.invariant.few_waves;
      within = within_begun c.self.inside.begun c.self.inside.waves c.args.white c.args.black xs c.index.result.now c.with_white-facts.result c.index-2.result.now c.with_black-facts.result c.self.invariant.within
          (get_read xs c.args.white c.index.result.now white c.index.ensures) c.with_white-facts.ensures
          (get_read ys c.args.black c.index-2.result.now black c.index-2.ensures) c.with_black-facts.ensures;
    }

pub returns-clause-stands : goal.returns-clause-stands
returns-clause-stands c = λ n starts lefts x is_white is_black late stands.
    let xs = c.self.inside.facts.items in
    let ys = set xs c.args.white c.with_white-facts.result in
    let kept = subst (λ k. StandsFor k n starts lefts) (sym c.self.view_is) stands in
    let size = ap (λ (k : KeptPairings). length k.facts) c.self.view_is in
    let white : c.args.white < length xs = (let h = c.requires.white in omega (arith, h, size)) in
    let black : c.args.black < length ys = (let h = c.requires.black in omega (arith, h, size, length-set xs c.args.white c.with_white-facts.result)) in
    let begun = kept.begun in
    record {
      begun = (let more = length_push starts x in omega (arith, begun, more));
      waves = kept.waves;
      size = length-set ys c.args.black c.with_black-facts.result ∙ (length-set xs c.args.white c.with_white-facts.result ∙ kept.size);
      facts = each_begun starts lefts x xs c.args.white c.args.black c.index.result.now c.with_white-facts.result c.index-2.result.now c.with_black-facts.result is_white is_black late kept.facts
          (get_read xs c.args.white c.index.result.now white c.index.ensures) c.with_white-facts.ensures
          (get_read ys c.args.black c.index-2.result.now black c.index-2.ensures) c.with_black-facts.ensures;
    }
