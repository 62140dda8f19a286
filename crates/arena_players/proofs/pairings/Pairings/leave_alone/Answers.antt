use Rattle.std.proofs.Common.{◌≡◌, ◌<◌, ◌+◌, ◌++◌, ◌∷◌, [], length, take, drop, ap, sym, subst, ◌∙◌, arith}
use Rattle.std.specs.List.{All}
use Rattle.std.proofs.lemmas.List.{take_at, length_push}
use Rattle.arena_players.specs.declared.facts.PairingFacts.{PairingFacts}
use Rattle.arena_players.specs.Facts.{StandsFor, KeptPairings, AreLeft, IsWithin, facts_of, history_of}
use Rattle.arena_players.proofs.Leaves.{all_left, each_left}
use Rattle.arena_players.proofs.Lists.{Each}
use Rattle.arena_players.proofs.pairings.Pairings.leave_alone.Goals as goal

pub leave-requires-clause-players : goal.leave-requires-clause-players
leave-requires-clause-players c = λ k d lt.
    let h = c.requires.players k d lt in
    omega (arith, h, ap length c.as_mut_slice.ensures.value, ap (λ (k : KeptPairings). length k.facts) c.self.view_is)

pub leave-requires-clause-few : goal.leave-requires-clause-few
leave-requires-clause-few c =
    let few = c.requires.few in
    let waves = ap (λ (k : KeptPairings). k.waves) c.self.view_is in
    subst (λ l. All (λ (f : PairingFacts). f.alone < 8000000) l) (sym c.as_mut_slice.ensures.value)
    (λ k d lt. let h = (c.self.invariant.within k d lt).alone in omega (arith, h, few, waves))

pub invariant_of-self : goal.invariant_of-self
invariant_of-self c =
    let few = c.requires.few in
    let waves = ap (λ (k : KeptPairings). k.waves) c.self.view_is in
    let new = c.leave.new.facts in
    let are = subst (λ l. AreLeft c.args.players.now l new) c.as_mut_slice.ensures.value c.leave.ensures in
    let cut : take c.self.inside.facts.len (new ++ drop (length new) c.self.inside.facts.items) ≡ new =
    take_at new (drop (length new) c.self.inside.facts.items) c.self.inside.facts.len (c.leave.auto.facts ∙ c.as_mut_slice.ensures.len) in
    record {
      few_games = c.self.invariant.few_games;
      few_waves = omega (arith, few, waves);
      within = subst (λ l. All (IsWithin c.self.inside.begun (c.self.inside.waves + 1)) l) (sym cut) (all_left c.args.players.now c.self.inside.facts.items new c.self.inside.begun c.self.inside.waves are c.self.invariant.within);
    }

pub returns-clause-stands : goal.returns-clause-stands
returns-clause-stands c = λ n starts lefts x is late stands.
    let kept = subst (λ k. StandsFor k n starts lefts) (sym c.self.view_is) stands in
    let new = c.leave.new.facts in
    let are = subst (λ l. AreLeft c.args.players.now l new) c.as_mut_slice.ensures.value c.leave.ensures in
    let cut : take c.self.inside.facts.len (new ++ drop (length new) c.self.inside.facts.items) ≡ new =
    take_at new (drop (length new) c.self.inside.facts.items) c.self.inside.facts.len (c.leave.auto.facts ∙ c.as_mut_slice.ensures.len) in
    let waves = kept.waves in
    record {
      begun = kept.begun;
      waves = (let more = length_push lefts x in omega (arith, waves, more));
      size = ap length cut ∙ (are.size ∙ kept.size);
      facts = subst (λ l. Each (λ p f. f ≡ facts_of (history_of starts (lefts ++ x ∷ [])) p) l) (sym cut) (each_left starts lefts x c.args.players.now c.self.inside.facts.items new is are late kept.facts);
    }
