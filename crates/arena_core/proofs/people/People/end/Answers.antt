use Rattle.std.proofs.Common.{◌≡◌, ◌∙◌, ◌++◌, ◌∷◌, [], sym, ap, subst, map, List, ℕ, Bool}
use Rattle.std.specs.Prelude.{vec_capacity}
use Rattle.std.proofs.lemmas.List.{map-append}
use Rattle.game_room.specs.declared.header.Header.{Header}
use Rattle.game_room.specs.declared.outcome.Outcome.{Outcome}
use Rattle.seats.specs.Places.{Place}
use Rattle.arena_history.specs.Changes.{both_freed}
use Rattle.arena_history.specs.Endings.{EndedGame}
use Rattle.arena_core.specs.People.{KeptPeople, StandsFor, ended_as, with_end}
use Rattle.arena_core.proofs.people.People.end.Goals as goal

-- who is freed is told by the header and the outcome
freed_as : (n : ℕ) (g : EndedGame) (header : Header) (outcome : Outcome) (ps : List Place) → g.game.header ≡ header → g.outcome ≡ outcome → both_freed n (ended_as header outcome) ps ≡ both_freed n g ps
freed_as n g header outcome ps h o = λ i. both_freed n (ended_as (sym h i) (sym o i)) ps

pub returns-then-counts-clause-stands : goal.returns-then-counts-clause-stands
returns-then-counts-clause-stands c =
    λ s x g header outcome stands.
    let was : StandsFor (record { places = c.self.inside.seats; scores = c.self.inside.scores; pairings = c.self.inside.pairings; counted = c.self.inside.counted.items; room = vec_capacity c.self.inside.counted }) s x = subst (λ (k : KeptPeople). StandsFor k s x) (sym c.self.view_is) stands in
    let places : c.free_players.new.seats ≡ both_freed c.args.n g x.places = c.free_players.ensures ∙ (freed_as c.args.n g c.args.header.now c.args.outcome.now c.self.inside.seats header outcome ∙ ap (both_freed c.args.n g) was.places) in
    let id : c.args.header.now.id ≡ g.game.header.id = ap (λ (h : Header). h.id) (sym header) in
    let counted : c.push_reserved.new.self.items ≡ map (λ (y : EndedGame). y.game.header.id) (x.games ++ g ∷ []) =
    c.push_reserved.ensures.items ∙ ((λ i. was.counted i ++ id i ∷ []) ∙ sym (map-append (λ (y : EndedGame). y.game.header.id) x.games (g ∷ []))) in
    subst (λ (b : Bool). StandsFor (record { places = c.free_players.new.seats; scores = c.count.new.self; pairings = c.self.inside.pairings; counted = c.push_reserved.new.self.items; room = vec_capacity c.push_reserved.new.self }) s (with_end c.args.n b x g)) (sym c.if-counts.true) (record {
      places = places;
      scores = c.count.ensures.stands s x.games x.players g header outcome was.scores;
      pairings = was.pairings;
      counted = counted;
    })
