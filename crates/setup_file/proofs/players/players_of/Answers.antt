use Rattle.std.proofs.Common.{◌≡◌, ◌+◌, ◌∙◌, ◌++◌, ◌∷◌, [], ap, sym, length-append, Ok, List, ℕ}
use Rattle.entries.specs.declared.setup.Player.{Player}
use Rattle.serde_json.specs.View.{view}
use Rattle.setup_file.specs.Reading.{names_of, player_in}
use Rattle.setup_file.proofs.Steps.{player_fails, player_goes_on, players_read, names_more, gives_fault}
use Rattle.setup_file.proofs.players.players_of.Goals as goal

pub returns-in_err-entrant : goal.returns-in_err-entrant
returns-in_err-entrant c =
    let inv = c.loop-object.invariant in
    let is = ap (λ (names : List (List ℕ)). player_in c.args.teams.now names c.loop-object.keys (view c.object-item.result)) (sym inv.names) ∙ c.in_err-entrant.ensures.is in
    gives_fault _ c.from_residual-in_err-entrant.result c.in_err-entrant.field-0.0 _ c.from_residual-in_err-entrant.ensures.1
    (player_fails c.args.teams.now c.args.objects.now c.loop-object.players.items c.loop-object.keys c.loop-object.object-index c.object-item.result _ inv.goes_on c.loop-object-test.true c.object-item.is c.in_err-entrant.field-0.0 is)

pub loop-object-preserved : goal.loop-object-preserved
loop-object-preserved c =
    let inv = c.loop-object.invariant in
    let entrant = c.in_ok-entrant.entrant in
    let items = c.loop-object.players.items in
    let player : Player = record { name = entrant.name.now; rating = entrant.rating; team = entrant.team } in
    let named : c.of.result ≡ entrant.name.now = c.of.ensures ∙ c.in_ok-from_slice.ensures.items in
    let players : c.push.new.self.items ≡ items ++ player ∷ [] = c.in_ok-push.ensures.items ∙ ap (λ (name : List ℕ). items ++ record { name = name; rating = entrant.rating; team = entrant.team } ∷ []) named in
    let names : c.add.new.self ≡ c.loop-object.names ++ entrant.name.now ∷ [] = c.in_ok-add.ensures.added in
    let keys : c.add-in-loop-object.new.self ≡ c.loop-object.keys ++ entrant.key.now ∷ [] = c.in_ok-add-2.ensures.added in
    let is : player_in c.args.teams.now (names_of items) c.loop-object.keys (view c.object-item.result) ≡ Ok (player, entrant.key.now) = ap (λ (names : List (List ℕ)). player_in c.args.teams.now names c.loop-object.keys (view c.object-item.result)) (sym inv.names) ∙ c.in_ok-entrant.ensures.is in
    record {
      goes_on = rw (players, keys) (player_goes_on c.args.teams.now c.args.objects.now items c.loop-object.keys c.loop-object.object-index c.object-item.result _ inv.goes_on c.loop-object-test.true c.object-item.is (player, entrant.key.now) is);
      names = names ∙ ap (λ (names : List (List ℕ)). names ++ entrant.name.now ∷ []) inv.names ∙ sym (names_more items player) ∙ ap names_of (sym players);
      named = rw names (length-append c.loop-object.names _ ∙ ap (λ (n : ℕ). n + 1) inv.named);
      keyed = rw keys (length-append c.loop-object.keys _ ∙ ap (λ (n : ℕ). n + 1) inv.keyed);
    }

pub returns : goal.returns
returns c = players_read c.args.teams.now c.args.objects.now c.loop-object.players.items c.loop-object.keys c.loop-object.object-index _ c.loop-object.invariant.goes_on c.loop-object-test.false
