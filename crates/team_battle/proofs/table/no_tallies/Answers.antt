use Rattle.std.proofs.Common.{◌≡◌, [], ◌∷◌, ◌++◌, map, sym, ap, ◌∙◌, arith}
use Rattle.std.specs.List.{range_with_len}
use Rattle.std.proofs.lemmas.List.FromFn.{map-range_with_len_more}
use Rattle.team_battle.specs.declared.tally.Tally.{Tally}
use Rattle.team_battle.specs.Teams.{tally}
use Rattle.team_battle.proofs.Tallies.{tally-new}
use Rattle.team_battle.proofs.table.no_tallies.Goals as goal

pub starting-preserved : goal.starting-preserved
starting-preserved c =
    let s = c.args.setup.now in
    let new : c.new.result ≡ tally s [] c.starting.team = tally-new s c.new.result c.new.ensures.leaders c.new.ensures.points c.new.ensures.performance ∙ ap (tally s []) c.new.ensures.team in
    c.in_ok-push.ensures.items ∙ (ap (λ l. l ++ c.new.result ∷ []) c.starting.invariant ∙ (ap (λ (t : Tally). map (tally s []) (range_with_len 0 c.starting.team) ++ t ∷ []) new ∙ sym (map-range_with_len_more (tally s []) 0 c.starting.team c.starting.team (omega arith))))
