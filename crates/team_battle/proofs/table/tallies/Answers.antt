use Rattle.std.proofs.Common.{◌≡◌, Some, None, false, take, get_or, length, subst, sym, ap, ◌∙◌, arith}
use Rattle.std.specs.Prelude.{pos, slice_set}
use Rattle.std.proofs.lemmas.List.{take_more}
use Rattle.std.proofs.lemmas.List.Elements.{All-take}
use Rattle.ranking.specs.declared.row.Row.{Row}
use Rattle.team_battle.specs.declared.tally.Tally.{Tally}
use Rattle.team_battle.specs.Compare.{IsInRange, counted}
use Rattle.team_battle.specs.Teams.{IsRowOf, team_of, tally, tallies}
use Rattle.team_battle.proofs.Tallies.{length-tallies, tally-read, tally_in_range, tallies-none, tallies-some}
use Rattle.team_battle.proofs.table.tallies.Goals as goal
use Rattle.team_battle.proofs.table.tallies.Goals.{in-Some, in_default}

abbrev no_row : Row
no_row = record { rank = 0; player = 0; points = 0; performance = pos 0; games = 0; fire = false }

pub index-requires : goal.index-requires
index-requires c = omega (arith, c.in-Some.ensures.below, c.counting.teams.ok.0, ap length c.counting.invariant, length-tallies c.args.setup.now (take c.counting.row-index c.args.rows.now))

pub counted-tally-requires-clause-tally : goal.counted-tally-requires-clause-tally
counted-tally-requires-clause-tally c =
    let s = c.args.setup.now in
    let rows = take c.counting.row-index c.args.rows.now in
    subst (λ (t : Tally). IsInRange t) (sym (tally-read s rows c.counting.teams.items c.in-Some.team c.index.result.now c.counting.invariant c.in-Some.ensures.below c.index.ensures)) (tally_in_range s rows c.in-Some.team (All-take (IsRowOf (length s.players)) c.counting.row-index c.args.rows.now c.requires.rows))

pub index_mut-requires : goal.index_mut-requires
index_mut-requires c = omega (arith, c.in-Some.ensures.below, c.counting.teams.ok.0, ap length c.counting.invariant, length-tallies c.args.setup.now (take c.counting.row-index c.args.rows.now))

pub counting-preserved : goal.counting-preserved
counting-preserved c =
    let s = c.args.setup.now in
    let rows = take c.counting.row-index c.args.rows.now in
    let row : Row = get_or c.args.rows.now c.counting.row-index no_row in
    let more = ap (tallies s) (sym (take_more c.args.rows.now c.counting.row-index no_row c.counting-test.true)) in
    elim c.match-team_of.branch [
      | in-Some w ↦
          let read : w.index.result.now ≡ tally s rows w.in-Some.team = tally-read s rows c.counting.teams.items w.in-Some.team w.index.result.now c.counting.invariant w.in-Some.ensures.below w.index.ensures in
          let some : team_of s row.player ≡ Some w.in-Some.team = sym c.team_of.ensures.team ∙ w.in-Some.is in
          let new : w.counted-tally.result ≡ counted s.leaders row (tally s rows w.in-Some.team) = w.counted-tally.ensures ∙ ap (counted s.leaders row) read in
          ap (λ v. v.items) w.teams-is ∙ (ap (λ l. slice_set l w.in-Some.team w.counted-tally.result) c.counting.invariant ∙ (tallies-some s rows row w.in-Some.team w.counted-tally.result some w.in-Some.ensures.below new ∙ more))
      | in_default w ↦
          let none : team_of s row.player ≡ None = sym c.team_of.ensures.team ∙ w.in_default.is in
          ap (λ v. v.items) w.teams-is ∙ (c.counting.invariant ∙ (tallies-none s rows row none ∙ more))
    ]
