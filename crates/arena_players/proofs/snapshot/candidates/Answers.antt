use Rattle.std.proofs.Common.{◌≡◌, ◌∙◌, length}
use Rattle.std.proofs.lemmas.Result.{IfOk-weaker}
use Rattle.ranking.specs.Rows.{rows}
use Rattle.arena_history.specs.Endings.{finished}
use Rattle.arena_history.specs.History.{History}
use Rattle.arena_history.specs.Since.{places}
use Rattle.arena_history.specs.Snapshots as snapshot
use Rattle.arena_history.specs.Table.{entered}
use Rattle.arena_players.specs.Accounts as accounts
use Rattle.arena_players.specs.Candidates.{candidates_by}
use Rattle.arena_players.specs.Facts as facts
use Rattle.arena_players.proofs.Walk.{candidates-kept}
use Rattle.arena_players.proofs.snapshot.candidates.Goals as goal

pub returns : goal.returns
returns c =
    let s = c.args.setup.now in
    let k = c.args.scores.now in
    let f = c.args.pairings.now in
    let seats = c.args.seats.now in
    IfOk-weaker c.walk.result (λ v. v.items ≡ candidates_by s f.facts seats (rows k.lines))
    (λ v. (h : History) → accounts.StandsFor k s (finished s h) (entered h) → facts.StandsFor f (length s.players) h.starts h.lefts → seats ≡ places s h → v.items ≡ snapshot.candidates s h)
    (λ v is h scores pairings at. is ∙ candidates-kept c.places_with_one_more.ensures.all c.rows_are_the_lines.ensures.players s h k f seats c.keeps.ensures scores pairings at)
    c.walk.ensures
