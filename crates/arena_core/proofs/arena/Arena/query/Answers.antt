use Rattle.std.proofs.Common.{rules, ◌≡◌, ℕ, sym, subst, Some}
use Rattle.arena_core.specs.Held.{past}
use Rattle.std.proofs.lemmas.Result.{IfOk-weaker}
use Rattle.arena_history.specs.Stamps.{stamp_of}
use Rattle.arena_rules.specs.declared.query.Query.TheVariants.{Standing, Teams, Journal}
use Rattle.arena_rules.specs.Answers.{answer_to}
use Rattle.arena_core.specs.Answers.{Tells, TellsAt}
use Rattle.arena_core.proofs.Replied.{told_tells}
use Rattle.arena_core.proofs.arena.Arena.query.Goals as goal

pub returns-in-Standing-clause-answer : goal.returns-in-Standing-clause-answer
returns-in-Standing-clause-answer c =
    let now = c.args.self.now in
    let t = stamp_of now.entries c.args.now in
    let found = IfOk-weaker c.standing.result (λ a. (u : ℕ) → answer_to now.setup (past now) u (Standing c.in-Standing.k) ≡ Some a) (λ a. answer_to now.setup (past now) t (Standing c.in-Standing.k) ≡ Some a) (λ a is. is t) c.standing.ensures in
    subst (λ q. Tells now.setup now.entries c.args.now q c.told.result) (sym c.in-Standing.is) (subst (TellsAt now.setup (past now) t (Standing c.in-Standing.k)) (sym c.told.ensures) (told_tells now.setup (past now) t (Standing c.in-Standing.k) c.standing.result found (search rules)))

pub returns-in-Teams-clause-answer : goal.returns-in-Teams-clause-answer
returns-in-Teams-clause-answer c =
    let now = c.args.self.now in
    let t = stamp_of now.entries c.args.now in
    let found = IfOk-weaker c.team_table.result (λ a. (u : ℕ) → answer_to now.setup (past now) u Teams ≡ Some a) (λ a. answer_to now.setup (past now) t Teams ≡ Some a) (λ a is. is t) c.team_table.ensures in
    subst (λ q. Tells now.setup now.entries c.args.now q c.told-in-Teams.result) (sym c.in-Teams.is) (subst (TellsAt now.setup (past now) t Teams) (sym c.told-in-Teams.ensures) (told_tells now.setup (past now) t Teams c.team_table.result found (search rules)))

pub returns-in-Journal-clause-answer : goal.returns-in-Journal-clause-answer
returns-in-Journal-clause-answer c =
    let now = c.args.self.now in
    let t = stamp_of now.entries c.args.now in
    let found = IfOk-weaker c.journal.result (λ a. (u : ℕ) → answer_to now.setup (past now) u (Journal c.in-Journal.k) ≡ Some a) (λ a. answer_to now.setup (past now) t (Journal c.in-Journal.k) ≡ Some a) (λ a is. is t) c.journal.ensures in
    subst (λ q. Tells now.setup now.entries c.args.now q c.told-in-Journal.result) (sym c.in-Journal.is) (subst (TellsAt now.setup (past now) t (Journal c.in-Journal.k)) (sym c.told-in-Journal.ensures) (told_tells now.setup (past now) t (Journal c.in-Journal.k) c.journal.result found (search rules)))
