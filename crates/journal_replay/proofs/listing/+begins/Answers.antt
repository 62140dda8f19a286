use Rattle.std.proofs.Common.{◌≡◌, ◌≢◌, ◌<◌, ◌∙◌, Some, None, arith, false, length, refl, sym, true}
use Rattle.std.specs.List.{slice_get}
use Rattle.std.proofs.lemmas.Bool.{eqb-true, eq-eqb}
use Rattle.std.proofs.lemmas.Option.{slice_get_within}
use Rattle.arena_core.specs.Held.{past}
use Rattle.journal_replay.proofs.Listed.{at_end, other_game, same_game, too_few}
use Rattle.journal_replay.proofs.listing.+begins.Goals as goal

pub returns-in_default : goal.returns-in_default
returns-in_default t c =
    let ys = (past c.args.arena.now).starts in
    let none : slice_get ys c.args.from ≡ None = sym c.start.ensures ∙ c.in_default.is in
    c.is_empty.ensures ∙ at_end c.args.listed.now ys c.args.from none

pub returns-then-is_empty : goal.returns-then-is_empty
returns-then-is_empty t c =
    let ys = (past c.args.arena.now).starts in
    let found : slice_get ys c.args.from ≡ Some c.in-Some.begun = sym c.start.ensures ∙ c.in-Some.is in
    too_few c.args.listed.now ys c.args.from c.in-Some.begun found (eqb-true (length c.args.listed.now) 0 (sym c.is_empty-2.ensures ∙ c.if-is_empty.true))

pub returns-then-not-same_start : goal.returns-then-not-same_start
returns-then-not-same_start t c =
    let ys = (past c.args.arena.now).starts in
    let found : slice_get ys c.args.from ≡ Some c.in-Some.begun = sym c.start.ensures ∙ c.in-Some.is in
    let some : length c.args.listed.now ≢ 0 = (λ none. let never : true ≡ false = sym (eq-eqb (length c.args.listed.now) 0 none) ∙ (sym c.is_empty-2.ensures ∙ c.if-is_empty.false) in cc) in
    other_game c.args.listed.now ys c.args.from _ c.in-Some.begun found some (sym c.same_start.ensures ∙ c.if-not-same_start.true)

pub overflow_add-from : goal.overflow_add-from
overflow_add-from t c =
    let ys = (past c.args.arena.now).starts in
    let found : slice_get ys c.args.from ≡ Some c.in-Some.begun = sym c.start.ensures ∙ c.in-Some.is in
    let within : c.args.from < length ys = slice_get_within ys c.args.from c.in-Some.begun found in
    let below : c.args.from < 200000 = omega (arith, within, c.requires) in
    omega arith

pub returns : goal.returns
returns t c =
    let ys = (past c.args.arena.now).starts in
    let found : slice_get ys c.args.from ≡ Some c.in-Some.begun = sym c.start.ensures ∙ c.in-Some.is in
    let some : length c.args.listed.now ≢ 0 = (λ none. let never : true ≡ false = sym (eq-eqb (length c.args.listed.now) 0 none) ∙ (sym c.is_empty-2.ensures ∙ c.if-is_empty.false) in cc) in
    same_game c.args.listed.now ys _ c.args.from _ c.in-Some.begun c.begins.result found some (sym c.same_start.ensures ∙ c.if-not-same_start.false) refl c.begins.ensures
