use Rattle.std.proofs.Common.{◌∙◌, ◌+◌, List, sym, ap, subst, length}
use Rattle.pair_cost.specs.declared.candidate.Candidate.{Candidate}
use Rattle.group_pairing.specs.declared.partners.Partners.{Partners}
use Rattle.group_pairing.specs.Groups.{IsGroup}
use Rattle.group_pairing.specs.Least.{least}
use Rattle.wave.specs.Answers.{HoldsAnswers}
use Rattle.wave.proofs.Cuts.{group_is}
use Rattle.wave.proofs.Solved.{answers_more}
use Rattle.wave.proofs.solving.in_turn.Goals as goal

pub solve-requires : goal.solve-requires
solve-requires g c =
    subst (λ (rows : List Candidate). IsGroup rows c.args.f.now) (sym c.group.ensures) (group_is c.args.rows.now c.args.f.now (c.args.first + c.loop-done.done) c.requires.rows c.requires.max)

pub loop-done-preserved : goal.loop-done-preserved
loop-done-preserved g c =
    subst (λ (l : List Partners). HoldsAnswers c.args.rows.now c.args.f.now c.args.first (c.loop-done.done + 1) l) (sym c.in_ok-push.ensures.items)
    (answers_more c.args.rows.now c.args.f.now c.args.first c.loop-done.done c.loop-done.made.items c.solve.result c.loop-done.invariant
    (record {
      len = c.solve.ensures.len ∙ ap (λ (rows : List Candidate). length rows) c.group.ensures;
      list = c.solve.ensures.least ∙ ap (λ (rows : List Candidate). least rows c.args.f.now) c.group.ensures;
    }))
