use Rattle.std.proofs.Common.{◌∙◌, rules, w64}
use Rattle.std.proofs.lemmas.Int.{to_z-of_z}
use Rattle.std.proofs.lemmas.Result.{IfOk-weaker}
use mir.Val.{SFits}
use Rattle.table_text.proofs.Lines.{score_words-pieces}
use Rattle.table_text.proofs.table.score_end.Goals as goal

pub returns : goal.returns
returns c =
    let row = c.args.row.now in
    let in_range : SFits w64 row.performance = search rules in
    let told = simp to_z-of_z at c.format.ensures.ok in
    IfOk-weaker c.format.result _ _ (λ text is. is ∙ score_words-pieces row) told
