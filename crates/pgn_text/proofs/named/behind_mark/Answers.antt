use Rattle.std.proofs.Common.{◌≡◌, sym, ◌∙◌, arith}
use Rattle.pgn_text.specs.San.{letter, file_letter, rank_digit}
use Rattle.pgn_text.proofs.Letters.{one_pair}
use Rattle.pgn_text.proofs.named.behind_mark.Goals as goal

pub returns-then-mark-eq61-clause-some : goal.returns-then-mark-eq61-clause-some
returns-then-mark-eq61-clause-some c front k can e =
    let t = one_pair c.args.front.now front c.args.mark c.args.letter 61 (letter k) (sym c.requires ∙ e) in
    (t.0, c.promotion_of.ensures.is k can t.2)

pub returns-then-mark-eq61-clause-none : goal.returns-then-mark-eq61-clause-none
returns-then-mark-eq61-clause-none c front s on e =
    let t = one_pair c.args.front.now front c.args.mark c.args.letter (file_letter s) (rank_digit s) (sym c.requires ∙ e) in
    let mark : c.args.mark ≡ file_letter s = t.1 in
    absurd (omega arith)

pub returns-else-mark-eq61-clause-some : goal.returns-else-mark-eq61-clause-some
returns-else-mark-eq61-clause-some c front k can e =
    let t = one_pair c.args.front.now front c.args.mark c.args.letter 61 (letter k) (sym c.requires ∙ e) in
    let mark : c.args.mark ≡ 61 = t.1 in
    absurd (omega arith)
