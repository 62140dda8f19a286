use Rattle.std.proofs.Common.{arith, append_assoc, refl}
use Rattle.board.proofs.Decimals.{decimal_more}
use Rattle.board.proofs.fen.write.+push_decimal.Goals as goal

pub returns-else-n-lt10-clause-is : goal.returns-else-n-lt10-clause-is
returns-else-n-lt10-clause-is t c =
    let more = decimal_more c.args.n c.if-n-lt10.false (omega arith) in
    rw (c.push_byte-else-n-lt10.ensures.is, c.push_decimal.ensures.is, more, append_assoc) refl
