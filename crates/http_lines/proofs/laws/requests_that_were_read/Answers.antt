use Rattle.http_lines.proofs.Talking.{read_with_more, read_without_more, one_more_read, read_and_then}
use Rattle.http_lines.proofs.laws.requests_that_were_read.Goals as goal

pub returns-clause-own : goal.returns-clause-own
returns-clause-own c bytes rest more requests =
    (read_with_more bytes rest more requests, read_without_more bytes rest more requests)

pub returns-clause-one_more : goal.returns-clause-one_more
returns-clause-one_more c = one_more_read

pub returns-clause-and_then : goal.returns-clause-and_then
returns-clause-and_then c = read_and_then
