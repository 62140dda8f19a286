use Rattle.http_lines.proofs.Firstly.{first_one, first_there, first_with_more, first_without_more}
use Rattle.http_lines.proofs.laws.first_of_bytes.Goals as goal

pub returns-clause-one : goal.returns-clause-one
returns-clause-one c = first_one

pub returns-clause-there : goal.returns-clause-there
returns-clause-there c = first_there

pub returns-clause-own : goal.returns-clause-own
returns-clause-own c bytes rest more request =
    (first_with_more bytes rest more request, first_without_more bytes rest more request)
