use Rattle.http_lines.proofs.Talking.{requests_one, requests_there}
use Rattle.http_lines.proofs.laws.requests_of_bytes.Goals as goal

pub returns-clause-one : goal.returns-clause-one
returns-clause-one c = requests_one

pub returns-clause-there : goal.returns-clause-there
returns-clause-there c = requests_there
