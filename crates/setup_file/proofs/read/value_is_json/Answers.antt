use Rattle.setup_file.proofs.JsonFaults.{of_value}
use Rattle.setup_file.proofs.read.value_is_json.Goals as goal

pub returns : goal.returns
returns c = of_value
