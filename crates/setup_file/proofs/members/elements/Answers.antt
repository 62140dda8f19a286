use Rattle.setup_file.proofs.Lists.{list_elements}
use Rattle.setup_file.proofs.members.elements.Goals as goal

pub returns : goal.returns
returns c = rw c.as_slice.ensures.value (list_elements _ _ c.in_ok-elements.ensures)
