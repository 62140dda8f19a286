use Rattle.server.proofs.Others.{someone_saw_it_whole}
use Rattle.server.proofs.laws.someone_saw_it_whole.Goals as goal

pub returns : goal.returns
returns c = someone_saw_it_whole
