use Rattle.group_pairing.proofs.LeastList.{least_is_list, least_is_least, only_least}
use Rattle.group_pairing.proofs.laws.least_list.Goals as goal

pub returns-clause-list : goal.returns-clause-list
returns-clause-list c = λ rows f. least_is_list rows f

pub returns-clause-least : goal.returns-clause-least
returns-clause-least c = λ rows f few. least_is_least rows f few

pub returns-clause-only : goal.returns-clause-only
returns-clause-only c = λ rows f few. only_least rows f few
