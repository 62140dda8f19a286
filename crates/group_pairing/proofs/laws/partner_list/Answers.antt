use Rattle.std.proofs.Common.{inl, inr}
use Rattle.group_pairing.proofs.Places.{paired_from}
use Rattle.group_pairing.proofs.laws.partner_list.Goals as goal

pub returns-clause-items : goal.returns-clause-items
returns-clause-items c = λ rows f to list. (paired_from rows f to list).size

pub returns-clause-each : goal.returns-clause-each
returns-clause-each c = λ rows f to list i inside. elim ((paired_from rows f to list).each i inside) [
  | inl nobody ↦ inl nobody
  | inr met ↦ inr (record { inside = met.inside; other = met.other; back = met.back })
]
