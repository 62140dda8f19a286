use Rattle.group_pairing.specs.Least.{least}
use Rattle.wave.specs.Plans.{frame, group}
use Rattle.wave.proofs.Players.{plan_of_rows, plan_apart, alone_of_rows, alone_once, paired_or_alone}
use Rattle.wave.proofs.Everyone.{everyone_planned}
use Rattle.wave.proofs.laws.each_player_once.Goals as goal

pub returns-clause-paired : goal.returns-clause-paired
returns-clause-paired c = λ rule rows differ.
    plan_of_rows rule rows differ
    (λ k i inside. c.partner_list.ensures.each (group rows k) (frame rule rows) (least (group rows k) (frame rule rows)) (c.least_list.ensures.list (group rows k) (frame rule rows)) i inside)

pub returns-clause-apart : goal.returns-clause-apart
returns-clause-apart c = λ rule rows differ.
    plan_apart rule rows differ
    (λ k i inside. c.partner_list.ensures.each (group rows k) (frame rule rows) (least (group rows k) (frame rule rows)) (c.least_list.ensures.list (group rows k) (frame rule rows)) i inside)

pub returns-clause-alone : goal.returns-clause-alone
returns-clause-alone c = λ rule rows differ.
    alone_of_rows rule rows differ
    (λ k i inside. c.partner_list.ensures.each (group rows k) (frame rule rows) (least (group rows k) (frame rule rows)) (c.least_list.ensures.list (group rows k) (frame rule rows)) i inside)

pub returns-clause-alone_once : goal.returns-clause-alone_once
returns-clause-alone_once c = λ rule rows differ.
    alone_once rule rows differ
    (λ k i inside. c.partner_list.ensures.each (group rows k) (frame rule rows) (least (group rows k) (frame rule rows)) (c.least_list.ensures.list (group rows k) (frame rule rows)) i inside)

pub returns-clause-paired_or_alone : goal.returns-clause-paired_or_alone
returns-clause-paired_or_alone c = λ rule rows differ.
    paired_or_alone rule rows differ
    (λ k i inside. c.partner_list.ensures.each (group rows k) (frame rule rows) (least (group rows k) (frame rule rows)) (c.least_list.ensures.list (group rows k) (frame rule rows)) i inside)

pub returns-clause-everyone : goal.returns-clause-everyone
returns-clause-everyone c = λ rule rows r d inside.
    everyone_planned rule rows
    (λ k i within. c.partner_list.ensures.each (group rows k) (frame rule rows) (least (group rows k) (frame rule rows)) (c.least_list.ensures.list (group rows k) (frame rule rows)) i within)
    r d inside
