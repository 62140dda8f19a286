use Rattle.std.proofs.Common.{◌≡◌, ◌<◌, get_or, take, set, sym, subst}
use Rattle.std.proofs.lemmas.List.{take_more}
use Rattle.std.proofs.lemmas.Option.{get_or_from_slice_get}
use Rattle.arena_players.specs.declared.facts.PairingFacts.{PairingFacts}
use Rattle.arena_players.specs.Facts.{AreLeft, no_facts}
use Rattle.arena_players.proofs.Lists.{get_at}
use Rattle.arena_players.proofs.Leaves.{not_before, not_yet, left_more}
use Rattle.arena_players.proofs.pairings.leave.Goals as goal

pub left_alone-left-requires : goal.left_alone-left-requires
left_alone-left-requires c =
    let i = c.leaving.p-index in
    let lt = c.leaving-test.true in
    let p = get_or c.args.players.now i 0 in
    let within = c.requires.players i 0 lt in
    let new = not_before c.args.players.now i p (λ k less _. c.requires.once k i 0 less lt) in
    let f = get_or c.args.facts.now p no_facts in
    let here = not_yet (take i c.args.players.now) c.args.facts.now c.leaving.facts p f c.leaving.invariant new (get_at c.args.facts.now p no_facts within) in
    subst (λ (k : PairingFacts). k.alone < 8000000) (sym (get_or_from_slice_get c.leaving.facts p f no_facts here)) (c.requires.few p no_facts within)

pub leaving-preserved : goal.leaving-preserved
leaving-preserved c =
    let i = c.leaving.p-index in
    let lt = c.leaving-test.true in
    let p = get_or c.args.players.now i 0 in
    let within = c.requires.players i 0 lt in
    let new = not_before c.args.players.now i p (λ k less _. c.requires.once k i 0 less lt) in
    let f = get_or c.args.facts.now p no_facts in
    let at = get_at c.args.facts.now p no_facts within in
    let here = not_yet (take i c.args.players.now) c.args.facts.now c.leaving.facts p f c.leaving.invariant new at in
    let made = subst (λ k. c.left_alone-left.result ≡ Rattle.arena_players.specs.Facts.left k) (get_or_from_slice_get c.leaving.facts p f no_facts here) c.left_alone-left.ensures in
    subst (λ done. AreLeft done c.args.facts.now (set c.leaving.facts p c.left_alone-left.result)) (sym (take_more c.args.players.now i 0 lt))
    (left_more (take i c.args.players.now) c.args.facts.now c.leaving.facts p f c.left_alone-left.result c.leaving.invariant new at made)
