use Rattle.std.proofs.Common.{◌≡◌, ◌∙◌, Some, length, false, subst, sym}
use Rattle.std.specs.Prelude.{is_some}
use Rattle.std.specs.BTreeMap.{Updates, get}
use Rattle.std.specs.Ordering.{nat_cmp}
use Rattle.journal_replay.proofs.Planned.{own_plan}
use Rattle.journal_replay.proofs.Used.{made_more, made_unnamed, own_more}
use Rattle.journal_replay.proofs.plans.WavePlans.make.Goals as goal

pub returns-then-not-contains_key-clause-made : goal.returns-then-not-contains_key-clause-made
returns-then-not-contains_key-clause-made g c =
    let uses = c.args.self.now.last_uses in
    let unused : is_some (get nat_cmp uses c.len-n.result) ≡ false = sym c.contains_key.ensures ∙ c.if-not-contains_key.true in
    made_unnamed uses c.args.self.now.made (length c.args.arena.now.entries) (subst (λ m. is_some (get nat_cmp uses m) ≡ false) c.len-n.ensures unused) c.requires.made

pub returns-clause-own : goal.returns-clause-own
returns-clause-own g c =
    let a = c.args.arena.now in
    let own = own_plan c.beginnings_are_histories.ensures.entries c.plans_of_entries.ensures.own a.setup a.entries c.in_ok-plan.plan c.in_ok-plan.ensures in
    own_more a.setup a.entries c.args.self.now.made c.insert.new.self c.len-n.result c.in_ok-plan.plan c.in_ok-insert.ensures.updates c.requires.own (own.0 ∙ sym c.len-n.ensures) own.1

pub returns-clause-made : goal.returns-clause-made
returns-clause-made g c =
    let old = c.args.self.now.made in
    let new = c.insert.new.self in
    let p = c.in_ok-plan.plan in
    made_more c.args.self.now.last_uses old new (length c.args.arena.now.entries) p (subst (λ m. Updates nat_cmp old new m (Some p)) c.len-n.ensures c.in_ok-insert.ensures.updates) c.requires.made
