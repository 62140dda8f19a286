use Rattle.std.proofs.Common.{◌∙◌, ◌+◌, ℕ, length, subst, sym}
use Rattle.std.specs.BTreeMap.{BTreeMap}
use Rattle.journal_replay.specs.Plans.{AreMade, HasLastUses}
use Rattle.journal_replay.proofs.Next.{have_next, is_made}
use Rattle.journal_replay.proofs.replaying.add_next.Goals as goal

pub add_entry-requires-clause-made : goal.add_entry-requires-clause-made
add_entry-requires-clause-made g c =
    let j = c.args.journal.now in
    let last : HasLastUses j.entries (length j.entries) c.make.new.self.last_uses = subst (λ (uses : BTreeMap ℕ ℕ). HasLastUses j.entries (length j.entries) uses) (sym c.make.ensures.uses) c.requires.plans.last in
    λ n is le. is_made c.legal_lists.ensures.reached c.beginnings_are_histories.ensures.grow c.games_with_one_more.ensures.numbered c.legal_lists_in_range.ensures.games j c.args.arena.now c.make.new.self.last_uses c.make.new.self.made c.args.e.now n
    c.shows_legal.ensures.legal c.requires.plans.entries last c.in_ok-make.ensures.made c.requires.next is le

pub let_go-requires : goal.let_go-requires
let_go-requires g c = record {
  made = subst (λ m. AreMade (m + 1) m c.make.new.self.last_uses c.make.new.self.made) (sym c.len-number.ensures) c.in_ok-make.ensures.made;
}

pub returns-clause-plans : goal.returns-clause-plans
returns-clause-plans g c =
    let j = c.args.journal.now in
    let uses = c.let_go.new.self.last_uses in
    let last : HasLastUses j.entries (length j.entries) uses = subst (λ (uses : BTreeMap ℕ ℕ). HasLastUses j.entries (length j.entries) uses) (sym (c.let_go.ensures.uses ∙ c.make.ensures.uses)) c.requires.plans.last in
    have_next c.plans_of_entries.ensures.stays j c.args.arena.now c.add_entry.new.arena uses c.make.new.self.made c.let_go.new.self.made c.args.e.now
    c.requires.plans.setup c.add_entry.ensures.setup c.in_ok-add_entry.ensures.adds.1 c.requires.plans.entries c.requires.next last c.in_ok-make.ensures.own c.let_go.ensures.kept
    (subst (λ m. AreMade (m + 1) (m + 1) uses c.let_go.new.self.made) c.len-number.ensures c.let_go.ensures.made)
