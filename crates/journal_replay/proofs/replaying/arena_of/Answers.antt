use Rattle.std.proofs.Common.{◌≡◌, ◌≤◌, ◌<◌, ◌∙◌, ◌∷◌, [], ◌+◌, List, ap, get_or, length, length-append, refl, subst, sym}
use Rattle.entries.specs.declared.journal.Entry.{Entry}
use Rattle.journal_replay.specs.Causes.{first_illegal}
use Rattle.journal_replay.specs.Plans.{HasLastUses}
use Rattle.journal_replay.proofs.Next.{all_entries, ends_here, have_none, next_entry, none_at_end, none_more}
use Rattle.journal_replay.proofs.replaying.arena_of.Goals as goal

pub adding-init : goal.adding-init
unfolding first_illegal
adding-init g c =
    let j = c.args.journal.now in
    let a = c.in_ok-arena.arena in
    let plans = c.in_ok-plans.plans in
    let last : HasLastUses j.entries (length j.entries) plans.last_uses = subst (λ (es : List Entry). HasLastUses es (length es) plans.last_uses) c.items.ensures c.in_ok-plans.ensures.uses in
    record {
      count = ap length c.in_ok-arena.ensures.empty;
      plans = have_none j a plans.last_uses plans.made (c.in_ok-arena.ensures.setup ∙ c.in_ok-copy.ensures) c.in_ok-arena.ensures.empty last c.in_ok-plans.ensures.none;
      so_far = refl;
    }

pub add_next-requires-clause-next : goal.add_next-requires-clause-next
add_next-requires-clause-next g c = λ κs outlives. next_entry c.items-e-items.result.now c.args.journal.now.entries c.adding.e-index (length c.adding.arena.entries) c.e-item.result c.items-e-items.ensures c.adding.invariant.count c.adding-test.true c.e-item.is

pub add_next-requires-clause-plans : goal.add_next-requires-clause-plans
add_next-requires-clause-plans g c = λ κs outlives. c.adding.invariant.plans

pub returns-in_err-add_next : goal.returns-in_err-add_next
returns-in_err-add_next g c =
    let j = c.args.journal.now in
    let i = c.adding.e-index in
    let e = c.e-item.result in
    let inv = c.adding.invariant in
    let within : i < length j.entries = subst (λ (es : List Entry). i < length es) c.items-e-items.ensures c.adding-test.true in
    let is : get_or j.entries i e ≡ e = ap (λ (es : List Entry). get_or es i e) (sym c.items-e-items.ensures) ∙ sym c.e-item.is in
    ends_here j i e e c.adding.arena within is inv.so_far inv.plans.setup inv.plans.entries inv.count c.add_next.new.arena.entries c.from_residual-in_err-add_next.result c.in_err-add_next.field-0.0 c.from_residual-in_err-add_next.ensures.1 c.in_err-add_next.ensures.adds

pub adding-preserved : goal.adding-preserved
adding-preserved g c =
    let j = c.args.journal.now in
    let i = c.adding.e-index in
    let e = c.e-item.result in
    let inv = c.adding.invariant in
    let within : i < length j.entries = subst (λ (es : List Entry). i < length es) c.items-e-items.ensures c.adding-test.true in
    let is : get_or j.entries i e ≡ e = ap (λ (es : List Entry). get_or es i e) (sym c.items-e-items.ensures) ∙ sym c.e-item.is in
    let added = c.in_ok-add_next.ensures.adds in
    record {
      count = ap length added.1 ∙ (length-append c.adding.arena.entries (e ∷ []) ∙ ap (λ m. m + 1) inv.count);
      plans = c.in_ok-add_next.ensures.plans;
      so_far = none_more j i e e c.adding.arena within is inv.so_far inv.plans.setup inv.plans.entries inv.count added.0;
    }

pub returns : goal.returns
returns g c =
    let j = c.args.journal.now in
    let i = c.adding.e-index in
    let inv = c.adding.invariant in
    let all : length j.entries ≤ i = subst (λ (es : List Entry). length es ≤ i) c.items-e-items.ensures c.adding-test.false in
    (none_at_end j i all inv.so_far, inv.plans.setup, all_entries j c.adding.arena i all inv.count inv.plans.entries)
