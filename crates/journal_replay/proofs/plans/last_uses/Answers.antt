use Rattle.std.proofs.Common.{◌≡◌, ◌≤◌, ◌+◌, ◌∙◌, ap, get_or, subst, sym}
use Rattle.std.specs.Prelude.{cond}
use Rattle.std.specs.BTreeMap.{get}
use Rattle.std.specs.Ordering.{nat_cmp}
use Rattle.entries.specs.declared.journal.Entry.{Entry}
use Rattle.entries.specs.Limits.{max_games}
use Rattle.journal_replay.specs.Plans.{IsUsedUntil, Lasts, starts_wave}
use Rattle.journal_replay.proofs.Used.{uses_more, waves_more}
use Rattle.journal_replay.proofs.plans.last_uses.Goals as goal

pub noting-preserved : goal.noting-preserved
noting-preserved c =
    let es = c.args.entries.now in
    let k = c.noting.e-index in
    let x : Entry = c.e-item.result in
    let is : x ≡ get_or es k x = c.e-item.is in
    let inv = c.noting.invariant in
    let ens = c.in_ok-waves.ensures in
    let lasts : Lasts c.noting.uses c.note_use.new.uses k = subst (λ m. Lasts c.noting.uses c.note_use.new.uses m) inv.number ens.lasts in
    record {
      number = ap (λ m. m + 1) inv.number;
      waves = ens.waves ∙ ((λ i. inv.waves i + cond (starts_wave (is i).what) 1 0) ∙ sym (waves_more es k x c.noting-test.true));
      uses = uses_more es k x c.noting.uses c.note_use.new.uses c.noting-test.true inv.uses lasts
          (λ n did few. subst (λ m. IsUsedUntil m (get nat_cmp c.note_use.new.uses n)) inv.number (ens.own n (ap (λ (y : Entry). y.what) is ∙ did) (subst (λ m. m ≤ max_games) (sym inv.waves) few)));
    }
