-- The entries of a list that is whole, and of one that was cut.
use Rattle.std.proofs.Common.{◌≡◌, ℕ, List, Err, sym, ap, subst, ◌∙◌}
use Rattle.entries.specs.declared.journal.Entry.{Entry}
use Rattle.entries.specs.declared.setup.Setup.{Setup}
use Rattle.workload.specs.Drafts.{Draft, ended, going}
use Rattle.workload.specs.Setups.{setup_of}
use Rattle.workload.specs.Steps.{ComesTo}
use Rattle.workload.specs.Workloads.{draft, entries_of}
use Rattle.workload.specs.declared.drafting.Stop.{Stop}
use Rattle.workload.specs.declared.drafting.Stop.TheVariants.{NotAllowed}

module _ (seed players : ℕ) (s : Setup) (new : List Entry) (same : s ≡ setup_of seed players) where
  of_draft : (d : Draft) → draft seed s players ≡ d → entries_of seed players ≡ d.entries
  unfolding entries_of
  of_draft d is = ap (λ (x : Draft). x.entries) ((λ i. draft seed (sym same i) players) ∙ is)

  pub whole_list : draft seed s players ≡ going new → new ≡ entries_of seed players
  whole_list is = sym (of_draft (going new) is)

  pub cut_list : (f : Stop) → f ≡ NotAllowed → ComesTo (draft seed s players) new (Err f) → new ≡ entries_of seed players
  cut_list f is comes = sym (of_draft (ended new) (subst (λ g. ComesTo (draft seed s players) new (Err g)) is comes))
