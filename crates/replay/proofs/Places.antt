-- The first entry that is not allowed is one of the journal's.
use Rattle.std.proofs.Common.{◌≡◌, ℕ, suc, ◌+◌, ◌<◌, List, [], ◌∷◌, length, Option, Some, None, ap, arith}
use Rattle.std.specs.Option.{option_map, option_or, unwrap_or}
use Rattle.entries.specs.declared.journal.Entry.{Entry}
use Rattle.entries.specs.declared.journal.Journal.{Journal}
use Rattle.journal_replay.specs.declared.illegal.IllegalCause.{IllegalCause}
use Rattle.journal_replay.specs.Causes.{before, cause_of, first_from, first_illegal}

first_within : (j : Journal) (number : ℕ) (es : List Entry) (n : ℕ) (c : IllegalCause) → first_from j number es ≡ Some (n, c) → n < number + length es
unfolding first_from
first_within j number [] n c is = cc
first_within j number (e ∷ es) n c is = by (cause_of j (before j number) e) (first_within j (suc number) es n c) is
  where
    by : (o : Option IllegalCause) → (first_from j (suc number) es ≡ Some (n, c) → n < suc number + length es)
        → option_or (option_map (λ cause. (number, cause)) o) (first_from j (suc number) es) ≡ Some (n, c) → n < number + suc (length es)
    by None rest found = let later : n < suc number + length es = rest found in omega (arith, later)
    by (Some d) rest found = let same : number ≡ n = ap (λ (o : Option (ℕ × IllegalCause)). (unwrap_or {T = ℕ × IllegalCause} o (number, d)).0) found in omega (arith, same)

pub first_entry : (j : Journal) (n : ℕ) (c : IllegalCause) → first_illegal j ≡ Some (n, c) → n < length j.entries
unfolding first_illegal
first_entry j n c is = let within : n < 0 + length j.entries = first_within j 0 j.entries n c is in omega (arith, within)
