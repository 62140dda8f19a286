-- The waves and the games of a history belong to its entries.
use Rattle.std.proofs.Common.{◌≡◌, ◌+◌, ◌<◌, ◌≤◌, List, [], ◌∷◌, ◌++◌, length, refl, sym, ap, subst, ◌∙◌, arith, append_assoc, append-nil}
use Rattle.std.specs.List.{All}
use Rattle.std.proofs.lemmas.List.{length_push, length-append}
use Rattle.std.proofs.lemmas.List.Elements.{All-append, All-from_recursion}
use Rattle.entries.specs.declared.journal.Entry.{Entry}
use Rattle.entries.specs.declared.journal.What.{What}
use Rattle.entries.specs.declared.journal.What.TheVariants as what
use Rattle.entries.specs.declared.setup.Setup.{Setup}
use Rattle.arena_history.specs.History.{History, LeftAlone}
use Rattle.arena_history.specs.HistoryLaws.{HasItsEntries, HistoriesGrow}
use Rattle.arena_history.specs.Waves.{lefts_in, lefts_by, after, history}

-- what holds of no entries, and with each entry more, holds of every list

from_here : {X : Type 0} (P : List X → Type 0) → ((xs : List X) (x : X) → P xs → P (xs ++ x ∷ [])) → (xs more : List X) → P xs → P (xs ++ more)
from_here P step xs [] now = subst P (sym (append-nil xs)) now
from_here P step xs (x ∷ more) now = subst P (append_assoc xs (x ∷ []) more) (from_here P step (xs ++ x ∷ []) more (step xs x now))

from_nothing : {X : Type 0} (P : List X → Type 0) → P [] → ((xs : List X) (x : X) → P xs → P (xs ++ x ∷ [])) → (xs : List X) → P xs
from_nothing P start step xs = from_here P step [] xs start

-- an entry is at most one wave, and that is its own

one_wave : (s : Setup) (h : History) (w : What) → length (lefts_in s h w) ≤ 1
one_wave s h (what.Enter p) = omega arith
one_wave s h (what.Pause p) = omega arith
one_wave s h (what.Leave p) = omega arith
one_wave s h (what.Act p g a) = omega arith
one_wave s h what.Tick = omega arith
one_wave s h (what.Wave n) = omega arith

own_wave : (s : Setup) (h : History) (w : What) → All (λ (x : LeftAlone). x.entry < length h.entries + 1) (lefts_in s h w)
own_wave s h (what.Enter p) = λ i d lt. absurd (omega (arith, lt))
own_wave s h (what.Pause p) = λ i d lt. absurd (omega (arith, lt))
own_wave s h (what.Leave p) = λ i d lt. absurd (omega (arith, lt))
own_wave s h (what.Act p g a) = λ i d lt. absurd (omega (arith, lt))
own_wave s h what.Tick = λ i d lt. absurd (omega (arith, lt))
own_wave s h (what.Wave n) = All-from_recursion (λ (x : LeftAlone). x.entry < length h.entries + 1) (lefts_in s h (what.Wave n)) (omega arith, tt)

module _ (grow : HistoriesGrow) (has : HasItsEntries) (s : Setup) where
  lefts_more : (es : List Entry) (e : Entry) → (history s (es ++ e ∷ [])).lefts ≡ (history s es).lefts ++ lefts_in s (history s es) e.what
  unfolding after lefts_by
  lefts_more es e = ap (λ (h : History). h.lefts) (grow s es e)

  no_waves : (history s []).lefts ≡ []
  unfolding history
  no_waves = refl

  pub waves_few : (es : List Entry) → length (history s es).lefts ≤ length es
  waves_few = from_nothing (λ es. length (history s es).lefts ≤ length es)
      (let none = ap length no_waves in omega (arith, none))
      (λ es e old.
      let more = ap length (lefts_more es e) ∙ length-append (history s es).lefts (lefts_in s (history s es) e.what) in
      let one = one_wave s (history s es) e.what in
      let longer = length_push es e in
      omega (arith, old, more, one, longer))

  pub waves_own : (es : List Entry) → All (λ (x : LeftAlone). x.entry < length es) (history s es).lefts
  waves_own = from_nothing (λ es. All (λ (x : LeftAlone). x.entry < length es) (history s es).lefts)
      (subst (λ l. All (λ (x : LeftAlone). x.entry < 0) l) (sym no_waves) (λ i d lt. absurd (omega (arith, lt))))
      (λ es e old.
      let now = length es + 1 in
      let older : All (λ (x : LeftAlone). x.entry < now) (history s es).lefts = (λ i d lt. let less = old i d lt in omega (arith, less)) in
      let own : All (λ (x : LeftAlone). x.entry < now) (lefts_in s (history s es) e.what) = subst (λ l. All (λ (x : LeftAlone). x.entry < length l + 1) (lefts_in s (history s es) e.what)) (has s es) (own_wave s (history s es) e.what) in
      subst (λ n. All (λ (x : LeftAlone). x.entry < n) (history s (es ++ e ∷ [])).lefts) (sym (length_push es e))
      (subst (λ l. All (λ (x : LeftAlone). x.entry < now) l) (sym (lefts_more es e)) (All-append (λ (x : LeftAlone). x.entry < now) (history s es).lefts (lefts_in s (history s es) e.what) older own)))
