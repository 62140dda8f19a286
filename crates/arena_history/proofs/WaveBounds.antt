-- How many waves there are at most, and what they make of one player.
use Rattle.std.proofs.Common.{ℕ, suc, ◌≤◌, List, [], ◌∷◌, ◌++◌, length, ap, arith, length-append}
use Rattle.std.specs.Prelude.{count_by, ◌==◌, ◌&&◌, pos, ◌-ℤ◌, ◌+ℤ◌, ◌≤ℤ◌}
use Rattle.std.proofs.lemmas.Int.{ints}
use Rattle.std.proofs.lemmas.List.Sums.{count_by-le-length}
use Rattle.entries.specs.declared.setup.Setup.{Setup}
use Rattle.entries.specs.declared.journal.Entry.{Entry}
use Rattle.entries.specs.declared.journal.Start.{Start}
use Rattle.entries.specs.declared.journal.What.{What}
use Rattle.entries.specs.declared.journal.What.TheVariants.{Enter, Pause, Leave, Act, Tick, Wave}
use Rattle.arena_history.specs.History.{LeftAlone, History}
use Rattle.arena_history.specs.Snapshots.{last_start, balance_among, balance, is_after, leaves_alone, alone}
use Rattle.arena_history.specs.Waves.{lefts_in, lefts_by, history}
use Rattle.arena_history.proofs.Histories.{lefts-after, history-push}
use Rattle.arena_history.proofs.Lists.{snoc_induction}

one_wave : (s : Setup) (h : History) (w : What) → length (lefts_in s h w) ≤ 1
one_wave s h (Enter p) = omega arith
one_wave s h (Pause p) = omega arith
one_wave s h (Leave p) = omega arith
one_wave s h (Act p number a) = omega arith
one_wave s h Tick = omega arith
one_wave s h (Wave n) = omega arith

lefts-push : (s : Setup) (es : List Entry) (e : Entry) → length (history s (es ++ e ∷ [])).lefts ≤ suc (length (history s es).lefts)
unfolding lefts_by
lefts-push s es e =
    let h = history s es in
    omega (arith, ap (λ (k : History). length k.lefts) (history-push s es e), ap length (lefts-after s h e), length-append h.lefts (lefts_by s h e), one_wave s h e.what)

lefts-nothing : (s : Setup) → length (history s []).lefts ≤ 0
unfolding history
lefts-nothing s = omega arith

-- there are no more waves than entries
pub waves_few : (s : Setup) (es : List Entry) → length (history s es).lefts ≤ length es
waves_few s es = snoc_induction (λ l. length (history s l).lefts ≤ length l) (lefts-nothing s) (λ l e few. omega (arith, few, lefts-push s l e, length-append l (e ∷ []))) es

-- no player was left alone by more waves than there were
pub alone_few : (h : History) (p : ℕ) → alone h p ≤ length h.lefts
unfolding alone
alone_few h p = count_by-le-length (λ (x : LeftAlone). leaves_alone p x && is_after (last_start h p) x.entry) h.lefts

-- a balance is no farther from 0 than so many games make it
pub balance_small : (h : History) (p : ℕ) → (pos 0 ≤ℤ (balance h p +ℤ pos (length h.starts))) × (balance h p ≤ℤ pos (length h.starts))
unfolding balance balance_among
balance_small h p =
    let white = count_by-le-length (λ (x : Start). x.white == p) h.starts in
    let black = count_by-le-length (λ (x : Start). x.black == p) h.starts in
    within (count_by (λ (x : Start). x.white == p) h.starts) (count_by (λ (x : Start). x.black == p) h.starts) (length h.starts) white black
  where
    within : (a b n : ℕ) → a ≤ n → b ≤ n → (pos 0 ≤ℤ ((pos a -ℤ pos b) +ℤ pos n)) × ((pos a -ℤ pos b) ≤ℤ pos n)
    within a b n white black = (omega (arith, ints), omega (arith, ints))
