-- Laws of histories, for every setup and every list of entries.
use Rattle.std.specs.Prelude.{◌≡◌, ℕ, ◌<◌, List, [], ◌∷◌, ◌++◌, take, length}
use Rattle.std.specs.List.{AllByRecursion}
use Rattle.entries.specs.declared.journal.Entry.{Entry}
use Rattle.entries.specs.declared.journal.Start.{Start}
use Rattle.entries.specs.declared.setup.Setup.{Setup}
use Rattle.arena_history.specs.History.{starts_below, lefts_below, first}
use Rattle.arena_history.specs.Waves.{after, history}

-- a history has the entries of its list
abbrev pub HasItsEntries : Type 0
HasItsEntries = (s : Setup) (es : List Entry) → (history s es).entries ≡ es

-- the first n entries of a history, with what they began and whom they left alone, are the history of the first n entries
abbrev pub BeginningsAreHistories : Type 0
BeginningsAreHistories = (s : Setup) (es : List Entry) (n : ℕ) → first n (history s es) ≡ history s (take n es)

-- the history of one entry more is the one that the entry makes of the history before it
abbrev pub HistoriesGrow : Type 0
HistoriesGrow = (s : Setup) (es : List Entry) (e : Entry) → history s (es ++ e ∷ []) ≡ after s (history s es) e

-- the games that the first n entries begin are those of all whose entry number is below n
abbrev pub StartsOfBeginnings : Type 0
StartsOfBeginnings = (s : Setup) (es : List Entry) (n : ℕ)
    → (history s (take n es)).starts ≡ starts_below n (history s es).starts

-- and so it is with those whom they leave alone
abbrev pub LeftsOfBeginnings : Type 0
LeftsOfBeginnings = (s : Setup) (es : List Entry) (n : ℕ)
    → (history s (take n es)).lefts ≡ lefts_below n (history s es).lefts

-- each game was begun by one of the entries
abbrev pub StartsHaveEntries : Type 0
StartsHaveEntries = (s : Setup) (es : List Entry)
    → AllByRecursion (λ (x : Start). x.entry < length es) (history s es).starts
