-- Writing entries one behind the other, with the games that are left to be written.
use Rattle.std.specs.Prelude.{ℕ, ◌+◌, ◌==◌, List, [], ◌∷◌, ◌++◌, if◌then◌else◌}
use Rattle.std.specs.List.{flat_map}
use Rattle.entries.specs.declared.journal.Entry.{Entry}
use Rattle.entries.specs.declared.journal.Start.{Start}
use Rattle.journal_text.specs.Lines.{spaced}
use Rattle.journal_text.specs.Text.{entry_words, pair_word}

-- the games in front that are of this entry
abbrev pub own_of : ℕ → List Start → List Start
own_of n [] = []
own_of n (g ∷ games) = if g.entry == n then g ∷ own_of n games else []

-- those behind them
abbrev pub behind_own : ℕ → List Start → List Start
behind_own n [] = []
behind_own n (g ∷ games) = if g.entry == n then behind_own n games else g ∷ games

-- pairs, with one space before each
abbrev pub pairs_text : List Start → List ℕ
pairs_text games = flat_map (λ g. 32 ∷ pair_word g) games

-- the line of an entry and its games
abbrev pub entry_text : Entry → List Start → List ℕ
entry_text e games = spaced (entry_words e) ++ pairs_text games ++ 10 ∷ []

-- the lines of entries, of which the first has this number, where these games are left
unfoldable pub entries_text : ℕ → List Start → List Entry → List ℕ
entries_text n games [] = []
entries_text n games (e ∷ entries) = entry_text e (own_of n games) ++ entries_text (n + 1) (behind_own n games) entries
