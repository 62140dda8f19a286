-- What is written in pieces is the text of the lines.
use Rattle.std.proofs.Common.{◌≡◌, ◌≢◌, ℕ, ◌+◌, ◌<◌, ◌≤◌, true, false, cond, eqb, List, [], ◌∷◌, ◌++◌, length, map, refl, sym, ap, subst, ◌∙◌, arith, inl, inr, append_assoc, append-nil}
use Rattle.std.specs.Prelude.{codes}
use Rattle.std.specs.Fmt.{decimal}
use Rattle.std.specs.List.{AllByRecursion, flat_map}
use Rattle.std.proofs.lemmas.Bool.{cases_Bool, eqb-true, eqb-false, ne_eqb}
use Rattle.std.proofs.lemmas.Grind.{flat_map-append}
use Rattle.std.proofs.lemmas.List.Folds.{flat_map-map}
use Rattle.entries.specs.Ranges.{IsWritable, listed_at}
use Rattle.entries.specs.declared.setup.Setup.{Setup}
use Rattle.entries.specs.declared.journal.Entry.{Entry}
use Rattle.entries.specs.declared.journal.Start.{Start}
use Rattle.entries.specs.declared.journal.Journal.{Journal}
use Rattle.journal_text.specs.Lines.{spaced, line}
use Rattle.journal_text.specs.Text.{version_lines, control_words, window_words, number_words, team_words, player_words, what_words, entry_words, pair_word, entry_lines, setup_lines, text_of}
use Rattle.journal_text.specs.Writing.{own_of, behind_own, pairs_text, entry_text, entries_text}
use Rattle.journal_text.proofs.StartLemmas.{Ordered}
use Rattle.journal_text.proofs.Whole.{are_listed}

-- ---- the setup

-- the lines before the entries, put one behind the other
pieces : (t v c w i l n p b y : List ℕ) → (((((((t ++ v) ++ c) ++ w) ++ i) ++ l) ++ n) ++ p) ++ b ++ y ≡ t ++ ((((v ++ (c ++ (w ++ (i ++ (l ++ []))))) ++ n) ++ p) ++ ((b ++ y) ++ []))
pieces t v c w i l n p b y = simp (append_assoc, append-nil)

-- they are the text of the setup's lines
pub setup_put : (text : List ℕ) (version : ℕ) (s : Setup) → (((((((text ++ flat_map line (version_lines version s.rule)) ++ line (control_words s.control)) ++ line (window_words s.starts s.ends)) ++ line (number_words (codes "wave") s.wave_ms)) ++ line (number_words (codes "leaders") s.leaders)) ++ flat_map (λ name. line (team_words name)) s.teams) ++ flat_map (λ p. line (player_words p)) s.players) ++ codes "begin" ++ 10 ∷ [] ≡ text ++ flat_map line (setup_lines version s)
setup_put text version s =
    let v = version_lines version s.rule in
    let o : List (List (List ℕ)) = control_words s.control ∷ window_words s.starts s.ends ∷ number_words (codes "wave") s.wave_ms ∷ number_words (codes "leaders") s.leaders ∷ [] in
    let t = map team_words s.teams in
    let p = map player_words s.players in
    let b : List (List (List ℕ)) = (codes "begin" ∷ []) ∷ [] in
    let whole : flat_map line (((v ++ o) ++ t) ++ p ++ b) ≡ ((flat_map line v ++ flat_map line o) ++ flat_map (λ name. line (team_words name)) s.teams) ++ flat_map (λ p. line (player_words p)) s.players ++ flat_map line b =
    flat_map-append line (((v ++ o) ++ t) ++ p) b
    ∙ ap (λ (x : List ℕ). x ++ flat_map line b) (flat_map-append line ((v ++ o) ++ t) p)
    ∙ ap (λ (x : List ℕ). (x ++ flat_map line p) ++ flat_map line b) (flat_map-append line (v ++ o) t)
    ∙ ap (λ (x : List ℕ). ((x ++ flat_map line t) ++ flat_map line p) ++ flat_map line b) (flat_map-append line v o)
    ∙ ap (λ (x : List ℕ). (((flat_map line v ++ flat_map line o) ++ x) ++ flat_map line p) ++ flat_map line b) (flat_map-map line team_words s.teams)
    ∙ ap (λ (x : List ℕ). (((flat_map line v ++ flat_map line o) ++ flat_map (λ name. line (team_words name)) s.teams) ++ x) ++ flat_map line b) (flat_map-map line player_words s.players) in
    pieces text (flat_map line v) (line (control_words s.control)) (line (window_words s.starts s.ends)) (line (number_words (codes "wave") s.wave_ms)) (line (number_words (codes "leaders") s.leaders)) (flat_map (λ name. line (team_words name)) s.teams) (flat_map (λ p. line (player_words p)) s.players) (codes "begin") (10 ∷ [])
    ∙ ap (λ (x : List ℕ). text ++ x) (sym whole)

-- ---- the entries

-- each of these games is of this entry or a later one
abbrev AreFrom : ℕ → List Start → Type 0
AreFrom n games = AllByRecursion (λ (g : Start). n ≤ g.entry) games

-- games from an entry on are from one before it on
from_less : (n m : ℕ) (games : List Start) → n ≤ m → AreFrom m games → AreFrom n games
from_less n m [] le h = tt
from_less n m (g ∷ games) le h = (omega (arith, le, h.0), from_less n m games le h.1)

-- all are from the first on
from_first : (games : List Start) → AreFrom 0 games
from_first [] = tt
from_first (g ∷ games) = (omega arith, from_first games)

-- of games from a later entry on none is of this one
listed_later : (n : ℕ) (games : List Start) → AreFrom (n + 1) games → listed_at n games ≡ []
listed_later n [] h = refl
listed_later n (g ∷ games) h = rw (ne_eqb g.entry n (λ same. omega (arith, h.0, same))) (listed_later n games h.1)

-- what the games in front and those behind them are
record Cut (n : ℕ) (games : List Start) : Type 0 where
  own : own_of n games ≡ listed_at n games
  later : AreFrom (n + 1) (behind_own n games)
  ordered : Ordered (behind_own n games)

-- of games in order, from this entry on
cut : (n : ℕ) (games : List Start) → Ordered games → AreFrom n games → Cut n games
cut n [] order from = record { own = refl; later = tt; ordered = tt }
cut n (g ∷ games) order from =
    elim (cases_Bool (eqb g.entry n)) [
      | inl this ↦ let rest = cut n games order.1 from.1 in record { own = rw this (ap (λ (gs : List Start). g ∷ gs) rest.own); later = rw this rest.later; ordered = rw this rest.ordered }
      | inr other ↦
          let past : n + 1 ≤ g.entry = omega (arith, from.0, eqb-false g.entry n other) in
          let all : AreFrom (n + 1) games = from_less (n + 1) g.entry games past order.0 in
          record { own = rw other (sym (listed_later n games all)); later = rw other (past, all); ordered = rw other order }
    ]

-- those behind are the same for each later entry
listed_behind : (n k : ℕ) (games : List Start) → n < k → listed_at k (behind_own n games) ≡ listed_at k games
listed_behind n k [] later = refl
listed_behind n k (g ∷ games) later =
    elim (cases_Bool (eqb g.entry n)) [
      | inl this ↦ rw (this, ne_eqb g.entry k (λ same. omega (arith, later, eqb-true g.entry n this, same))) (listed_behind n k games later)
      | inr other ↦ rw other refl
    ]

-- words, and pairs behind them
spaced_more : (word : List ℕ) (words : List (List ℕ)) (games : List Start) → spaced ((word ∷ words) ++ map pair_word games) ≡ spaced (word ∷ words) ++ pairs_text games
spaced_more word [] [] = sym (append-nil word)
spaced_more word [] (g ∷ games) = ap (λ (x : List ℕ). word ++ 32 ∷ x) (spaced_more (pair_word g) [] games)
spaced_more word (next ∷ words) games = ap (λ (x : List ℕ). word ++ 32 ∷ x) (spaced_more next words games) ∙ sym (append_assoc word (32 ∷ spaced (next ∷ words)) (pairs_text games))

-- an entry that is put is its line
entry_put_is : (e : Entry) (games : List Start) → entry_text e games ≡ line (entry_words e ++ map pair_word games)
entry_put_is e games = ap (λ (x : List ℕ). x ++ 10 ∷ []) (sym (spaced_more (decimal e.stamp) (decimal e.pass ∷ what_words e.what) games))

-- entries that are put are their lines
entries_put : (n : ℕ) (starts left : List Start) (es : List Entry) → Ordered left → AreFrom n left → ((k : ℕ) → n ≤ k → listed_at k left ≡ listed_at k starts) → entries_text n left es ≡ flat_map line (entry_lines n starts es)
unfolding entries_text
entries_put n starts left [] order from same = refl
entries_put n starts left (e ∷ es) order from same =
    let c = cut n left order from in
    let own : own_of n left ≡ listed_at n starts = c.own ∙ same n (omega arith) in
    let rest = entries_put (n + 1) starts (behind_own n left) es c.ordered c.later (λ k later. listed_behind n k left (omega (arith, later)) ∙ same k (omega (arith, later))) in
    ap (λ (gs : List Start). entry_text e gs ++ entries_text (n + 1) (behind_own n left) es) own
    ∙ ap (λ (x : List ℕ). x ++ entries_text (n + 1) (behind_own n left) es) (entry_put_is e (listed_at n starts))
    ∙ ap (λ (x : List ℕ). line (entry_words e ++ map pair_word (listed_at n starts)) ++ x) rest

-- ---- the whole

-- the setup, the entries and `end`, one behind the other
pub journal_put : (text : List ℕ) (j : Journal) → IsWritable j → text ≡ [] → ((text ++ flat_map line (setup_lines j.version j.setup)) ++ entries_text 0 j.starts j.entries) ++ codes "end" ++ 10 ∷ [] ≡ text_of j
unfolding text_of
journal_put text j h none =
    let s = setup_lines j.version j.setup in
    let e = entry_lines 0 j.starts j.entries in
    let z : List (List (List ℕ)) = (codes "end" ∷ []) ∷ [] in
    let entries : entries_text 0 j.starts j.entries ≡ flat_map line e = entries_put 0 j.starts j.starts j.entries (are_listed j h).ordered (from_first j.starts) (λ k le. refl) in
    let whole : flat_map line ((s ++ e) ++ z) ≡ (flat_map line s ++ flat_map line e) ++ flat_map line z = flat_map-append line (s ++ e) z ∙ ap (λ (x : List ℕ). x ++ flat_map line z) (flat_map-append line s e) in
    rw (none, entries) (append_assoc (flat_map line s ++ flat_map line e) (codes "end") (10 ∷ []) ∙ sym whole)
