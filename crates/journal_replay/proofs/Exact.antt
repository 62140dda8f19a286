-- There is a cause against exactly the entries that are not allowed or list other games than they begin.
use Rattle.std.proofs.Common.{◌≡◌, ℕ, zero, suc, ◌+◌, ◌<◌, ◌≤◌, ◌≢◌, ⊎_elim, List, [], ◌∷◌, take, length, slice_get, get_or, Option, Some, None, Bool, true, false, refl, sym, ap, subst, ◌∙◌, arith}
use Rattle.std.specs.Prelude.{cond, nat_le, nat_lt, ◌==◌, ◌||◌, ◌&&◌, not, ◌↔◌}
use Rattle.std.specs.List.{All}
use Rattle.std.specs.Option.{option_map, option_or, unwrap_or}
use Rattle.std.proofs.lemmas.Bool.{cases_eq, lt-leb, le-ltb, leb-false, ltb-false, eq-eqb, ne_eqb}
use Rattle.std.proofs.lemmas.List.{nil_from_length, length-map, length-take-le}
use Rattle.std.proofs.lemmas.Option.{slice_get_within, slice_get-get_or}
use Rattle.entries.specs.declared.journal.Entry.{Entry}
use Rattle.entries.specs.declared.journal.Journal.{Journal}
use Rattle.entries.specs.declared.journal.Start.{Start}
use Rattle.entries.specs.declared.journal.What.{What}
use Rattle.entries.specs.declared.journal.What.TheVariants as what
use Rattle.entries.specs.declared.setup.Setup.{Setup}
use Rattle.entries.specs.Limits.{max_entries, max_games}
use Rattle.entries.specs.Ranges.{IsEntryOf, IsWhatOf, IsWritable, MayList, listed_at}
use Rattle.arena_history.specs.History.{History}
use Rattle.arena_history.specs.HistoryLaws.{HasItsEntries}
use Rattle.arena_history.specs.Stamps.{last_stamp}
use Rattle.arena_history.specs.Waves.{start_of, started, starts_by, starts_in}
use Rattle.arena_rules.specs.Commits.{lacks_room}
use Rattle.arena_rules.specs.declared.refusal.Refusal.{Refusal}
use Rattle.arena_rules.specs.Legal.{Allowed, AllowsWave, AllowsWhat}
use Rattle.journal_replay.specs.declared.illegal.IllegalCause.{IllegalCause}
use Rattle.journal_replay.specs.declared.illegal.IllegalCause.TheVariants.{StampFalls, Refused, WaveEmpty, Full, PairsDiffer}
use Rattle.journal_replay.specs.Causes.{before, cause_of, first_from, first_illegal, games_cause, games_of_wave, lists_others, same_starts, wave_cause, what_cause, window_cause}
use Rattle.journal_replay.specs.Legal.{IsLegalJournal, ListsItsGames}
use Rattle.journal_replay.proofs.Committed.{in_time}
use Rattle.journal_replay.proofs.Firsts.{next}
use Rattle.journal_replay.proofs.Listed.{same_are_equal}

-- ---- options

no_first : {A : Type 0} (a b : Option A) → option_or a b ≡ None → (a ≡ None) × (b ≡ None)
no_first None b is = (refl, is)
no_first (Some x) b is = cc

not_refused : (r : Option Refusal) → option_map Refused r ≡ None → r ≡ None
not_refused None is = refl
not_refused (Some r) is = cc

-- ---- lists

-- what holds of each item holds of the one at a place
pub at : {X : Type 0} (P : X → Type 0) (xs : List X) (i : ℕ) (x : X) → All P xs → slice_get xs i ≡ Some x → P x
at P xs i x all found =
    let within : i < length xs = slice_get_within xs i x found in
    let same : get_or xs i x ≡ x = ap (λ o. unwrap_or o x) (sym (slice_get-get_or xs i x within) ∙ found) in
    subst P same (all i x within)

-- ---- waves

-- what the tests of a wave's games have told where none is against it
record HaveRoom (j : Journal) (h : History) (games : List Start) : Type 0 where
  some : (length games == 0) ≡ false
  room : lacks_room h (length games) ≡ false
  listed : lists_others j (length h.entries) games ≡ false

none_against : (a b c : Bool) → cond a (Some WaveEmpty) (cond b (Some Full) (cond c (Some PairsDiffer) None)) ≡ None → (a ≡ false) × (b ≡ false) × (c ≡ false)
none_against true b c is = cc
none_against false true c is = cc
none_against false false true is = cc
none_against false false false is = (refl, refl, refl)

have_room : (j : Journal) (h : History) (games : List Start) → games_cause j h games ≡ None → HaveRoom j h games
have_room j h games is =
    let all = none_against (length games == 0) (lacks_room h (length games)) (lists_others j (length h.entries) games) is in
    record { some = all.0; room = all.1; listed = all.2 }

neither : (a b : Bool) → (a || b) ≡ false → (a ≡ false) × (b ≡ false)
neither true b is = cc
neither false true is = cc
neither false false is = (refl, refl)

module _ (j : Journal) (h : History) (t n : ℕ) where
  abbrev s : Setup
  s = j.setup

  abbrev games : List Start
  games = games_of_wave j h n

  as_many : length games ≡ length (started s h n)
  as_many = length-map (started s h n) (start_of (length h.entries))

  -- a wave with nothing against it is allowed
  wave_allowed : wave_cause j h t n ≡ None → AllowsWave s h t n
  wave_allowed is =
      let both = no_first (window_cause s (length h.entries) t n) (games_cause j h games) is in
      let its = in_time s (length h.entries) t n both.0 in
      let room = have_room j h games both.1 in
      let fits = neither (nat_le max_entries (length h.entries)) (nat_lt max_games (length h.starts + length games)) room.room in
      record {
        known = ltb-false (length h.entries) n its.known;
        opened = ltb-false t s.starts its.opened;
        before_end = leb-false s.ends t its.before_end;
        begins = (λ none. let zero_games : length games ≡ 0 = as_many ∙ ap length none in let never : true ≡ false = sym (eq-eqb (length games) 0 zero_games) ∙ room.some in cc);
        entry_room = leb-false max_entries (length h.entries) fits.0;
        games_room = subst (λ m. length h.starts + m ≤ max_games) as_many (ltb-false max_games (length h.starts + length games) fits.1);
      }

  -- and lists its games, if the version is 2
  wave_lists : wave_cause j h t n ≡ None → j.version ≡ 2 → listed_at (length h.entries) j.starts ≡ games
  wave_lists is two =
      let both = no_first (window_cause s (length h.entries) t n) (games_cause j h games) is in
      let listed : (j.version == 2 && not (same_starts (listed_at (length h.entries) j.starts) games)) ≡ false = (have_room j h games both.1).listed in
      let same : same_starts (listed_at (length h.entries) j.starts) games ≡ true = by (same_starts (listed_at (length h.entries) j.starts) games) (rw (eq-eqb j.version 2 two) at listed) in
      (same_are_equal (listed_at (length h.entries) j.starts) games).0 same
    where
      by : (b : Bool) → (true && not b) ≡ false → b ≡ true
      by true is = refl
      by false is = cc

  -- against a wave that is allowed and lists its games there is nothing
  wave_free : AllowsWave s h t n → (j.version ≡ 2 → listed_at (length h.entries) j.starts ≡ games) → wave_cause j h t n ≡ None
  wave_free allowed lists =
      let some : length games ≢ 0 = (λ none. allowed.begins (nil_from_length (started s h n) (sym as_many ∙ none))) in
      let within : window_cause s (length h.entries) t n ≡ None = rw (le-ltb t s.starts allowed.opened, lt-leb s.ends t allowed.before_end, le-ltb (length h.entries) n allowed.known) refl in
      let room : length h.starts + length games ≤ max_games = subst (λ m. length h.starts + m ≤ max_games) (sym as_many) allowed.games_room in
      let free : games_cause j h games ≡ None = rw (ne_eqb (length games) 0 some, lt-leb max_entries (length h.entries) allowed.entry_room, le-ltb max_games (length h.starts + length games) room, as_listed) refl in
      ap (λ o. option_or o (games_cause j h games)) within ∙ free
    where
      as_listed : lists_others j (length h.entries) games ≡ false
      as_listed = ⊎_elim
          (λ (two : j.version ≡ 2). rw (eq-eqb j.version 2 two, (same_are_equal (listed_at (length h.entries) j.starts) games).1 (lists two)) refl)
          (λ (other : j.version ≡ 2 → ⊥). rw (ne_eqb j.version 2 other) refl)
          (cases_eq j.version 2)

-- ---- what entries did

module _ (j : Journal) (h : History) (t : ℕ) where
  -- what has nothing against it is allowed, if it is in range
  what_allowed : (w : What) → IsWhatOf (length j.setup.players) w → what_cause j h t w ≡ None → AllowsWhat j.setup h t w
  what_allowed (what.Enter p) fits is = record { in_range = fits; named = tt; not_refused = not_refused _ is }
  what_allowed (what.Pause p) fits is = record { in_range = fits; named = tt; not_refused = not_refused _ is }
  what_allowed (what.Leave p) fits is = record { in_range = fits; named = tt; not_refused = not_refused _ is }
  what_allowed (what.Act p number a) fits is = record { in_range = fits.0; named = fits.2; not_refused = not_refused _ is }
  what_allowed what.Tick fits is = record { in_range = tt; named = tt; not_refused = not_refused _ is }
  what_allowed (what.Wave n) fits is = wave_allowed j h t n is

  -- and lists what it begins, if the version is 2
  what_lists : (w : What) → (j.version ≡ 2 → MayList w (length (listed_at (length h.entries) j.starts))) → what_cause j h t w ≡ None → j.version ≡ 2 → listed_at (length h.entries) j.starts ≡ starts_in j.setup h w
  what_lists (what.Enter p) may is two = nil_from_length (listed_at (length h.entries) j.starts) (may two)
  what_lists (what.Pause p) may is two = nil_from_length (listed_at (length h.entries) j.starts) (may two)
  what_lists (what.Leave p) may is two = nil_from_length (listed_at (length h.entries) j.starts) (may two)
  what_lists (what.Act p number a) may is two = nil_from_length (listed_at (length h.entries) j.starts) (may two)
  what_lists what.Tick may is two = nil_from_length (listed_at (length h.entries) j.starts) (may two)
  what_lists (what.Wave n) may is two = wave_lists j h t n is two

  -- against what is allowed and lists what it begins there is nothing
  what_free : (w : What) → AllowsWhat j.setup h t w → (j.version ≡ 2 → listed_at (length h.entries) j.starts ≡ starts_in j.setup h w) → what_cause j h t w ≡ None
  what_free (what.Enter p) granted lists = ap (option_map Refused) granted.not_refused
  what_free (what.Pause p) granted lists = ap (option_map Refused) granted.not_refused
  what_free (what.Leave p) granted lists = ap (option_map Refused) granted.not_refused
  what_free (what.Act p number a) granted lists = ap (option_map Refused) granted.not_refused
  what_free what.Tick granted lists = ap (option_map Refused) granted.not_refused
  what_free (what.Wave n) allowed lists = wave_free j h t n allowed lists

-- ---- entries

not_fallen : (b : Bool) (cause : Option IllegalCause) → cond b (Some StampFalls) cause ≡ None → (b ≡ false) × (cause ≡ None)
not_fallen true cause is = cc
not_fallen false cause is = (refl, is)

module _ (entries : HasItsEntries) (j : Journal) (number : ℕ) (e : Entry) (writable : IsWritable j) (found : slice_get j.entries number ≡ Some e) where
  abbrev h : History
  h = before j number

  within_le : number < length j.entries → number ≤ length j.entries
  within_le lt = omega (arith, lt)

  -- so many entries stand before it
  place : length h.entries ≡ number
  place = ap length (entries j.setup (take number j.entries)) ∙ length-take-le number j.entries (within_le (slice_get_within j.entries number e found))

  fits : IsEntryOf (length j.setup.players) e
  fits = at (IsEntryOf (length j.setup.players)) j.entries number e writable.entries found

  may_list : j.version ≡ 2 → MayList e.what (length (listed_at number j.starts))
  may_list two = ⊎_elim
      (λ one. let never : 1 ≡ 2 = sym one.version ∙ two in absurd (omega (arith, never)))
      (λ both. both.starts.of_waves number e found)
      writable.version

  pub cause_exact : (cause_of j h e ≡ None) ↔ (Allowed j.setup h e × ListsItsGames j number e)
  unfolding cause_of starts_by
  cause_exact = (
    (λ is.
        let both = not_fallen (nat_lt e.stamp (last_stamp h.entries)) (what_cause j h e.stamp e.what) is in
        let lists : j.version ≡ 2 → listed_at (length h.entries) j.starts ≡ starts_in j.setup h e.what = what_lists j h e.stamp e.what (λ two. subst (λ m. MayList e.what (length (listed_at m j.starts))) (sym place) (may_list two)) both.1 in (
          record { not_before = ltb-false e.stamp (last_stamp h.entries) both.0; stamp_most = fits.stamp_most; granted = what_allowed j h e.stamp e.what fits.what both.1 },
          (λ two. ap (λ m. listed_at m j.starts) (sym place) ∙ lists two),
        )),
    (λ may.
        let free : what_cause j h e.stamp e.what ≡ None = what_free j h e.stamp e.what may.0.granted (λ two. ap (λ m. listed_at m j.starts) place ∙ may.1 two) in
        rw (le-ltb e.stamp (last_stamp h.entries) may.0.not_before) free),
  )

-- ---- journals

-- a cause with its entry's number
abbrev numbered : ℕ → Option IllegalCause → Option (ℕ × IllegalCause)
numbered number cause = option_map (λ c. (number, c)) cause

-- where none of these is the first, there is nothing against any of them
none_of : (j : Journal) (number : ℕ) (es : List Entry) → first_from j number es ≡ None → (i : ℕ) (e : Entry) → slice_get es i ≡ Some e → cause_of j (before j (number + i)) e ≡ None
unfolding first_from
none_of j number [] none i e found = cc
none_of j number (x ∷ es) none zero e found =
    let both = no_first (numbered number (cause_of j (before j number) x)) (first_from j (suc number) es) none in
    let same : x ≡ e = ap (λ o. unwrap_or o e) found in
    subst (λ y. cause_of j (before j (number + 0)) y ≡ None) same (rw add_zero (no_cause (cause_of j (before j number) x) both.0))
  where
    add_zero : number + 0 ≡ number
    add_zero = omega arith

    no_cause : (o : Option IllegalCause) → numbered number o ≡ None → o ≡ None
    no_cause None is = refl
    no_cause (Some c) is = cc
none_of j number (x ∷ es) none (suc i) e found =
    let both = no_first (numbered number (cause_of j (before j number) x)) (first_from j (suc number) es) none in
    let moved : suc number + i ≡ number + suc i = omega arith in
    subst (λ m. cause_of j (before j m) e ≡ None) moved (none_of j (suc number) es both.1 i e found)

-- and where there is nothing against any of them, none is the first
none_from : (j : Journal) (number : ℕ) (es : List Entry) → ((i : ℕ) (e : Entry) → slice_get es i ≡ Some e → cause_of j (before j (number + i)) e ≡ None) → first_from j number es ≡ None
unfolding first_from
none_from j number [] all = refl
none_from j number (x ∷ es) all =
    let add_zero : number + 0 ≡ number = omega arith in
    let here : cause_of j (before j number) x ≡ None = subst (λ m. cause_of j (before j m) x ≡ None) add_zero (all 0 x refl) in
    ap (next j number es) here ∙ none_from j (suc number) es (λ i e found. let moved : number + suc i ≡ suc number + i = omega arith in subst (λ m. cause_of j (before j m) e ≡ None) moved (all (suc i) e found))

pub legal_exact : (entries : HasItsEntries) (j : Journal) → IsWritable j → (first_illegal j ≡ None) ↔ IsLegalJournal j
unfolding first_illegal
legal_exact entries j writable = (
  (λ none.
      let each : (n : ℕ) (e : Entry) → slice_get j.entries n ≡ Some e → Allowed j.setup (before j n) e × ListsItsGames j n e = (λ n e found. (cause_exact entries j n e writable found).0 (at_zero n e (none_of j 0 j.entries none n e found))) in
      record { entries = record { each = λ n e found. (each n e found).0 }; games = λ n e found. (each n e found).1 }),
  (λ legal. none_from j 0 j.entries (λ n e found. from_zero n e ((cause_exact entries j n e writable found).1 (legal.entries.each n e found, legal.games n e found)))),
)
  where
    at_zero : (n : ℕ) (e : Entry) → cause_of j (before j (0 + n)) e ≡ None → cause_of j (before j n) e ≡ None
    at_zero n e is = let same : 0 + n ≡ n = omega arith in subst (λ m. cause_of j (before j m) e ≡ None) same is

    from_zero : (n : ℕ) (e : Entry) → cause_of j (before j n) e ≡ None → cause_of j (before j (0 + n)) e ≡ None
    from_zero n e is = let same : n ≡ 0 + n = omega arith in subst (λ m. cause_of j (before j m) e ≡ None) same is
