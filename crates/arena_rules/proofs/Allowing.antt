-- Which entries are allowed: those of commands that are not refused, and those of waves that a commit makes.
use Rattle.std.proofs.Common.{◌≡◌, ℕ, ◌+◌, ◌<◌, ◌≤◌, ◌≢◌, ⊎_elim, List, [], ◌∷◌, ◌++◌, length, Some, None, Bool, true, false, refl, sym, ◌∙◌, subst}
use Rattle.std.specs.Prelude.{cond, nat_le, nat_lt, ◌==◌, ◌||◌, ◌↔◌, Result, Ok, Err}
use Rattle.std.proofs.lemmas.Bool.{cases_lt, cases_eq, le-leb, lt-leb, lt-ltb, le-ltb, eq-eqb, ne_eqb}
use Rattle.std.proofs.lemmas.List.{nil_from_length}
use Rattle.entries.specs.declared.setup.Setup.{Setup}
use Rattle.entries.specs.declared.journal.Entry.{Entry}
use Rattle.entries.specs.Limits.{max_stamp, max_entries, max_games}
use Rattle.pair_cost.specs.declared.candidate.Pair.{Pair}
use Rattle.arena_history.specs.History.{History}
use Rattle.arena_history.specs.Stamps.{last_stamp, stamp_of}
use Rattle.arena_history.specs.Waves.{started, history}
use Rattle.arena_rules.specs.Below.{LawsOfHistories}
use Rattle.arena_rules.specs.declared.command.Command.{Command}
use Rattle.arena_rules.specs.declared.command.Command.TheVariants.{Enter, Pause, Leave, Act, Tick}
use Rattle.arena_rules.specs.declared.commit_fault.CommitFault.{CommitFault}
use Rattle.arena_rules.specs.declared.commit_fault.CommitFault.TheVariants as fault
use Rattle.arena_rules.specs.Commands.{IsCommandOf, CanBeNamed, what_of, entry_of}
use Rattle.arena_rules.specs.Commits.{wave_refusal, commit_refusal, wave_entry, with_wave, Commits}
use Rattle.arena_rules.specs.Legal.{AllowsWave, AllowsWhat, Allowed, IsLegal}
use Rattle.arena_rules.specs.Verdicts.{verdict}
use Rattle.arena_rules.proofs.Legality.{legal_push, legal_from_push}
use Rattle.arena_rules.proofs.Stamps.{stamp_of-legal}

module _ (known : LawsOfHistories) where
  granted : (s : Setup) (h : History) (t : ℕ) (c : Command) → IsCommandOf (length s.players) c → CanBeNamed c → verdict s h t c ≡ None → AllowsWhat s h t (what_of c)
  granted s h t (Enter p) player named may = record { in_range = player; named = tt; not_refused = may }
  granted s h t (Pause p) player named may = record { in_range = player; named = tt; not_refused = may }
  granted s h t (Leave p) player named may = record { in_range = player; named = tt; not_refused = may }
  granted s h t (Act p number a) player named may = record { in_range = player; named = named; not_refused = may }
  granted s h t Tick player named may = record { in_range = tt; named = tt; not_refused = may }

  not_refused : (s : Setup) (h : History) (t : ℕ) (c : Command) → AllowsWhat s h t (what_of c) → verdict s h t c ≡ None
  not_refused s h t (Enter p) granted = granted.not_refused
  not_refused s h t (Pause p) granted = granted.not_refused
  not_refused s h t (Leave p) granted = granted.not_refused
  not_refused s h t (Act p number a) granted = granted.not_refused
  not_refused s h t Tick granted = granted.not_refused

  -- the entry of a player's command is allowed exactly where the command is not refused
  pub allowed_if_not_refused : (s : Setup) (es : List Entry) (t pass : ℕ) (c : Command) → last_stamp es ≤ t → t ≤ max_stamp → IsCommandOf (length s.players) c → CanBeNamed c → Allowed s (history s es) (entry_of t pass c) ↔ (verdict s (history s es) t c ≡ None)
  allowed_if_not_refused s es t pass c last most player named = (
    (λ allowed. not_refused s (history s es) t c allowed.granted),
    (λ may. record { not_before = rw (known.entries s es) last; stamp_most = most; granted = granted s (history s es) t c player named may }),
  )

  -- the same of what is done at a moment
  pub legal_if_not_refused : (s : Setup) (es : List Entry) (now pass : ℕ) (c : Command) → IsLegal s es → IsCommandOf (length s.players) c → CanBeNamed c → IsLegal s (es ++ entry_of (stamp_of es now) pass c ∷ []) ↔ (verdict s (history s es) (stamp_of es now) c ≡ None)
  legal_if_not_refused s es now pass c legal player named =
      let t = stamp_of es now in
      let fits = stamp_of-legal known s es now legal in
      let both = allowed_if_not_refused s es t pass c fits.0 fits.1 player named in (
        (λ all. both.0 (legal_from_push s es (entry_of t pass c) all).1),
        (λ may. legal_push s es (entry_of t pass c) legal (both.1 may)),
      )

  -- a wave is not refused exactly where it comes in its time and there is room for what it begins

  -- what a wave that is not refused and begins a game finds
  record FindsRoom (s : Setup) (h : History) (t count : ℕ) : Type 0 where
    opened : s.starts ≤ t
    before_end : t < s.ends
    entry_room : length h.entries < max_entries
    games_room : length h.starts + count ≤ max_games

  room_found : (full many : Bool) → cond (full || many) (Some fault.Full) None ≡ None → (full ≡ false) × (many ≡ false)
  room_found true many none = cc
  room_found false true none = cc
  room_found false false none = (refl, refl)

  wave_not_refused : (s : Setup) (h : History) (t count : ℕ) → count ≢ 0 → wave_refusal s h t count ≡ None → FindsRoom s h t count
  wave_not_refused s h t count some none =
      ⊎_elim
      (λ (early : t < s.starts). let never : Some fault.Early ≡ None = rw (lt-ltb t s.starts early) at none in cc)
      (λ (opened : s.starts ≤ t).
      ⊎_elim
      (λ (before : t < s.ends).
      let counted : (count == 0) ≡ false = ne_eqb count 0 some in
      let room : cond (nat_le max_entries (length h.entries) || nat_lt max_games (length h.starts + count)) (Some fault.Full) None ≡ None =
      rw (le-ltb t s.starts opened, lt-leb s.ends t before, counted) at none in
      let both = room_found (nat_le max_entries (length h.entries)) (nat_lt max_games (length h.starts + count)) room in
      record {
        opened = opened;
        before_end = before;
        entry_room = Rattle.std.proofs.lemmas.Bool.leb-false max_entries (length h.entries) both.0;
        games_room = Rattle.std.proofs.lemmas.Bool.ltb-false max_games (length h.starts + count) both.1;
      })
      (λ (closed : s.ends ≤ t). let never : Some fault.Closed ≡ None = rw (le-ltb t s.starts opened, le-leb s.ends t closed) at none in cc)
      (cases_lt t s.ends))
      (cases_lt t s.starts)

  wave_finds : (s : Setup) (h : History) (t count : ℕ) → FindsRoom s h t count → wave_refusal s h t count ≡ None
  wave_finds s h t count finds =
      rw (le-ltb t s.starts finds.opened, lt-leb s.ends t finds.before_end)
      (⊎_elim
      (λ (none : count ≡ 0). rw (eq-eqb count 0 none) refl)
      (λ (some : count ≡ 0 → ⊥). rw (ne_eqb count 0 some, lt-leb max_entries (length h.entries) finds.entry_room, le-ltb max_games (length h.starts + count) finds.games_room) refl)
      (cases_eq count 0))

  -- a wave of the plan of the first n entries is allowed exactly where so many are there, its commit is not refused and there is a
  -- pair to start
  pub wave_allowed : (s : Setup) (h : History) (t n : ℕ) → AllowsWave s h t n ↔ ((n ≤ length h.entries) × (commit_refusal s h t n ≡ None) × (started s h n ≢ []))
  unfolding commit_refusal
  wave_allowed s h t n = (
    (λ allowed. (allowed.known, wave_finds s h t (length (started s h n)) (record { opened = allowed.opened; before_end = allowed.before_end; entry_room = allowed.entry_room; games_room = allowed.games_room }), allowed.begins)),
    (λ may.
        let finds = wave_not_refused s h t (length (started s h n)) (λ none. may.2 (nil_from_length (started s h n) none)) may.1 in
        record { known = may.0; opened = finds.opened; before_end = finds.before_end; begins = may.2; entry_room = finds.entry_room; games_room = finds.games_room }),
  )

  -- the same of what is done at a moment
  pub legal_wave : (s : Setup) (es : List Entry) (now pass n : ℕ) → IsLegal s es → n ≤ length es → IsLegal s (es ++ wave_entry (stamp_of es now) pass n ∷ []) ↔ ((commit_refusal s (history s es) (stamp_of es now) n ≡ None) × (started s (history s es) n ≢ []))
  legal_wave s es now pass n legal few =
      let t = stamp_of es now in
      let h = history s es in
      let fits = stamp_of-legal known s es now legal in
      let both = wave_allowed s h t n in
      let within : n ≤ length h.entries = rw (known.entries s es) few in (
        (λ all.
            let allowed : AllowsWave s h t n = (legal_from_push s es (wave_entry t pass n) all).1.granted in
            let may = both.0 allowed in
            (may.1, may.2)),
        (λ may. legal_push s es (wave_entry t pass n) legal (record { not_before = rw (known.entries s es) fits.0; stamp_most = fits.1; granted = both.1 (within, may.0, may.1) })),
      )

  legal_with_wave : (s : Setup) (es : List Entry) (now pass n : ℕ) (pairs : List Pair) → IsLegal s es → n ≤ length es → commit_refusal s (history s es) (stamp_of es now) n ≡ None → started s (history s es) n ≡ pairs → IsLegal s (with_wave es (wave_entry (stamp_of es now) pass n) pairs)
  legal_with_wave s es now pass n [] legal few may is = legal
  legal_with_wave s es now pass n (x ∷ pairs) legal few may is = (legal_wave s es now pass n legal few).1 (may, (λ none. let never : x ∷ pairs ≡ [] = sym is ∙ none in cc))

  -- what a commit leaves is legal
  pub commit_legal : (s : Setup) (old new : List Entry) (pass now n : ℕ) (result : Result ℕ CommitFault) → IsLegal s old → n ≤ length old → Commits s old pass now n new result → IsLegal s new
  commit_legal s old new pass now n (Ok count) legal few done = subst (IsLegal s) (sym done.entries) (legal_with_wave s old now pass n (started s (history s old) n) legal few done.not_refused refl)
  commit_legal s old new pass now n (Err fault.Early) legal few done = subst (IsLegal s) (sym done.1) legal
  commit_legal s old new pass now n (Err fault.Closed) legal few done = subst (IsLegal s) (sym done.1) legal
  commit_legal s old new pass now n (Err fault.Full) legal few done = subst (IsLegal s) (sym done.1) legal
  commit_legal s old new pass now n (Err fault.OutOfMemory) legal few done = subst (IsLegal s) (sym done.2) legal
