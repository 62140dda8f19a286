-- What is kept once a wave came.
use Rattle.std.proofs.Common.{◌≡◌, ◌≢◌, ℕ, suc, ◌+◌, ◌<◌, ◌≤◌, List, [], ◌∷◌, ◌++◌, take, length, Some, true, refl, sym, ap, ◌∙◌, subst, arith}
use Rattle.std.specs.Prelude.{map, slice_get}
use Rattle.std.specs.List.{All, AllPairs}
use Rattle.std.specs.Option.{option_map_or}
use Rattle.std.proofs.lemmas.List.{length-map, length-append, append-nil}
use Rattle.std.proofs.lemmas.List.Elements.{All-weaker, All-push, All-contains}
use Rattle.std.proofs.lemmas.List.Kept.{AllPairs-filter}
use Rattle.entries.specs.Limits.{max_games}
use Rattle.entries.specs.Ranges.{IsGood}
use Rattle.entries.specs.declared.journal.Entry.{Entry}
use Rattle.entries.specs.declared.setup.Setup.{Setup}
use Rattle.game_room.specs.declared.header.Header.{Header}
use Rattle.pair_cost.specs.declared.candidate.Candidate.{Candidate}
use Rattle.pair_cost.specs.declared.candidate.Pair.{Pair}
use Rattle.wave.specs.declared.snapshot.Plan.{Plan}
use Rattle.wave.specs.Plans.{planned_pairs, planned_alone}
use Rattle.wave.specs.Players.{HasPlayer, IsApart}
use Rattle.arena_games.specs.Courses as course
use Rattle.arena_games.specs.KeptGames as games
use Rattle.arena_history.specs.Games.{Begun, games_from, stamp_at}
use Rattle.arena_history.specs.GameLaws.{games_begun_by}
use Rattle.arena_history.specs.History.{LeftAlone}
use Rattle.arena_history.specs.Snapshots.{candidates, plan}
use Rattle.arena_history.specs.Waves.{start_of, starts_by, started, plan_at, history}
use Rattle.arena_rules.specs.Commits.{IsPlanOf, wave_entry}
use Rattle.arena_rules.specs.Legal.{IsLegal}
use Rattle.arena_rules.specs.LegalLaws.{BeginningsAreLegal}
use Rattle.arena_rules.specs.RankingLaws.{TablesAreInRange}
use Rattle.arena_players.specs.Laws.{WavesHaveEntries}
use Rattle.arena_core.specs.Below.{LawsOfHistories}
use Rattle.arena_core.specs.Courses.{courses, with_entry}
use Rattle.arena_core.specs.Kept.{AreKept}
use Rattle.arena_core.specs.People.{KeptPeople, Standing, StandsFor, standing, with_starts, with_alone}
use Rattle.arena_core.specs.Starting.{AreHeaders, MaySit, both_wait, headers_from, start_at, waiting}
use Rattle.arena_core.proofs.Books.{starts_more}
use Rattle.arena_core.proofs.Followed.{courses_more}
use Rattle.arena_core.proofs.Maps.{all_at, all_filter, map_same, item_behind}
use Rattle.arena_core.proofs.Seating.{passes, starts_of_headers, header_of_pair, may_sit}
use Rattle.arena_core.proofs.Starters.{IsPairOf, PairsAreOfRows, candidates_are_players, pairs_are_players, waiting_is}
use Rattle.arena_core.proofs.Steps.{standing_waved}

-- the games of a wave have these headers
module _ (s : Setup) (es : List Entry) (t pass n : ℕ) where
  started_at : stamp_at (es ++ wave_entry t pass n ∷ []) (length es) ≡ t
  started_at = ap (λ o. option_map_or (λ (e : Entry). e.stamp) o 0) (item_behind es (wave_entry t pass n))

  headers_begun : (k : ℕ) (xs : List Pair) → map (λ (g : Begun). course.begun g.header) (games_from s (es ++ wave_entry t pass n ∷ []) k (map (start_of (length es)) xs)) ≡ map course.begun (headers_from s.control t k xs)
  headers_begun k [] = refl
  headers_begun k (x ∷ xs) = λ i. course.begun (record { id = k; white = x.white; black = x.black; control = s.control; start = started_at i }) ∷ headers_begun (suc k) xs i

module _ (laws : LawsOfHistories) (s : Setup) (es : List Entry) where
  wave_starts : (t pass n : ℕ) → starts_by s (history s es) (wave_entry t pass n) ≡ map (start_of (length es)) (started s (history s es) n)
  unfolding starts_by
  wave_starts t pass n = ap (λ l. map (start_of (length l)) (started s (history s es) n)) (laws.entries s es)

  -- the games that a wave begins are those of its headers
  pub starts_are : (t pass n : ℕ) (headers : List Header) → AreHeaders s es t n headers → map (start_at (length es)) headers ≡ starts_by s (history s es) (wave_entry t pass n)
  starts_are t pass n headers is = ap (map (start_at (length es))) is ∙ (starts_of_headers (length es) s.control t (length (history s es).starts) (started s (history s es) n) ∙ sym (wave_starts t pass n))

  courses_waved : (t pass n : ℕ) (headers : List Header) → AreHeaders s es t n headers → courses s (history s (es ++ wave_entry t pass n ∷ [])) ≡ courses s (history s es) ++ map course.begun headers
  courses_waved t pass n headers is =
      let e = wave_entry t pass n in
      let h = history s es in
      let new : map (λ (g : Begun). course.begun g.header) (games_begun_by s es e) ≡ map course.begun headers =
      ap (λ l. map (λ (g : Begun). course.begun g.header) (games_from s (es ++ e ∷ []) (length h.starts) l)) (wave_starts t pass n) ∙ (headers_begun s es t pass n (length h.starts) (started s h n) ∙ ap (map course.begun) (sym is)) in
      let same : (c : course.Course) → with_entry e c ≡ c = λ c. λ i. record { header = c.header; events = append-nil c.events i } in
      courses_more laws s es e ∙ (λ i. map_same (with_entry e) (courses s h) same i ++ new i)

  -- what is kept once the games of a wave began
  pub kept_waved : (t pass n : ℕ) (headers : List Header) (alone : List ℕ) (g : games.KeptGames) (k : KeptPeople) → AreHeaders s es t n headers → alone ≡ (plan_at s (history s es) n).alone → games.StandsFor g (courses s (history s es) ++ map course.begun headers) → StandsFor k s (with_starts (map (start_at (length es)) headers) (with_alone (record { entry = length es; players = alone }) (standing s (history s es)))) → length (history s es).starts + length headers ≤ k.room → AreKept s (es ++ wave_entry t pass n ∷ []) g k
  kept_waved t pass n headers alone g k is left stands people room =
      let e = wave_entry t pass n in
      let h = history s es in
      let begun : length (history s (es ++ e ∷ [])).starts ≡ length (h.starts ++ map (start_at (length es)) headers) = ap length (starts_more laws s es e ∙ ap (λ l. h.starts ++ l) (sym (starts_are t pass n headers is))) in
      record {
        games = subst (games.StandsFor g) (sym (courses_waved t pass n headers is)) stands;
        people = subst (StandsFor k s) ((λ i. with_starts (starts_are t pass n headers is i) (with_alone (record { entry = length es; players = left i }) (standing s h))) ∙ sym (standing_waved laws s es t pass n)) people;
        room = omega (arith, begun, length-append h.starts (map (start_at (length es)) headers), length-map headers (start_at (length es)), room);
      }

-- what the plan of rows says of those whom it leaves alone
abbrev pub AloneAreOfRows : Type 0
AloneAreOfRows = (rule : ℕ) (rows : List Candidate) → AllPairs (λ (a b : Candidate). a.player ≢ b.player) rows → All (HasPlayer rows) (planned_alone rule rows)

abbrev pub AloneDiffer : Type 0
AloneDiffer = (rule : ℕ) (rows : List Candidate) → AllPairs (λ (a b : Candidate). a.player ≢ b.player) rows → AllPairs (λ a b. a ≢ b) (planned_alone rule rows)

abbrev pub PairsAreApart : Type 0
PairsAreApart = (rule : ℕ) (rows : List Candidate) → AllPairs (λ (a b : Candidate). a.player ≢ b.player) rows → AllPairs IsApart (planned_pairs rule rows)

module _ (laws : LawsOfHistories) (s : Setup) (es : List Entry) (p : Plan) (planned : IsPlanOf s es p) where
  -- whom the plan leaves alone
  pub alone_is : p.alone ≡ (plan_at s (history s es) p.n).alone
  alone_is = ap (λ (x : Plan). x.alone) planned ∙ ap (λ h. (plan s h).alone) (sym (laws.beginnings s es p.n))

  pub alone_differ : AloneDiffer → AllPairs (λ a b. a ≢ b) p.alone
  unfolding plan
  alone_differ law = subst (AllPairs (λ a b. a ≢ b)) (sym (ap (λ (x : Plan). x.alone) planned)) (law s.rule (candidates s (history s (take p.n es))) (laws.candidates s (history s (take p.n es))).once)

  pub pairs_apart : PairsAreApart → AllPairs IsApart p.pairs
  unfolding plan
  pairs_apart law = subst (AllPairs IsApart) (sym (ap (λ (x : Plan). x.pairs) planned)) (law s.rule (candidates s (history s (take p.n es))) (laws.candidates s (history s (take p.n es))).once)

  pub alone_are_players : TablesAreInRange → BeginningsAreLegal → AloneAreOfRows → IsGood s → IsLegal s es → All (λ q. q < length s.players) p.alone
  unfolding plan
  alone_are_players range beginnings law good legal =
      let h = history s (take p.n es) in
      let rows = candidates s h in
      let players = candidates_are_players range s (take p.n es) good (beginnings s es p.n legal) in
      subst (All (λ q. q < length s.players)) (sym (ap (λ (x : Plan). x.alone) planned)) (All-weaker (HasPlayer rows) (λ q. q < length s.players) (λ q is. All-contains (λ r. r < length s.players) (map (λ (c : Candidate). c.player) rows) q players is) (planned_alone s.rule rows) (law s.rule rows (laws.candidates s h).once))

-- entries of those whom waves left alone
pub lefts_before : WavesHaveEntries → (s : Setup) (es : List Entry) (alone : List ℕ) → All (λ (y : LeftAlone). y.entry ≤ length es) ((history s es).lefts ++ record { entry = length es; players = alone } ∷ [])
lefts_before law s es alone = All-push (λ (y : LeftAlone). y.entry ≤ length es) (history s es).lefts (record { entry = length es; players = alone }) (All-weaker (λ (y : LeftAlone). y.entry < length es) (λ (y : LeftAlone). y.entry ≤ length es) (λ y lt. let within : y.entry < length es = lt in omega arith) (history s es).lefts (law s es)) (let same : length es ≤ length es = omega arith in same)

module _ (laws : LawsOfHistories) (range : TablesAreInRange) (beginnings : BeginningsAreLegal) (of_rows : PairsAreOfRows) (apart : PairsAreApart) (s : Setup) (es : List Entry) (good : IsGood s) (legal : IsLegal s es) (p : Plan) (planned : IsPlanOf s es p) (k : KeptPeople) (kept : StandsFor k s (standing s (history s es))) (le : p.n ≤ length es) (room : length (history s es).starts + length (started s (history s es) p.n) ≤ max_games) where
  -- the next game of a wave may begin, with the number that it has
  pub next_sits : (t : ℕ) (headers : List Header) → AreHeaders s es t p.n headers → (i : ℕ) (g : Header) → slice_get headers i ≡ Some g → (alone : List ℕ) (now : KeptPeople) → StandsFor now s (with_starts (take i (map (start_at (length es)) headers)) (with_alone (record { entry = length es; players = alone }) (standing s (history s es)))) → MaySit now g.white g.black × (g.id ≡ length (history s es).starts + i)
  next_sits t headers is i g at alone now stands =
      let h = history s es in
      let xs = waiting k.places p.n p.pairs in
      let all : xs ≡ started s h p.n = waiting_is laws range beginnings of_rows s es good legal p planned k kept le in
      let found = header_of_pair s.control t (length h.starts) (started s h p.n) i g (ap (λ l. slice_get l i) (sym is) ∙ at) in
      let x = found.0 in
      let there : slice_get xs i ≡ Some x = ap (λ l. slice_get l i) all ∙ found.1 in
      let waits : both_wait k.places p.n x ≡ true = passes (both_wait k.places p.n) p.pairs i x there in
      let pair : IsPairOf s x = all_at (IsPairOf s) xs i x (all_filter (IsPairOf s) (both_wait k.places p.n) p.pairs (pairs_are_players laws range beginnings of_rows s es good legal p planned)) there in
      let games : map (start_at (length es)) headers ≡ map (start_of (length es)) xs = ap (map (start_at (length es))) is ∙ (starts_of_headers (length es) s.control t (length h.starts) (started s h p.n) ∙ ap (map (start_of (length es))) (sym all)) in
      let before : Standing = with_alone (record { entry = length es; players = alone }) (standing s h) in
      let sits = may_sit (length es) (length h.starts) p.n k.places xs (AllPairs-filter IsApart (both_wait k.places p.n) p.pairs (pairs_apart laws s es p planned apart)) i x there s before now (sym kept.places) refl waits pair.two (omega (arith, room, ap length all)) (subst (λ l. StandsFor now s (with_starts (take i l) before)) games stands) in
      (subst (λ (q : ℕ × ℕ). MaySit now q.0 q.1) (λ j. (sym found.3 j, sym found.4 j)) sits, found.2)
