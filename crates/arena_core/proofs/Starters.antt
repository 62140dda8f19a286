-- Which pairs a wave starts: those of its plan of which both players wait, and that they may.
use Rattle.std.proofs.Common.{◌≡◌, ◌≢◌, ℕ, suc, ◌<◌, ◌≤◌, List, [], ◌∷◌, take, length, Some, None, Bool, true, false, refl, sym, ap, ◌∙◌, subst, arith}
use Rattle.std.specs.Prelude.{cond, map, filter, nat_le, ◌&&◌}
use Rattle.std.specs.List.{All, AllPairs, AllByRecursion}
use Rattle.std.proofs.lemmas.List.Elements.{All-nil, All-cons, All-filter, All-map, All-contains, All-weaker, recursion_from_All}
use Rattle.entries.specs.Limits.{max_stamp}
use Rattle.entries.specs.Ranges.{IsControl, IsGood}
use Rattle.entries.specs.declared.journal.Entry.{Entry}
use Rattle.entries.specs.declared.setup.Control.{Control}
use Rattle.entries.specs.declared.setup.Setup.{Setup}
use Rattle.pair_cost.specs.declared.candidate.Candidate.{Candidate}
use Rattle.pair_cost.specs.declared.candidate.Pair.{Pair}
use Rattle.ranking.specs.declared.row.Row.{Row}
use Rattle.seats.specs.Places.{idle_since}
use Rattle.team_battle.specs.Teams.{IsRowOf}
use Rattle.wave.specs.declared.snapshot.Plan.{Plan}
use Rattle.wave.specs.Plans.{planned_pairs}
use Rattle.wave.specs.Players.{IsOfRows}
use Rattle.arena_games.specs.Beginnings.{MayBegin}
use Rattle.arena_history.specs.Since.{place, since, waits_since}
use Rattle.arena_history.specs.Snapshots.{candidate, candidates, plan}
use Rattle.arena_history.specs.Stands.{idle}
use Rattle.arena_history.specs.Table.{standings}
use Rattle.arena_history.specs.Waves.{started, history}
use Rattle.arena_rules.specs.Commits.{IsPlanOf}
use Rattle.arena_rules.specs.Legal.{IsLegal}
use Rattle.arena_rules.specs.LegalLaws.{BeginningsAreLegal}
use Rattle.arena_rules.specs.RankingLaws.{TablesAreInRange}
use Rattle.arena_core.specs.Below.{LawsOfHistories}
use Rattle.arena_games.specs.Keeps.{KeptFor}
use Rattle.arena_games.specs.KeptGames.{KeptGames}
use Rattle.arena_games.specs.KeptGames as games
use Rattle.arena_history.specs.Games.{begun}
use Rattle.arena_core.specs.Courses.{courses}
use Rattle.arena_core.specs.Kept.{AreKept}
use Rattle.arena_core.specs.People.{KeptPeople, Standing, StandsFor, standing}
use Rattle.arena_core.specs.Starting.{both_wait, header_at, headers_from, is_since, waiting, waits_at}
use Rattle.arena_core.proofs.Placed.{place_kept}

-- what the clauses of the plan of rows say of its pairs
abbrev pub PairsAreOfRows : Type 0
PairsAreOfRows = (rule : ℕ) (rows : List Candidate) → AllPairs (λ (a b : Candidate). a.player ≢ b.player) rows → All (IsOfRows rows) (planned_pairs rule rows)

-- a test of each item that agrees with another where something holds of all
filter_where : {X : Type 0} (P : X → Type 0) (p q : X → Bool) (xs : List X) → AllByRecursion P xs → ((x : X) → P x → p x ≡ q x) → filter p xs ≡ filter q xs
filter_where P p q [] all agree = refl
filter_where P p q (x ∷ xs) all agree = λ i. cond (agree x all.0 i) (x ∷ filter_where P p q xs all.1 agree i) (filter_where P p q xs all.1 agree i)

-- the headers of games whose control and stamp are in range
pub headers_may : (c : Control) (t k : ℕ) (pairs : List Pair) → IsControl c → t ≤ max_stamp → All MayBegin (headers_from c t k pairs)
headers_may c t k [] timed most = All-nil MayBegin
headers_may c t k (x ∷ xs) timed most = All-cons MayBegin (header_at c t k x) (headers_from c t (suc k) xs) (record { timed = timed; stamped = most }) (headers_may c t (suc k) xs timed most)

-- players of the setup
abbrev IsPlayerOf : Setup → ℕ → Type 0
IsPlayerOf s p = p < length s.players

-- the players of a snapshot are players of the setup
pub candidates_are_players : TablesAreInRange → (s : Setup) (es : List Entry) → IsGood s → IsLegal s es → All (IsPlayerOf s) (map (λ (c : Candidate). c.player) (candidates s (history s es)))
unfolding candidates
candidates_are_players range s es good legal =
    let h = history s es in
    let rows : All (λ (r : Row). IsPlayerOf s r.player) (standings s h) = All-weaker (IsRowOf (length s.players)) (λ (r : Row). IsPlayerOf s r.player) (λ r row. row.player) (standings s h) (range s es good legal) in
    let kept = All-filter (λ (r : Row). idle s h r.player) (λ (r : Row). IsPlayerOf s r.player) (standings s h) rows in
    All-map (IsPlayerOf s) (λ (c : Candidate). c.player) (map (candidate s h) (filter (λ (r : Row). idle s h r.player) (standings s h)))
    (All-map (λ (c : Candidate). IsPlayerOf s c.player) (candidate s h) (filter (λ (r : Row). idle s h r.player) (standings s h)) kept)

-- both players of a pair are players of the setup, and they are two
pub record IsPairOf (s : Setup) (x : Pair) : Type 0 where
  pub white : x.white < length s.players
  pub black : x.black < length s.players
  pub two : x.white ≢ x.black

module _ (laws : LawsOfHistories) (range : TablesAreInRange) (beginnings : BeginningsAreLegal) (of_rows : PairsAreOfRows) (s : Setup) (es : List Entry) (good : IsGood s) (legal : IsLegal s es) (p : Plan) (planned : IsPlanOf s es p) where
  -- the players of a plan's pairs
  pub pairs_are_players : AllByRecursion (IsPairOf s) p.pairs
  unfolding plan
  pairs_are_players =
      let h = history s (take p.n es) in
      let rows = candidates s h in
      let players = candidates_are_players range s (take p.n es) good (beginnings s es p.n legal) in
      let pairs : p.pairs ≡ planned_pairs s.rule rows = ap (λ (x : Plan). x.pairs) planned in
      subst (AllByRecursion (IsPairOf s)) (sym pairs) (recursion_from_All (IsPairOf s) (planned_pairs s.rule rows) (All-weaker (IsOfRows rows) (IsPairOf s) (λ x is. record {
        white = All-contains (IsPlayerOf s) (map (λ (c : Candidate). c.player) rows) x.white players is.white;
        black = All-contains (IsPlayerOf s) (map (λ (c : Candidate). c.player) rows) x.black players is.black;
        two = is.two;
      }) (planned_pairs s.rule rows) (of_rows s.rule rows (laws.candidates s h).once)))

  module _ (k : KeptPeople) (kept : StandsFor k s (standing s (history s es))) where
    waits_by : (n q : ℕ) (idles : Bool) (m : ℕ) → is_since n (cond idles (Some m) None) ≡ (idles && nat_le m n)
    waits_by n q true m = refl
    waits_by n q false m = refl

    waits_is : (n q : ℕ) → q < length s.players → waits_at k.places n q ≡ waits_since s (history s es) n q
    unfolding place idle
    waits_is n q lt = ap (λ x. is_since n (idle_since x)) (place_kept laws s (history s es) k kept q lt) ∙ waits_by n q (idle s (history s es) q) (since s (history s es) q)

    -- the pairs that a wave starts are those of which both players wait
    pub waiting_is : p.n ≤ length es → waiting k.places p.n p.pairs ≡ started s (history s es) p.n
    unfolding plan
    waiting_is le =
        filter_where (IsPairOf s) (both_wait k.places p.n) (λ (x : Pair). waits_since s (history s es) p.n x.white && waits_since s (history s es) p.n x.black) p.pairs pairs_are_players (λ x is. λ i. waits_is p.n x.white is.white i && waits_is p.n x.black is.black i)
        ∙ (ap (filter (λ (x : Pair). waits_since s (history s es) p.n x.white && waits_since s (history s es) p.n x.black)) (ap (λ (x : Plan). x.pairs) planned) ∙ sym (laws.by_numbers s es p.n le))

-- what is kept stays kept where only room is made
pub kept_with_room : (s : Setup) (es : List Entry) (g new_g : KeptGames) (k new_k : KeptPeople) → AreKept s es g k → new_g.games ≡ g.games → ((x : Standing) → StandsFor k s x → StandsFor new_k s x) → k.room ≤ new_k.room → AreKept s es new_g new_k
kept_with_room s es g new_g k new_k kept same stands more = record {
  games = subst (λ l. Rattle.std.specs.List.AllZip KeptFor l (courses s (history s es))) (sym same) kept.games;
  people = stands (standing s (history s es)) kept.people;
  room = (let before : length (history s es).starts ≤ k.room = kept.room in omega arith);
}

-- what is kept of an empty journal
pub new_kept : (s now : Setup) (es : List Entry) (g : KeptGames) (k : KeptPeople) → now ≡ s → es ≡ [] → games.StandsFor g [] → StandsFor k s (standing s (history s [])) → AreKept now es g k
unfolding courses begun history
new_kept s now es g k same empty games people = subst (λ (x : Setup × List Entry). AreKept x.0 x.1 g k) (λ i. (sym same i, sym empty i)) (record { games = games; people = people; room = (omega arith) })
