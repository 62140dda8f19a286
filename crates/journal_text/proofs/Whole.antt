-- The text of a whole journal is read again as this journal, and what is read has exactly its text.
use Rattle.std.proofs.Common.{◌≡◌, ℕ, ◌+◌, ◌/◌, ◌^◌, ◌<◌, ◌≤◌, true, false, eqb, List, [], ◌∷◌, ◌++◌, length, map, All, Option, Some, None, Result, Ok, Err, refl, sym, ap, subst, ◌∙◌, arith, ◌⊎◌, inl, inr, append_assoc, append-nil}
use Rattle.std.specs.Prelude.{codes}
use Rattle.std.specs.Fmt.{decimal}
use Rattle.std.specs.List.{AllByRecursion, flat_map, join_with_byte, slice_get}
use Rattle.std.proofs.lemmas.Bool.{cases_Bool}
use Rattle.std.proofs.lemmas.List.Elements.{recursion_from_All}
use Rattle.std.proofs.lemmas.List.Splits.{join_with_byte-slice_split}
use Rattle.entries.specs.Names.{IsName}
use Rattle.entries.specs.Ranges.{IsEntryOf, IsWhatOf, IsPlayer, IsTeamOf, IsWritable, MayList, listed_at, IsOfVersionOne, IsOfVersionTwo}
use Rattle.entries.specs.declared.action.Action.{Action}
use Rattle.entries.specs.declared.action.Action.TheVariants as action
use Rattle.entries.specs.declared.setup.Player.{Player}
use Rattle.entries.specs.declared.journal.What.{What}
use Rattle.entries.specs.declared.journal.What.TheVariants as what
use Rattle.entries.specs.declared.journal.Entry.{Entry}
use Rattle.entries.specs.declared.journal.Start.{Start}
use Rattle.entries.specs.declared.journal.Journal.{Journal}
use Rattle.journal_text.specs.declared.head.Place.TheVariants as place
use Rattle.journal_text.specs.declared.head.Head.{Head}
use Rattle.journal_text.specs.Lines.{spaced, line, lines_of, words_of}
use Rattle.journal_text.specs.Text.{version_lines, control_words, window_words, number_words, team_word, team_words, player_words, action_words, what_words, entry_words, pair_word, entry_lines, journal_lines, text_of, Spells}
use Rattle.journal_text.specs.EntryForms.{Recorded}
use Rattle.journal_text.specs.Reading.{Sofar, InHead, InNames, InEntries, Behind, nothing, journal_made, journal_in, run, step}
use Rattle.journal_text.proofs.WordLemmas.{IsWord, IsLine, tested_word, IsWord-decimal, IsWord-name, IsWord-move, IsWord-pair, lines_of-lines}
use Rattle.journal_text.proofs.HeadLines.{IsVersion, One, Two, IsWholeHead, whole_said}
use Rattle.journal_text.proofs.PairLines.{AreGames}
use Rattle.journal_text.proofs.StartLemmas.{Ordered, ordered_from, before, before_all, before_first}
use Rattle.journal_text.proofs.Standing.{said, IsSaid}
use Rattle.journal_text.proofs.Runs.{steps, steps_none, steps_cons, steps_append, steps_take, run_passes, IsRead, run_takes, words_of-lines, flat_words, joined_lines}
use Rattle.journal_text.proofs.Again.{head_again, teams_again, players_again, begin_again, Fits, EachFits, so_many, entries_again, each_in_one, each_in_two}

-- ---- the parts of a journal in range

-- the head of a journal
abbrev pub head_from : Journal → Head
head_from j = record { version = j.version; rule = j.setup.rule; control = j.setup.control; starts = j.setup.starts; ends = j.setup.ends; wave_ms = j.setup.wave_ms; leaders = j.setup.leaders }

-- its version
version_from : (j : Journal) → IsWritable j → IsVersion (head_from j)
version_from j h = of h.version
  where
    of : IsOfVersionOne j ⊎ IsOfVersionTwo j → IsVersion (head_from j)
    of (inl one) = One one.version one.rule
    of (inr two) = Two two.version h.setup.rule_least h.setup.rule_most

-- it is in range
pub head_good : (j : Journal) → IsWritable j → IsWholeHead (head_from j)
head_good j h = record {
  version = version_from j h;
  timed = h.setup.timed;
  opens_before_end = h.setup.opens_before_end;
  ends_most = h.setup.ends_most;
  wave_least = h.setup.wave_least;
  wave_most = h.setup.wave_most;
  leaders_least = h.setup.leaders_least;
  leaders_most = h.setup.leaders_most;
}

-- what its games keep: each entry lists what it may, and they are those before the last entry
pub record AreListed (j : Journal) : Type 0 where
  pub fits : EachFits j.version (length j.setup.players) j.starts 0 j.entries
  pub ordered : Ordered j.starts
  pub whole : before (length j.entries) j.starts ≡ j.starts

-- of a journal in range
pub are_listed : (j : Journal) → IsWritable j → AreListed j
are_listed j h = of h.version
  where
    none : (games : List Start) → games ≡ [] → EachFits j.version (length j.setup.players) [] 0 j.entries → (EachFits j.version (length j.setup.players) games 0 j.entries) × (Ordered games) × (before (length j.entries) games ≡ games)
    none games is fits = subst (λ (gs : List Start). (EachFits j.version (length j.setup.players) gs 0 j.entries) × (Ordered gs) × (before (length j.entries) gs ≡ gs)) (sym is) (fits, tt, refl)

    of : IsOfVersionOne j ⊎ IsOfVersionTwo j → AreListed j
    of (inl one) = let n = none j.starts one.starts (each_in_one j.version (length j.setup.players) 0 j.entries one.version) in record { fits = n.0; ordered = n.1; whole = n.2 }
    of (inr two) = record {
      fits = each_in_two j.version (length j.setup.players) 0 j.starts j.entries two.version h.setup.players_most two.starts.of_players (λ k e at. subst (λ (m : ℕ). MayList e.what (length (listed_at m j.starts))) (omega arith) (two.starts.of_waves k e at));
      ordered = ordered_from j.starts two.starts.in_order;
      whole = before_all (length j.entries) j.starts (recursion_from_All (λ (g : Start). g.entry < length j.entries) j.starts two.starts.of_entries);
    }

-- ---- all its lines are taken

-- the lines one behind the other
regroup : (w t p b e z : List (List (List ℕ))) → ((((w ++ t) ++ p) ++ b) ++ e) ++ z ≡ w ++ (t ++ (p ++ (b ++ (e ++ z))))
regroup w t p b e z = simp append_assoc

-- the lines of a journal in range make it again
pub journal_taken : (j : Journal) → IsWritable j → steps (InHead place.Version nothing) (journal_lines j) ≡ Ok (Behind j)
unfolding step
journal_taken j h =
    let k = head_from j in
    let ts = j.setup.teams in
    let ps = j.setup.players in
    let l = are_listed j h in
    let begin : List (List (List ℕ)) = (codes "begin" ∷ []) ∷ [] in
    let end : List (List (List ℕ)) = (codes "end" ∷ []) ∷ [] in
    let es = entry_lines 0 j.starts j.entries in
    let named : AllByRecursion IsName ts = recursion_from_All IsName ts h.setup.teams_named in
    let good : AllByRecursion (IsPlayer (length ts)) ps = recursion_from_All (IsPlayer (length ts)) ps h.setup.players_good in
    let entries : AllByRecursion (IsEntryOf (length ps)) j.entries = recursion_from_All (IsEntryOf (length ps)) j.entries h.entries in
    let games : so_many j.starts [] 0 ≡ record { entries = []; starts = [] } = ap (λ (gs : List Start). record { entries = []; starts = gs }) (before_first j.starts) in
    let whole : so_many j.starts j.entries (0 + length j.entries) ≡ record { entries = j.entries; starts = j.starts } = ap (λ (n : ℕ). so_many j.starts j.entries n) (omega arith) ∙ ap (λ (gs : List Start). record { entries = j.entries; starts = gs }) l.whole in
    ap (steps (InHead place.Version nothing)) (regroup (whole_said k) (map team_words ts) (map player_words ps) begin es end)
    ∙ steps_append (InHead place.Version nothing) (InNames k [] []) (whole_said k) (map team_words ts ++ (map player_words ps ++ (begin ++ (es ++ end)))) (head_again k (head_good j h))
    ∙ steps_append (InNames k [] []) (InNames k ts []) (map team_words ts) (map player_words ps ++ (begin ++ (es ++ end))) (teams_again k ts [] h.setup.teams_most named h.setup.teams_distinct)
    ∙ steps_append (InNames k ts []) (InNames k ts ps) (map player_words ps) (begin ++ (es ++ end)) (players_again k ts ps [] h.setup.teams_most h.setup.players_most good h.setup.players_distinct)
    ∙ steps_cons (InNames k ts ps) (InEntries k ts ps (record { entries = []; starts = [] })) (codes "begin" ∷ []) (es ++ end) (begin_again k ts ps h.setup.players_least)
    ∙ ap (λ (r : Recorded). steps (InEntries k ts ps r) (es ++ end)) (sym games)
    ∙ steps_append (InEntries k ts ps (so_many j.starts [] 0)) (InEntries k ts ps (so_many j.starts j.entries (0 + length j.entries))) es end (entries_again k ts ps j.starts j.entries [] 0 refl h.setup.players_most (omega (arith, h.entries_most)) entries l.ordered l.fits)
    ∙ ap (λ (r : Recorded). steps (InEntries k ts ps r) end) whole
    ∙ steps_cons (InEntries k ts ps (record { entries = j.entries; starts = j.starts })) (Behind j) (codes "end" ∷ []) [] refl
    ∙ steps_none (Behind j)

-- ---- they are lines of words

-- each of both is, so each of the whole is
all_lines : (a b : List (List (List ℕ))) → AllByRecursion IsLine a → AllByRecursion IsLine b → AllByRecursion IsLine (a ++ b)
all_lines [] b low high = high
all_lines (x ∷ a) b low high = (low.0, all_lines a b low.1 high)

-- a word of both is one of the whole
all_words : (a b : List (List ℕ)) → AllByRecursion IsWord a → AllByRecursion IsWord b → AllByRecursion IsWord (a ++ b)
all_words [] b low high = high
all_words (x ∷ a) b low high = (low.0, all_words a b low.1 high)

-- the version is made of words
version_lines_words : (version rule : ℕ) → rule ≤ 2 → AllByRecursion IsLine (version_lines version rule)
version_lines_words version rule most = of (cases_Bool (eqb version 1))
  where
    of : (eqb version 1 ≡ true) ⊎ (eqb version 1 ≡ false) → AllByRecursion IsLine (version_lines version rule)
    of (inl first) = rw first ((tested_word (codes "arena") refl, (tested_word (codes "1") refl, tt)), tt)
    of (inr second) = rw second ((tested_word (codes "arena") refl, (tested_word (codes "2") refl, tt)), ((tested_word (codes "rule") refl, (IsWord-decimal rule (omega (arith, most)), tt)), tt))

-- a number behind a word
number_is_line : (word : List ℕ) (n : ℕ) → IsWord word → n < 10 ^ 10 → IsLine (number_words word n)
number_is_line word n h small = (h, (IsWord-decimal n small, tt))

-- the head is made of words
head_words : (h : Head) → IsWholeHead h → h.rule ≤ 2 → AllByRecursion IsLine (whole_said h)
head_words h good most = all_lines (version_lines h.version h.rule) (control_words h.control ∷ window_words h.starts h.ends ∷ number_words (codes "wave") h.wave_ms ∷ number_words (codes "leaders") h.leaders ∷ []) (version_lines_words h.version h.rule most) (
  (tested_word (codes "control") refl, (IsWord-decimal (h.control.initial_ms / 1000) (omega (arith, good.timed.initial_most)), (IsWord-decimal (h.control.inc_ms / 1000) (omega (arith, good.timed.increment_most)), (IsWord-decimal h.control.first_ms (omega (arith, good.timed.first_most)), tt)))),
  (
    (tested_word (codes "window") refl, (IsWord-decimal h.starts (omega (arith, good.opens_before_end, good.ends_most)), (IsWord-decimal h.ends (omega (arith, good.ends_most)), tt))),
    (
      number_is_line (codes "wave") h.wave_ms (tested_word (codes "wave") refl) (omega (arith, good.wave_most)),
      (number_is_line (codes "leaders") h.leaders (tested_word (codes "leaders") refl) (omega (arith, good.leaders_most)), tt),
    ),
  ),
)

-- teams are made of words
teams_words : (ts : List (List ℕ)) → AllByRecursion IsName ts → AllByRecursion IsLine (map team_words ts)
teams_words [] each = tt
teams_words (name ∷ ts) each = ((tested_word (codes "team") refl, (IsWord-name name each.0, tt)), teams_words ts each.1)

-- the word of a team, or for none, is a word
team_is_word : (teams : ℕ) (team : Option ℕ) → teams ≤ 100 → IsTeamOf teams team → IsWord (team_word team)
team_is_word teams None few h = tested_word (codes "-") refl
team_is_word teams (Some n) few h = IsWord-decimal n (omega (arith, h))

-- players are made of words
players_words : (teams : ℕ) (ps : List Player) → teams ≤ 100 → AllByRecursion (IsPlayer teams) ps → AllByRecursion IsLine (map player_words ps)
players_words teams [] few each = tt
players_words teams (p ∷ ps) few each = ((tested_word (codes "player") refl, (IsWord-decimal p.rating (omega (arith, each.0.rating_most)), (team_is_word teams p.team few each.0.in_team, (IsWord-name p.name each.0.named, tt)))), players_words teams ps few each.1)

-- an action is made of words
action_is_words : (a : Action) → AllByRecursion IsWord (action_words a)
action_is_words (action.Move m) = (tested_word (codes "move") refl, (IsWord-move m, tt))
action_is_words action.Resign = (tested_word (codes "resign") refl, tt)
action_is_words action.Offer = (tested_word (codes "offer") refl, tt)
action_is_words action.Accept = (tested_word (codes "accept") refl, tt)
action_is_words action.Decline = (tested_word (codes "decline") refl, tt)
action_is_words action.Claim = (tested_word (codes "claim") refl, tt)
action_is_words action.Berserk = (tested_word (codes "berserk") refl, tt)

-- and so is what an entry did
what_is_words : (players : ℕ) (did : What) → players ≤ 1000 → IsWhatOf players did → AllByRecursion IsWord (what_words did)
what_is_words players (what.Enter p) most h = (tested_word (codes "enter") refl, (IsWord-decimal p (omega (arith, h)), tt))
what_is_words players (what.Pause p) most h = (tested_word (codes "pause") refl, (IsWord-decimal p (omega (arith, h)), tt))
what_is_words players (what.Leave p) most h = (tested_word (codes "leave") refl, (IsWord-decimal p (omega (arith, h)), tt))
what_is_words players (what.Act p g a) most h = (tested_word (codes "act") refl, (IsWord-decimal p (omega (arith, h.0)), (IsWord-decimal g (omega (arith, h.1)), action_is_words a)))
what_is_words players what.Tick most h = (tested_word (codes "tick") refl, tt)
what_is_words players (what.Wave n) most h = (tested_word (codes "wave") refl, (IsWord-decimal n (omega (arith, h)), tt))

-- and so are pairs
pairs_words : (players n : ℕ) (games : List Start) → players ≤ 1000 → AreGames players n games → AllByRecursion IsWord (map pair_word games)
pairs_words players n [] most h = tt
pairs_words players n (g ∷ games) most h = (IsWord-pair g (omega (arith, h.0.1)) (omega (arith, h.0.2)), pairs_words players n games most h.1)

-- entries are made of words
entries_words : (version players n : ℕ) (starts : List Start) (es : List Entry) → players ≤ 1000 → AllByRecursion (IsEntryOf players) es → EachFits version players starts n es → AllByRecursion IsLine (entry_lines n starts es)
entries_words version players n starts [] most each fits = tt
entries_words version players n starts (e ∷ es) most each fits = (
  (IsWord-decimal e.stamp (omega (arith, each.0.stamp_most)), (IsWord-decimal e.pass (omega (arith, each.0.pass_most)), all_words (what_words e.what) (map pair_word (listed_at n starts)) (what_is_words players e.what most each.0.what) (pairs_words players n (listed_at n starts) most fits.0.good))),
  entries_words version players (n + 1) starts es most each.1 fits.1,
)

-- the lines of a journal in range are made of words
pub journal_words : (j : Journal) → IsWritable j → AllByRecursion IsLine (journal_lines j)
journal_words j h =
    let ts = j.setup.teams in
    let ps = j.setup.players in
    let one : (key : List ℕ) → IsWord key → AllByRecursion IsLine ((key ∷ []) ∷ []) = λ key word. ((word, tt), tt) in
    all_lines _ ((codes "end" ∷ []) ∷ []) (all_lines _ (entry_lines 0 j.starts j.entries) (all_lines _ ((codes "begin" ∷ []) ∷ []) (all_lines _ (map player_words ps) (all_lines (whole_said (head_from j)) (map team_words ts) (head_words (head_from j) (head_good j h) h.setup.rule_most) (teams_words ts (recursion_from_All IsName ts h.setup.teams_named))) (players_words (length ts) ps h.setup.teams_most (recursion_from_All (IsPlayer (length ts)) ps h.setup.players_good))) (one (codes "begin") (tested_word (codes "begin") refl))) (entries_words j.version (length ps) 0 j.starts j.entries h.setup.players_most (recursion_from_All (IsEntryOf (length ps)) j.entries h.entries) (are_listed j h).fits)) (one (codes "end") (tested_word (codes "end") refl))

-- ---- the whole

-- the parts of a journal's text
pub text_parts : (j : Journal) → IsWritable j → lines_of (text_of j) ≡ map spaced (journal_lines j) ++ [] ∷ []
unfolding text_of
text_parts j h = lines_of-lines (journal_lines j) (journal_words j h)

-- the text of a journal is read again as this journal
pub journal_again : (j : Journal) → IsWritable j → journal_in (text_of j) ≡ Ok j
unfolding journal_in run
journal_again j h =
    let ls = map spaced (journal_lines j) in
    ap (run (InHead place.Version nothing) 1) (text_parts j h)
    ∙ run_passes (InHead place.Version nothing) (Behind j) 1 (1 + length ls) ls [] [] (ap (steps (InHead place.Version nothing)) (words_of-lines (journal_lines j) (journal_words j h)) ∙ journal_taken j h) refl

-- the journal that is read of a text may be written, and has this text
pub journal_takes : (text : List ℕ) (j : Journal) → journal_in text ≡ Ok j → Spells text j
unfolding journal_in text_of said IsSaid
journal_takes text j e =
    let r = run_takes (InHead place.Version nothing) 1 (lines_of text) j e in
    let t = steps_take (InHead place.Version nothing) (Behind j) (map words_of r.lines) refl r.taken in
    let joined : flat_map (λ (l : List ℕ). l ++ 10 ∷ []) r.lines ≡ text = sym (joined_lines r.lines) ∙ ap (join_with_byte 10) (sym r.are) ∙ join_with_byte-slice_split 10 text in
    record { writable = t.1; text = ap (flat_map line) t.0 ∙ flat_words r.lines ∙ joined }
