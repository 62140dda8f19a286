-- What one entry more does to the games: which were begun, their events, how they ended, which run.
use Rattle.std.proofs.Common.{◌≡◌, ℕ, zero, suc, ◌+◌, ◌<◌, ◌≤◌, List, [], ◌∷◌, ◌++◌, drop, length, Option, Some, None, true, false, refl, sym, ap, ◌∙◌, arith, length-append}
use Rattle.std.specs.Prelude.{filter, fold, slice_get, is_none}
use Rattle.std.specs.List.{filter_map}
use Rattle.std.specs.Option.{option_map_or}
use Rattle.std.proofs.lemmas.List.{drop-append-le, drop_all}
use Rattle.std.proofs.lemmas.List.Elements.{filter-append, filter_map-append}
use Rattle.std.proofs.lemmas.List.Sums.{fold-append}
use Rattle.entries.specs.declared.setup.Setup.{Setup}
use Rattle.entries.specs.declared.journal.Entry.{Entry}
use Rattle.entries.specs.declared.journal.Start.{Start}
use Rattle.game_room.specs.declared.header.Header.{Header}
use Rattle.game_room.specs.declared.outcome.Outcome.{Outcome}
use Rattle.game_room.specs.Events.{Event}
use Rattle.game_room.specs.Games as room
use Rattle.arena_history.specs.History.{History, with_entry}
use Rattle.arena_history.specs.Games.{Begun, game_of, games_from, begun, event_of, events, outcome_of, goes_on, running}
use Rattle.arena_history.specs.Waves.{starts_by, after}
use Rattle.arena_history.proofs.Histories.{AllBelow, AllFrom, IsWhole, start_entry, starts_by_from}
use Rattle.arena_history.proofs.Lists.{slice_get-append_left, all_weaker, filter_same, filter_all, filter-filter}

-- the games

games_from-append : (s : Setup) (es : List Entry) (k : ℕ) (xs ys : List Start) → games_from s es k (xs ++ ys) ≡ games_from s es k xs ++ games_from s es (k + length xs) ys
games_from-append s es k [] ys = ap (λ n. games_from s es n ys) (omega arith)
games_from-append s es k (x ∷ xs) ys =
    ap (λ l. game_of s es k x ∷ l) (games_from-append s es (suc k) xs ys ∙ ap (λ n. games_from s es (suc k) xs ++ games_from s es n ys) (omega arith))

-- entries behind do not change the games of those before
games_from-entries : (s : Setup) (es more : List Entry) (k : ℕ) (xs : List Start) → AllBelow start_entry (length es) xs → games_from s (es ++ more) k xs ≡ games_from s es k xs
games_from-entries s es more k [] all = refl
games_from-entries s es more k (x ∷ xs) all =
    λ i. record {
      entry = x.entry;
      header = record { id = k; white = x.white; black = x.black; control = s.control; start = option_map_or (λ (e : Entry). e.stamp) (slice_get-append_left es more x.entry all.0 i) 0 };
    } ∷ games_from-entries s es more (suc k) xs all.1 i

-- the games that an entry begins
abbrev pub new_games : Setup → History → Entry → List Begun
new_games s h e = games_from s (h.entries ++ e ∷ []) (length h.starts) (starts_by s h e)

pub begun-after : (s : Setup) (h : History) (e : Entry) → IsWhole h → begun s (after s h e) ≡ begun s h ++ new_games s h e
unfolding begun after
begun-after s h e whole =
    games_from-append s (h.entries ++ e ∷ []) 0 h.starts (starts_by s h e) ∙ (λ i. games_from-entries s h.entries (e ∷ []) 0 h.starts whole.starts i ++ games_from s (h.entries ++ e ∷ []) (let n : 0 + length h.starts ≡ length h.starts = omega arith in n i) (starts_by s h e))

-- a game belongs to the entry that began it
abbrev pub game_entry : Begun → ℕ
game_entry g = g.entry

games_below : (s : Setup) (es : List Entry) (n k : ℕ) (xs : List Start) → AllBelow start_entry n xs → AllBelow game_entry n (games_from s es k xs)
games_below s es n k [] all = tt
games_below s es n k (x ∷ xs) all = (all.0, games_below s es n (suc k) xs all.1)

-- each game was begun by an entry of the history
pub begun_own : (s : Setup) (h : History) → IsWhole h → AllBelow game_entry (length h.entries) (begun s h)
unfolding begun
begun_own s h whole = games_below s h.entries (length h.entries) 0 h.starts whole.starts

games_above : (s : Setup) (es : List Entry) (n k : ℕ) (xs : List Start) → AllFrom start_entry n xs → AllFrom game_entry n (games_from s es k xs)
games_above s es n k [] all = tt
games_above s es n k (x ∷ xs) all = (all.0, games_above s es n (suc k) xs all.1)

pub new_games_from : (s : Setup) (h : History) (e : Entry) → AllFrom game_entry (length h.entries) (new_games s h e)
new_games_from s h e = games_above s (h.entries ++ e ∷ []) (length h.entries) (length h.starts) (starts_by s h e) (starts_by_from s h e)

pub length-games_from : (s : Setup) (es : List Entry) (k : ℕ) (xs : List Start) → length (games_from s es k xs) ≡ length xs
length-games_from s es k [] = refl
length-games_from s es k (x ∷ xs) = ap suc (length-games_from s es (suc k) xs)

-- as many games were begun as there are starts
pub length-begun : (s : Setup) (h : History) → length (begun s h) ≡ length h.starts
unfolding begun
length-begun s h = length-games_from s h.entries 0 h.starts

number_in : (s : Setup) (es : List Entry) (k i : ℕ) (xs : List Start) (g : Begun) → slice_get (games_from s es k xs) i ≡ Some g → g.header.id ≡ k + i
number_in s es k i [] g at = cc
number_in s es k zero (x ∷ xs) g at = let same : game_of s es k x ≡ g = cc in ap (λ (y : Begun). y.header.id) (sym same) ∙ omega arith
number_in s es k (suc i) (x ∷ xs) g at = number_in s es (suc k) i xs g at ∙ omega arith

-- a game's number is its place
pub number_at : (s : Setup) (h : History) (i : ℕ) (g : Begun) → slice_get (begun s h) i ≡ Some g → g.header.id ≡ i
unfolding begun
number_at s h i g at = number_in s h.entries 0 i h.starts g at ∙ omega arith

-- the events of one game

-- what an entry is to a game: no event or one
abbrev pub events_in : Begun → Entry → List Event
events_in g e = filter_map (event_of g.header) (e ∷ [])

pub events-with : (h : History) (e : Entry) (g : Begun) → g.entry < length h.entries → events (with_entry h e) g ≡ events h g ++ events_in g e
unfolding events
events-with h e g lt = ap (filter_map (event_of g.header)) (drop-append-le (g.entry + 1) h.entries (e ∷ []) (omega arith)) ∙ filter_map-append (event_of g.header) (drop (g.entry + 1) h.entries) (e ∷ [])

pub events-after : (s : Setup) (h : History) (e : Entry) (g : Begun) → events (after s h e) g ≡ events (with_entry h e) g
unfolding events after
events-after s h e g = refl

-- nothing has happened in a game that has just begun
pub events_new : (h : History) (e : Entry) (g : Begun) → length h.entries ≤ g.entry → events (with_entry h e) g ≡ []
unfolding events
events_new h e g le = ap (filter_map (event_of g.header)) (drop_all (g.entry + 1) (h.entries ++ e ∷ []) (omega (arith, length-append h.entries (e ∷ []))))

-- how games ended

-- what a game comes to is one of the entries alone
pub outcome-after : (s : Setup) (h : History) (e : Entry) (g : Begun) → outcome_of (after s h e) g ≡ outcome_of (with_entry h e) g
unfolding outcome_of
outcome-after s h e g = ap (room.outcome g.header) (events-after s h e g)

ended_step : (h : Header) (g : room.Game) (e : Event) (o : Outcome) → g.outcome ≡ Some o → room.after_event h g e ≡ g
unfolding room.after_event
ended_step h g e o is = rw is refl

ended_fold : (h : Header) (g : room.Game) (es : List Event) (o : Outcome) → g.outcome ≡ Some o → fold (room.after_event h) g es ≡ g
ended_fold h g [] o is = refl
ended_fold h g (e ∷ es) o is = ap (λ x. fold (room.after_event h) x es) (ended_step h g e o is) ∙ ended_fold h g es o is

outcome_ended : (h : Header) (es more : List Event) (o : Outcome) → room.outcome h es ≡ Some o → room.outcome h (es ++ more) ≡ Some o
unfolding room.outcome room.game
outcome_ended h es more o is =
    ap (λ (g : room.Game). g.outcome) (fold-append (room.after_event h) room.new_game es more ∙ ended_fold h (fold (room.after_event h) room.new_game es) more o is) ∙ is

-- an ended game stays as it is
pub outcome_stays : (h : History) (e : Entry) (g : Begun) (o : Outcome) → g.entry < length h.entries → outcome_of h g ≡ Some o → outcome_of (with_entry h e) g ≡ Some o
unfolding outcome_of
outcome_stays h e g o lt is = ap (room.outcome g.header) (events-with h e g lt) ∙ outcome_ended g.header (events h g) (events_in g e) o is

new_goes_on : (h : Header) → room.outcome h [] ≡ None
unfolding room.outcome room.game
new_goes_on h = refl

-- a game that has just begun goes on
pub outcome_new : (h : History) (e : Entry) (g : Begun) → length h.entries ≤ g.entry → outcome_of (with_entry h e) g ≡ None
unfolding outcome_of
outcome_new h e g le = ap (room.outcome g.header) (events_new h e g le) ∙ new_goes_on g.header

none_false : {A : Type 0} (o : Option A) → is_none o ≡ false → (x : A) × (o ≡ Some x)
none_false None h = cc
none_false (Some x) h = (x, refl)

-- a game that is over is over after every entry
pub over_stays : (h : History) (e : Entry) (g : Begun) → g.entry < length h.entries → goes_on h g ≡ false → goes_on (with_entry h e) g ≡ false
over_stays h e g lt over =
    let found = none_false (outcome_of h g) over in
    ap (λ (o : Option Outcome). is_none o) (outcome_stays h e g found.0 lt found.1)

-- the games that run after one entry more: those that it does not end, and the new ones
pub running-after : (s : Setup) (h : History) (e : Entry) → IsWhole h → running s (after s h e) ≡ filter (goes_on (with_entry h e)) (running s h) ++ new_games s h e
unfolding running
running-after s h e whole =
    let same : (g : Begun) → goes_on (after s h e) g ≡ goes_on (with_entry h e) g = λ g. ap (λ (o : Option Outcome). is_none o) (outcome-after s h e g) in
    let old : filter (goes_on (after s h e)) (begun s h) ≡ filter (goes_on (with_entry h e)) (begun s h) =
    filter_same (goes_on (after s h e)) (goes_on (with_entry h e)) (begun s h) (all_weaker _ (λ g. goes_on (after s h e) g ≡ goes_on (with_entry h e) g) (begun s h) (λ g lt. same g) (begun_own s h whole)) in
    let twice : filter (goes_on (with_entry h e)) (filter (goes_on h) (begun s h)) ≡ filter (goes_on (with_entry h e)) (begun s h) =
    filter-filter (goes_on h) (goes_on (with_entry h e)) (begun s h) (all_weaker _ (λ g. goes_on h g ≡ false → goes_on (with_entry h e) g ≡ false) (begun s h) (λ g lt. over_stays h e g lt) (begun_own s h whole)) in
    let new : filter (goes_on (after s h e)) (new_games s h e) ≡ new_games s h e =
    filter_all (goes_on (after s h e)) (new_games s h e) (all_weaker _ (λ g. goes_on (after s h e) g ≡ true) (new_games s h e) (λ g le. same g ∙ ap (λ (o : Option Outcome). is_none o) (outcome_new h e g le)) (new_games_from s h e)) in
    ap (filter (goes_on (after s h e))) (begun-after s h e whole) ∙ (filter-append (goes_on (after s h e)) (begun s h) (new_games s h e) ∙ (λ i. (old ∙ sym twice) i ++ new i))
