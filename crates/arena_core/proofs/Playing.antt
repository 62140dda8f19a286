-- Who plays while games end one after another, and that there is room for them.
use Rattle.std.proofs.Common.{◌≡◌, ◌≢◌, ℕ, suc, ◌+◌, ◌<◌, ◌≤◌, List, [], ◌∷◌, ◌++◌, take, length, Some, Bool, true, false, refl, sym, ap, ◌∙◌, subst, arith}
use Rattle.std.specs.Prelude.{cond, ◌||◌, ◌==◌, not, map, filter, slice_get, IsTrue}
use Rattle.std.specs.List.{AllByRecursion, AllPairs}
use Rattle.std.proofs.lemmas.Bool.{eq-eqb, eqb-false}
use Rattle.std.proofs.lemmas.List.{get_or-set_other, length-set, length-map, length-append, length-take}
use Rattle.std.proofs.lemmas.Option.{slice_get-map, slice_get_within, get_or_from_slice_get}
use Rattle.entries.specs.Limits.{max_games}
use Rattle.entries.specs.Ranges.{IsGood}
use Rattle.entries.specs.declared.journal.Entry.{Entry}
use Rattle.entries.specs.declared.setup.Setup.{Setup}
use Rattle.seats.specs.Places.{Place, unknown, place_at, seat_at, is_playing}
use Rattle.arena_history.specs.Changes.{both_freed, all_freed}
use Rattle.arena_history.specs.Endings.{EndedGame, ended_by, finished}
use Rattle.arena_history.specs.GameLaws.{IsEndedBy}
use Rattle.arena_history.specs.Games.{begun, goes_on, has_player, running}
use Rattle.arena_history.specs.PlayerLaws.{IsPlayed}
use Rattle.arena_history.specs.Since.{place}
use Rattle.arena_history.specs.Stands.{seat}
use Rattle.arena_history.specs.Waves.{history}
use Rattle.arena_rules.specs.Legal.{IsLegal}
use Rattle.arena_rules.specs.LegalLaws.{LegalGames}
use Rattle.arena_rules.specs.RoomLaws.{HeadersAreInRange}
use Rattle.arena_core.specs.Below.{LawsOfHistories}
use Rattle.arena_core.specs.People.{KeptPeople, MayEnd, StandsFor, standing, with_ends}
use Rattle.arena_core.proofs.Maps.{all_at, all_filter, get_take}
use Rattle.arena_core.proofs.Steps.{with_ends_is}

-- who is none of two players is another one than each
is_neither : (p white black : ℕ) (a b : Bool) → (white == p) ≡ a → (black == p) ≡ b → (a || b) ≡ false → (p ≢ white) × (p ≢ black)
is_neither p white black true b wa ba neither = cc
is_neither p white black false true wa ba neither = cc
is_neither p white black false false wa ba neither = ((λ same. eqb-false white p wa (sym same)), (λ same. eqb-false black p ba (sym same)))

-- the end of a game changes the places of its players alone
freed_others : (n : ℕ) (g : EndedGame) (ps : List Place) (p : ℕ) → has_player p g.game ≡ false → place_at (both_freed n g ps) p ≡ place_at ps p
freed_others n g ps p other_game =
    let other = is_neither p g.game.header.white g.game.header.black (g.game.header.white == p) (g.game.header.black == p) refl refl other_game in
    get_or-set_other _ g.game.header.black p _ unknown other.1 ∙ get_or-set_other ps g.game.header.white p _ unknown other.0

untouched : (n : ℕ) (gs : List EndedGame) (ps : List Place) (p : ℕ) → ((i : ℕ) (g : EndedGame) → slice_get gs i ≡ Some g → has_player p g.game ≡ false) → place_at (all_freed n gs ps) p ≡ place_at ps p
untouched n [] ps p none = refl
untouched n (g ∷ gs) ps p none = untouched n gs (both_freed n g ps) p (λ i x at. none (suc i) x at) ∙ freed_others n g ps p (none 0 g refl)

length-freed : (n : ℕ) (gs : List EndedGame) (ps : List Place) → length (all_freed n gs ps) ≡ length ps
length-freed n [] ps = refl
length-freed n (g ∷ gs) ps = length-freed n gs (both_freed n g ps) ∙ (length-set _ _ _ ∙ length-set ps _ _)

abbrev AreApart : List EndedGame → Type 0
AreApart gs = AllPairs (λ (x y : EndedGame). (p : ℕ) → IsTrue (has_player p x.game) → has_player p y.game ≡ false) gs

-- the players of a game stay where they are while those before it end
still_at : (n : ℕ) (gs : List EndedGame) (ps : List Place) (k p : ℕ) (x : EndedGame) → AreApart gs → slice_get gs k ≡ Some x → has_player p x.game ≡ true → place_at (all_freed n (take k gs) ps) p ≡ place_at ps p
still_at n gs ps k p x apart at plays = untouched n (take k gs) ps p before
  where
    before : (i : ℕ) (g : EndedGame) → slice_get (take k gs) i ≡ Some g → has_player p g.game ≡ false
    before i g here =
        let there = get_take k gs i g here in
        let lt : i < k = there.0 in
        let within : k < length gs = slice_get_within gs k x at in
        let other = subst (λ (pair : EndedGame × EndedGame). (q : ℕ) → IsTrue (has_player q pair.0.game) → has_player q pair.1.game ≡ false) (λ j. (get_or_from_slice_get gs i g x there.1 j, get_or_from_slice_get gs k x x at j)) (apart i k x lt within) in
        by (has_player p g.game) refl (other p)
      where
        by : (b : Bool) → has_player p g.game ≡ b → (IsTrue (has_player p g.game) → has_player p x.game ≡ false) → has_player p g.game ≡ false
        by true is other = absurd (let missing : has_player p x.game ≡ false = other is in cc)
        by false is other = is

-- there are no more items that pass than items
few_pass : {X : Type 0} (p : X → Bool) (xs : List X) → length (filter p xs) ≤ length xs
few_pass p [] = omega arith
few_pass p (x ∷ xs) = by (p x) (few_pass p xs)
  where
    by : (b : Bool) → length (filter p xs) ≤ length xs → length (cond b (x ∷ filter p xs) (filter p xs)) ≤ suc (length xs)
    by true rest = omega arith
    by false rest = omega arith

plays_white : (w b : ℕ) → ((w == w) || (b == w)) ≡ true
plays_white w b = ap (λ c. c || (b == w)) (eq-eqb w w refl)

plays_black : (w b : ℕ) → ((w == b) || (b == b)) ≡ true
plays_black w b = by (w == b) (b == b) (eq-eqb b b refl)
  where
    by : (a c : Bool) → c ≡ true → (a || c) ≡ true
    by true c is = refl
    by false c is = is

module _ (laws : LawsOfHistories) (range : HeadersAreInRange) (most : LegalGames) (s : Setup) (es : List Entry) (good : IsGood s) (legal : IsLegal s es) (e : Entry) (gs : List EndedGame) (ended : ended_by s (history s es) e ≡ gs) where
  -- both players of a game that is ended sit in it before
  was_played : (k : ℕ) (x : EndedGame) → slice_get gs k ≡ Some x → IsPlayed s (history s es) x.game
  was_played k x at =
      let h = history s es in
      let games : map (λ (y : EndedGame). y.game) gs ≡ filter (λ g. not (goes_on (history s (es ++ e ∷ [])) g)) (running s h) = ap (map (λ (y : EndedGame). y.game)) (sym ended) ∙ laws.no_longer s es e in
      all_at (IsPlayed s h) (map (λ (y : EndedGame). y.game) gs) k x.game
      (subst (AllByRecursion (IsPlayed s h)) (sym games) (all_filter (IsPlayed s h) (λ g. not (goes_on (history s (es ++ e ∷ [])) g)) (running s h) (laws.played s es)))
      (slice_get-map (λ (y : EndedGame). y.game) gs k ∙ ap (Rattle.std.specs.Option.option_map (λ (y : EndedGame). y.game)) at)

  pub few_ended : length (finished s (history s es)) + length gs ≤ length (history s es).starts
  few_ended =
      let h = history s es in
      let games : length gs ≡ length (filter (λ g. not (goes_on (history s (es ++ e ∷ [])) g)) (running s h)) = sym (length-map gs (λ (y : EndedGame). y.game)) ∙ ap length (ap (map (λ (y : EndedGame). y.game)) (sym ended) ∙ laws.no_longer s es e) in
      omega (arith, games, few_pass (λ g. not (goes_on (history s (es ++ e ∷ [])) g)) (running s h), laws.few s es)

  seat_is : (p : ℕ) → seat_at (place s (history s es) p) ≡ seat s (history s es) p
  unfolding place seat
  seat_is p = refl

  -- once those before it have ended, a game may end
  pub may_end : (k : ℕ) (x : EndedGame) → slice_get gs k ≡ Some x → (n : ℕ) (counts : Bool) (people : KeptPeople) → StandsFor people s (with_ends n counts (take k gs) (standing s (history s es))) → length (history s es).starts ≤ people.room → MayEnd people x.game.header
  may_end k x at n counts people stands room =
      let h = history s es in
      let is = with_ends_is n counts (take k gs) (standing s h) in
      let now = subst (StandsFor people s) is stands in
      let by_law : IsEndedBy s es e x = all_at (IsEndedBy s es e) gs k x (subst (AllByRecursion (IsEndedBy s es e)) ended (laws.ended s es e)) at in
      let header = range s es x.game good legal by_law.game in
      let played = was_played k x at in
      let apart : AreApart gs = subst AreApart ended (laws.apart s es e) in
      let long : length people.places ≡ length s.players = ap length now.places ∙ (length-freed n (take k gs) (standing s h).places ∙ laws.places.long s h) in
      let own : (p number : ℕ) → p < length s.players → has_player p x.game ≡ true → seat s h p ≡ Rattle.seats.specs.declared.wish.PlayerSeat.TheVariants.Playing number → is_playing (seat_at (place_at people.places p)) ≡ true =
      λ p number lt plays sits. ap (λ l. is_playing (seat_at (place_at l p))) now.places ∙ (ap (λ y. is_playing (seat_at y)) (still_at n gs (standing s h).places k p x apart at plays ∙ laws.places.at s h p lt) ∙ (ap is_playing (seat_is p ∙ sits))) in
      let within : k < length gs = slice_get_within gs k x at in
      let some : length (cond counts (finished s h ++ take k gs) (finished s h)) ≤ length (finished s h) + k = counted_most counts in
      let begun_most : length (begun s h) ≤ max_games = most s es legal in
      let same : length (begun s h) ≡ length h.starts = laws.numbered.counted s h in
      let kept : length people.counted ≡ length (cond counts (finished s h ++ take k gs) (finished s h)) = ap length now.counted ∙ length-map _ _ in
      let scored : people.scores.counted ≡ length (cond counts (finished s h ++ take k gs) (finished s h)) = now.scores.counted in
      record {
        white = omega (arith, long, header.white);
        black = omega (arith, long, header.black);
        two = played.two;
        white_plays = own x.game.header.white x.game.header.id header.white (plays_white x.game.header.white x.game.header.black) played.white;
        black_plays = own x.game.header.black x.game.header.id header.black (plays_black x.game.header.white x.game.header.black) played.black;
        space = omega (arith, kept, some, within, few_ended, room);
        few = omega (arith, scored, some, within, few_ended, begun_most, same);
      }
    where
      counted_most : (b : Bool) → length (cond b (finished s (history s es) ++ take k gs) (finished s (history s es))) ≤ length (finished s (history s es)) + k
      counted_most true = omega (arith, length-append (finished s (history s es)) (take k gs), length-take k gs)
      counted_most false = omega arith
